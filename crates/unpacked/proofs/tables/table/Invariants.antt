use Rattle.std.proofs.Common.{◌≡◌, ℕ, ◌<◌, length, get_or}
use Rattle.unpacked.proofs.tables.table.Given as goal

abbrev pub invariant-loop-i : goal.invariant-loop-i
invariant-loop-i g l = (length l.entries ≡ 256) × ((k : ℕ) → k < l.i → goal.F-post g l.read k (get_or l.entries k l.fn.none))
