use lib.ListN.{length, get_or}
use Rattle.meaning.specs.Card.{part, weight}
use Rattle.runs.specs.Weight.{weigh}
use mathlib.Core.Path.{◌≡◌}
use Prim.Native.Nat.{ℕ, ◌+◌, ◌*◌, ◌<◌}
use Rattle.verdict.proofs.sums.sum.Given as goal

abbrev pub invariant-loop-k : goal.invariant-loop-k
invariant-loop-k l = (length l.sums ≡ 257) × (l.total ≡ weigh (weight l.card) (part l.card l.pool.offset (32 * l.k))) × ((j : ℕ) → j < l.k + 1 → get_or l.sums j 0 ≡ weigh (weight l.card) (part l.card l.pool.offset (32 * j)))
