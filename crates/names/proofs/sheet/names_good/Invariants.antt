use mathlib.Core.Bool.{true}
use Rattle.names.specs.Sheets.{offset_at, name_good}
use mathlib.Core.Path.{◌≡◌}
use Prim.Native.Nat.{ℕ, ◌≤◌, ◌<◌}
use lib.ListN.{length}
use Rattle.names.proofs.sheet.names_good.Given as goal

abbrev pub invariant-loop-i : goal.invariant-loop-i
invariant-loop-i l = (l.to ≡ offset_at l.sheet l.i) × (l.to ≤ length l.sheet) × ((j : ℕ) → l.i ≤ j → j < l.n → name_good l.least l.sheet j ≡ true)
