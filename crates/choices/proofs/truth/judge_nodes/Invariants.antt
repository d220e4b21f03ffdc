use mathlib.Core.Bool.{false}
use lib.ListN.{length, get_or}
use Rattle.choices.specs.OnePass.{kept}
use Rattle.choices.specs.Judged.{mark_at}
use mathlib.Core.Path.{◌≡◌}
use Prim.Native.Nat.{ℕ, ◌<◌}
use Rattle.choices.proofs.truth.judge_nodes.Given as goal

abbrev pub invariant-loop-i : goal.invariant-loop-i
invariant-loop-i l = (length l.marks ≡ 256) × ((j : ℕ) → j < l.i → mark_at l.marks j ≡ get_or (kept l.card.layout l.card.bytes.now l.beliefs l.goals) j (false, 0))
