use mathlib.Core.Bool.{false}
use mathlib.Core.Path.{◌≡◌}
use Prim.Native.Nat.{◌≤◌}
use lib.ListN.{get_or}
use Rattle.runs.specs.Order.{numbers}
use Rattle.meaning.specs.Looking.{how_many}
use Rattle.unpacked.proofs.truths.count_true.Given as goal

abbrev pub invariant-loop-k : goal.invariant-loop-k
invariant-loop-k l = (l.n ≤ l.k) × (l.n ≡ how_many (λ j. get_or l.truths j false) (numbers 0 l.k))
