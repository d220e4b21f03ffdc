use Rattle.sets.proofs.Loops.{Found}
use lib.Dec.{ltb}
use Rattle.card.proofs.contents.actions_good.Given as goal

abbrev pub invariant-loop-x : goal.invariant-loop-x
invariant-loop-x l = Found (λ a. ltb a l.actions) l.x-items 0 l.good l.x-index
