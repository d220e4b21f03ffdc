use Rattle.sets.proofs.Loops.{Found}
use lib.Dec.{eqb}
use Rattle.sets.proofs.zeros_from.Given as goal

abbrev pub invariant-loop-x : goal.invariant-loop-x
invariant-loop-x l = Found (λ x. eqb x 0) l.x-items 0 (eqb l.bits 0) l.x-index
