-- The interpreter of 000, Definition 19.
use Rattle.std.specs.Prelude.{List, [], ◌∷◌, map, length}
use Rattle.paper.specs.Language.{Agent}
use Rattle.runs.specs.Order.{numbers}
use Rattle.deliberation.specs.Programs.{not_empty_plan, Prog, execute, apply, while◌doing◌od, ◌⊕◌}

-- P or one of the others: P + Q₁ + … + Qₙ. Serves any_move.
unfoldable pub or_one_of : Prog → List Prog → Prog
or_one_of P [] = P
or_one_of P (Q ∷ Qs) = or_one_of (P ⊕ Q) Qs

-- 000, Definition 19: (execute + apply(ρ₁) + … + apply(ρₙ)) with all of the agent's revision rules: Lemma 1's +*.
unfoldable pub any_move : Agent → Prog
any_move A = or_one_of execute (map apply (numbers 0 (length A.PR)))

-- 000, Definition 19: "Then the interpreter can be defined as follows. while notEmptyPlan do (execute + apply(ρ_1) + ... +
-- apply(ρ_n)) od"
unfoldable pub interpreter : Agent → Prog
interpreter A = while not_empty_plan doing any_move A od
