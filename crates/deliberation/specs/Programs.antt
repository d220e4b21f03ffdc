-- Deliberation programs: the meta-programs of 000, Definition 6, with the selection that 02, Wish 6 adds, and what a boolean
-- expression says (Definition 12), in 000's order and letters.
use Rattle.std.specs.Prelude.{Bool, not, ℕ}
use Rattle.paper.specs.Language.{𝐁, Query, Config}
use Rattle.paper.specs.Transitions.{◌⊨◌}
use Rattle.paper.specs.Next.{is_empty}

-- 000, Definition 6: "We assume a set Bexp of boolean expressions with typical element b".
pub data Bexp : Type 0 where
  -- 000, Definition 19: "a boolean expression such that"; 02, Wish 6: "while the plan is not empty"
  not_empty_plan : Bexp
  -- 02, Wish 6: "while belief condition a holds"
  holds : Query 𝐁 → Bexp

infixr 45 ◌⨾◌
infixl 44 ◌⊕◌
-- 000, Definition 6: "then the set Prog of meta-programs with typical element P is defined as follows". A rule ρ is its number, as
-- an agent has its rules by their numbers.
pub data Prog : Type 0 where
  -- 000, section 2.2: "The execute action is used to specify that a basic action from the plan of an agent should be executed."
  execute : Prog
  -- 000, section 2.2: "action is used to specify that a PR rule ρ should be applied to the plan."
  apply : ℕ → Prog
  -- 02, Wish 6: "add "select" for a named selection rule"
  select : ℕ → Prog
  -- 000, Definition 6: while b do P od
  while◌doing◌od : Bexp → Prog → Prog
  -- 000, Definition 6: P₁; P₂
  ◌⨾◌ : Prog → Prog → Prog
  -- 000, Definition 6: P₁ + P₂
  ◌⊕◌ : Prog → Prog → Prog

-- What a transition leaves of a program: 000, section 3.1: "After executing the meta-action execute, the meta-program is empty",
-- that is E, or a program is still to be done.
pub data Rest : Type 0 where
  E : Rest
  still : Prog → Rest

infixr 45 ◌⨾'◌
-- P₁'; P₂, where P₁' may be E: E; P is P, as 000, Definition 2 has of a plan that it "is identified with the plan".
abbrev pub ◌⨾'◌ : Rest → Prog → Prog
E ⨾' P = P
still P₁ ⨾' P₂ = P₁ ⨾ P₂

-- 000, Definition 12: "yielding the semantics of boolean expressions".
unfoldable pub 𝒲 : Bexp → Config → Bool
𝒲 not_empty_plan s = not (is_empty s.π)
𝒲 (holds β) s = s ⊨ β
