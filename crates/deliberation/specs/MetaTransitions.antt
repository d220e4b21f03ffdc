-- The meta-level transitions: Definitions 10 to 15 of 000, section 3.1, in its order and letters, with the selection that 02,
-- Wish 6 adds; and its computation sequences.
use Rattle.std.specs.Prelude.{◌≡◌, true, false, List, [], ◌∷◌, ℕ}
use Rattle.paper.specs.Language.{Agent, Config}
use Rattle.paper.specs.Transitions.{Choice, Step}
use Rattle.deliberation.specs.Programs.{Bexp, Prog, execute, apply, select, while◌doing◌od, ◌⨾◌, ◌⊕◌, Rest, E, still, ◌⨾'◌, 𝒲}

-- 000, section 3.1: "the transitions are labeled to denote the kind of transition.", Definition 14's x: idle, or the choice that
-- is taken. 000's execute is an action with a specification, its apply(ρ) a revision; 02, Wish 6 adds the selections.
pub data Label : Type 0 where
  -- 000, section 3.1: "to denote that this is a transition that does not have a counterpart in the object-level transition
  -- system"
  idle : Label
  taking : Choice → Label

-- 02, Wish 6: "Each move is one of the document's meta-level transitions, with selection added". `MetaStep A P s x P' s'` is
-- 000's ⟨P, s⟩ →ₓ ⟨P', s'⟩ for the agent A.
pub data MetaStep (A : Agent) : Prog → Config → Label → Rest → Config → Type 0 where
  -- 000, Definition 10 "(action execution)": ⟨execute, s⟩ → ⟨E, s'⟩ by an action.
  action_execution : {s s' : Config} {n : ℕ} → Step A s (Choice.act n) s' → MetaStep A execute s (taking (Choice.act n)) E s'
  -- 000, Definition 11 "(rule application)": ⟨apply(ρ), s⟩ → ⟨E, s'⟩ by a revision.
  rule_application : {s s' : Config} {ρ : ℕ} → Step A s (Choice.revise ρ) s' → MetaStep A (apply ρ) s (taking (Choice.revise ρ)) E s'
  -- 02, Wish 6: "add "select" for a named selection rule": ⟨select(ρ), s⟩ → ⟨E, s'⟩ by a selection.
  rule_selection : {s s' : Config} {ρ : ℕ} → Step A s (Choice.select ρ) s' → MetaStep A (select ρ) s (taking (Choice.select ρ)) E s'
  -- 000, Definition 13 "(while)", the first rule: from 𝒲(b)(s) follows ⟨while b do P od, s⟩ → ⟨P; while b do P od, s⟩.
  while_tt : {s : Config} {b : Bexp} {P : Prog} → 𝒲 b s ≡ true
      → MetaStep A (while b doing P od) s idle (still (P ⨾ while b doing P od)) s
  -- 000, Definition 13 "(while)", the second rule: from ¬𝒲(b)(s) follows ⟨while b do P od, s⟩ → ⟨E, s⟩.
  while_ff : {s : Config} {b : Bexp} {P : Prog} → 𝒲 b s ≡ false → MetaStep A (while b doing P od) s idle E s
  -- 000, Definition 14 "(sequential composition)": from ⟨P₁, s⟩ →ₓ ⟨P₁', s'⟩ follows ⟨P₁; P₂, s⟩ →ₓ ⟨P₁'; P₂, s'⟩.
  in_sequence : {s s' : Config} {x : Label} {P₁ P₂ : Prog} {P₁' : Rest} → MetaStep A P₁ s x P₁' s'
      → MetaStep A (P₁ ⨾ P₂) s x (still (P₁' ⨾' P₂)) s'
  -- 000, Definition 15 "(non-deterministic choice)", the first rule: from ⟨P₁, s⟩ →ₓ ⟨P₁', s'⟩ follows
  -- ⟨P₁ + P₂, s⟩ →ₓ ⟨P₁', s'⟩.
  choice_left : {s s' : Config} {x : Label} {P₁ P₂ : Prog} {P₁' : Rest} → MetaStep A P₁ s x P₁' s' → MetaStep A (P₁ ⊕ P₂) s x P₁' s'
  -- 000, Definition 15 "(non-deterministic choice)", the second rule: from ⟨P₂, s⟩ →ₓ ⟨P₂', s'⟩ follows
  -- ⟨P₁ + P₂, s⟩ →ₓ ⟨P₂', s'⟩.
  choice_right : {s s' : Config} {x : Label} {P₁ P₂ : Prog} {P₂' : Rest} → MetaStep A P₂ s x P₂' s' → MetaStep A (P₁ ⊕ P₂) s x P₂' s'

infixr 30 ◌and_then◌
-- 000, section 3.2: "Individual transitions can be put in sequel, yielding so called computation sequences.": with their labels.
-- E has no transition.
pub data Computation (A : Agent) : Rest → Config → List Label → Rest → Config → Type 0 where
  as_it_is : {P : Rest} {s : Config} → Computation A P s [] P s
  ◌and_then◌ : {P : Prog} {s s' s'' : Config} {x : Label} {xs : List Label} {P' P'' : Rest}
      → MetaStep A P s x P' s' → Computation A P' s' xs P'' s'' → Computation A (still P) s (x ∷ xs) P'' s''

-- Which of the labels are not idle: 02, Wish 6: "Demand 3 holds for transitions that are not idle."
unfoldable pub not_idle : List Label → List Choice
not_idle [] = []
not_idle (idle ∷ xs) = not_idle xs
not_idle (taking k ∷ xs) = k ∷ not_idle xs
