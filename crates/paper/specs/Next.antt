-- The transitions as a function: 01, "A configuration and its transitions", sentence by sentence. A choice that is enabled
-- leads to one configuration; any other leads to none.
use Rattle.std.specs.Prelude.{Bool, true, false, ◌&&◌, [], ◌∷◌, ◌++◌, eqb, length, drop}
use Rattle.std.proofs.Math.Option.{Option, none, some}
use Rattle.std.proofs.Math.ListN.{get_elem?}
use Rattle.paper.specs.Language.{BasicAction, Plan, Specification, Selection, Revision, Agent, Config, ⟨◌/◌/◌⟩}
use Rattle.paper.specs.Transitions.{◌⊨◌, Choice, select, act, revise, σ', γ'}

-- One of two, by a truth value.
abbrev pub if : {X : Type 0} → Bool → X → X → X
if true x y = x
if false x y = y

-- Serves can_select: 01, "A configuration and its transitions", Selection: "the plan is empty".
abbrev pub is_empty : Plan → Bool
is_empty [] = true
is_empty (a ∷ π) = false

-- Serves can_act: 01, "A configuration and its transitions", Action: "the plan is not empty, its first action is that of the
-- specification".
abbrev pub starts_with : BasicAction → Plan → Bool
starts_with a [] = false
starts_with a (b ∷ π) = eqb a b

-- Serves can_revise: 01, "A configuration and its transitions", Revision: "the head is a prefix of the plan".
abbrev pub is_prefix : Plan → Plan → Bool
is_prefix [] π = true
is_prefix (a ∷ h) [] = false
is_prefix (a ∷ h) (b ∷ π) = eqb a b && is_prefix h π

-- 01, "A configuration and its transitions", Selection: "Enabled if the plan is empty and both conditions of the rule hold."
unfoldable pub can_select : Config → Selection → Bool
can_select c r = is_empty c.π && ((c ⊨ r.β) && (c ⊨ r.κ))

-- 01, "A configuration and its transitions", Selection: "The rule's plan becomes the plan."
unfoldable pub selected : Config → Selection → Config
selected c r = ⟨ c.σ / r.π / c.γ ⟩

-- 01, "A configuration and its transitions", Action: "Enabled for a specification if the plan is not empty, its first action is
-- that of the specification, and the precondition holds."
unfoldable pub can_act : Config → Specification → Bool
can_act c s = starts_with s.a c.π && (c ⊨ s.β)

-- 01, "A configuration and its transitions", Action: "Beliefs become (beliefs with Add) without Del.", "The first action leaves
-- the plan."; 02, Wish 5: "after an action the goals are those not believed".
unfoldable pub acted : Config → Specification → Config
acted c s = ⟨ σ' c.σ s / drop 1 c.π / γ' c.σ c.γ s ⟩

-- 01, "A configuration and its transitions", Revision: "Enabled if the head is a prefix of the plan and the condition holds."
unfoldable pub can_revise : Config → Revision → Bool
can_revise c r = is_prefix r.πₕ c.π && (c ⊨ r.β)

-- 01, "A configuration and its transitions", Revision: "The body takes the head's place; the rest stays."
unfoldable pub revised : Config → Revision → Config
revised c r = ⟨ c.σ / r.πb ++ drop (length r.πₕ) c.π / c.γ ⟩

-- for the entries of one of the three lists: when one of them is enabled, and where it then leads
module _ {R : Type 0} (can : Config → R → Bool) (done : Config → R → Config) where
  -- What stands under a number, if it is enabled, leads to a configuration. Serves next.
  unfoldable pub outcome : Config → Option R → Option Config
  outcome c none = none
  outcome c (some r) = elim (can c r) [ true ↦ some (done c r) | false ↦ none ]

-- 00, demand 2: "moves are those of Definitions 8 to 11 of source document 004". 01, "A configuration and its transitions":
-- "the number of the rule or specification, from 0".
unfoldable pub next : Agent → Config → Choice → Option Config
next A c (select n) = outcome can_select selected c (get_elem? A.PS n)
next A c (act n) = outcome can_act acted c (get_elem? A.AS n)
next A c (revise n) = outcome can_revise revised c (get_elem? A.PR n)

-- There is an outcome. Serves enabled.
abbrev pub is_some : {X : Type 0} → Option X → Bool
is_some none = false
is_some (some x) = true

-- 01, "A configuration and its transitions": "Enabled if …", of a selection, an action and a revision. Neither the phase nor
-- the room for the plan is asked for (docs/DECISIONS.md, "Enabled and the phase").
unfoldable pub enabled : Agent → Config → Choice → Bool
enabled A c k = is_some (next A c k)
