-- The syntax of 3APL: Definitions 1 to 7 of 004, section 2.1, in its order and letters.
use Rattle.std.specs.Prelude.{List, ℕ}
use Rattle.paper.specs.Atoms.{Atoms}

-- 004, Definition 1: "The base language is a set of atoms Atom". An atom is its number: 01, "The card, edition 1": "atom k".
abbrev pub Atom : Type 0
Atom = ℕ

-- 004, Definition 2: "Let BasicAction with typical element a be the set of basic actions." An action is its number: 01, "A
-- configuration and its transitions": "a plan (0 to 1,024 action numbers)".
abbrev pub BasicAction : Type 0
BasicAction = ℕ

-- 004, Definition 2: "π ::= a | π₁; π₂", "We use ϵ to denote the empty plan and identify ϵ; π and π; ϵ with π". A plan is a
-- list, ϵ is [] and ; is ++ (docs/DECISIONS.md, "The empty plan").
abbrev pub Plan : Type 0
Plan = List BasicAction

-- 004, Definition 3: "The belief query language L_B …, and the goal query language L_G": 𝐁 for the one, 𝐆 for the other
-- (docs/DECISIONS.md, "Belief and goal queries").
pub data Letter : Type 0 where
  𝐁 𝐆 : Letter

infixl 45 ◌∧'◌
infixl 44 ◌∨'◌
-- 004, Definition 3: "β ::= ⊤ | B(p) | ¬β | β₁ ∧ β₂ | β₁ ∨ β₂" and "κ ::= ⊤ | G(p) | ¬κ | κ₁ ∧ κ₂ | κ₁ ∨ κ₂". The letter keeps
-- them apart: `atom p` is B(p) in a `Query 𝐁` and G(p) in a `Query 𝐆`.
pub data Query (L : Letter) : Type 0 where
  -- 004, Definition 3: "⊤"
  ⊤ : Query L
  -- 004, Definition 3: "B(p)" and "G(p)"
  atom : Atom → Query L
  -- 004, Definition 3: "¬β" and "¬κ"
  ¬' : Query L → Query L
  -- 004, Definition 3: "β₁ ∧ β₂ | β₁ ∨ β₂" and "κ₁ ∧ κ₂ | κ₁ ∨ κ₂"
  ◌∧'◌ ◌∨'◌ : Query L → Query L → Query L

-- 004, Definition 4: "{{β}a{Add, Del} : β ∈ L_B, a ∈ BasicAction, Add ⊆ Atom, Del ⊆ Atom}"
pub record Specification : Type 0 where
  -- 004, section 2.1: "β is a belief query that represents the precondition of the action"
  pub β : Query 𝐁
  -- 004, section 2.1: "a represents the action name"
  pub a : BasicAction
  -- 004, section 2.1: "Add and Del are sets of atoms, that should be added to … the belief base"
  pub Add : Atoms
  -- 004, section 2.1: "Add and Del are sets of atoms, that should be … removed from the belief base"
  pub Del : Atoms

-- 004, Definition 5: "{β, κ ⇒ π : β ∈ L_B, κ ∈ L_G, π ∈ Plan}"
pub record Selection : Type 0 where
  -- 004, section 2.1: "if the agent believes β"
  pub β : Query 𝐁
  -- 004, section 2.1: "for the goals as represented through κ"
  pub κ : Query 𝐆
  -- 004, section 2.1: "it is appropriate to select plan π"
  pub π : Plan

-- 004, Definition 6: "{πₕ | β ⇝ π_b : β ∈ L_B, πₕ, π_b ∈ Plan}"
pub record Revision : Type 0 where
  -- 000, Definition 4: "πₕ ≠ E". The card's format sees to that; here it is left open (docs/DECISIONS.md, "The empty body and
  -- head").
  pub πₕ : Plan
  -- 004, section 2.1: "in case the agent believes β, it can replace the plan πₕ by the plan π_b"
  pub β : Query 𝐁
  -- 01, "What the guide does": "the body of a revision rule may be empty (its Definition 4)", that is 000's.
  pub πb : Plan

-- 004, Definition 7: "⟨σ, π, γ, PS, PR, AS⟩": of it PS, PR and AS, for section 2.2 has "these sets do not change during
-- execution of the agent". They are lists, so that a rule or specification has a number (docs/DECISIONS.md, "Sets of rules").
pub record Agent : Type 0 where
  -- 004, Definition 7: "PS ⊆ R_PS is a set of plan selection rules"
  pub PS : List Selection
  -- 004, Definition 7: "PR ⊆ R_PR is a set of plan revision rules"
  pub PR : List Revision
  -- 004, Definition 7: "AS ⊆ AS is a set of action specifications"
  pub AS : List Specification

-- 004, section 2.2: "we use configurations of the form ⟨σ, π, γ⟩": what does change of Definition 7's tuple.
pub record Config : Type 0 where
  -- 004, Definition 7: "σ ⊆ Atom is the belief base"
  pub σ : Atoms
  -- 004, Definition 7: "π ∈ Plan is the plan"
  pub π : Plan
  -- 004, Definition 7: "γ ⊆ Atom is the goal base"
  pub γ : Atoms

-- 004, section 2.2: "configurations of the form ⟨σ, π, γ⟩", as they are written there, with / for the comma.
abbrev pub ⟨◌/◌/◌⟩ : Atoms → Plan → Atoms → Config
⟨ σ / π / γ ⟩ = record { σ = σ; π = π; γ = γ }
