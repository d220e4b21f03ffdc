-- Why a chosen move is closed, exactly (02, Wish 1), by the rules and specifications of the card's agent: of every answer that
-- meets take's contract, on an accepted card and configuration (proved in proofs/).
use Rattle.std.specs.Prelude.{◌≡◌, ◌↔◌, true, false, [], ◌∷◌, ◌++◌, ℕ, Err}
use Rattle.paper.specs.Language.{BasicAction, Plan, Letter, 𝐁, 𝐆, Specification, Selection, Revision, Agent, Config}
use Rattle.paper.specs.Transitions.{◌⊨◌, Choice, select, act, revise, Entry}
use Rattle.runs.specs.Order.{code}
use Rattle.meaning.specs.declared.Refusal.{Refusal}
use Rattle.meaning.specs.declared.Configuration.{Configuration}
use Rattle.meaning.specs.declared.Reply.{Reply}
use Rattle.meaning.specs.Card.{Bytes, layout, agent}
use Rattle.meaning.specs.Configurations.{state_of}
use Rattle.meaning.specs.Why.{settler}
use Rattle.demands.specs.CallContracts.{Takes}
use Rattle.demands.specs.Demands.{OnAccepted}
use Rattle.demands.specs.Shown.{ConditionOf}

-- 01, "A configuration and its transitions": "the number of the rule or specification, from 0": the agent has the one that a choice
-- names.
pub data Has (A : Agent) : Choice → Type 0 where
  selection : {n : ℕ} {r : Selection} → Entry A.PS n r → Has A (select n)
  specification : {n : ℕ} {s : Specification} → Entry A.AS n s → Has A (act n)
  revision : {n : ℕ} {r : Revision} → Entry A.PR n r → Has A (revise n)

-- 02, Wish 1: "15 the plan's front doesn't fit (empty, not empty, other first action, other head)": of a plan and a choice that the
-- agent has.
pub data UnfitFront (A : Agent) : Plan → Choice → Type 0 where
  -- "empty": 01, "A configuration and its transitions", Action: "the plan is not empty"
  is_empty_lem : {n : ℕ} {s : Specification} → Entry A.AS n s → UnfitFront A [] (act n)
  -- "not empty": 01, "A configuration and its transitions", Selection: "the plan is empty"
  not_empty : {n : ℕ} {r : Selection} {a : BasicAction} {π : Plan} → Entry A.PS n r → UnfitFront A (a ∷ π) (select n)
  -- "other first action": 01, "A configuration and its transitions", Action: "its first action is that of the specification"
  other_first_action : {n : ℕ} {s : Specification} {a : BasicAction} {π : Plan} → Entry A.AS n s → (s.a ≡ a → ⊥)
      → UnfitFront A (a ∷ π) (act n)
  -- "other head": 01, "A configuration and its transitions", Revision: "the head is a prefix of the plan"
  other_head : {n : ℕ} {r : Revision} {π : Plan} → Entry A.PR n r → ((rest : Plan) → π ≡ r.πₕ ++ rest → ⊥)
      → UnfitFront A π (revise n)

-- 02, Wish 1: "16 a condition is false, …, the belief condition before the goal condition.": which condition of a choice that the
-- agent has, where the plan's front fits: a belief condition, 𝐁, or a goal condition, 𝐆.
pub data FalseCondition (A : Agent) (c : Config) : Choice → Letter → Type 0 where
  -- "the belief condition", whatever the goal condition is
  belief : {n : ℕ} {r : Selection} → Entry A.PS n r → c.π ≡ [] → (c ⊨ r.β) ≡ false → FalseCondition A c (select n) 𝐁
  -- "before the goal condition": where the belief condition holds
  goal : {n : ℕ} {r : Selection} → Entry A.PS n r → c.π ≡ [] → (c ⊨ r.β) ≡ true → (c ⊨ r.κ) ≡ false
      → FalseCondition A c (select n) 𝐆
  -- 01, "A configuration and its transitions", Action: "the precondition holds"
  precondition : {n : ℕ} {s : Specification} (π : Plan) → Entry A.AS n s → c.π ≡ s.a ∷ π → (c ⊨ s.β) ≡ false
      → FalseCondition A c (act n) 𝐁
  -- 01, "A configuration and its transitions", Revision: "the condition holds"
  condition : {n : ℕ} {r : Revision} (π : Plan) → Entry A.PR n r → c.π ≡ r.πₕ ++ π → (c ⊨ r.β) ≡ false
      → FalseCondition A c (revise n) 𝐁

-- 02, Wish 1: "16 a condition is false, with the node": the one that settles the condition. SettlerLaws says what that tells of it.
pub record FalseAt (b : Bytes) (c : Configuration) (n node : ℕ) : Type 0 where
  pub chosen : Choice
  pub coded : code chosen ≡ n
  pub letter : Letter
  pub is_false : FalseCondition (agent b) (state_of c).mental chosen letter
  pub root : ℕ
  pub condition_of : ConditionOf (layout b) b chosen letter root
  pub settled : node ≡ settler letter (layout b) b (state_of c).mental root

-- 02, Wish 1: "Refusals: 10 gives way to three in its place and this order", each exactly when.
pub record ClosedExactly (b : Bytes) (c : Configuration) (n : ℕ) (r : Reply) : Type 0 where
  -- 02, Wish 1: "14 no such rule or specification"
  pub no_rule : (r.answer ≡ Err Refusal.NoRule) ↔ ((k : Choice) → code k ≡ n → Has (agent b) k → ⊥)
  -- 02, Wish 1: "15 the plan's front doesn't fit (empty, not empty, other first action, other head)"
  pub front : (r.answer ≡ Err Refusal.Front) ↔ ((k : Choice) × ((code k ≡ n) × UnfitFront (agent b) (state_of c).mental.π k))
  -- 02, Wish 1: "16 a condition is false, with the node, the belief condition before the goal condition."
  pub condition : (node : ℕ) → (r.answer ≡ Err (Refusal.Condition node)) ↔ FalseAt b c n node

-- The same of every answer that take may give.
abbrev pub ClosedLaw : Type 0
ClosedLaw = (b : Bytes) (c : Configuration) → OnAccepted b c → (n : ℕ) (r : Reply) → Takes b c n r → ClosedExactly b c n r
