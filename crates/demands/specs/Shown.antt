-- What take shows of a condition that closes a choice, on an accepted card and configuration (proved in proofs/).
use Rattle.std.specs.Prelude.{◌≡◌, false, ℕ, ◌<◌, Err}
use Rattle.std.proofs.Math.Option.{some}
use Rattle.paper.specs.Language.{Letter, 𝐁, 𝐆}
use Rattle.paper.specs.Transitions.{◌⊨◌, Choice, select, act, revise}
use Rattle.meaning.specs.declared.Refusal.{Refusal}
use Rattle.meaning.specs.declared.Layout.{Layout}
use Rattle.meaning.specs.declared.Configuration.{Configuration}
use Rattle.meaning.specs.declared.Reply.{Reply}
use Rattle.meaning.specs.Card.{Bytes, layout, conditions, specification_at, selection_at, revision_at}
use Rattle.meaning.specs.Card as Card
use Rattle.meaning.specs.Configurations.{state_of}
use Rattle.meaning.specs.Why.{settler}
use Rattle.meaning.specs.Calls.{choice}
use Rattle.demands.specs.CallContracts.{Takes}
use Rattle.demands.specs.Demands.{OnAccepted}

-- 01, "A configuration and its transitions": "both conditions of the rule", "the precondition", "the condition": the conditions
-- of a choice, each by its node and the letter that it is read by.
pub data ConditionOf (l : Layout) (b : Bytes) : Choice → Letter → ℕ → Type 0 where
  belief : {n : ℕ} → ConditionOf l b (select n) 𝐁 (selection_at l b n).belief
  goal : {n : ℕ} → ConditionOf l b (select n) 𝐆 (selection_at l b n).goal
  precondition : {n : ℕ} → ConditionOf l b (act n) 𝐁 (specification_at l b n).node
  condition : {n : ℕ} → ConditionOf l b (revise n) 𝐁 (revision_at l b n).node

-- 02, Wish 1: "16 a condition is false, with the node": the code stands for a choice, one of its conditions is false, and the
-- node is what settles it. SettlerLaws says what that tells of the node.
pub record Shown (b : Bytes) (c : Configuration) (n node : ℕ) : Type 0 where
  pub chosen : Choice
  pub coded : choice n ≡ some chosen
  pub letter : Letter
  pub root : ℕ
  pub condition_of : ConditionOf (layout b) b chosen letter root
  pub known : root < (layout b).nodes.count
  pub is_false : ((state_of c).mental ⊨ Card.condition (conditions letter (layout b) b) root) ≡ false
  pub settled : node ≡ settler letter (layout b) b (state_of c).mental root

-- The same of every answer 16 that take may give.
abbrev pub ShownLaw : Type 0
ShownLaw = (b : Bytes) (c : Configuration) → OnAccepted b c → (n : ℕ) (r : Reply) → Takes b c n r
    → (node : ℕ) → r.answer ≡ Err (Refusal.Condition node) → Shown b c n node
