-- How much the list looks at.
use mathlib.Core.Path.{◌≡◌, refl, ap, ◌∙◌}
use mathlib.Core.List.{List}
use Prim.Native.Nat.{ℕ, ◌≤◌}
use native.Mathlib.Omega.{arith}
use Rattle.paper.specs.Transitions.{select, act, revise}
use Rattle.meaning.specs.declared.Refusal.{Refusal}
use Rattle.meaning.specs.Answers.{Answer}
use Rattle.std.specs.Prelude.{Ok, Err}
use Rattle.meaning.specs.declared.Configuration.{Configuration}
use Rattle.meaning.specs.declared.Listed.{Listed}
use Rattle.meaning.specs.Card.{Bytes, agent}
use Rattle.meaning.specs.Configurations.{state_of}
use Rattle.meaning.specs.Refusals.{configuration_answer}
use Rattle.meaning.specs.Looking.{conditions_judged, size, goals_open}
use Rattle.meaning.specs.Calls.{number_by}
use Rattle.meaning.proofs.Calls.{lists_judged, lists_refused, lists_goals}
use Rattle.meaning.proofs.Looking.{most}
use Rattle.demands.specs.CallContracts.{Lists}
use Rattle.demands.specs.Looking.{HowMuch}
use Rattle.demands.proofs.Codes.{most_rules, card_accepted}

module _ (b : Bytes) (c : Configuration) (out left : List ℕ) (r : Listed) (h : Lists b c out r left) where
  judged_by : (a : Answer) → r.answer ≡ a → r.judged ≡ number_by a (conditions_judged (agent b) (state_of c).mental)
  judged_by a e = lists_judged b c out r h.0 ∙ ap (λ x. number_by x (conditions_judged (agent b) (state_of c).mental)) e

  goals_by : (a : Answer) → r.answer ≡ a → r.goals ≡ number_by a (goals_open (state_of c).mental)
  goals_by a e = lists_goals b c out r h.0 ∙ ap (λ x. number_by x (goals_open (state_of c).mental)) e

  pub looks_refused : (q : Refusal) → r.answer ≡ Err q → (r.judged ≡ 0) × (r.goals ≡ 0)
  looks_refused q e = (judged_by (Err q) e, goals_by (Err q) e)

  looks_most : r.judged ≤ 512
  looks_most = go (configuration_answer b c) refl
    where
      by : (a : Answer) → r.answer ≡ a → conditions_judged (agent b) (state_of c).mental ≤ 512 → r.judged ≤ 512
      by (Ok _) e m = let j = judged_by (Ok tt) e in omega arith
      by (Err q) e m = let (j, g) = looks_refused q e in omega arith

      go : (a : Answer) → configuration_answer b c ≡ a → r.judged ≤ 512
      go (Ok _) e =
          let rules = most_rules b (card_accepted b c e) in
          by r.answer refl (most (agent b) (state_of c).mental (rules (select 0)) (rules (act 0)) (rules (revise 0)))
      go (Err q) e = let j = ap (λ (x : Listed). x.judged) (h.0 ∙ (lists_refused b c out q e).0) in omega arith

pub how_much : HowMuch
unfolding goals_open size state_of
how_much = record {
  judged = λ b c out left r h e. judged_by b c out left r h (Ok tt) e;
  most = looks_most;
  goals = λ b c out left r h e. goals_by b c out left r h (Ok tt) e;
}
