-- An offender's number fits in the 16 bits that it is written in: a card has at most 256 rules of a kind.
use mathlib.Core.Path.{◌≡◌, refl, sym, subst}
use mathlib.Core.Bool.{Bool, true, false}
use mathlib.Core.List.{List, [], ◌∷◌}
use Prim.Native.Nat.{ℕ, suc, ◌+◌, ◌≤◌, ◌<◌}
use native.Mathlib.Omega.{arith}
use lib.ListN.{length}
use Rattle.paper.specs.Language.{Plan, Agent}
use Rattle.runs.specs.declared.Offender.{Offender}
use Rattle.runs.specs.declared.Verdict.{Verdict}
use Rattle.runs.specs.Weight.{light, lowers, first_offender, verdict}
use Rattle.meaning.specs.Answers.{Answer}
use Rattle.std.specs.Prelude.{Ok, Err}
use Rattle.meaning.specs.declared.Graded.{Graded}
use Rattle.meaning.specs.Card.{Bytes, layout, weight, agent, agent_for, agent_of, initial_plan}
use Rattle.meaning.specs.Refusals.{card_answer}
use Rattle.meaning.specs.Calls.{grades}
use Rattle.meaning.proofs.Calls.{grades_good, grades_refused}
use Rattle.meaning.proofs.Accepted.{length-entries}
use Rattle.card.proofs.GoodCard.{good_card}
use Rattle.meaning.specs.Numbers.{offender_rule, verdict_rule}

module _ {R : Type 0} (good : R → Bool) (name : ℕ → Offender) (named : (k : ℕ) → offender_rule (name k) ≡ k) (otherwise : Verdict) (o : verdict_rule otherwise < 65536) where
  pub first_narrow : (n : ℕ) (rs : List R) → n + length rs ≤ 256 → verdict_rule (first_offender good name n rs otherwise) < 65536
  unfolding verdict_rule
  first_narrow n [] h = o
  first_narrow n (r ∷ rs) h = elim (good r) as (λ x. verdict_rule (elim x [ true ↦ first_offender good name (suc n) rs otherwise | false ↦ Verdict.Open (name n) ]) < 65536) [
    | true ↦ first_narrow (suc n) rs (omega arith)
    | false ↦ let e = named n in omega arith
  ]

verdict_narrow : (w : ℕ → ℕ) (A : Agent) (π : Plan) → length A.PS ≤ 256 → length A.PR ≤ 256 → verdict_rule (verdict w A π) < 65536
unfolding verdict verdict_rule offender_rule
verdict_narrow w A π s r = elim (light w π) as (λ x. verdict_rule (elim x [ true ↦ first_offender (λ r. light w r.π) Offender.Selection 0 A.PS (first_offender (lowers w) Offender.Revision 0 A.PR Verdict.Bounded) | false ↦ Verdict.Open Offender.InitialPlan ]) < 65536) [
  | true ↦
      first_narrow (λ x. light w x.π) Offender.Selection (λ k. refl) _
      (first_narrow (lowers w) Offender.Revision (λ k. refl) Verdict.Bounded (omega arith) 0 A.PR (omega arith)) 0 A.PS (omega arith)
  | false ↦ omega arith
]

pub grades_narrow : (b : Bytes) → verdict_rule (grades b).verdict < 65536
unfolding verdict_rule offender_rule agent agent_for agent_of
grades_narrow b = go (card_answer b) refl
  where
    go : (a : Answer) → card_answer b ≡ a → verdict_rule (grades b).verdict < 65536
    go (Ok _) e =
        let l = (good_card (layout b) b e refl).layout in
        let v = verdict_narrow (weight b) (agent b) (initial_plan b) (rw (length-entries _ (layout b).selections) l.selections) (rw (length-entries _ (layout b).revisions) l.revisions) in
        subst (λ (x : Graded). verdict_rule x.verdict < 65536) (sym (grades_good b e)) v
    go (Err r) e = subst (λ (x : Graded). verdict_rule x.verdict < 65536) (sym (grades_refused b r e)) (omega arith)
