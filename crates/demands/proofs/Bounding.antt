-- Demand 3: a card that is graded bounded is, and bounds its runs.
use mathlib.Core.Path.{◌≡◌, refl, ◌∙◌, sym, subst}
use mathlib.Core.Logic.{◌↔◌}
use mathlib.Core.List.{List, [], ◌∷◌, ◌++◌}
use Prim.Native.Nat.{ℕ, ◌≤◌}
use native.Mathlib.Omega.{arith}
use lib.ListN.{length}
use Rattle.runs.specs.declared.Ending.{Ending}
use Rattle.runs.specs.declared.Verdict.{Verdict}
use Rattle.paper.specs.Transitions.{Choice}
use Rattle.runs.specs.Order.{State}
use Rattle.runs.specs.Run.{Chain, stay, ◌then◌}
use Rattle.runs.specs.Weight.{weigh, Bounded, verdict}
use Rattle.runs.specs.Theorems as Runs
use Rattle.meaning.specs.declared.Refusal.{Refusal}
use Rattle.std.specs.Prelude.{Ok, Err}
use Rattle.meaning.specs.declared.Configuration.{Configuration}
use Rattle.meaning.specs.declared.Reply.{Reply}
use Rattle.meaning.specs.declared.Graded.{Graded}
use Rattle.meaning.specs.declared.Ran.{Ran}
use Rattle.meaning.specs.Card.{Bytes, weight, agent, initial_plan}
use Rattle.meaning.specs.Configurations.{state_of}
use Rattle.meaning.specs.Refusals.{number_of, answer_number, card_answer, configuration_answer}
use Rattle.meaning.proofs.Tables.{done≢refused}
use Rattle.runs.proofs.Weight.{open≢bounded}
use Rattle.meaning.proofs.Accepted.{card_laws}
use Rattle.demands.specs.CallContracts.{Grades}
use Rattle.demands.specs.Demands.{done_or_card, IsClosed, BoundedCount}
use Rattle.demands.proofs.Among.{outside, configuration_among}
use Rattle.demands.proofs.Choosing.{closed≢full}
use Rattle.demands.proofs.Ordering.{own_order}
use Rattle.demands.proofs.Ways.{Grading, Running, Taking, refused, is_closed, plan_full, done, grading}

spent≢full : Ending.Spent ≡ Ending.Full → ⊥
spent≢full e = let z : ◌≡◌ {A = ℕ} 0 1 = cc in omega arith

-- neither the card nor the configuration is refused with 11
never_by_configuration : (b : Bytes) (c : Configuration) → configuration_answer b c ≡ Err Refusal.PlanFull → ⊥
unfolding done_or_card answer_number number_of
never_by_configuration b c e = outside (done_or_card ++ (13 ∷ [])) 11 refl (rw e at (configuration_among b c))

pub graded_exactly : (b : Bytes) → card_answer b ≡ Ok tt → (g : Graded) → Grading b g → (g.verdict ≡ Verdict.Bounded) ↔ Bounded (weight b) (agent b) (initial_plan b)
graded_exactly b e g (done h) = (card_laws b h).graded.exactly
graded_exactly b e g (refused h) = absurd (done≢refused (sym e ∙ h))

pub refused_never : (b : Bytes) (g : Graded) → Grading b g → (q : Refusal) → g.answer ≡ Err q → g.verdict ≡ Verdict.Bounded → ⊥
refused_never b g (done h) q e v = done≢refused e
refused_never b g (refused h) q e v = open≢bounded v

-- a card that is graded bounded is accepted, and its verdict is that of the definition
its_verdict : (b : Bytes) (g : Graded) → Grading b g → g.verdict ≡ Verdict.Bounded
    → (card_answer b ≡ Ok tt) × (verdict (weight b) (agent b) (initial_plan b) ≡ Verdict.Bounded)
its_verdict b g (done h) v = (h, v)
its_verdict b g (refused h) v = absurd (open≢bounded v)

module _ (b : Bytes) (g : Graded) (e : Grades b g) (v : g.verdict ≡ Verdict.Bounded) where
  accepted : card_answer b ≡ Ok tt
  accepted = (its_verdict b g (grading b g e) v).0

  pub bounded : verdict (weight b) (agent b) (initial_plan b) ≡ Verdict.Bounded
  bounded = (its_verdict b g (grading b g e) v).1

  pub law : Runs.GradeLaws (weight b) (agent b) (initial_plan b)
  law = (card_laws b accepted).graded

  module _ (c : Configuration) (w : weigh (weight b) (state_of c).mental.π ≤ 1024) where
    pub never_full : (budget : ℕ) (r : Ran) → Running b c budget r → r.ending ≡ Ending.Full → ⊥
    never_full budget r (refused h) f = spent≢full f
    never_full budget r (done h) f = law.never_full bounded (state_of c) budget w f

    -- the count of a chain's choices
    counted : (ks : List Choice) (r : Ran) → Runs.Guided (agent b) (state_of c) ks (state_of r.configuration)
        → Chain (agent b) (state_of c).mental ks (state_of r.configuration).mental → r.count ≡ length ks
        → BoundedCount b c (weigh (weight b) (state_of c).mental.π) r
    counted ks r guided chain n = record {
      choices = ks;
      guided = guided;
      chain = chain;
      counted = n;
      at_most = rw n (law.with_selections bounded w chain);
      without_selection = λ none. rw n (law.without_selection bounded w chain none);
    }

    pub run_count : (budget : ℕ) (r : Ran) → Running b c budget r → BoundedCount b c (weigh (weight b) (state_of c).mental.π) r
    run_count budget r (refused h) = counted [] r Runs.ends stay refl
    run_count budget r (done h) =
        let (o, (t, tells)) = own_order b c h budget r (done h) in
        let back = sym tells.reached.stands_for in
        counted t.choices r (subst (Runs.Guided (agent b) (state_of c) t.choices) back t.guided)
        (subst (λ (s : State). Chain (agent b) (state_of c).mental t.choices s.mental) back t.chain) (tells.count ∙ t.counted)

    pub never_plan_full : (n : ℕ) (r : Reply) → Taking b c n r → r.answer ≡ Err Refusal.PlanFull → ⊥
    never_plan_full n r (refused h) f = never_by_configuration b c (h ∙ f)
    never_plan_full n r (is_closed h e w l) f = closed≢full (subst IsClosed f w)
    never_plan_full n r (plan_full h k c' m l) f =
        let j : length c'.π ≤ 1024 = law.never_too_long bounded w (◌then◌ m.transition stay) in
        omega arith
    never_plan_full n r (done h k c' m l) f = done≢refused f
