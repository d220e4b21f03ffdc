-- Demand 2: a chosen move is taken exactly if it is a transition and its plan fits.
use mathlib.Core.Path.{◌≡◌, refl, ap, ◌∙◌, sym, subst}
use mathlib.Core.Logic.{◌↔◌}
use Prim.Native.Nat.{ℕ, ◌≤◌, ◌<◌}
use native.Mathlib.Omega.{arith}
use lib.ListN.{length}
use Rattle.paper.specs.Language.{Config}
use Rattle.paper.specs.Transitions.{Choice}
use Rattle.paper.specs.Next.{next}
use Rattle.paper.proofs.Relation.{some_inj, sound}
use Rattle.runs.specs.Order.{State}
use Rattle.runs.specs.Step.{after}
use Rattle.meaning.specs.declared.Refusal.{Refusal}
use Rattle.meaning.specs.Answers.{Answer}
use Rattle.std.specs.Prelude.{Ok, Err}
use Rattle.meaning.specs.declared.Configuration.{Configuration}
use Rattle.meaning.specs.declared.Reply.{Reply}
use Rattle.meaning.specs.Card.{Bytes, agent}
use Rattle.meaning.specs.Configurations.{state_of, configuration_of}
use Rattle.meaning.proofs.Tables.{done≢refused}
use Rattle.meaning.proofs.Configurations.{configuration_laws}
use Rattle.meaning.specs.Refusals.{number_of, answer_number}
use Rattle.demands.specs.Demands.{OnAccepted, ChosenMove, StandsFor, IsClosed, no_rule, front, condition}
use Rattle.demands.proofs.Codes.{chosen}
use Rattle.demands.proofs.Ways.{Taking, refused, done, is_closed, plan_full}

-- a closed choice is answered with 14 at least: it is not done, and not too long
pub closed_number : {a : Answer} → IsClosed a → 14 ≤ answer_number a
unfolding answer_number number_of
closed_number no_rule = omega arith
closed_number front = omega arith
closed_number condition = omega arith

pub closed≢done : IsClosed (Ok tt) → ⊥
unfolding answer_number
closed≢done h = let n = closed_number h in omega arith

pub closed≢full : IsClosed (Err Refusal.PlanFull) → ⊥
unfolding answer_number number_of
closed≢full h = let n = closed_number h in omega arith

-- what is handed out for a state whose plan fits
pub reached : (s : State) → length s.mental.π ≤ 1024 → StandsFor (configuration_of s) s
reached s f = record { handed_out = refl; stands_for = configuration_laws.of_state s f }

-- the code's move fits
abbrev Fitting : Bytes → Configuration → ℕ → Type 0
Fitting b c n = (k : Choice) × ((c' : Config) × (ChosenMove b c n k c' × (length c'.π ≤ 1024)))

-- the code's move leaves a plan that is too long
abbrev TooLong : Bytes → Configuration → ℕ → Type 0
TooLong b c n = (k : Choice) × ((c' : Config) × (ChosenMove b c n k c' × (1024 < length c'.π)))

module _ (b : Bytes) (c : Configuration) (on : OnAccepted b c) (n : ℕ) where
  -- a code has one move
  one_move : {k j : Choice} {c' c'' : Config} → ChosenMove b c n k c' → ChosenMove b c n j c'' → (k ≡ j) × (c' ≡ c'')
  one_move p q =
      let e = some_inj (sym (chosen b c on p) ∙ chosen b c on q) in
      (e, some_inj (sym (sound p.transition) ∙ ap (next (agent b) (state_of c).mental) e ∙ sound q.transition))

  -- so it doesn't both fit and not fit
  never_both : {k j : Choice} {c' c'' : Config} → ChosenMove b c n k c' → length c'.π ≤ 1024 → ChosenMove b c n j c'' → 1024 < length c''.π → ⊥
  never_both {c' = c'} {c''} p f q l = let e : length c'.π ≡ length c''.π = ap (λ (x : Config). length x.π) (one_move p q).1 in omega arith

  pub taken_exactly : (r : Reply) → Taking b c n r → (r.answer ≡ Ok tt) ↔ Fitting b c n
  taken_exactly r (refused h) = absurd (done≢refused (sym on ∙ h))
  taken_exactly r (is_closed h e w x) = (λ e. absurd (done≢refused (sym e)), λ (k, (c', (m, f))). absurd (x k c' m))
  taken_exactly r (plan_full h j c'' q l) = (λ e. absurd (done≢refused (sym e)), λ (k, (c', (m, f))). absurd (never_both m f q l))
  taken_exactly r (done h k c' m f) = (λ e. (k, (c', (m, f))), λ x. refl)

  pub taken_to : (r : Reply) → Taking b c n r → (k : Choice) (c' : Config) → ChosenMove b c n k c' → length c'.π ≤ 1024 → StandsFor r.configuration (after (state_of c) k c')
  unfolding after
  taken_to r (refused h) k c' m f = absurd (done≢refused (sym on ∙ h))
  taken_to r (is_closed h e w x) k c' m f = absurd (x k c' m)
  taken_to r (plan_full h j c'' q l) k c' m f = absurd (never_both m f q l)
  taken_to r (done h j c'' q l) k c' m f = let (e, d) = one_move m q in rw (e, d) (reached _ l)

  pub closed_exactly : (r : Reply) → Taking b c n r → IsClosed r.answer ↔ ((k : Choice) (c' : Config) → ChosenMove b c n k c' → ⊥)
  closed_exactly r (refused h) = absurd (done≢refused (sym on ∙ h))
  closed_exactly r (is_closed h e w x) = (λ e. x, λ y. w)
  closed_exactly r (plan_full h k c' m l) = (λ e. absurd (closed≢full e), λ x. absurd (x k c' m))
  closed_exactly r (done h k c' m f) = (λ e. absurd (closed≢done e), λ x. absurd (x k c' m))

  pub plan_full_exactly : (r : Reply) → Taking b c n r → (r.answer ≡ Err Refusal.PlanFull) ↔ TooLong b c n
  plan_full_exactly r (refused h) = absurd (done≢refused (sym on ∙ h))
  plan_full_exactly r (is_closed h e w x) = (λ e. absurd (closed≢full (subst IsClosed e w)), λ (k, (c', (m, l))). absurd (x k c' m))
  plan_full_exactly r (plan_full h k c' m l) = (λ e. (k, (c', (m, l))), λ x. refl)
  plan_full_exactly r (done h k c' m f) = (λ e. absurd (done≢refused e), λ (j, (c'', (q, l))). absurd (never_both m f q l))
