-- A card is graded bounded exactly if it is, and demand 3 holds under such a card.
use mathlib.Core.Path.{◌≡◌, refl, sym, subst}
use mathlib.Core.Bool.{Bool, true, false}
use mathlib.Core.List.{List, [], ◌∷◌, ◌++◌}
use Prim.Native.Nat.{ℕ, zero, suc, ◌+◌, ◌*◌, ◌≤◌, ◌<◌}
use native.Mathlib.Nat.{add-zero, zero-add, not-suc-le-zero, le_of_suc-le-suc}
use native.Mathlib.Omega.{arith}
use lib.ListN.{length}
use borrow.Author.Tests.{ltb-true, ltb-false, leb-true, leb-false}
use Rattle.paper.specs.Language.{Plan, Selection, Agent, Config}
use Rattle.paper.specs.Transitions.{Choice, Entry, Step, execute, apply_PS, apply_PR}
use Rattle.paper.proofs.Relation.{none≢some, some_inj}
use Rattle.runs.specs.declared.Ending.{Ending}
use Rattle.runs.specs.declared.Offender.{Offender}
use Rattle.runs.specs.declared.Verdict.{Verdict}
use Rattle.runs.specs.Order.{State}
use Rattle.runs.specs.Run.{Chain, stay, ◌then◌, run}
use Rattle.runs.specs.Weight.{weigh, Bounded, first_offender, light, lowers, verdict, is_selection, selections}
use Rattle.runs.specs.Theorems.{Because, is_spent, is_rest, is_full, Offends, initial_plan, selection, revision, BoundedLaw}
use Rattle.runs.proofs.Run.{run_law}

-- ---- the weight along a chain

pub weigh_append : (w : ℕ → ℕ) (π ρ : Plan) → weigh w (π ++ ρ) ≡ weigh w π + weigh w ρ
unfolding weigh
weigh_append w [] ρ = omega arith
weigh_append w (a ∷ π) ρ = let h = weigh_append w π ρ in omega arith

module _ (w : ℕ → ℕ) (least : (a : ℕ) → 1 ≤ w a) where
  pub length≤weigh : (π : Plan) → length π ≤ weigh w π
  unfolding weigh
  length≤weigh [] = omega arith
  length≤weigh (a ∷ π) = let h = length≤weigh π in omega (arith, least a)

  module _ {A : Agent} {initial : Plan} (bd : Bounded w A initial) where
    -- a transition that is no selection lowers the weight; a selection starts from 0 and ends at 1,024 or less
    step_weight : {c c' : Config} {k : Choice} → Step A c k c' → suc (weigh w c'.π) ≤ weigh w c.π + 1025 * is_selection k
    unfolding weigh is_selection
    step_weight (execute {s = s} e p) = omega (arith, least s.a)
    step_weight (apply_PS {n = n} {r = r} e p q) = omega (arith, bd.selections n r e)
    step_weight (apply_PR π {n = n} {r = r} e p) = omega (arith, bd.revisions n r e, weigh_append w r.πb π, weigh_append w r.πₕ π)

    step_light : {c c' : Config} {k : Choice} → Step A c k c' → weigh w c.π ≤ 1024 → weigh w c'.π ≤ 1024
    unfolding weigh
    step_light (execute {s = s} e p) h = omega (arith, least s.a)
    step_light (apply_PS {n = n} {r = r} e p q) h = bd.selections n r e
    step_light (apply_PR π {n = n} {r = r} e p) h = omega (arith, bd.revisions n r e, weigh_append w r.πb π, weigh_append w r.πₕ π)

    pub chain_weight : {c c' : Config} {ks : List Choice} → Chain A c ks c' → length ks + weigh w c'.π ≤ weigh w c.π + 1025 * selections ks
    unfolding selections
    chain_weight stay = omega arith
    chain_weight (◌then◌ s r) = let h = step_weight s in let t = chain_weight r in omega arith

    chain_light : {c c' : Config} {ks : List Choice} → Chain A c ks c' → weigh w c.π ≤ 1024 → weigh w c'.π ≤ 1024
    chain_light stay h = h
    chain_light (◌then◌ s r) h = chain_light r (step_light s h)

    pub never_long : {c c' : Config} {ks : List Choice} → Chain A c ks c' → weigh w c.π ≤ 1024 → length c'.π ≤ 1024
    never_long {c'} r h = let l = chain_light r h in omega (arith, length≤weigh c'.π)

    not_full : {b n : ℕ} {s : State} {e : Ending} → weigh w s.mental.π ≤ 1024 → Because A b n s e → e ≡ Ending.Full → ⊥
    not_full h (is_spent p) q = let z : ◌≡◌ {A = ℕ} 0 1 = cc in omega arith
    not_full h (is_rest p r) q = let z : ◌≡◌ {A = ℕ} 0 1 = cc in omega arith
    not_full h (is_full p k c g x l) q = let t = step_light x h in omega (arith, length≤weigh c.π)

    never_ends_full : (s : State) (b : ℕ) → weigh w s.mental.π ≤ 1024 → (run A b s).ending ≡ Ending.Full → ⊥
    never_ends_full s b h = let r = run_law A b s in not_full (chain_light r.chain h) r.because

-- ---- graded

pub open≢bounded : {o : Offender} → Verdict.Open o ≡ Verdict.Bounded → ⊥
open≢bounded e = let z : ◌≡◌ {A = ℕ} 0 1 = cc in omega arith

module _ {R : Type 0} (good : R → Bool) (name : ℕ → Offender) where
  first_good : (n : ℕ) (r : R) (rs : List R) (v : Verdict) → good r ≡ true → first_offender good name n (r ∷ rs) v ≡ first_offender good name (suc n) rs v
  first_good n r rs v e = rw (e, first_offender)

  first_bad : (n : ℕ) (r : R) (rs : List R) (v : Verdict) → good r ≡ false → first_offender good name n (r ∷ rs) v ≡ Verdict.Open (name n)
  first_bad n r rs v e = rw (e, first_offender)

  -- what the entries of a list come to: all are good and the verdict is another's, or one is the first that is not
  data FirstOffence (n : ℕ) (rs : List R) (otherwise : Verdict) : Verdict → Type 0 where
    all_good : ((i : ℕ) (x : R) → Entry rs i x → good x ≡ true) → FirstOffence n rs otherwise otherwise
    offends : (i : ℕ) (x : R) → ((j : ℕ) (y : R) → j < i → Entry rs j y → good y ≡ true) → Entry rs i x → good x ≡ false → FirstOffence n rs otherwise (Verdict.Open (name (n + i)))

  later : (n : ℕ) (r : R) (rs : List R) (o v : Verdict) → good r ≡ true → FirstOffence (suc n) rs o v → FirstOffence n (r ∷ rs) o v
  later n r rs o v e (all_good h) = all_good (λ i. elim i as (λ k. (x : R) → Entry (r ∷ rs) k x → good x ≡ true) [ zero ↦ λ x q. (let z : r ≡ x = some_inj q in rw (← z) e) | suc j ↦ h j ])
  later n r rs o v e (offends i x h q b) =
      let k : suc n + i ≡ n + suc i = omega arith in
      rw k
      (offends (suc i) x (λ j. elim j as (λ k. (y : R) → k < suc i → Entry (r ∷ rs) k y → good y ≡ true) [ zero ↦ λ y l p. (let z : r ≡ y = some_inj p in rw (← z) e) | suc m ↦ λ y l p. h m y (le_of_suc-le-suc l) p ]) q b)

  first_offence : (n : ℕ) (rs : List R) (o : Verdict) → FirstOffence n rs o (first_offender good name n rs o)
  first_offence n [] o = all_good (λ i x e. absurd (none≢some e))
  first_offence n (r ∷ rs) o = go (good r) refl (first_offence (suc n) rs o)
    where
      go : (b : Bool) → good r ≡ b → FirstOffence (suc n) rs o (first_offender good name (suc n) rs o) → FirstOffence n (r ∷ rs) o (first_offender good name n (r ∷ rs) o)
      go true e ih = rw (first_good n r rs o e) (later n r rs o _ e ih)
      go false e ih =
          rw (first_bad n r rs o e)
          (subst (λ i. FirstOffence n (r ∷ rs) o (Verdict.Open (name i))) (add-zero n) (offends 0 r (λ j y l p. absurd (not-suc-le-zero l)) refl e))

module _ (w : ℕ → ℕ) (A : Agent) (initial : Plan) where
  -- what the three questions come to
  data Graded : Verdict → Type 0 where
    is_bounded_lem : Bounded w A initial → Graded Verdict.Bounded
    is_open : {o : Offender} → Offends w A initial o → Graded (Verdict.Open o)

  revisions_offence : weigh w initial ≤ 1024 → ((n : ℕ) (r : Selection) → Entry A.PS n r → weigh w r.π ≤ 1024)
      → (v : Verdict) → FirstOffence (lowers w) Offender.Revision 0 A.PR Verdict.Bounded v → Graded v
  revisions_offence h s v (all_good g) = is_bounded_lem (record { start = h; selections = s; revisions = λ n r e. ltb-true _ _ (g n r e) })
  revisions_offence h s v (offends i x g e b) =
      rw (zero-add i) (is_open (revision x h s (λ j y l p. ltb-true _ _ (g j y l p)) e (ltb-false _ _ b)))

  selections_offence : weigh w initial ≤ 1024 → (u : Verdict) → FirstOffence (lowers w) Offender.Revision 0 A.PR Verdict.Bounded u
      → (v : Verdict) → FirstOffence (λ r. light w r.π) Offender.Selection 0 A.PS u v → Graded v
  selections_offence h u r v (all_good g) = revisions_offence h (λ n x e. leb-true _ _ (g n x e)) u r
  selections_offence h u r v (offends i x g e b) = rw (zero-add i) (is_open (selection x h (λ j y l p. leb-true _ _ (g j y l p)) e (leb-false _ _ b)))

  graded : Graded (verdict w A initial)
  unfolding verdict
  graded = go (light w initial) refl
    where
      after_initial : Verdict
      after_initial = first_offender (λ r. light w r.π) Offender.Selection 0 A.PS (first_offender (lowers w) Offender.Revision 0 A.PR Verdict.Bounded)

      go : (b : Bool) → light w initial ≡ b → Graded (elim b as (λ x. Verdict) [ true ↦ after_initial | false ↦ Verdict.Open Offender.InitialPlan ])
      go true e =
          selections_offence (leb-true _ _ e) _ (first_offence (lowers w) Offender.Revision 0 A.PR Verdict.Bounded)
          after_initial (first_offence (λ r. light w r.π) Offender.Selection 0 A.PS _)
      go false e = is_open (initial_plan (leb-false _ _ e))

  to_bounded : {v : Verdict} → Graded v → v ≡ Verdict.Bounded → Bounded w A initial
  to_bounded (is_bounded_lem b) e = b
  to_bounded (is_open o) e = absurd (open≢bounded e)

  contradicts : Bounded w A initial → {o : Offender} → Offends w A initial o → ⊥
  contradicts b (initial_plan h) = let g = b.start in omega arith
  contradicts b (selection {n = n} r h g e l) = omega (arith, b.selections n r e)
  contradicts b (revision {n = n} r h s g e l) = omega (arith, b.revisions n r e)

  from_bounded : Bounded w A initial → {v : Verdict} → Graded v → v ≡ Verdict.Bounded
  from_bounded b (is_bounded_lem x) = refl
  from_bounded b (is_open o) = absurd (contradicts b o)

  to_offender : {v : Verdict} → Graded v → (o : Offender) → v ≡ Verdict.Open o → Offends w A initial o
  to_offender (is_bounded_lem b) o e = absurd (open≢bounded (sym e))
  to_offender (is_open {o = x} h) o e = let q : x ≡ o = cc in rw (← q) h

pub bounded_law : BoundedLaw
bounded_law w least A initial =
    let bd : verdict w A initial ≡ Verdict.Bounded → Bounded w A initial = to_bounded w A initial (graded w A initial) in
    record {
      exactly = (bd, λ b. from_bounded w A initial b (graded w A initial));
      offender = to_offender w A initial (graded w A initial);
      without_selection = λ g h r s. (let t = chain_weight w least (bd g) r in omega arith);
      with_selections = λ g h r. (let t = chain_weight w least (bd g) r in omega arith);
      never_too_long = λ g h r. never_long w least (bd g) r h;
      stays_light = λ g h r. chain_light w least (bd g) r h;
      never_full = λ g s b h. never_ends_full w least (bd g) s b h;
    }
