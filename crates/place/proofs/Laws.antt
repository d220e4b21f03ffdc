-- What loading, saving and restoring answer once the card is judged.
use mathlib.Core.Path.{◌≡◌, ap, ◌∙◌, sym}
use mathlib.Core.List.{◌++◌}
use Prim.Native.Nat.{◌+◌}
use native.Mathlib.Omega.{arith}
use lib.ListN.{length, take, length-append}
use lib.Seq.{length-take-le}
use Rattle.meaning.specs.declared.Refusal.{Refusal}
use Rattle.meaning.specs.declared.Layout.{Layout}
use Rattle.meaning.specs.declared.Configuration.{Configuration}
use Rattle.meaning.specs.Answers.{Answer}
use Rattle.std.specs.Prelude.{Ok, Err}
use Rattle.meaning.specs.Sizes.{set_bytes, plan_at}
use Rattle.meaning.specs.Card.{Bytes, layout, start}
use Rattle.meaning.specs.Place.{place_header, place, placed}
use Rattle.meaning.specs.Configurations.{state_of, configuration_of, empty}
use Rattle.meaning.specs.Refusals.{first_given, place_table, and_then, place_answer}
use Rattle.meaning.specs.Calls.{checks, reply, loads, restores}
use Rattle.meaning.proofs.Places.{good_place}
use Rattle.meaning.proofs.Calls as Calls
use Rattle.meaning.proofs.Calls.{good_judged, refused_judged, loads_refused}
use Rattle.door.specs.Ready.{Ready}
use Rattle.place.specs.Rows.{Sized}

-- what the rows of a place's header leave of it
pub sized : (l : Layout) (p : Bytes) → first_given (place_table l) p ≡ Ok tt → Sized l p
sized l p e =
    let g = good_place l p e in
    record { fits = g.fits; phase = g.phase; ends = g.ends }

-- ---- a refused card

module _ (b : Bytes) (r : Refusal) (told : checks b ≡ Err r) (a : Answer) (refusal : a ≡ Err r) where
  pub load_card_refused : (c : Configuration) → c ≡ empty → reply a c ≡ loads b
  load_card_refused c s = (λ i. reply (refusal i) (s i)) ∙ sym (loads_refused b r (refused_judged b r told))

  pub restore_card_refused : (p : Bytes) (c : Configuration) → c ≡ empty → reply a c ≡ restores b p
  unfolding place_answer
  restore_card_refused p c s =
      (λ i. reply (refusal i) (s i))
      ∙ sym (Calls.restores_refused b p r (ap (λ x. and_then x (first_given (place_table (layout b)) p)) (refused_judged b r told)))

-- ---- a good card

module _ (b : Bytes) (l : Layout) (e : checks b ≡ Ok l) where
  pub load_good : (c : Configuration) → c ≡ configuration_of (start b) → reply (Ok tt) c ≡ loads b
  load_good c s = ap (reply (Ok tt)) s ∙ sym (Calls.loads_good b (good_judged b l e).0)

  place_judged : (p : Bytes) → place_answer b p ≡ first_given (place_table l) p
  unfolding place_answer
  place_judged p =
      let (d, s) = good_judged b l e in
      ap (λ a. and_then a (first_given (place_table (layout b)) p)) d ∙ ap (λ (x : Layout). first_given (place_table x) p) (sym s)

  pub restore_good : (p : Bytes) (c : Configuration) → first_given (place_table l) p ≡ Ok tt → c ≡ configuration_of (placed l p) → reply (Ok tt) c ≡ restores b p
  restore_good p c t s = ap (reply (Ok tt)) s ∙ ap (λ (x : Layout). reply (Ok tt) (configuration_of (placed x p))) (good_judged b l e).1 ∙ sym (Calls.restores_good b p (place_judged p ∙ t))

  pub restore_refused : (p : Bytes) (c : Configuration) (a : Answer) (r : Refusal) → a ≡ Err r → a ≡ first_given (place_table l) p → c ≡ empty → reply a c ≡ restores b p
  restore_refused p c a r told t s = (λ i. reply (told i) (s i)) ∙ sym (Calls.restores_refused b p r (place_judged p ∙ sym t ∙ told))

-- ---- save

-- a good configuration's place has 44 + L bytes, or its edition's 76 + L
pub place_length : (l : Layout) (b : Bytes) (c : Configuration) → Ready l b c → length c.mind.beliefs ≡ 32 → length c.mind.goals ≡ 32
    → plan_at (set_bytes l) + c.mind.length ≡ length (place (layout b) (state_of c))
unfolding place place_header state_of
place_length l b c ready lb lg = go ∙ ap (λ (x : Layout). length (place x (state_of c))) ready.card.layout.says
  where
    go : plan_at (set_bytes l) + c.mind.length ≡ length (place l (state_of c))
    go =
        let n = set_bytes l in
        let σ = take n c.mind.beliefs in
        let γ = take n c.mind.goals in
        let π = take c.mind.length c.plan in
        let fits = ready.fits in
        let room = ready.room in
        let most = ready.card.layout.set_most in
        let k : length π ≡ c.mind.length = length-take-le c.mind.length c.plan (omega arith) in
        let h : length σ ≡ n = length-take-le n c.mind.beliefs (omega arith) in
        let i : length γ ≡ n = length-take-le n c.mind.goals (omega arith) in
        let g : length (γ ++ π) ≡ length γ + length π = length-append γ π in
        let f : length (σ ++ (γ ++ π)) ≡ length σ + length (γ ++ π) = length-append σ (γ ++ π) in
        omega arith
