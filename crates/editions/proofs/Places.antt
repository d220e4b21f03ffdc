-- A place under a card of edition 1: accepted, restored and saved as document 01 has it.
use mathlib.Core.Path.{◌≡◌, refl, ap, ◌∙◌, sym}
use mathlib.Core.Logic.{◌⊎◌, inl, inr, ⊎_elim}
use mathlib.Core.Bool.{Bool, not, ◌&&◌}
use mathlib.Core.List.{◌∷◌, ◌++◌}
use Prim.Native.Nat.{◌+◌, ◌≤◌}
use native.Mathlib.Omega.{arith}
use borrow.Author.Tests.{not-false, leb-true, leb-false, le-leb, lt-leb}
use lib.Dec.{leb, eqb}
use lib.ListN.{length, take, drop}
use Rattle.paper.specs.Language.{⟨◌/◌/◌⟩}
use Rattle.paper.specs.Theorems.{AreBytes}
use Rattle.runs.specs.Order.{State}
use Rattle.meaning.specs.declared.Refusal.{Refusal}
use Rattle.std.specs.Prelude.{Ok, Err}
use Rattle.meaning.specs.declared.Layout.{Layout}
use Rattle.meaning.specs.Sizes.{set_bytes, place_goals_at, plan_at}
use Rattle.meaning.specs.Card.{Bytes, number_at, part, widened, set_at}
use Rattle.meaning.specs.Configurations.{configuration_of}
use Rattle.meaning.specs.Place.{two_bytes, place_header, place, placed}
use Rattle.meaning.specs.Refusals.{first_given, marked, has_edition, place_mark_good, place_long_enough, place_offsets_good, place_table, actions_good, both_good, configuration_good}
use Rattle.meaning.proofs.Parts.{length_part}
use Rattle.meaning.proofs.Tables.{done≢refused, row_passed}
use Rattle.meaning.proofs.Widening.{take_widened}
use Rattle.meaning.proofs.KnownSets.{good_widened}
use Rattle.meaning.proofs.Places.{place_laws}
use Rattle.editions.specs.Edition1.{edition1_set_at, edition1_place, edition1_placed, edition1_place_table, edition1_place_answer}
use Rattle.editions.specs.Moves.{OfSixteen, widened_config, widened_state}
use Rattle.editions.specs.AsBefore.{PlaceWrongAndShort, PlaceAsBefore}
use Rattle.editions.proofs.Rows.{edition1_sizes, same_sets_at}
use Rattle.editions.proofs.Orders.{rows_alike, old, new, alike, old_short, new_wrong}

-- the first three rows of a place, under a card of either edition
pub place_new : (l : Layout) (p : Bytes) → first_given (place_table l) p ≡ new (has_edition p) (place_mark_good l p) (place_long_enough l p) (first_given (drop 3 (place_table l)) p)
unfolding place_table first_given
place_new l p = refl

module _ (l : Layout) (e : l.edition ≡ 1) where
  s16 : set_bytes l ≡ 16
  s16 = (edition1_sizes l e).set

  -- ---- the rows

  -- document 01's own of the first two rows
  abbrev long : Bytes → Bool
  long p = leb 44 (length p)

  abbrev mark : Bytes → Bool
  mark p = marked 0x50 p && eqb (number_at p 2) 1

  same_mark : (p : Bytes) → place_mark_good l p ≡ mark p
  same_mark p = ap (λ n. marked 0x50 p && eqb (number_at p 2) n) e

  rest_same : (p : Bytes) → first_given (drop 3 (place_table l)) p ≡ first_given (drop 2 (edition1_place_table l)) p
  unfolding place_table edition1_place_table
  rest_same p =
      let o : place_offsets_good l p ≡ (eqb (number_at p 6) 44 && eqb (length p) (44 + number_at p 4)) = ap (λ s. eqb (number_at p 6) (plan_at s) && eqb (length p) (plan_at s + number_at p 4)) s16 in
      let a : actions_good l.actions (drop (plan_at (set_bytes l)) p) ≡ actions_good l.actions (drop 44 p) = ap (λ s. actions_good l.actions (drop (plan_at s) p)) s16 in
      let s : both_good l.atoms (set_at l p 12) (set_at l p (place_goals_at (set_bytes l))) ≡ both_good l.atoms (edition1_set_at p 12) (edition1_set_at p 28) = ap (λ s. both_good l.atoms (set_at l p 12) (set_at l p (place_goals_at s))) s16 ∙ same_sets_at l e p 12 28 in
      rows_alike p (drop 3 (place_table l)) (drop 2 (edition1_place_table l))
      ((refl, (refl, (refl, (ap not o, (refl, (ap not a, (refl, (ap not s, tt)))))))))

  is_old : (p : Bytes) → edition1_place_answer l p ≡ old (long p) (mark p) (first_given (drop 2 (edition1_place_table l)) p)
  unfolding edition1_place_answer edition1_place_table first_given
  is_old p = refl

  -- ---- what changes

  only : (p : Bytes) → (first_given (place_table l) p ≡ edition1_place_answer l p) ⊎ PlaceWrongAndShort l p
  unfolding has_edition
  only p = ⊎_elim
      (λ f. inl (place_new l p ∙ f ∙ sym (is_old p)))
      (λ (f, (s, m)). inr (leb-true 4 (length p) f, (leb-false 44 (length p) s, m)))
      (alike (has_edition p) (place_mark_good l p) (place_long_enough l p) (mark p) (long p) (first_given (drop 3 (place_table l)) p) (first_given (drop 2 (edition1_place_table l)) p)
      (λ f. (let h : 44 ≤ length p = leb-true 44 (length p) f in le-leb 4 (length p) (omega arith)))
      (λ m. (sym (same_mark p) ∙ m, (ap (λ s. leb (plan_at s) (length p)) s16, rest_same p)))
      (λ m. sym (same_mark p) ∙ m))

  wrong_and_short : (p : Bytes) → PlaceWrongAndShort l p → (edition1_place_answer l p ≡ Err Refusal.Short) × (first_given (place_table l) p ≡ Err Refusal.Mark)
  unfolding has_edition
  wrong_and_short p (f, (s, m)) = (
    is_old p ∙ old_short (long p) (mark p) (first_given (drop 2 (edition1_place_table l)) p) (lt-leb 44 (length p) s),
    place_new l p ∙ new_wrong (has_edition p) (place_mark_good l p) (place_long_enough l p) (first_given (drop 3 (place_table l)) p) (le-leb 4 (length p) f) m,
  )

  accepted : (p : Bytes) → edition1_place_answer l p ≡ Ok tt → first_given (place_table l) p ≡ Ok tt
  accepted p d = ⊎_elim (λ s. s ∙ d) (λ w. absurd (done≢refused (sym d ∙ (wrong_and_short p w).0))) (only p)

  none_added : (p : Bytes) → first_given (place_table l) p ≡ Ok tt → edition1_place_answer l p ≡ Ok tt
  none_added p d = ⊎_elim (λ s. sym s ∙ d) (λ w. absurd (done≢refused (sym d ∙ (wrong_and_short p w).1))) (only p)

  refused : (p : Bytes) → 44 ≤ length p → first_given (place_table l) p ≡ edition1_place_answer l p
  refused p h = ⊎_elim (λ s. s) (λ (f, (s, m)). absurd (omega arith)) (only p)

  -- ---- restored and saved

  restored : (p : Bytes) → placed l p ≡ widened_state (edition1_placed p)
  unfolding placed edition1_placed widened_state widened_config
  restored p = ap (λ s. record { mental = ⟨ widened (part p 12 s) / drop (plan_at s) p / widened (part p (place_goals_at s) s) ⟩; phase = number_at p 8; finished = number_at p 10 }) s16

  saved : (s : State) → OfSixteen s → place l (widened_state s) ≡ edition1_place s
  unfolding place place_header edition1_place widened_state widened_config
  saved s (h, g) =
      let σ : take (set_bytes l) (widened s.mental.σ) ≡ s.mental.σ = take_widened s.mental.σ (set_bytes l) (h ∙ sym s16) in
      let γ : take (set_bytes l) (widened s.mental.γ) ≡ s.mental.γ = take_widened s.mental.γ (set_bytes l) (g ∙ sym s16) in
      λ i.
      (0x33 ∷ 0x50 ∷ (two_bytes (e i) ++ (two_bytes (length s.mental.π) ++ (two_bytes (plan_at (s16 i)) ++ (two_bytes s.phase ++ two_bytes s.finished)))))
      ++ (σ i ++ (γ i ++ s.mental.π))

  of_sixteen : (p : Bytes) → edition1_place_answer l p ≡ Ok tt → OfSixteen (edition1_placed p)
  unfolding edition1_place_answer edition1_place_table edition1_placed
  of_sixteen p d =
      let h : 44 ≤ length p = leb-true 44 (length p) (not-false _ (row_passed p (edition1_place_table l) d 0)) in
      (length_part p 12 16 (omega arith), length_part p 28 16 (omega arith))

  saved_again : (p : Bytes) → AreBytes p → edition1_place_answer l p ≡ Ok tt → (place l (placed l p) ≡ p) × (edition1_place (edition1_placed p) ≡ p)
  saved_again p bs d =
      let now : place l (placed l p) ≡ p = place_laws.restored_saved l p bs (accepted p d) in
      (now, sym (saved (edition1_placed p) (of_sixteen p d)) ∙ ap (place l) (sym (restored p)) ∙ now)

  configurations : (s : State) → OfSixteen s → configuration_good l (configuration_of (widened_state s)) ≡ configuration_good l (configuration_of s)
  unfolding configuration_good configuration_of widened_state widened_config
  configurations s h =
      let σ = good_widened l.atoms s.mental.σ in
      let γ = good_widened l.atoms s.mental.γ in
      rw (σ, γ)

  pub place_as_before : PlaceAsBefore l
  place_as_before =
      record {
        accepted = accepted;
        none_added = none_added;
        refused = refused;
        only = only;
        wrong_and_short = wrong_and_short;
        restored = restored;
        saved = saved;
        saved_again = saved_again;
        configurations = configurations;
      }
