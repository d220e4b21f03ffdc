-- A card: no answer changes but for edition 2 and for short files with a wrong mark or edition.
use mathlib.Core.Path.{◌≡◌, refl, ap, ◌∙◌, sym}
use mathlib.Core.Logic.{◌⊎◌, inl, inr, ⊎_elim}
use mathlib.Core.Bool.{Bool, true, false, not, ◌&&◌, ◌||◌}
use Prim.Native.Nat.{◌≤◌}
use native.Mathlib.Omega.{arith}
use borrow.Author.Tests.{not-false, leb-true, leb-false, le-leb, lt-leb, eqb-true, eq-eqb, ne_eqb}
use lib.Dec.{leb, eqb}
use lib.ListN.{length, drop}
use Rattle.paper.proofs.Relation.{both, false≢true}
use Rattle.meaning.specs.declared.Refusal.{Refusal}
use Rattle.std.specs.Prelude.{Ok, Err}
use Rattle.meaning.specs.Card.{Bytes, number_at, layout}
use Rattle.meaning.specs.Refusals.{first_given, marked, has_edition, card_mark_good, card_long_enough, card_table, card_answer}
use Rattle.meaning.proofs.Tables.{done≢refused, row_passed}
use Rattle.editions.specs.Edition1.{edition1_long_enough, edition1_mark_good, edition1_table, edition1_answer}
use Rattle.editions.specs.AsBefore.{OfEdition2, WrongAndShort, CardChanges}
use Rattle.editions.proofs.Rows.{edition1_sizes, same_counts, same_offsets, same_weights, same_rules, same_sets}
use Rattle.editions.proofs.Orders.{rows_alike, old, new, alike, old_short, new_wrong, old_wrong}

module _ (b : Bytes) where
  -- rows 3 to 9, of edition 1
  rest_same : number_at b 2 ≡ 1 → first_given (drop 3 card_table) b ≡ first_given (drop 2 edition1_table) b
  unfolding card_table edition1_table layout
  rest_same e =
      let l = layout b in
      rows_alike b (drop 3 card_table) (drop 2 edition1_table)
      ((
        refl,
        (
          ap not (same_counts l e),
          (
            refl,
            (
              ap not (same_offsets l e (length b)),
              (
                refl,
                (
                  ap not (same_weights l e b),
                  (refl, (refl, (refl, (ap not (same_rules l e _ _ b), (refl, (refl, (refl, (ap not (same_sets l e b), tt)))))))),
                ),
              ),
            ),
          ),
        ),
      ))

  long_same : number_at b 2 ≡ 1 → card_long_enough b ≡ edition1_long_enough b
  unfolding card_long_enough layout
  long_same e = ap (λ n. leb n (length b)) (edition1_sizes (layout b) e).header

  is_old : edition1_answer b ≡ old (edition1_long_enough b) (edition1_mark_good b) (first_given (drop 2 edition1_table) b)
  unfolding edition1_answer edition1_table first_given
  is_old = refl

  pub is_new : card_answer b ≡ new (has_edition b) (card_mark_good b) (card_long_enough b) (first_given (drop 3 card_table) b)
  unfolding card_answer card_table first_given
  is_new = refl

  -- ---- what changes

  -- a good mark is of edition 1, or of edition 2
  pub of_either : card_mark_good b ≡ true → (number_at b 2 ≡ 1) ⊎ OfEdition2 b
  unfolding card_mark_good
  of_either e = let (m, n) = both (marked 0x41 b) _ e in go m (eqb (number_at b 2) 1) refl n
    where
      go : marked 0x41 b ≡ true → (t : Bool) → eqb (number_at b 2) 1 ≡ t → (t || eqb (number_at b 2) 2) ≡ true → (number_at b 2 ≡ 1) ⊎ OfEdition2 b
      go m true f n = inl (eqb-true _ _ f)
      go m false f n = inr (m, eqb-true _ _ n)

  -- and one of edition 1 is good exactly if it was
  mark_same : number_at b 2 ≡ 1 → card_mark_good b ≡ edition1_mark_good b
  unfolding card_mark_good
  mark_same e = let one : eqb (number_at b 2) 1 ≡ true = eq-eqb _ _ e in rw one

  mark_wrong : card_mark_good b ≡ false → edition1_mark_good b ≡ false
  unfolding card_mark_good
  mark_wrong = go (marked 0x41 b) (eqb (number_at b 2) 1) (eqb (number_at b 2) 2)
    where
      go : (m t u : Bool) → m && (t || u) ≡ false → m && t ≡ false
      go true true u e = e
      go true false u e = refl
      go false t u e = refl

  four : edition1_long_enough b ≡ true → has_edition b ≡ true
  unfolding has_edition
  four e = let h : 64 ≤ length b = leb-true 64 (length b) e in le-leb 4 (length b) (omega arith)

  -- document 01 had no edition 2
  not-before : number_at b 2 ≡ 2 → edition1_mark_good b ≡ false
  not-before e = let two : eqb (number_at b 2) 1 ≡ false = ne_eqb (number_at b 2) 1 (λ h. omega arith) in go (marked 0x41 b) two
    where
      go : (m : Bool) → eqb (number_at b 2) 1 ≡ false → m && eqb (number_at b 2) 1 ≡ false
      go true f = f
      go false f = refl

  pub new_edition : OfEdition2 b → (edition1_answer b ≡ Err Refusal.Short) ⊎ (edition1_answer b ≡ Err Refusal.Mark)
  new_edition (m, e) = ⊎_elim (λ f. inl (is_old ∙ f)) (λ f. inr (is_old ∙ f)) (old_wrong (edition1_long_enough b) (edition1_mark_good b) (first_given (drop 2 edition1_table) b) (not-before e))

  pub wrong_and_short : WrongAndShort b → (edition1_answer b ≡ Err Refusal.Short) × (card_answer b ≡ Err Refusal.Mark)
  unfolding has_edition
  wrong_and_short (f, (s, m)) =
      (is_old ∙ old_short (edition1_long_enough b) (edition1_mark_good b) (first_given (drop 2 edition1_table) b) (lt-leb 64 (length b) s), is_new ∙ new_wrong (has_edition b) (card_mark_good b) (card_long_enough b) (first_given (drop 3 card_table) b) (le-leb 4 (length b) f) m)

  pub only : (card_answer b ≡ edition1_answer b) ⊎ (OfEdition2 b ⊎ WrongAndShort b)
  unfolding has_edition
  only = go (card_mark_good b) refl
    where
      -- where a good mark is of edition 1
      told : (card_mark_good b ≡ true → number_at b 2 ≡ 1) → (card_answer b ≡ edition1_answer b) ⊎ (OfEdition2 b ⊎ WrongAndShort b)
      told one = ⊎_elim
          (λ e. inl (is_new ∙ e ∙ sym is_old))
          (λ (f, (s, m)). inr (inr (leb-true 4 (length b) f, (leb-false 64 (length b) s, m))))
          (alike (has_edition b) (card_mark_good b) (card_long_enough b) (edition1_mark_good b) (edition1_long_enough b) (first_given (drop 3 card_table) b) (first_given (drop 2 edition1_table) b)
          four (λ m. (sym (mark_same (one m)) ∙ m, (long_same (one m), rest_same (one m)))) mark_wrong)

      go : (t : Bool) → card_mark_good b ≡ t → (card_answer b ≡ edition1_answer b) ⊎ (OfEdition2 b ⊎ WrongAndShort b)
      go true e = ⊎_elim (λ one. told (λ m. one)) (λ two. inr (inl two)) (of_either e)
      go false e = told (λ m. absurd (false≢true (sym e ∙ m)))

  pub card_changes : CardChanges b
  card_changes = record {
    none_added = λ e d. ⊎_elim (λ s. sym s ∙ d) (⊎_elim (λ (m, n). absurd (omega arith)) (λ w. absurd (done≢refused (sym d ∙ (wrong_and_short w).1)))) only;
    refused = λ e h. ⊎_elim (λ s. s) (⊎_elim (λ (m, n). absurd (omega arith)) (λ (f, (s, m)). absurd (omega arith))) only;
    only = only;
    wrong_and_short = wrong_and_short;
    new_edition = new_edition;
  }

  -- what document 01 accepts is of edition 1
  pub was_edition1 : edition1_answer b ≡ Ok tt → number_at b 2 ≡ 1
  unfolding edition1_answer edition1_table
  was_edition1 d =
      let m : edition1_mark_good b ≡ true = not-false _ (row_passed b edition1_table d 1) in
      eqb-true _ _ (both (marked 0x41 b) _ m).1
