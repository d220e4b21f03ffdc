-- The card that a text stands for is judged by the rows 3 and 5 to 9 alone.
use mathlib.Core.Path.{◌≡◌, refl, ap, sym, ◌∙◌}
use mathlib.Core.Bool.{Bool, true, false, not}
use mathlib.Core.List.{List, [], ◌∷◌, ◌++◌, flatten}
use Prim.Native.Nat.{ℕ, ◌+◌, ◌-◌, ◌*◌, ◌/◌, ◌%◌, ◌≤◌}
use native.Mathlib.Omega.{arith}
use borrow.Author.Tests.{leb-true, le-leb, eq-eqb}
use lib.Dec.{eqb}
use lib.ListN.{length}
use Rattle.paper.proofs.Relation.{both, false≢true}
use Rattle.meaning.specs.declared.Refusal.{Refusal}
use Rattle.meaning.specs.declared.Layout.{Layout}
use Rattle.std.specs.Prelude.{Err}
use Rattle.meaning.specs.Sizes.{edition_set}
use Rattle.meaning.specs.Card.{Bytes, layout}
use Rattle.meaning.specs.Refusals.{number_of, Row, first_given, all, has_edition, card_long_enough, card_mark_good, offsets_good, card_table, card_answer}
use Rattle.meaning.specs.Theorems.{row_numbers}
use Rattle.meaning.proofs.Tables.{done≢refused, refused_inj, given, not_given}
use Rattle.notation.specs.Conditions.{trees_of}
use Rattle.notation.specs.Lines.{Said, conditions}
use Rattle.notation.specs.Built.{sizes, pool, built}
use Rattle.notation.specs.Reading.{numbers_fit, entries_fit}
use Rattle.notation.specs.Theorems.{rows_of_text, BuiltLaws, BuiltLaw, TextRowsLaw}
use Rattle.notation.specs.Making.{header_of, sections_of}
use Rattle.notation.proofs.MadeLists.{six_true}
use Rattle.notation.proofs.MadeBuilt.{built_length, built_room, built_header}
use Rattle.notation.proofs.MadeWhole.{made_said}
use Rattle.notation.proofs.MadeFits.{numbers_each, entries_each, pool_counted}

-- ---- a number in two bytes

pub two : (n : ℕ) → n ≤ 65535 → n % 256 + 256 * (n / 256 % 256) ≡ n
two n h = omega arith

-- ---- the layout that a header tells

abbrev pub layout_of : ℕ → ℕ → ℕ → ℕ → ℕ → ℕ → ℕ → ℕ → ℕ → Layout
layout_of atoms actions nodes specifications selections revisions pool start len =
    let nodes_at : ℕ = 64 + 2 * actions in
    let specifications_at : ℕ = nodes_at + 4 * nodes in
    let selections_at : ℕ = specifications_at + 36 * specifications in
    let revisions_at : ℕ = selections_at + 8 * selections in
    let pool_at : ℕ = revisions_at + 12 * revisions in
    record {
      edition = 1;
      atoms = atoms;
      actions = actions;
      nodes = record { count = nodes; offset = nodes_at };
      specifications = record { count = specifications; offset = specifications_at };
      selections = record { count = selections; offset = selections_at };
      revisions = record { count = revisions; offset = revisions_at };
      pool = record { count = pool; offset = pool_at };
      initial = record { start = start; length = len };
    }

module _ (atoms actions nodes specifications selections revisions pool start len : ℕ) (rest : Bytes) where
  header_layout : atoms ≤ 65535 → 64 + 2 * actions + 4 * nodes + 36 * specifications + 8 * selections + 12 * revisions ≤ 65535
      → pool ≤ 65535 → start ≤ 65535 → len ≤ 65535
      → layout (header_of atoms actions nodes specifications selections revisions pool start len ++ rest)
      ≡ layout_of atoms actions nodes specifications selections revisions pool start len
  unfolding layout header_of flatten
  header_layout a b c d e =
      let nodes_at : ℕ = 64 + 2 * actions in
      let specifications_at : ℕ = nodes_at + 4 * nodes in
      let selections_at : ℕ = specifications_at + 36 * specifications in
      let revisions_at : ℕ = selections_at + 8 * selections in
      let pool_at : ℕ = revisions_at + 12 * revisions in
      let w = two atoms a in
      let x = two actions (omega arith) in
      let n = two nodes (omega arith) in
      let n' = two nodes_at (omega arith) in
      let p = two specifications (omega arith) in
      let p' = two specifications_at (omega arith) in
      let l = two selections (omega arith) in
      let l' = two selections_at (omega arith) in
      let v = two revisions (omega arith) in
      let v' = two revisions_at (omega arith) in
      let q = two pool c in
      let q' = two pool_at b in
      let s = two start d in
      let t = two len e in
      λ i. record {
        edition = 1;
        atoms = w i;
        actions = x i;
        nodes = record { count = n i; offset = n' i };
        specifications = record { count = p i; offset = p' i };
        selections = record { count = l i; offset = l' i };
        revisions = record { count = v i; offset = v' i };
        pool = record { count = q i; offset = q' i };
        initial = record { start = s i; length = t i };
      }

  -- its offsets are the required ones, if the card ends with the pool
  offsets_good_lem : (n : ℕ) → n ≡ 64 + 2 * actions + 4 * nodes + 36 * specifications + 8 * selections + 12 * revisions + pool
      → offsets_good (layout_of atoms actions nodes specifications selections revisions pool start len) n ≡ true
  unfolding offsets_good edition_set
  offsets_good_lem n h =
      let nodes_at : ℕ = 64 + 2 * actions in
      let specifications_at : ℕ = nodes_at + 4 * nodes in
      let selections_at : ℕ = specifications_at + 36 * specifications in
      let revisions_at : ℕ = selections_at + 8 * selections in
      let pool_at : ℕ = revisions_at + 12 * revisions in
      six_true (eqb nodes_at nodes_at) (eqb specifications_at specifications_at) (eqb selections_at selections_at)
      (eqb revisions_at revisions_at) (eqb pool_at pool_at) (eqb n (pool_at + 1 * pool))
      (eq-eqb nodes_at nodes_at refl) (eq-eqb specifications_at specifications_at refl) (eq-eqb selections_at selections_at refl)
      (eq-eqb revisions_at revisions_at refl) (eq-eqb pool_at pool_at refl) (eq-eqb n (pool_at + 1 * pool) (omega arith))

  mark_good : card_mark_good (header_of atoms actions nodes specifications selections revisions pool start len ++ rest) ≡ true
  unfolding card_mark_good header_of flatten
  mark_good = refl

-- ---- rows that are passed, and rows that are not there

-- the rows of a table that starts with five of which only the fourth may be given
fourth_alone : (o p q r t : Row Bytes) (rows : List (Row Bytes)) (b : Bytes)
    → o.when b ≡ false → p.when b ≡ false → q.when b ≡ false → t.when b ≡ false
    → first_given (o ∷ p ∷ q ∷ r ∷ t ∷ rows) b ≡ first_given (r ∷ rows) b
fourth_alone o p q r t rows b d e f g =
    not_given o (p ∷ q ∷ r ∷ t ∷ rows) b d ∙ not_given p (q ∷ r ∷ t ∷ rows) b e ∙ not_given q (r ∷ t ∷ rows) b f ∙ by_fourth (r.when b) refl
  where
    by_fourth : (v : Bool) → r.when b ≡ v → first_given (r ∷ t ∷ rows) b ≡ first_given (r ∷ rows) b
    by_fourth true h = given r (t ∷ rows) b h ∙ sym (given r rows b h)
    by_fourth false h = not_given r (t ∷ rows) b h ∙ not_given t rows b g ∙ sym (not_given r rows b h)

-- a number that no row has is not answered
not_among : (rows : List (Row Bytes)) (b : Bytes) (r : Refusal) → all (λ n. not (eqb n (number_of r))) (row_numbers rows b) ≡ true
    → first_given rows b ≡ Err r → ⊥
unfolding first_given
not_among [] b r a e = done≢refused e
not_among (q ∷ rows) b r a e = by_row (q.when b) refl (not_among rows b r rest.1)
  where
    rest : (not (eqb (number_of (q.refusal b)) (number_of r)) ≡ true) × (all (λ n. not (eqb n (number_of r))) (row_numbers rows b) ≡ true)
    rest = both (not (eqb (number_of (q.refusal b)) (number_of r))) (all (λ n. not (eqb n (number_of r))) (row_numbers rows b)) a

    by_row : (v : Bool) → q.when b ≡ v → (first_given rows b ≡ Err r → ⊥) → ⊥
    by_row true h f =
        let same : q.refusal b ≡ r = refused_inj (sym (given q rows b h) ∙ e) in
        let equal : eqb (number_of (q.refusal b)) (number_of r) ≡ true = eq-eqb (number_of (q.refusal b)) (number_of r) (ap number_of same) in
        false≢true (rw equal at rest.0)
    by_row false h f = f (sym (not_given q rows b h) ∙ e)

pub text_rows : TextRowsLaw
unfolding rows_of_text card_table number_of
text_rows b = refl

-- ---- the card

module _ (s : Said) (n : numbers_fit s ≡ true) (e : entries_fit s ≡ true) where
  has_edition_lem : has_edition (built s) ≡ true
  unfolding has_edition
  has_edition_lem = le-leb 4 (length (built s)) (omega (arith, built_length s n e))

  marked_good : card_mark_good (built s) ≡ true
  marked_good = rw (built_header s n e) (mark_good s.atoms _ _ _ _ _ _ _ _ _)

  pub built_layout : layout (built s)
      ≡ layout_of s.atoms (length s.weights) (sizes (trees_of (conditions s))) (length s.dos) (length s.selects) (length s.revises)
      (length (pool s)) (length (pool s) - length s.begin.plan) (length s.begin.plan)
  built_layout =
      ap layout (built_header s n e)
      ∙ header_layout s.atoms (length s.weights) (sizes (trees_of (conditions s))) (length s.dos) (length s.selects) (length s.revises)
      (length (pool s)) (length (pool s) - length s.begin.plan) (length s.begin.plan) ((made_said s).sets ++ sections_of (made_said s))
      (leb-true s.atoms 65535 (numbers_each s n).0) (omega (arith, entries_each s e)) (omega (arith, entries_each s e))
      (omega (arith, entries_each s e)) (omega (arith, entries_each s e, pool_counted s))

  pub edition_said : (layout (built s)).edition ≡ 1
  edition_said = ap (λ l. l.edition) built_layout

  long_enough : card_long_enough (built s) ≡ true
  unfolding card_long_enough edition_set
  long_enough = rw edition_said (le-leb 64 (length (built s)) (omega (arith, built_length s n e)))

  offsets_kept : offsets_good (layout (built s)) (length (built s)) ≡ true
  offsets_kept =
      rw built_layout
      (offsets_good_lem s.atoms (length s.weights) (sizes (trees_of (conditions s))) (length s.dos) (length s.selects) (length s.revises)
      (length (pool s)) (length (pool s) - length s.begin.plan) (length s.begin.plan) [] (length (built s)) (built_length s n e))

  by_text_rows : card_answer (built s) ≡ first_given rows_of_text (built s)
  unfolding card_answer card_table rows_of_text
  by_text_rows = fourth_alone _ _ _ _ _ _ (built s) (rw has_edition_lem) (rw marked_good) (rw long_enough) (rw offsets_kept)

  built_laws : BuiltLaws s
  unfolding rows_of_text card_table number_of
  built_laws = record {
    judged = by_text_rows;
    not_short = λ h. not_among rows_of_text (built s) Refusal.Short refl (sym by_text_rows ∙ h);
    not_unmarked = λ h. not_among rows_of_text (built s) Refusal.Mark refl (sym by_text_rows ∙ h);
    not_displaced = λ h. not_among rows_of_text (built s) Refusal.Offsets refl (sym by_text_rows ∙ h);
    room = built_room s n e;
    edition = edition_said;
  }

pub built_law : BuiltLaw
built_law s f = built_laws s (both (numbers_fit s) (entries_fit s) f).0 (both (numbers_fit s) (entries_fit s) f).1
