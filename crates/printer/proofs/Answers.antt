-- What printing answers, row by row.
use mathlib.Core.Path.{◌≡◌, refl, sym, ap, ◌∙◌}
use mathlib.Core.Bool.{Bool, true, false, not}
use mathlib.Core.List.{List, [], ◌∷◌}
use Prim.Native.Nat.{ℕ, min, ◌+◌, ◌≤◌, ◌<◌}
use native.Mathlib.Omega.{arith}
use borrow.Author.Tests.{le-leb, lt-leb, leb-true, leb-false, ltb-true}
use lib.Dec.{leb, ltb}
use lib.ListN.{length}
use Rattle.meaning.specs.declared.Refusal.{Refusal}
use Rattle.meaning.specs.Answers.{Answer}
use Rattle.std.specs.Prelude.{Ok, Err}
use Rattle.meaning.specs.declared.Layout.{Layout}
use Rattle.meaning.specs.Trees.{Tree}
use Rattle.meaning.specs.Card.{Bytes, layout, tree_at}
use Rattle.meaning.specs.Refusals.{Row, ◌given_when◌, first_given, and_then}
use Rattle.meaning.specs.Calls.{over, room_for, checks, count_by, leaves_by}
use Rattle.meaning.proofs.Tables.{given, not_given, and_then_done}
use Rattle.meaning.proofs.Calls.{good_judged, refused_judged}
use Rattle.card.specs.Rows.{row_answer, rows_from}
use Rattle.card.specs.GoodCard.{GoodCard}
use Rattle.card.proofs.Rows.{row_done, no_row}
use Rattle.notation.specs.Built.{size}
use Rattle.notation.specs.Printing.{depth_of, print_table, printed, print_answer, print_count, print_leaves, Prints}
use Rattle.printer.specs.Measures.{Right}
use Rattle.printer.specs.Answers.{node_text, node_answer, NodePrinted}
use Rattle.printer.proofs.Writing.{short}

-- ---- a table whose first row is passed by a test, and the rows behind it

row_then : {X : Type 0} (r : Refusal) (good : X → Bool) (rows : List (Row X)) (x : X)
    → first_given ((r given_when (λ x. not (good x))) ∷ rows) x ≡ and_then (row_answer (good x) r) (first_given rows x)
row_then {X} r good rows x = go (good x) refl
  where
    q : Row X
    q = r given_when (λ x. not (good x))

    go : (t : Bool) → good x ≡ t → first_given (q ∷ rows) x ≡ and_then (row_answer (good x) r) (first_given rows x)
    go true e = not_given q rows x (ap not e) ∙ sym (ap (λ t. and_then (row_answer t r) (first_given rows x)) e)
    go false e = given q rows x (ap not e) ∙ sym (ap (λ t. and_then (row_answer t r) (first_given rows x)) e)

then_done : (a : Answer) → and_then a (Ok tt) ≡ a
then_done (Ok _) = refl
then_done (Err r) = refl

then_then : (a c d : Answer) → and_then (and_then a c) d ≡ and_then a (and_then c d)
then_then (Ok _) c d = refl
then_then (Err r) c d = refl

-- the room as one row
room_row : (xs out : Bytes) → room_for xs out ≡ row_answer (leb (length xs) (length out)) Refusal.NoRoom
room_row xs out = go (leb (length xs) (length out)) refl
  where
    go : (t : Bool) → leb (length xs) (length out) ≡ t → room_for xs out ≡ row_answer (leb (length xs) (length out)) Refusal.NoRoom
    go true e = rw (e, room_for)
    go false e = rw (e, room_for)

-- a capped number passes its row where the number does
capped_row : (n top : ℕ) → leb (min n (top + 1)) top ≡ leb n top
capped_row n top = go (leb n top) refl
  where
    go : (t : Bool) → leb n top ≡ t → leb (min n (top + 1)) top ≡ leb n top
    go true e = let h = leb-true n top e in le-leb (min n (top + 1)) top (omega arith) ∙ sym e
    go false e = let h = leb-false n top e in lt-leb (min n (top + 1)) top (omega arith) ∙ sym e

-- ---- a node of an accepted card

module _ (l : Layout) (b : Bytes) (n : ℕ) (out : Bytes) where
  abbrev t : Tree
  t = tree_at l b n

  rows_from_lem : rows_from 1 (print_table l b) n ≡ and_then (row_answer (leb (depth_of t) 32) Refusal.Nested) (row_answer (leb (size t) 256) Refusal.Large)
  unfolding rows_from print_table
  rows_from_lem =
      row_then Refusal.Nested (λ n. leb (depth_of (tree_at l b n)) 32) _ n
      ∙ ap (and_then (row_answer (leb (depth_of t) 32) Refusal.Nested))
      (row_then Refusal.Large (λ n. leb (size (tree_at l b n)) 256) [] n ∙ ap (and_then (row_answer (leb (size t) 256) Refusal.Large)) (no_row n) ∙ then_done _)

  table_rows : first_given (print_table l b) n ≡ and_then (row_answer (ltb n l.nodes.count) Refusal.Rule) (rows_from 1 (print_table l b) n)
  unfolding rows_from print_table
  table_rows = row_then Refusal.Rule (λ n. ltb n l.nodes.count) _ n

  -- the answer of the measures
  abbrev measured : ℕ → ℕ → Answer
  measured s d = and_then (row_answer (leb d 32) Refusal.Nested) (row_answer (leb s 256) Refusal.Large)

  module _ (s d m : ℕ) (right : Right 257 t s d m) where
    judged : measured s d ≡ rows_from 1 (print_table l b) n
    judged =
        let e : leb d 32 ≡ leb (depth_of t) 32 = ap (λ d. leb d 32) right.depth ∙ capped_row (depth_of t) 32 in
        let f : leb s 256 ≡ leb (size t) 256 = ap (λ s. leb s 256) right.size ∙ capped_row (size t) 256 in
        (λ i. and_then (row_answer (e i) Refusal.Nested) (row_answer (f i) Refusal.Large)) ∙ sym rows_from_lem

    by_judged : node_answer l b n out ≡ and_then (measured s d) (room_for (node_text l b n) out)
    unfolding node_answer
    by_judged = ap (λ a. and_then a (room_for (node_text l b n) out)) (sym judged)

    -- refused by 18 or 25
    pub judged_refused : (r : Refusal) → ◌≡◌ {A = Answer} (Err r) (measured s d) → ◌≡◌ {A = Answer} (Err r) (node_answer l b n out)
    judged_refused r e = sym (by_judged ∙ ap (λ a. and_then a (room_for (node_text l b n) out)) (sym e))

    module _ (card : GoodCard l b) (known : n < l.nodes.count) (done : ◌≡◌ {A = Answer} (Ok tt) (measured s d)) where
      pub few_nodes : size t ≤ 256
      few_nodes =
          let g = (and_then_done (row_answer (leb d 32) Refusal.Nested) (row_answer (leb s 256) Refusal.Large) (sym done)).1 in
          let h = leb-true s 256 (row_done (leb s 256) Refusal.Large g) in
          let e = right.size in
          omega arith

      pub shallow : depth_of t ≤ 32
      shallow =
          let g = (and_then_done (row_answer (leb d 32) Refusal.Nested) (row_answer (leb s 256) Refusal.Large) (sym done)).0 in
          let h = leb-true d 32 (row_done (leb d 32) Refusal.Nested g) in
          let e = right.depth in
          omega arith

      pub whole_length : m ≡ length (node_text l b n)
      whole_length =
          let h = short l b card n known few_nodes in
          let e = right.length in
          omega arith

      pub room_answer : row_answer (leb m (length out)) Refusal.NoRoom ≡ node_answer l b n out
      room_answer =
          ap (λ k. row_answer (leb k (length out)) Refusal.NoRoom) whole_length
          ∙ sym (room_row (node_text l b n) out)
          ∙ sym (by_judged ∙ ap (λ a. and_then a (room_for (node_text l b n) out)) (sym done))

      pub room_fits : ◌≡◌ {A = Answer} (Ok tt) (row_answer (leb m (length out)) Refusal.NoRoom) → length (node_text l b n) ≤ length out
      room_fits e =
          let h = leb-true m (length out) (row_done (leb m (length out)) Refusal.NoRoom (sym e)) in
          let w = whole_length in
          omega arith

  -- the count and the lent buffer, by the answer
  pub refused_leaves : (r : Refusal) → ◌≡◌ {A = Answer} (Err r) (node_answer l b n out) → NodePrinted l b n out (Err r) 0 out
  refused_leaves r so = record { answer = so; count = ap (λ a. count_by a (node_text l b n)) so; leaves = ap (λ a. leaves_by a (node_text l b n) out) so }

  pub done_leaves : ◌≡◌ {A = Answer} (Ok tt) (node_answer l b n out)
      → (m : ℕ) (out' : Bytes) → m ≡ length (node_text l b n) → out' ≡ over (node_text l b n) out → NodePrinted l b n out (Ok tt) m out'
  done_leaves so m out' c w =
      record { answer = so; count = c ∙ ap (λ a. count_by a (node_text l b n)) so; leaves = w ∙ ap (λ a. leaves_by a (node_text l b n) out) so }

-- ---- any card

module _ (b : Bytes) (n : ℕ) (out : Bytes) where
  refused : (r : Refusal) → print_answer b n out ≡ Err r → Prints b n out (Err r) 0 out
  unfolding print_count print_leaves
  refused r e = record { answer = sym e; counted = ap (λ a. count_by a (printed b n)) (sym e); leaves = ap (λ a. leaves_by a (printed b n) out) (sym e) }

  pub card_refused : (r : Refusal) → checks b ≡ Err r → Prints b n out (Err r) 0 out
  unfolding print_answer
  card_refused r e =
      refused r (ap (λ a. and_then a (and_then (first_given (print_table (layout b) b) n) (room_for (printed b n) out))) (refused_judged b r e))

  module _ (l : Layout) (e : checks b ≡ Ok l) where
    text_is : printed b n ≡ node_text l b n
    unfolding printed
    text_is = ap (λ (l : Layout). node_text l b n) (sym (good_judged b l e).1)

    answer_is : print_answer b n out ≡ and_then (row_answer (ltb n l.nodes.count) Refusal.Rule) (node_answer l b n out)
    unfolding print_answer node_answer
    answer_is =
        let (d, s) = good_judged b l e in
        ap (λ a. and_then a (and_then (first_given (print_table (layout b) b) n) (room_for (printed b n) out))) d
        ∙ (λ i. and_then (first_given (print_table (sym s i) b) n) (room_for (text_is i) out))
        ∙ ap (λ a. and_then a (room_for (node_text l b n) out)) (table_rows l b n out)
        ∙ then_then (row_answer (ltb n l.nodes.count) Refusal.Rule) (rows_from 1 (print_table l b) n) (room_for (node_text l b n) out)

    by_row : (a : Answer) → a ≡ row_answer (ltb n l.nodes.count) Refusal.Rule → print_answer b n out ≡ and_then a (node_answer l b n out)
    by_row a row = answer_is ∙ ap (λ a. and_then a (node_answer l b n out)) (sym row)

    pub no_such_node : (r : Refusal) → ◌≡◌ {A = Answer} (Err r) (row_answer (ltb n l.nodes.count) Refusal.Rule) → Prints b n out (Err r) 0 out
    no_such_node r row = refused r (by_row (Err r) row)

    module _ (row : ◌≡◌ {A = Answer} (Ok tt) (row_answer (ltb n l.nodes.count) Refusal.Rule)) where
      pub such_node : n < l.nodes.count
      such_node = ltb-true n l.nodes.count (row_done (ltb n l.nodes.count) Refusal.Rule (sym row))

      pub node_printed : (a : Answer) (m : ℕ) (out' : Bytes) → NodePrinted l b n out a m out' → Prints b n out a m out'
      unfolding print_count print_leaves
      node_printed a m out' p =
          let f : node_answer l b n out ≡ print_answer b n out = sym (by_row (Ok tt) row) in
          let g : node_text l b n ≡ printed b n = sym text_is in
          record { answer = p.answer ∙ f; counted = p.count ∙ (λ i. count_by (f i) (g i)); leaves = p.leaves ∙ (λ i. leaves_by (f i) (g i) out) }
