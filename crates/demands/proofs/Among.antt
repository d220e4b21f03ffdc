-- The numbers that a table of refusals may answer: 0 and those of its rows.
use mathlib.Core.Path.{◌≡◌, refl, sym}
use mathlib.Core.Logic.{⊎_elim}
use mathlib.Core.Bool.{Bool, true, false, ◌||◌}
use mathlib.Core.List.Memᴰ
use mathlib.Core.List.{List, [], ◌∷◌, ◌++◌, Memᴰ}
use Prim.Native.Nat.{ℕ}
use lib.Dec.{eqb}
use borrow.Author.Tests.{eqb-true, eqb-false}
use Rattle.paper.proofs.Relation.{both, false≢true}
use Rattle.meaning.specs.Answers.{Answer}
use Rattle.std.specs.Prelude.{Ok, Err}
use Rattle.meaning.specs.declared.Configuration.{Configuration}
use Rattle.meaning.specs.Card.{Bytes, layout}
use Rattle.meaning.specs.Refusals.{answer_number, Row, first_given, and_then, all, card_table, card_answer, place_table, place_answer, configuration_table, configuration_answer}
use Rattle.meaning.specs.Theorems.{row_numbers}
use Rattle.meaning.proofs.Tables.{given, not_given, table_order}
use Rattle.demands.specs.Demands.{done_or_card}

-- ---- explicit lists

-- whether a number stands in a list
abbrev stands : List ℕ → ℕ → Bool
stands [] n = false
stands (x ∷ xs) n = eqb n x || stands xs n

stands_in : (xs : List ℕ) (n : ℕ) → stands xs n ≡ true → Memᴰ n xs
stands_in [] n e = absurd (false≢true e)
stands_in (x ∷ xs) n e = go (eqb n x) refl (stands_in xs n)
  where
    go : (t : Bool) → eqb n x ≡ t → (stands xs n ≡ true → Memᴰ n xs) → Memᴰ n (x ∷ xs)
    go true h ih = Memᴰ.head (eqb-true n x h)
    go false h ih = Memᴰ.tail (ih (rw h at e))

-- every number of a list stands in another
pub wider : (xs ys : List ℕ) → all (stands ys) xs ≡ true → {n : ℕ} → Memᴰ n xs → Memᴰ n ys
wider [] ys e i = absurd (Memᴰ.not-nil i)
wider (x ∷ xs) ys e {n} i =
    let (h, t) = both (stands ys x) _ e in
    ⊎_elim (λ q. rw q (stands_in ys x h)) (wider xs ys t) (Memᴰ.cases_cons i)

pub outside : (xs : List ℕ) (n : ℕ) → stands xs n ≡ false → Memᴰ n xs → ⊥
outside [] n e i = Memᴰ.not-nil i
outside (x ∷ xs) n e i = go (eqb n x) refl (outside xs n)
  where
    go : (t : Bool) → eqb n x ≡ t → (stands xs n ≡ false → Memᴰ n xs → ⊥) → ⊥
    go true h ih = false≢true (sym (rw h at e))
    go false h ih = ⊎_elim (eqb-false n x h) (ih (rw h at e)) (Memᴰ.cases_cons i)

-- ---- tables

among : {X : Type 0} (rows : List (Row X)) (x : X) → Memᴰ (answer_number (first_given rows x)) (0 ∷ row_numbers rows x)
unfolding first_given answer_number
among [] x = Memᴰ.head refl
among (q ∷ rows) x = go (q.when x) refl (among rows x)
  where
    go : (t : Bool) → q.when x ≡ t → Memᴰ (answer_number (first_given rows x)) (0 ∷ row_numbers rows x)
        → Memᴰ (answer_number (first_given (q ∷ rows) x)) (0 ∷ row_numbers (q ∷ rows) x)
    go true h ih = rw (given q rows x h) (Memᴰ.tail (Memᴰ.head refl))
    go false h ih = rw (not_given q rows x h) (⊎_elim Memᴰ.head (λ m. Memᴰ.tail (Memᴰ.tail m)) (Memᴰ.cases_cons ih))

pub and_then_among : (a a' : Answer) (ns : List ℕ) → Memᴰ (answer_number a) ns → Memᴰ (answer_number a') ns → Memᴰ (answer_number (and_then a a')) ns
and_then_among (Ok _) a' ns h g = g
and_then_among (Err r) a' ns h g = h

-- the numbers of a table's rows, as they are listed
pub listed : {X : Type 0} (rows : List (Row X)) (x : X) (ns : List ℕ) → row_numbers rows x ≡ ns → Memᴰ (answer_number (first_given rows x)) (0 ∷ ns)
listed rows x ns e = rw e at (among rows x)

pub card_among : (b : Bytes) → Memᴰ (answer_number (card_answer b)) done_or_card
unfolding card_answer done_or_card
card_among b = wider _ done_or_card refl (listed card_table b _ (table_order.card b))

pub place_among : (b p : Bytes) → Memᴰ (answer_number (place_answer b p)) done_or_card
unfolding place_answer done_or_card
place_among b p =
    let rows = place_table (layout b) in
    and_then_among (card_answer b) (first_given rows p) done_or_card (card_among b) (wider _ done_or_card refl (listed rows p _ (table_order.place (layout b) p)))

pub configuration_among : (b : Bytes) (c : Configuration) → Memᴰ (answer_number (configuration_answer b c)) (done_or_card ++ (13 ∷ []))
unfolding configuration_answer done_or_card
configuration_among b c =
    let rows = configuration_table (layout b) in
    let numbers = done_or_card ++ (13 ∷ []) in
    and_then_among (card_answer b) (first_given rows c) numbers (wider done_or_card numbers refl (card_among b))
    (wider _ numbers refl (listed rows c _ (table_order.configuration (layout b) c)))
