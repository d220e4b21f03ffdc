-- The rules of a sheet, test by test, as the code makes them.
use mathlib.Core.Path.{◌≡◌, refl, sym, ap, ◌∙◌}
use mathlib.Core.Bool.{Bool, true, false, ◌&&◌, ◌||◌}
use mathlib.Core.List.{[], ◌∷◌}
use Prim.Native.Nat.{ℕ, ◌+◌, ◌*◌, ◌-◌, ◌≤◌, ◌<◌}
use native.Mathlib.Omega.{arith}
use borrow.Author.Tests.{le-leb, lt-leb, leb-true, leb-false, eq-eqb, ne_eqb, eqb-true}
use lib.Dec.{leb, eqb}
use lib.ListN.{length}
use Rattle.paper.proofs.Relation.{both, false≢true}
use Rattle.meaning.specs.Card.{Bytes, number_at, part}
use Rattle.meaning.specs.Refusals.{every}
use Rattle.meaning.proofs.Every.{every_at, every_of}
use Rattle.utf8.specs.Reading.{utf8}
use Rattle.names.specs.Sheets.{offset_at, name_span, bytes_of, head_good, name_good, sheet_good, shed_good}

module _ (least n : ℕ) (s : Bytes) where
  pub sheet_short : length s < 2 * n + 4 → false ≡ sheet_good least n s
  unfolding sheet_good
  sheet_short h = sym (ap (λ t. t && (head_good n s && every n (name_good least s))) (lt-leb (2 * n + 4) (length s) h))

  module _ (room : 2 * n + 4 ≤ length s) where
    sheet_by : head_good n s && every n (name_good least s) ≡ sheet_good least n s
    unfolding sheet_good
    sheet_by = sym (ap (λ t. t && (head_good n s && every n (name_good least s))) (le-leb (2 * n + 4) (length s) room))

    pub head_wrong : head_good n s ≡ false → false ≡ sheet_good least n s
    head_wrong e = sym (ap (λ t. t && every n (name_good least s)) e) ∙ sheet_by

    pub head_right : head_good n s ≡ true → every n (name_good least s) ≡ sheet_good least n s
    head_right e = sym (ap (λ t. t && every n (name_good least s)) e) ∙ sheet_by

pub head_last : (n : ℕ) (s : Bytes) → head_good n s ≡ true → offset_at s n ≡ length s
head_last n s e = eqb-true _ _ (both (eqb (offset_at s 0) (2 * n + 4)) _ (both (eqb (number_at s 0) n) _ e).1).1

module _ (n : ℕ) (s : Bytes) where
  pub shed_none : length s ≡ 0 → true ≡ shed_good n s
  unfolding shed_good
  shed_none e = sym (ap (λ t. t || sheet_good 0 n s) (eq-eqb (length s) 0 e))

  pub shed_some : (length s ≡ 0 → ⊥) → sheet_good 0 n s ≡ shed_good n s
  unfolding shed_good
  shed_some e = sym (ap (λ t. t || sheet_good 0 n s) (ne_eqb (length s) 0 e))

-- ---- the names, from the last to the first

-- one that is wrong
pub not_every : (t : ℕ → Bool) (n i : ℕ) → i < n → t i ≡ false → false ≡ every n t
not_every t n i h e = go (every n t) refl
  where
    go : (u : Bool) → every n t ≡ u → false ≡ every n t
    go true f = absurd (false≢true (sym e ∙ every_at t n i f h))
    go false f = sym f

-- the name in front of offset i: from and to are its offsets as they are read
module _ (least : ℕ) (s : Bytes) (i from to : ℕ) (h : 0 < i) (from_is : from ≡ offset_at s (i - 1)) (et : to ≡ offset_at s i) where
  to_is : to ≡ offset_at s (i - 1 + 1)
  to_is = et ∙ (let e : i ≡ i - 1 + 1 = omega arith in ap (offset_at s) e)

  pub name_falls : to < from + least → name_good least s (i - 1) ≡ false
  name_falls l =
      let e : leb (offset_at s (i - 1) + least) (offset_at s (i - 1 + 1)) ≡ false = sym (λ j. leb (from_is j + least) (to_is j)) ∙ lt-leb (from + least) to l in
      ap (λ t. t && utf8 (bytes_of s (name_span s (i - 1)))) e

  module _ (l : from + least ≤ to) where
    name_by : name_good least s (i - 1) ≡ utf8 (part s from (to - from))
    name_by =
        let e : leb (offset_at s (i - 1) + least) (offset_at s (i - 1 + 1)) ≡ true = sym (λ j. leb (from_is j + least) (to_is j)) ∙ le-leb (from + least) to l in
        ap (λ t. t && utf8 (bytes_of s (name_span s (i - 1)))) e ∙ sym (λ j. utf8 (part s (from_is j) (to_is j - from_is j)))

    pub name_wrong : utf8 (part s from (to - from)) ≡ false → name_good least s (i - 1) ≡ false
    name_wrong e = name_by ∙ e

    pub name_right : utf8 (part s from (to - from)) ≡ true → name_good least s (i - 1) ≡ true
    name_right e = name_by ∙ e

-- all of them, once none is left
pub all_right : (least n : ℕ) (s : Bytes) (i : ℕ) → i ≡ 0 → ((j : ℕ) → i ≤ j → j < n → name_good least s j ≡ true) → true ≡ every n (name_good least s)
all_right least n s i e h = sym (every_of (name_good least s) n (λ j l. h j (omega arith) l))

-- from the name in front of offset i on
pub one_more : (least n : ℕ) (s : Bytes) (i : ℕ) → 0 < i → name_good least s (i - 1) ≡ true → ((j : ℕ) → i ≤ j → j < n → name_good least s j ≡ true)
    → (j : ℕ) → i - 1 ≤ j → j < n → name_good least s j ≡ true
one_more least n s i p here later j h l = go (leb i j) refl
  where
    go : (t : Bool) → leb i j ≡ t → name_good least s j ≡ true
    go true e = later j (leb-true i j e) l
    go false e =
        let f = leb-false i j e in
        let k : j ≡ i - 1 = omega arith in
        ap (name_good least s) k ∙ here

-- ---- the part that holds a name

pub span_none : (s : Bytes) (a : ℕ) → length s ≡ 0 → record { start = 0; length = 0 } ≡ name_span s a
span_none [] a e = refl
span_none (x ∷ s) a e = absurd (omega arith)

-- from and to are its offsets as they are read
module _ (s : Bytes) (a from to : ℕ) (ef : from ≡ number_at s (2 + 2 * a)) (et : to ≡ number_at s (4 + 2 * a)) where
  to_next : to ≡ offset_at s (a + 1)
  to_next = et ∙ (let e : 4 + 2 * a ≡ 2 + 2 * (a + 1) = omega arith in ap (number_at s) e)

  pub span_is : record { start = from; length = to - from } ≡ name_span s a
  span_is = (λ j. record { start = ef j; length = to_next j - ef j })

  pub span_rises : offset_at s a ≤ offset_at s (a + 1) → from ≤ to
  span_rises h = let e = to_next in omega (arith, ef, e, h)
