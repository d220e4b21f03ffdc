-- The lines of a text, one behind the other.
use mathlib.Core.Path.{◌≡◌, refl, ap, sym, ◌∙◌, subst}
use mathlib.Core.List.{List, [], ◌∷◌, ◌++◌}
use mathlib.Core.Option.{Option, some}
use Prim.Native.Nat.{ℕ, zero, suc, ◌+◌, ◌-◌, ◌≤◌, ◌<◌}
use native.Mathlib.Omega.{arith}
use borrow.Author.Tests.{ne_eqb}
use lib.Dec.{eqb}
use lib.ListN.{length, drop, get_or, drop_of_length-le}
use Rattle.meaning.specs.Card.{Bytes}
use Rattle.notation.specs.Values.{Read, nested, got, then, behind_line, line_at, line_by, items_at, items_of, Item, number_item, do_item, select_item, revise_item}
use Rattle.notation.specs.Values.{begin_item}
use Rattle.notation.specs.Making.{nothing_made, items_in}
use Rattle.notation.specs.Making as Making
use Rattle.conditions.proofs.Numbers.{drop-cons}
use Rattle.lines.specs.declared.made.Made.{Made}
use Rattle.lines.specs.declared.parts.Placed.{Placed}
use Rattle.conditions.specs.declared.read.Nested.{Nested}
use Rattle.std.proofs.Common.{false, Result, Ok, Err}
use Rattle.std.specs.Prelude.{IsErr}
use Rattle.paper.proofs.Relation.{false≢true}
use Rattle.lines.specs.InPlace.{made_in}
use Rattle.lines.specs.Lines.{Held, ReadsPart, BehindLine, nothing, Blank, LinesRead}
use Rattle.lines.proofs.Placing.{if_no}
use Rattle.lines.proofs.Telling.{part_none}

-- ---- a note

pub line_note : (t : Bytes) (at next : ℕ) (m : Made) (d : Bytes) → Held m d → at < length t → BehindLine t at next
    → (x : ℕ) → (x ≡ 97 → ⊥) → (x ≡ 100 → ⊥) → (x ≡ 115 → ⊥) → (x ≡ 114 → ⊥) → (x ≡ 98 → ⊥)
    → ReadsPart items_in t (at + 1) (line_by x (drop at t)) m d (Ok (record { next = next; made = m })) d
unfolding line_at items_in
line_note t at next m d h inside b x a d' s r bg =
    let T : Bytes = drop at t in
    let e : line_by x T ≡ got [] (behind_line T) =
    if_no (eqb x 97) (number_item T) _ (ne_eqb x 97 a)
    ∙ if_no (eqb x 100) (do_item T) _ (ne_eqb x 100 d')
    ∙ if_no (eqb x 115) (select_item T) _ (ne_eqb x 115 s)
    ∙ if_no (eqb x 114) (revise_item T) _ (ne_eqb x 114 r)
    ∙ if_no (eqb x 98) (begin_item T) (got [] (behind_line T)) (ne_eqb x 98 bg) in
    let o = b.1 inside in
    subst (λ q. ReadsPart items_in t (at + 1) q m d (Ok (record { next = next; made = m })) d) (sym e) (record { place = b.2; on = omega arith; puts = record { held = h; made = refl } })

-- ---- a line of a kind, by its first byte

module _ (t : Bytes) (at : ℕ) (m : Made) (d : Bytes) (r : Result Placed Nested) (d' : Bytes) (x : ℕ) where
  pub line_number : x ≡ 97 → ReadsPart items_in t (at + 1) (number_item (drop at t)) m d r d' → ReadsPart items_in t (at + 1) (line_by x (drop at t)) m d r d'
  unfolding line_at
  line_number e l = subst (λ y. ReadsPart items_in t (at + 1) (line_by y (drop at t)) m d r d') (sym e) l

  pub line_do : x ≡ 100 → ReadsPart items_in t (at + 1) (do_item (drop at t)) m d r d' → ReadsPart items_in t (at + 1) (line_by x (drop at t)) m d r d'
  unfolding line_at
  line_do e l = subst (λ y. ReadsPart items_in t (at + 1) (line_by y (drop at t)) m d r d') (sym e) l

  pub line_select : x ≡ 115 → ReadsPart items_in t (at + 1) (select_item (drop at t)) m d r d' → ReadsPart items_in t (at + 1) (line_by x (drop at t)) m d r d'
  unfolding line_at
  line_select e l = subst (λ y. ReadsPart items_in t (at + 1) (line_by y (drop at t)) m d r d') (sym e) l

  pub line_revise : x ≡ 114 → ReadsPart items_in t (at + 1) (revise_item (drop at t)) m d r d' → ReadsPart items_in t (at + 1) (line_by x (drop at t)) m d r d'
  unfolding line_at
  line_revise e l = subst (λ y. ReadsPart items_in t (at + 1) (line_by y (drop at t)) m d r d') (sym e) l

  pub line_begin : x ≡ 98 → ReadsPart items_in t (at + 1) (begin_item (drop at t)) m d r d' → ReadsPart items_in t (at + 1) (line_by x (drop at t)) m d r d'
  unfolding line_at
  line_begin e l = subst (λ y. ReadsPart items_in t (at + 1) (line_by y (drop at t)) m d r d') (sym e) l

-- ---- what is left to read

-- what all items come to, from what is made
abbrev outcome : Read (List Item) → Option Making.Sections → Read (Option Making.Sections)
outcome nested o = nested
outcome (got is rest) o = got (items_in is o) rest

-- from n on, with what is made so far, the lines come to what all of them come to
abbrev pub LinesLeft : Bytes → ℕ → Option Making.Sections → Type 0
LinesLeft t n o = (f : ℕ) × (length t - n ≤ f) × (outcome (items_of f (drop n t)) o ≡ outcome (items_of (length t) t) (some nothing_made))

items_behind : (is js : List Item) (o : Option Making.Sections) → items_in (is ++ js) o ≡ items_in js (items_in is o)
unfolding items_in
items_behind [] js o = refl
items_behind (i ∷ is) js o = items_behind is js (Making.item_in i o)

outcome_behind : (is : List Item) (o : Option Making.Sections) (read : Read (List Item)) → outcome (then read (λ js s. got (is ++ js) s)) o ≡ outcome read (items_in is o)
outcome_behind is o nested = refl
outcome_behind is o (got js s) = ap (λ x. got x s) (items_behind is js o)

-- the next line, and the others
abbrev others : ℕ → List Item → Bytes → Read (List Item)
others f is r = then (items_of f r) (λ js s. got (is ++ js) s)

items_line : (t : Bytes) (n f : ℕ) → n < length t → items_of (suc f) (drop n t) ≡ then (line_by (get_or t n 0) (drop n t)) (others f)
unfolding items_at
items_line t n f h =
    let e = drop-cons t n h in
    ap (λ (x : Bytes). items_of (suc f) x) e ∙ sym (ap (λ (x : Bytes). then (line_by (get_or t n 0) x) (others f)) e)

fuel : (f : ℕ) → 1 ≤ f → (g : ℕ) × (f ≡ suc g)
fuel zero h = absurd (omega arith)
fuel (suc g) h = (g, refl)

module _ (t : Bytes) where
  outcome_line : (low f i : ℕ) (m m' : Made) (d d' : Bytes) (read : Read (List Item)) → ReadsPart items_in t low read m d (Ok (record { next = i; made = m' })) d'
      → outcome (then read (others f)) (made_in m d) ≡ outcome (items_of f (drop i t)) (made_in m' d')
  outcome_line low f i m m' d d' nested q = absurd q
  outcome_line low f i m m' d d' (got is rest) q =
      outcome_behind is (made_in m d) (items_of f rest)
      ∙ sym (λ j. outcome (items_of f (q.place.1 j)) (q.puts.made j))

  pub left_turn : (n i : ℕ) (m m' : Made) (d d' : Bytes) → n < length t → LinesLeft t n (made_in m d)
      → ReadsPart items_in t (n + 1) (line_by (get_or t n 0) (drop n t)) m d (Ok (record { next = i; made = m' })) d' → n + 1 ≤ i → LinesLeft t i (made_in m' d')
  left_turn n i m m' d d' h l q on =
      let some-fuel = l.1 in
      let g = fuel l.0 (omega arith) in
      let eg = g.1 in (
        g.0,
        omega arith,
        sym (outcome_line (n + 1) g.0 i m m' d d' (line_by (get_or t n 0) (drop n t)) q)
            ∙ sym (ap (λ f. outcome (items_of f (drop n t)) (made_in m d)) g.1 ∙ ap (λ x. outcome x (made_in m d)) (items_line t n g.0 h))
            ∙ l.2,
      )

  all_nested : (whole : Read (List Item)) (d : Bytes) → nested ≡ outcome whole (some nothing_made) → length d ≡ 24128
      → (r : Result Made Nested) → IsErr r → LinesRead whole r d
  all_nested nested d e l (Ok m) f = absurd (false≢true f)
  all_nested nested d e l (Err x) f = l
  all_nested (got is rest) d e l r f = absurd (let z : ◌≡◌ {A = ℕ} 0 1 = cc in omega arith)

  nested_line : (low f : ℕ) (m : Made) (d d' : Bytes) (read : Read (List Item)) → ReadsPart items_in t low read m d (Err (record {})) d'
      → (nested ≡ outcome (then read (others f)) (made_in m d)) × (length d' ≡ 24128)
  nested_line low f m d d' nested q = (refl, q)
  nested_line low f m d d' (got is rest) q = absurd q

  pub left_nested : (n : ℕ) (m : Made) (d d' : Bytes) → n < length t → LinesLeft t n (made_in m d)
      → ReadsPart items_in t (n + 1) (line_by (get_or t n 0) (drop n t)) m d (Err (record {})) d' → (r : Result Made Nested) → IsErr r → LinesRead (items_of (length t) t) r d'
  left_nested n m d d' h l q r bad =
      let some-fuel = l.1 in
      let g = fuel l.0 (omega arith) in
      let z = nested_line (n + 1) g.0 m d d' (line_by (get_or t n 0) (drop n t)) q in
      all_nested (items_of (length t) t) d'
      (z.0 ∙ sym (ap (λ f. outcome (items_of f (drop n t)) (made_in m d)) g.1 ∙ ap (λ x. outcome x (made_in m d)) (items_line t n g.0 h)) ∙ l.2) z.1 r bad

  all_read : (whole : Read (List Item)) (m : Made) (d : Bytes) → Held m d → got (made_in m d) [] ≡ outcome whole (some nothing_made) → LinesRead whole (Ok m) d
  all_read nested m d h e = absurd (let z : ◌≡◌ {A = ℕ} 0 1 = cc in omega arith)
  all_read (got is rest) m d h e = (h, (let z : made_in m d ≡ items_in is (some nothing_made) = cc in z))

  items_none : (f : ℕ) → items_of f [] ≡ got [] []
  unfolding items_at
  items_none zero = refl
  items_none (suc f) = refl

  pub left_over : (n : ℕ) (m : Made) (d : Bytes) → length t ≤ n → Held m d → LinesLeft t n (made_in m d) → LinesRead (items_of (length t) t) (Ok m) d
  unfolding items_in
  left_over n m d h held l =
      all_read (items_of (length t) t) m d held
      (sym (ap (λ (x : Bytes). outcome (items_of l.0 x) (made_in m d)) (drop_of_length-le t {i = n} h) ∙ ap (λ x. outcome x (made_in m d)) (items_none l.0)) ∙ l.2)

-- ---- before the first line

-- each of its numbers is 0
pub nothing_so : (m : Made) → (m.large ≡ false) × ((m.atoms ≡ 0) × ((m.weights ≡ 0) × ((m.nodes ≡ 0) × ((m.specifications ≡ 0) × ((m.selections ≡ 0) × ((m.revisions ≡ 0) × ((m.pool ≡ 0) × ((m.start ≡ 0) × (m.len ≡ 0))))))))) → m ≡ nothing
nothing_so m (a, (b, (c, (d, (e, (f, (g, (h, (j, k))))))))) = λ i. record {
  large = a i;
  atoms = b i;
  weights = c i;
  nodes = d i;
  specifications = e i;
  selections = f i;
  revisions = g i;
  pool = h i;
  start = j i;
  len = k i;
}

pub nothing_held : (m : Made) (d : Bytes) → m ≡ nothing → Blank d → Held m d
nothing_held m d e b = subst (λ x. Held x d) (sym e) (record {
  bounded = record {
    atoms = omega arith;
    weights = omega arith;
    nodes = omega arith;
    specifications = omega arith;
    selections = omega arith;
    revisions = omega arith;
    pool = omega arith;
    start = omega arith;
  };
  room = b.room;
})

pub left_start : (t : Bytes) (m : Made) (d : Bytes) → m ≡ nothing → Blank d → LinesLeft t 0 (made_in m d)
left_start t m d e b = (
  length t,
  omega arith,
  ap (outcome (items_of (length t) t)) (
      ap (λ x. made_in x d) e
      ∙ (λ i. some (record {
        atoms = 0;
        weights = part_none d 64 i;
        nodes = part_none d 576 i;
        specifications = part_none d 1600 i;
        selections = part_none d 10816 i;
        revisions = part_none d 12864 i;
        pool = part_none d 15936 i;
        sets = b.sets i;
        start = 0;
        len = 0;
      }))),
)
