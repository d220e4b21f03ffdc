-- The reader as a function reads the condition that the grammar derives, if it does not nest too deep.
use mathlib.Core.Path.{◌≡◌, refl, ap, sym, ◌∙◌}
use mathlib.Core.Bool.{Bool, false}
use mathlib.Core.List.{[], ◌∷◌, ◌++◌, append_assoc}
use Prim.Native.Nat.{ℕ, zero, suc, ◌≤◌}
use native.Mathlib.Nat.{le_refl, le-max_left, le-max_right, max-le, not-suc-le-zero}
use native.Mathlib.Omega.{arith}
use borrow.Author.Tests.{le-leb}
use lib.Dec.{eqb, leb, leb-zero, leb-suc-zero, leb-suc-suc}
use lib.ListN.{length, drop}
use Rattle.meaning.specs.Trees.{Tree, and, or}
use Rattle.meaning.specs.Trees as Trees
use Rattle.meaning.specs.Card.{Bytes}
use Rattle.notation.specs.Words.{Number}
use Rattle.notation.specs.Conditions.{Condition, plain, negated, bracketed, joined, Unit, T, B, G, !, brackets, AndList, units, AndMore, last_unit, next_unit, OrList, and_lists, last_list, next_list}
use Rattle.notation.proofs.Following.{Stops}
use Rattle.notation.proofs.Deriving.{eqb_same}
use Rattle.notation.specs.Values.{Read, nested, got, then, more, several, unit_of, and_list_of, or_list_of, number_value, digits_rest}
use Rattle.notation.proofs.ReadingTests.{if_yes, if_no, within, then_deeper}
use Rattle.notation.proofs.ReadingNumbers.{number_read, number_left}
use Rattle.notation.proofs.ReadingLists.{shorter}

-- ---- what comes behind

-- a text begins with a byte
abbrev pub begins_with : ℕ → Bytes → Bool
begins_with x [] = false
begins_with x (y ∷ t) = eqb y x

-- an and-list does not go on
pub record AndStops (v : Bytes) : Type 0 where
  pub no_digit : Stops v
  pub no_and : begins_with 38 v ≡ false

-- an or-list does not go on
pub record OrStops (v : Bytes) : Type 0 where
  pub and_stops : AndStops v
  pub no_or : begins_with 124 v ≡ false

-- what is read of a condition, with how many may nest
abbrev pub read_of : ℕ → Condition → Bytes → Read Condition
read_of left c v = within (leb c.depth left) c v

-- ---- more, by what one reads

module _ (x : ℕ) (op : Tree → Tree → Tree) (one : Bytes → Read Condition) where
  more_stops : (f : ℕ) (c : Condition) (v : Bytes) → begins_with x v ≡ false → more x op one f c v ≡ got c v
  unfolding more
  more_stops zero c v s = refl
  more_stops (suc f) c [] s = refl
  more_stops (suc f) c (y ∷ v) s = if_no _ _ s

  module _ (left : ℕ) where
    more_last : (f : ℕ) (c : Condition) (v : Bytes) → begins_with x v ≡ false → c.depth ≤ left → more x op one f c v ≡ read_of left c v
    more_last f c v s h = more_stops f c v s ∙ sym (if_yes (got c v) nested (le-leb c.depth left h))

    more_next : (f : ℕ) (c d e : Condition) (t w v : Bytes) → one t ≡ read_of left d w → d.depth ≤ e.depth → c.depth ≤ left
        → ((joined op c d).depth ≤ left → more x op one f (joined op c d) w ≡ read_of left e v) → more x op one (suc f) c (x ∷ t) ≡ read_of left e v
    unfolding more
    more_next f c d e t w v r g h k =
        if_yes _ _ (eqb_same {x = x} refl) ∙ ap (λ z. then z (λ d r. more x op one f (joined op c d) r)) r
        ∙ then_deeper left g d w e v (λ d r. more x op one f (joined op c d) r) (λ l. k (max-le h l))

    several_read : (c e : Condition) (t w v : Bytes) → one t ≡ read_of left c w → c.depth ≤ e.depth
        → (c.depth ≤ left → more x op one (length w) c w ≡ read_of left e v) → several x op one t ≡ read_of left e v
    several_read c e t w v r g k =
        ap (λ z. then z (λ c r. more x op one (length r) c r)) r
        ∙ then_deeper left g c w e v (λ c r. more x op one (length r) c r) k

-- ---- what is to be shown of each part of a condition

abbrev pub UnitReads : Bytes → Condition → Type 0
UnitReads u c = (left : ℕ) (v : Bytes) → Stops v → unit_of left (u ++ v) ≡ read_of left c v

abbrev pub AndReads : Bytes → Condition → Type 0
AndReads u c = (left : ℕ) (v : Bytes) → AndStops v → and_list_of left (u ++ v) ≡ read_of left c v

abbrev pub OrReads : Bytes → Condition → Type 0
OrReads u c = (left : ℕ) (v : Bytes) → OrStops v → or_list_of left (u ++ v) ≡ read_of left c v

-- of "{ "&" unit }" behind a condition c
record AndMoreReads (w : Bytes) (c e : Condition) : Type 0 where
  deeper : c.depth ≤ e.depth
  stops : (v : Bytes) → AndStops v → Stops (w ++ v)
  reads : (left f : ℕ) (v : Bytes) → AndStops v → length (w ++ v) ≤ f → c.depth ≤ left → more 38 and (unit_of left) f c (w ++ v) ≡ read_of left e v

-- of "{ "|" and-list }" behind a condition c
record OrMoreReads (w : Bytes) (c e : Condition) : Type 0 where
  deeper : c.depth ≤ e.depth
  stops : (v : Bytes) → OrStops v → AndStops (w ++ v)
  reads : (left f : ℕ) (v : Bytes) → OrStops v → length (w ++ v) ≤ f → c.depth ≤ left → more 124 or (and_list_of left) f c (w ++ v) ≡ read_of left e v

-- ---- units

shallowest : (left : ℕ) (t : Tree) (v : Bytes) → got (plain t) v ≡ read_of left (plain t) v
shallowest left t v = sym (if_yes (got (plain t) v) nested (leb-zero left))

true_read : UnitReads (84 ∷ []) (plain Trees.true)
unfolding unit_of
true_read zero v s = shallowest zero Trees.true v
true_read (suc left) v s = shallowest (suc left) Trees.true v

module _ {u : Bytes} {n : ℕ} (h : Number u n) where
  number_got : (tree : ℕ → Tree) (left : ℕ) (v : Bytes) → Stops v → got (plain (tree (number_value (u ++ v)))) (digits_rest (u ++ v)) ≡ read_of left (plain (tree n)) v
  number_got tree left v s =
      ap (λ k. got (plain (tree k)) (digits_rest (u ++ v))) (number_read v h s) ∙ ap (got (plain (tree n))) (number_left v h s) ∙ shallowest left (tree n) v

  believes_read : UnitReads (66 ∷ u) (plain (Trees.believes n))
  unfolding unit_of
  believes_read zero v s = number_got Trees.believes zero v s
  believes_read (suc left) v s = number_got Trees.believes (suc left) v s

  goal_read : UnitReads (71 ∷ u) (plain (Trees.goal n))
  unfolding unit_of
  goal_read zero v s = number_got Trees.goal zero v s
  goal_read (suc left) v s = number_got Trees.goal (suc left) v s

-- "!" and "(", of a condition that nests n deep
too_deep : (d : Condition) (v : Bytes) (n : ℕ) → d.depth ≡ suc n → ◌≡◌ {A = Read Condition} nested (read_of zero d v)
too_deep d v n e = sym (if_no (got d v) nested (ap (λ k. leb k zero) e ∙ leb-suc-zero n))

one_deeper : (left n : ℕ) (d : Condition) (v : Bytes) → d.depth ≡ suc n → within (leb n left) d v ≡ read_of (suc left) d v
one_deeper left n d v e = ap (λ b. within b d v) (sym (leb-suc-suc n left) ∙ ap (λ k. leb k (suc left)) (sym e))

module _ (u : Bytes) (c : Condition) where
  not_read : UnitReads u c → UnitReads (33 ∷ u) (negated c)
  unfolding unit_of
  not_read ih zero v s = too_deep (negated c) v c.depth refl
  not_read ih (suc left) v s =
      ap (λ z. then z (λ c r. got (negated c) r)) (ih left v s)
      ∙ then_deeper left (le_refl c.depth) c v (negated c) v (λ c r. got (negated c) r) (λ l. sym (if_yes (got (negated c) v) nested (le-leb c.depth left l)))
      ∙ one_deeper left c.depth (negated c) v refl

  brackets_read : OrReads u c → UnitReads (40 ∷ (u ++ (41 ∷ []))) (bracketed c)
  unfolding unit_of
  brackets_read ih zero v s = too_deep (bracketed c) v c.depth refl
  brackets_read ih (suc left) v s =
      ap (λ t. then (or_list_of left t) (λ c r. got (bracketed c) (drop 1 r))) (append_assoc u (41 ∷ []) v)
      ∙ ap (λ z. then z (λ c r. got (bracketed c) (drop 1 r))) (ih left (41 ∷ v) (record { and_stops = record { no_digit = refl; no_and = refl }; no_or = refl }))
      ∙ then_deeper left (le_refl c.depth) c (41 ∷ v) (bracketed c) v (λ c r. got (bracketed c) (drop 1 r)) (λ l. sym (if_yes (got (bracketed c) v) nested (le-leb c.depth left l)))
      ∙ one_deeper left c.depth (bracketed c) v refl

-- ---- lists

module _ (u w : Bytes) (c d e : Condition) where
  and_next : UnitReads u d → AndMoreReads w (joined and c d) e → AndMoreReads (38 ∷ (u ++ w)) c e
  and_next one rest = record {
    deeper = (let a = le-max_left c.depth d.depth in let b = rest.deeper in omega arith);
    stops = λ v s. refl;
    reads = go;
  }
    where
      go : (left f : ℕ) (v : Bytes) → AndStops v → suc (length ((u ++ w) ++ v)) ≤ f → c.depth ≤ left → more 38 and (unit_of left) f c (38 ∷ ((u ++ w) ++ v)) ≡ read_of left e v
      go left zero v s l h = absurd (not-suc-le-zero l)
      go left (suc f) v s l h =
          let a = le-max_right c.depth d.depth in
          let b = rest.deeper in
          more_next 38 and (unit_of left) left f c d e ((u ++ w) ++ v) (w ++ v) v (ap (unit_of left) (append_assoc u w v) ∙ one left (w ++ v) (rest.stops v s))
          (omega arith) h (rest.reads left f v s (shorter u w v f l))

  or_next : AndReads u d → OrMoreReads w (joined or c d) e → OrMoreReads (124 ∷ (u ++ w)) c e
  or_next one rest = record {
    deeper = (let a = le-max_left c.depth d.depth in let b = rest.deeper in omega arith);
    stops = λ v s. record { no_digit = refl; no_and = refl };
    reads = go;
  }
    where
      go : (left f : ℕ) (v : Bytes) → OrStops v → suc (length ((u ++ w) ++ v)) ≤ f → c.depth ≤ left → more 124 or (and_list_of left) f c (124 ∷ ((u ++ w) ++ v)) ≡ read_of left e v
      go left zero v s l h = absurd (not-suc-le-zero l)
      go left (suc f) v s l h =
          let a = le-max_right c.depth d.depth in
          let b = rest.deeper in
          more_next 124 or (and_list_of left) left f c d e ((u ++ w) ++ v) (w ++ v) v (ap (and_list_of left) (append_assoc u w v) ∙ one left (w ++ v) (rest.stops v s))
          (omega arith) h (rest.reads left f v s (shorter u w v f l))

and_last : {c : Condition} → AndMoreReads [] c c
and_last {c} = record {
  deeper = le_refl c.depth;
  stops = λ v s. s.no_digit;
  reads = λ left f v s l h. more_last 38 and (unit_of left) left f c v s.no_and h;
}

or_last : {c : Condition} → OrMoreReads [] c c
or_last {c} = record {
  deeper = le_refl c.depth;
  stops = λ v s. s.and_stops;
  reads = λ left f v s l h. more_last 124 or (and_list_of left) left f c v s.no_or h;
}

module _ (u w : Bytes) (c e : Condition) where
  and_read : UnitReads u c → AndMoreReads w c e → AndReads (u ++ w) e
  and_read one rest left v s =
      ap (and_list_of left) (append_assoc u w v)
      ∙ several_read 38 and (unit_of left) left c e (u ++ (w ++ v)) (w ++ v) v (one left (w ++ v) (rest.stops v s)) rest.deeper
      (rest.reads left (length (w ++ v)) v s (le_refl _))

  or_read : AndReads u c → OrMoreReads w c e → OrReads (u ++ w) e
  or_read one rest left v s =
      ap (or_list_of left) (append_assoc u w v)
      ∙ several_read 124 or (and_list_of left) left c e (u ++ (w ++ v)) (w ++ v) v (one left (w ++ v) (rest.stops v s)) rest.deeper
      (rest.reads left (length (w ++ v)) v s (le_refl _))

-- ---- all of them

pub or_list_read : {u : Bytes} {c : Condition} → OrList u c → OrReads u c
or_list_read x = elim x
    as (λ u c y. UnitReads u c) (λ u c y. AndReads u c) (λ w c e y. AndMoreReads w c e) (λ u c y. OrReads u c) (λ w c e y. OrMoreReads w c e) [
      | T ↦ true_read
      | B h ↦ believes_read h
      | G h ↦ goal_read h
      | ! {u = u} {c = c} (x → h) ↦ not_read u c h
      | brackets {u = u} {c = c} (x → h) ↦ brackets_read u c h
      | units {u = u} {v = v} {c = c} {d = d} (x → h) (r → k) ↦ and_read u v c d h k
      | last_unit ↦ and_last
      | next_unit {u = u} {v = v} {c = c} {d = d} {e = e} (x → h) (r → k) ↦ and_next u v c d e h k
      | and_lists {u = u} {v = v} {c = c} {d = d} (x → h) (r → k) ↦ or_read u v c d h k
      | last_list ↦ or_last
      | next_list {u = u} {v = v} {c = c} {d = d} {e = e} (x → h) (r → k) ↦ or_next u v c d e h k
    ]

pub unit_read : {u : Bytes} {c : Condition} → Unit u c → UnitReads u c
unit_read T = true_read
unit_read (B h) = believes_read h
unit_read (G h) = goal_read h
unit_read (! {u = u} {c = c} x) = not_read u c (unit_read x)
unit_read (brackets {u = u} {c = c} x) = brackets_read u c (or_list_read x)

and_more_read : {w : Bytes} {c e : Condition} → AndMore w c e → AndMoreReads w c e
and_more_read last_unit = and_last
and_more_read (next_unit {u = u} {v = v} {c = c} {d = d} {e = e} x r) = and_next u v c d e (unit_read x) (and_more_read r)

pub and_list_read : {u : Bytes} {c : Condition} → AndList u c → AndReads u c
and_list_read (units {u = u} {v = v} {c = c} {d = d} x r) = and_read u v c d (unit_read x) (and_more_read r)
