-- Lists put together: their tests, their lengths and their flattening.
use mathlib.Core.Path.{◌≡◌, refl, sym}
use mathlib.Core.Bool.{Bool, true, ◌&&◌}
use mathlib.Core.List.{List, [], ◌∷◌, ◌++◌, flatten, append_assoc}
use Prim.Native.Nat.{ℕ, ◌*◌}
use native.Mathlib.Nat.{mul-zero, mul-suc}
use native.Mathlib.Omega.{arith}
use lib.ListN.{length, length-append}
use Rattle.paper.proofs.Relation.{both}
use Rattle.meaning.specs.Card.{Bytes}
use Rattle.meaning.specs.Refusals.{all}
use Rattle.meaning.proofs.Every.{both_true}

-- ---- flattened

pub flatten_append : {X : Type 0} (xs ys : List (List X)) → flatten (xs ++ ys) ≡ flatten xs ++ flatten ys
unfolding flatten
flatten_append [] ys = refl
flatten_append (x ∷ xs) ys = rw (flatten_append xs ys) (sym (append_assoc x (flatten xs) (flatten ys)))

-- ---- entries of one size

abbrev pub EntrySized : ℕ → List Bytes → Type 0
EntrySized n [] = Unit {0}
EntrySized n (e ∷ es) = (length e ≡ n) × EntrySized n es

pub sized_append : (n : ℕ) (es fs : List Bytes) → EntrySized n es → EntrySized n fs → EntrySized n (es ++ fs)
sized_append n [] fs s t = t
sized_append n (e ∷ es) fs s t = (s.0, sized_append n es fs s.1 t)

pub length_flatten : (n : ℕ) (es : List Bytes) → EntrySized n es → length (flatten es) ≡ n * length es
unfolding flatten
length_flatten n [] s = sym (mul-zero n)
length_flatten n (e ∷ es) s = rw (length-append, mul-suc) (omega (arith, s.0, length_flatten n es s.1))

-- ---- tests

pub each_true : (a b c : Bool) → a && (b && c) ≡ true → (a ≡ true) × (b ≡ true) × (c ≡ true)
each_true a b c e = ((both a (b && c) e).0, (both b c (both a (b && c) e).1).0, (both b c (both a (b && c) e).1).1)

pub three_true : (a b c : Bool) → a ≡ true → b ≡ true → c ≡ true → a && (b && c) ≡ true
three_true a b c e f g = rw (e, f) g

pub each_of_six : (a b c d e f : Bool) → a && (b && (c && (d && (e && f)))) ≡ true
    → (a ≡ true) × (b ≡ true) × (c ≡ true) × (d ≡ true) × (e ≡ true) × (f ≡ true)
each_of_six a b c d e f p =
    let q : (a ≡ true) × (b ≡ true) × (c && (d && (e && f)) ≡ true) = each_true a b (c && (d && (e && f))) p in
    let r : (c ≡ true) × (d ≡ true) × (e && f ≡ true) = each_true c d (e && f) q.2 in
    (q.0, q.1, r.0, r.1, (both e f r.2).0, (both e f r.2).1)

pub six_true : (a b c d e f : Bool) → a ≡ true → b ≡ true → c ≡ true → d ≡ true → e ≡ true → f ≡ true
    → a && (b && (c && (d && (e && f)))) ≡ true
six_true a b c d e f p q r u v w = rw (p, q, r, u, v) w

module _ {X : Type 0} (t : X → Bool) where
  pub all_both : (xs ys : List X) → all t xs ≡ true → all t ys ≡ true → all t (xs ++ ys) ≡ true
  all_both [] ys e f = f
  all_both (x ∷ xs) ys e f =
      both_true (t x) (all t (xs ++ ys)) (both (t x) (all t xs) e).0 (all_both xs ys (both (t x) (all t xs) e).1 f)

  pub all_left : (xs ys : List X) → all t (xs ++ ys) ≡ true → all t xs ≡ true
  all_left [] ys e = refl
  all_left (x ∷ xs) ys e =
      both_true (t x) (all t xs) (both (t x) (all t (xs ++ ys)) e).0 (all_left xs ys (both (t x) (all t (xs ++ ys)) e).1)

  pub all_right : (xs ys : List X) → all t (xs ++ ys) ≡ true → all t ys ≡ true
  all_right [] ys e = e
  all_right (x ∷ xs) ys e = all_right xs ys (both (t x) (all t (xs ++ ys)) e).1
