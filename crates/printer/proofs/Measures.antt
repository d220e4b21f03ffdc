-- The measures of a node's text, by its kind.
use mathlib.Core.Path.{◌≡◌, refl, ap, ◌∙◌}
use mathlib.Core.Bool.{Bool, true, false}
use mathlib.Core.List.{[], ◌∷◌}
use Prim.Native.Nat.{ℕ, ◌+◌, ◌/◌, ◌%◌, ◌≤◌, ◌<◌}
use Prim.Native.Char.{code}
use native.Mathlib.Omega.{arith}
use borrow.Author.Tests.{ltb-true, ltb-false}
use lib.Dec.{ltb}
use lib.ListN.{length, length-append}
use Rattle.notation.specs.Printing.{decimal}
use Rattle.notation.proofs.Decimals.{decimal_one, decimal_more}

-- ---- by kinds that are not told one by one

-- what is none of the kinds with children
pub is_leaf : (k : ℕ) → k ≤ 5 → (k ≡ 3 → ⊥) → (k ≡ 4 → ⊥) → (k ≡ 5 → ⊥) → k < 3
is_leaf k h a b c = omega arith

pub is_some_lem : (k : ℕ) → (k ≡ 0 → ⊥) → 1 ≤ k
is_some_lem k h = omega arith

-- ---- how many digits

module _ (n : ℕ) where
  pub one_digit : n < 10 → length (decimal n) ≡ 1
  one_digit h = ap length (decimal_one n h)

  pub more_digits : 10 ≤ n → length (decimal n) ≡ length (decimal (n / 10)) + 1
  more_digits h = ap length (decimal_more n h) ∙ length-append (decimal (n / 10)) ((code "0" + n % 10) ∷ [])

pub two_digits : (n : ℕ) → 10 ≤ n → n < 100 → length (decimal n) ≡ 2
two_digits n h k = let e = more_digits n h in let f = one_digit (n / 10) (omega arith) in omega arith

pub three_digits : (n : ℕ) → 100 ≤ n → n < 1000 → length (decimal n) ≡ 3
three_digits n h k = let e = more_digits n (omega arith) in let f = two_digits (n / 10) (omega arith) (omega arith) in omega arith

pub few_digits : (n : ℕ) → n < 1000 → length (decimal n) ≤ 3
few_digits n h = go (ltb n 10) refl
  where
    then : (s : Bool) → ltb n 100 ≡ s → 10 ≤ n → length (decimal n) ≤ 3
    then true e g = let d = two_digits n g (ltb-true n 100 e) in omega arith
    then false e g = let d = three_digits n (ltb-false n 100 e) h in omega arith

    go : (s : Bool) → ltb n 10 ≡ s → length (decimal n) ≤ 3
    go true e = let d = one_digit n (ltb-true n 10 e) in omega arith
    go false e = then (ltb n 100) refl (ltb-false n 10 e)

pub some_digit : (n : ℕ) → 1 ≤ length (decimal n)
some_digit n = go (ltb n 10) refl
  where
    go : (s : Bool) → ltb n 10 ≡ s → 1 ≤ length (decimal n)
    go true e = let d = one_digit n (ltb-true n 10 e) in omega arith
    go false e = let d = more_digits n (ltb-false n 10 e) in omega arith
