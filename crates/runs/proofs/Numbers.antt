-- The numbers from k on: how many they are, and what is made of the i-th.
use mathlib.Core.Path.{◌≡◌, refl, ap, ap₂, ◌∙◌, sym}
use mathlib.Core.List.{◌∷◌, ◌++◌, map}
use mathlib.Core.Option.{Option, none, some}
use Prim.Native.Nat.{ℕ, zero, suc, ◌+◌, ◌-◌, ◌≤◌, ◌<◌}
use native.Mathlib.Nat.{add-zero, zero-add, le_of_suc-le-suc, not-suc-le-zero}
use native.Mathlib.Numerals.{add-one}
use native.Mathlib.Omega.{arith}
use lib.ListN.{length, get_or, get_elem?, length-map}
use Rattle.runs.specs.Order.{numbers}

length-numbers : (k n : ℕ) → length (numbers k n) ≡ n
unfolding numbers
length-numbers k zero = refl
length-numbers k (suc n) = ap suc (length-numbers (suc k) n)

-- m of them and n more
pub numbers_both : (k m n : ℕ) → numbers k (m + n) ≡ numbers k m ++ numbers (k + m) n
unfolding numbers
numbers_both k zero n = ap₂ numbers (sym (add-zero k)) (zero-add n)
numbers_both k (suc m) n =
    let e : suc m + n ≡ suc (m + n) = omega arith in
    let f : suc k + m ≡ k + suc m = omega arith in
    rw (e, numbers_both (suc k) m n, f)

module _ {X : Type 0} (f : ℕ → X) where
  pub length_made : (k n : ℕ) → length (map f (numbers k n)) ≡ n
  length_made k n = length-map (numbers k n) f ∙ length-numbers k n

  pub made_at : (k n i : ℕ) (z : X) → i < n → get_or (map f (numbers k n)) i z ≡ f (k + i)
  unfolding numbers
  made_at k zero i z h = absurd (not-suc-le-zero h)
  made_at k (suc n) zero z h = ap f (sym (add-zero k))
  made_at k (suc n) (suc i) z h = made_at (suc k) n i z (le_of_suc-le-suc h) ∙ ap f (omega arith)

  -- of what is left from i on: the first, and what is left after it
  pub made_next : (i n : ℕ) → i < n → map f (numbers i (n - i)) ≡ f i ∷ map f (numbers (i + 1) (n - (i + 1)))
  unfolding numbers
  made_next i n h = let e : n - i ≡ suc (n - (i + 1)) = omega arith in rw (e, add-one i)

  pub made_entry : (k n i : ℕ) → i < n → get_elem? (map f (numbers k n)) i ≡ some (f (k + i))
  unfolding numbers
  made_entry k zero i h = absurd (not-suc-le-zero h)
  made_entry k (suc n) zero h = ap {B = Option X} (λ j. some (f j)) (sym (add-zero k))
  made_entry k (suc n) (suc i) h = made_entry (suc k) n i (le_of_suc-le-suc h) ∙ ap {B = Option X} (λ j. some (f j)) (omega arith)

  pub made_none : (k n i : ℕ) → n ≤ i → get_elem? (map f (numbers k n)) i ≡ none
  unfolding numbers
  made_none k zero i h = refl
  made_none k (suc n) zero h = absurd (not-suc-le-zero h)
  made_none k (suc n) (suc i) h = made_none (suc k) n i (le_of_suc-le-suc h)
