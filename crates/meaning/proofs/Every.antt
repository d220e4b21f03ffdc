-- A test of every element of a list, or of every number below n, holds exactly if it holds of each.
use mathlib.Core.Path.{◌≡◌, refl, sym}
use mathlib.Core.Bool.{Bool, true, false, ◌&&◌, ◌||◌}
use mathlib.Core.Logic.{◌⊎◌, inl, inr}
use mathlib.Core.List.{List, [], ◌∷◌}
use Prim.Native.Nat.{ℕ, zero, suc, ◌+◌, ◌<◌, suc-le-suc, zero-le}
use native.Mathlib.Nat.{le_of_suc-le-suc, not-suc-le-zero, zero-add}
use native.Mathlib.Omega.{arith}
use lib.ListN.{length, get_or}
use Rattle.paper.proofs.Relation.{both}
use Rattle.runs.specs.Order.{numbers}
use Rattle.meaning.specs.Refusals.{all, every}

pub both_true : (a b : Bool) → a ≡ true → b ≡ true → a && b ≡ true
both_true a b e f = rw e f

pub either : (a b : Bool) → a || b ≡ true → (a ≡ true) ⊎ (b ≡ true)
either true b e = inl refl
either false b e = inr e

-- two truth values that are true together
pub same_truth : (a b : Bool) → (a ≡ true → b ≡ true) → (b ≡ true → a ≡ true) → a ≡ b
same_truth true b f g = sym (f refl)
same_truth false true f g = g refl
same_truth false false f g = refl

module _ {X : Type 0} (t : X → Bool) where
  pub all-at : (xs : List X) (i : ℕ) (z : X) → all t xs ≡ true → i < length xs → t (get_or xs i z) ≡ true
  all-at [] i z e h = absurd (not-suc-le-zero h)
  all-at (x ∷ xs) zero z e h = (both (t x) _ e).0
  all-at (x ∷ xs) (suc i) z e h = all-at xs i z (both (t x) _ e).1 (le_of_suc-le-suc h)

  pub all_of : (xs : List X) (z : X) → ((i : ℕ) → i < length xs → t (get_or xs i z) ≡ true) → all t xs ≡ true
  all_of [] z h = refl
  all_of (x ∷ xs) z h = both_true (t x) (all t xs) (h 0 (suc-le-suc zero-le)) (all_of xs z (λ i l. h (suc i) (suc-le-suc l)))

module _ (t : ℕ → Bool) where
  pub numbers_at : (k n i : ℕ) → all t (numbers k n) ≡ true → i < n → t (k + i) ≡ true
  unfolding numbers
  numbers_at k zero i e h = absurd (not-suc-le-zero h)
  numbers_at k (suc n) zero e h = let z : k + 0 ≡ k = omega arith in rw z (both (t k) _ e).0
  numbers_at k (suc n) (suc i) e h =
      let z : k + suc i ≡ suc k + i = omega arith in
      rw z (numbers_at (suc k) n i (both (t k) _ e).1 (le_of_suc-le-suc h))

  pub numbers_of : (k n : ℕ) → ((i : ℕ) → i < n → t (k + i) ≡ true) → all t (numbers k n) ≡ true
  unfolding numbers
  numbers_of k zero h = refl
  numbers_of k (suc n) h =
      let z : k + 0 ≡ k = omega arith in
      both_true (t k) (all t (numbers (suc k) n)) (rw z at (h 0 (suc-le-suc zero-le)))
      (numbers_of (suc k) n (λ i l. (let y : k + suc i ≡ suc k + i = omega arith in rw y at (h (suc i) (suc-le-suc l)))))

  pub every_at : (n i : ℕ) → every n t ≡ true → i < n → t i ≡ true
  every_at n i e h = rw (zero-add i) at (numbers_at 0 n i e h)

  pub every_of : (n : ℕ) → ((i : ℕ) → i < n → t i ≡ true) → every n t ≡ true
  every_of n h = numbers_of 0 n (λ i l. rw (zero-add i) (h i l))
