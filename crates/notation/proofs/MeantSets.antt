-- A written set has just the atoms that are written.
use mathlib.Core.Path.{◌≡◌, refl, ap, sym, ◌∙◌}
use mathlib.Core.Bool.{Bool, true, false, ◌||◌, not}
use mathlib.Core.Logic.{⊎_elim}
use mathlib.Core.List.Memᴰ
use mathlib.Core.List.{List, [], ◌∷◌, ◌++◌, Memᴰ}
use Prim.Native.Nat.{ℕ, zero, suc, ◌-◌, ◌/◌, ◌%◌, ◌^◌, ◌<◌}
use native.Mathlib.Nat.{zero-div}
use native.Mathlib.Decide.{ℕ_discrete}
use native.Mathlib.Omega.{arith}
use borrow.Author.Tests.{eqb-true, eq-eqb}
use lib.Dec.{eqb}
use lib.ListN.{get_or, replicate, length-replicate}
use lib.Seq.{get_or_at}
use Rattle.paper.specs.Atoms.{bit, ◌∈◌}
use Rattle.paper.proofs.Relation.{false≢true}
use Rattle.paper.proofs.Sets.{∈-∪}
use Rattle.runs.specs.Order.{numbers}
use Rattle.meaning.specs.Refusals.{every}
use Rattle.meaning.proofs.Every.{either, every_at}
use Rattle.meaning.proofs.Widening.{at_zeros, ∈-widened}
use Rattle.notation.specs.Built.{single, set_of}
use Rattle.notation.specs.Meant.{SetLaw}

-- ---- a bit of a byte that has one

alike : Bool → Bool → Bool
alike true b = b
alike false b = not b

alike_equal : (a b : Bool) → alike a b ≡ true → a ≡ b
unfolding alike
alike_equal true b e = sym e
alike_equal false true e = absurd (false≢true e)
alike_equal false false e = refl

bits : every 8 (λ i. every 8 (λ j. alike (bit i (2 ^ j)) (eqb i j))) ≡ true
unfolding numbers bit alike
bits = refl

one_bit : (i j : ℕ) → i < 8 → j < 8 → bit i (2 ^ j) ≡ eqb i j
one_bit i j h g =
    alike_equal (bit i (2 ^ j)) (eqb i j)
    (every_at (λ j. alike (bit i (2 ^ j)) (eqb i j)) 8 j (every_at (λ i. every 8 (λ j. alike (bit i (2 ^ j)) (eqb i j))) 8 i bits h) g)

no_bit : (i : ℕ) → bit i 0 ≡ false
unfolding bit
no_bit i = rw (zero-div (2 ^ i))

-- ---- the bytes of a set of one atom

one_other : (a b x j : ℕ) → (j ≡ a → ⊥) → get_or (replicate a 0 ++ (x ∷ replicate b 0)) j 0 ≡ 0
one_other zero b x zero h = absurd (h refl)
one_other zero b x (suc j) h = at_zeros b j
one_other (suc a) b x zero h = refl
one_other (suc a) b x (suc j) h = one_other a b x j (λ e. h (ap suc e))

module _ (n : ℕ) where
  one_same : get_or (single n) (n / 8) 0 ≡ 2 ^ (n % 8)
  one_same = get_or_at (replicate (n / 8) 0) (2 ^ (n % 8)) (replicate (15 - n / 8) 0) 0 (n / 8) (length-replicate (n / 8) 0)

  it_has : n ∈ single n ≡ true
  unfolding ◌∈◌
  it_has = ap (bit (n % 8)) one_same ∙ one_bit (n % 8) (n % 8) (omega arith) (omega arith) ∙ eq-eqb (n % 8) (n % 8) refl

  has_it : (k : ℕ) → k ∈ single n ≡ true → k ≡ n
  unfolding ◌∈◌
  has_it k e = elim (ℕ_discrete (k / 8) (n / 8)) [
    | yes same ↦
        let there : get_or (single n) (k / 8) 0 ≡ 2 ^ (n % 8) = ap (λ j. get_or (single n) j 0) same ∙ one_same in
        let bit_same : k % 8 ≡ n % 8 =
        eqb-true (k % 8) (n % 8) (sym (one_bit (k % 8) (n % 8) (omega arith) (omega arith)) ∙ ap (bit (k % 8)) (sym there) ∙ e) in
        omega arith
    | no other ↦
        absurd (false≢true (sym (no_bit (k % 8)) ∙ ap (bit (k % 8)) (sym (one_other (n / 8) (15 - n / 8) (2 ^ (n % 8)) (k / 8) other)) ∙ e))
  ]

-- ---- the set

one_of : (a b : Bool) → b ≡ true → a || b ≡ true
one_of true b e = refl
one_of false b e = e

members : (ns : List ℕ) (k : ℕ) → k ∈ set_of ns ≡ true → Memᴰ k ns
unfolding set_of ◌∈◌
members [] k e = absurd (false≢true (sym (no_bit (k % 8)) ∙ ap (bit (k % 8)) (sym (at_zeros 16 (k / 8))) ∙ e))
members (n ∷ ns) k e =
    ⊎_elim (λ h. Memᴰ.head (has_it n k h)) (λ h. Memᴰ.tail (members ns k h)) (either (k ∈ single n) (k ∈ set_of ns) (sym (∈-∪ k (single n) (set_of ns)) ∙ e))

written_in : (ns : List ℕ) (k : ℕ) → Memᴰ k ns → k ∈ set_of ns ≡ true
unfolding set_of
written_in [] k m = absurd (Memᴰ.not-nil m)
written_in (n ∷ ns) k m =
    ∈-∪ k (single n) (set_of ns)
    ∙ ⊎_elim (λ e. ap (λ a. a || k ∈ set_of ns) (ap (λ j. j ∈ single n) e ∙ it_has n)) (λ h. one_of (k ∈ single n) (k ∈ set_of ns) (written_in ns k h)) (Memᴰ.cases_cons m)

pub set_law : SetLaw
set_law ns k =
    (λ e. members ns k (sym (∈-widened k (set_of ns)) ∙ e), λ m. ∈-widened k (set_of ns) ∙ written_in ns k m)
