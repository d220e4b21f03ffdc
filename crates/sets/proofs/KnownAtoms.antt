-- Row 9's question, byte by byte: a set has no atom at or above n exactly if nothing of it is left without the atoms below n.
use mathlib.Core.Path.{◌≡◌, refl, ap, ◌∙◌, sym}
use mathlib.Core.Bool.{Bool, true, false, not, ◌&&◌, and-true, and-false}
use Prim.Native.Nat.{ℕ, zero, suc, min, ◌+◌, ◌-◌, ◌*◌, ◌/◌, ◌%◌, ◌^◌, ◌≤◌, ◌<◌}
use native.Mathlib.Nat.{mod-lt, zero-div, mul-zero, mul-suc, div-add-mod}
use native.Mathlib.Decide.{dec_lt}
use native.Mathlib.Omega.{arith}
use borrow.Author.Tests.{ne_eqb, not-true, eqb-true, eq-eqb, lt-ltb, le-ltb}
use lib.Dec.{eqb, ltb}
use lib.ListN.{length, get_or}
use lib.Bits.{bit_and, bit_xor, and_le_l, and_mask, and_self, xor_add_and, xor_lt}
use lib.Pow.{pow_pos}
use Rattle.std.proofs.lemmas.Nat.{and_assoc}
use Rattle.paper.specs.Atoms.{Atoms, bit, ◌∈◌, ◌∖◌}
use Rattle.paper.specs.Theorems.{AreBytes}
use Rattle.paper.proofs.Sets.{by_bits, at-∖, length-∖, ∈-∖}
use Rattle.paper.proofs.Relation.{false≢true}
use Rattle.runs.specs.Order.{numbers}
use Rattle.meaning.specs.Refusals.{all, every, set_good}
use Rattle.meaning.proofs.Every.{same_truth, all-at, all_of, numbers_at, numbers_of, every_at}
use Rattle.sets.specs.Sets.{is_empty, low_bits, below}
use Rattle.sets.proofs.Loops.{Found, found_below}
use Rattle.sets.proofs.Below.{at_below, all_eight, none_below}

-- ---- the bits of the lowest m

same : Bool → Bool → Bool
same true b = b
same false b = not b

same_eq : (a b : Bool) → same a b ≡ true → a ≡ b
unfolding same
same_eq true b e = sym e
same_eq false true e = absurd (false≢true e)
same_eq false false e = refl

-- every bit of every m, computed
low_table : every 9 (λ m. every 8 (λ j. same (bit j (low_bits m)) (ltb j m))) ≡ true
unfolding numbers same bit
low_table = refl

bits_low : (m j : ℕ) → j < 8 → bit j (low_bits m) ≡ ltb j m
bits_low m j h = elim (dec_lt m 9) [
  | yes l ↦ same_eq _ _ (every_at (λ j. same (bit j (low_bits m)) (ltb j m)) 8 j (every_at (λ m. every 8 (λ j. same (bit j (low_bits m)) (ltb j m))) 9 m low_table l) h)
  | no l ↦
      let e : low_bits m ≡ low_bits 8 = sym (all_eight m (omega arith)) in
      let f : bit j (low_bits 8) ≡ ltb j 8 = same_eq _ _ (every_at (λ j. same (bit j (low_bits 8)) (ltb j 8)) 8 j (every_at (λ m. every 8 (λ j. same (bit j (low_bits m)) (ltb j m))) 9 8 low_table (omega arith)) h) in
      ap (bit j) e ∙ f ∙ lt-ltb j 8 h ∙ sym (lt-ltb j m (omega arith))
]

-- ---- the members of the atoms below n

pub ∈-below : (w n k : ℕ) → k < 8 * w → k ∈ below w n ≡ ltb k n
unfolding ◌∈◌
∈-below w n k h =
    let at : get_or (below w n) (k / 8) 0 ≡ low_bits (n - 8 * (k / 8)) = at_below w n (k / 8) (omega arith) in
    let j : k % 8 < 8 = mod-lt k (omega arith) in
    rw at (bits_low (n - 8 * (k / 8)) (k % 8) j ∙ shifted)
  where
    shifted : ltb (k % 8) (n - 8 * (k / 8)) ≡ ltb k n
    shifted = elim (dec_lt k n) [
      | yes l ↦ lt-ltb (k % 8) (n - 8 * (k / 8)) (omega arith) ∙ sym (lt-ltb k n l)
      | no l ↦ le-ltb (k % 8) (n - 8 * (k / 8)) (omega arith) ∙ sym (le-ltb k n (omega arith))
    ]

minus_lt : (x y : ℕ) → x < 256 → bit_xor x (bit_and x y) < 256
minus_lt x y h = let a : bit_and x y ≤ x = and_le_l x y in xor_lt 8 x (bit_and x y) h (omega arith)

-- ---- what is left of a set without the atoms below n

module _ (w n : ℕ) (s : Atoms) (long : length s ≡ w) where
  left_over : (k : ℕ) → k < 8 * w → k ∈ s ∖ below w n ≡ (k ∈ s && not (ltb k n))
  left_over k h = ∈-∖ k s (below w n) ∙ ap (λ b. k ∈ s && not b) (∈-below w n k h)

  unknown_out : is_empty (s ∖ below w n) ≡ true → (k : ℕ) → n ≤ k → k < 8 * w → k ∈ s ≡ false
  unfolding ◌∈◌ bit
  unknown_out e k l h =
      let i : k / 8 < length (s ∖ below w n) = rw (length-∖ s (below w n), long) (omega arith) in
      let z : get_or (s ∖ below w n) (k / 8) 0 ≡ 0 = eqb-true _ 0 (all-at (λ x. eqb x 0) (s ∖ below w n) (k / 8) 0 e i) in
      let out : k ∈ s ∖ below w n ≡ false = rw (z, zero-div) in
      let t : (k ∈ s && not (ltb k n)) ≡ false = sym (left_over k h) ∙ out in
      let u : ltb k n ≡ false = le-ltb k n l in
      sym (ap (λ b. k ∈ s && not b) u ∙ and-true (k ∈ s)) ∙ t

  empties : AreBytes s → ((k : ℕ) → n ≤ k → k < 8 * w → k ∈ s ≡ false) → is_empty (s ∖ below w n) ≡ true
  unfolding ◌∈◌ bit
  empties bytes out = all_of (λ x. eqb x 0) (s ∖ below w n) 0 (λ i h. eq-eqb _ 0 (byte_zero i (rw (length-∖ s (below w n), long) at h)))
    where
      gone : (k : ℕ) → k < 8 * w → k ∈ s ∖ below w n ≡ false
      gone k h = left_over k h ∙ (elim (dec_lt k n) [
        | yes l ↦ ap (λ b. k ∈ s && not b) (lt-ltb k n l) ∙ and-false (k ∈ s)
        | no l ↦ ap (λ b. b && not (ltb k n)) (out k (omega arith) h)
      ])

      at_bit : (i j : ℕ) → i < w → j < 8 → bit j (get_or (s ∖ below w n) i 0) ≡ bit j 0
      at_bit i j h l =
          let a : (8 * i + j) / 8 ≡ i = omega arith in
          let b : (8 * i + j) % 8 ≡ j = omega arith in
          rw (a, b) at (gone (8 * i + j) (omega arith)) ∙ sym (ap (λ d. eqb (d % 2) 1) (zero-div (2 ^ j)))

      byte_zero : (i : ℕ) → i < w → get_or (s ∖ below w n) i 0 ≡ 0
      byte_zero i h =
          by_bits (get_or (s ∖ below w n) i 0) 0 (rw (at-∖ s (below w n) i) (minus_lt (get_or s i 0) (get_or (below w n) i 0) (bytes i))) (omega arith) (λ j l. at_bit i j h l)

  pub known : n ≤ 8 * w → AreBytes s → is_empty (s ∖ below w n) ≡ set_good n s
  unfolding set_good
  known m bytes = same_truth _ _ there back
    where
      there : is_empty (s ∖ below w n) ≡ true → all (λ k. not (k ∈ s)) (numbers n (8 * length s - n)) ≡ true
      there e = numbers_of (λ k. not (k ∈ s)) n (8 * length s - n) (λ i h. ap not (unknown_out e (n + i) (omega arith) (let l = long in omega arith)))

      back : all (λ k. not (k ∈ s)) (numbers n (8 * length s - n)) ≡ true → is_empty (s ∖ below w n) ≡ true
      back e = empties bytes (λ k l h. (let z : n + (k - n) ≡ k = omega arith in not-true (k ∈ s) (rw z at (numbers_at (λ k. not (k ∈ s)) n (8 * length s - n) (k - n) e (let q = long in omega arith)))))

  -- the bytes below n's own need not be asked
  pub asked_from : AreBytes s → (i : ℕ) → i ≤ w → 8 * i ≤ n → Found (λ x. eqb x 0) (s ∖ below w n) 0 true i
  asked_from bytes i h l =
      let kept = length-∖ s (below w n) in
      found_below (λ x. eqb x 0) (s ∖ below w n) 0 0 i (let q = long in omega arith) (λ j k. eq-eqb _ 0 (none_below w n s j (omega arith) (bytes j) (omega arith))) refl

-- ---- nothing of a byte is left without its lowest m bits exactly if nothing stands above them
pub above : (x m : ℕ) → m < 8 → eqb (x / 2 ^ m) 0 ≡ eqb (bit_xor x (bit_and x (low_bits m))) 0
above x m h =
    let e : min m 8 ≡ m = omega arith in
    let k : bit_and x (low_bits m) ≡ x % 2 ^ m = rw e (and_mask x m) in
    let s = xor_add_and x (bit_and x (low_bits m)) in
    let i : bit_and x (bit_and x (low_bits m)) ≡ bit_and x (low_bits m) = sym (and_assoc (low_bits m) x x) ∙ ap (λ z. bit_and z (low_bits m)) (and_self x) in
    let d : 2 ^ m * (x / 2 ^ m) + x % 2 ^ m ≡ x = div-add-mod x (2 ^ m) in
    let p : 0 < 2 ^ m = pow_pos m in
    let o : bit_xor x (bit_and x (low_bits m)) ≡ 2 ^ m * (x / 2 ^ m) = omega (arith, k, s, i, d) in
    rw o (times (2 ^ m) (x / 2 ^ m) p)
  where
    times : (p q : ℕ) → 0 < p → eqb q 0 ≡ eqb (p * q) 0
    times p zero l = rw mul-zero refl
    times p (suc q) l = ne_eqb (suc q) 0 (λ z. omega arith) ∙ sym (ne_eqb (p * suc q) 0 (λ z. omega (arith, mul-suc p q)))
