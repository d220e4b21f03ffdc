-- A set with one member more, and sets of the numbers that pass a test, of any number of bytes.
use mathlib.Core.Path.{◌≡◌, refl, ap, ◌∙◌, sym}
use mathlib.Core.Bool.{Bool, true, false, ◌&&◌, ◌||◌, or-false}
use mathlib.Core.List.{List, [], ◌∷◌, map}
use Prim.Native.Nat.{ℕ, ◌+◌, ◌*◌, ◌/◌, ◌%◌, ◌^◌, ◌<◌}
use native.Mathlib.Nat.{zero-add, mod-lt, zero-div}
use native.Mathlib.Decide.{dec_lt, ℕ_discrete}
use native.Mathlib.Omega.{arith}
use borrow.Author.Tests.{eq-eqb, ne_eqb, lt-ltb, le-ltb}
use lib.Pow.{pow-lt}
use lib.Bits.{bit_or}
use lib.Dec.{eqb, ltb}
use lib.ListN.{length, get_or, set, replicate}
use lib.Seq.{get_or-set_same, get_or-set_other}
use Rattle.paper.specs.Atoms.{Atoms, bit, ◌∈◌, ◌∪◌}
use Rattle.paper.proofs.Sets.{∈-∪}
use Rattle.runs.specs.Order.{numbers}
use Rattle.runs.proofs.Numbers.{made_at}
use Rattle.meaning.proofs.Widening.{at_zeros}
use Rattle.sets.specs.Sets.{with_member, Passing}

-- the bits of 1, 2, 4 … 128, computed
bits_table : map (λ j. map (λ i. bit j (2 ^ i)) (numbers 0 8)) (numbers 0 8) ≡ map (λ j. map (λ i. eqb j i) (numbers 0 8)) (numbers 0 8)
unfolding numbers bit
bits_table = refl

in_table : (f : ℕ → ℕ → Bool) (j i : ℕ) → j < 8 → i < 8 → get_or (get_or (map (λ j. map (f j) (numbers 0 8)) (numbers 0 8)) j []) i false ≡ f j i
in_table f j i h l =
    ap (λ (xs : List Bool). get_or xs i false) (made_at (λ j. map (f j) (numbers 0 8)) 0 8 j [] h ∙ ap (λ k. map (f k) (numbers 0 8)) (zero-add j))
    ∙ made_at (f j) 0 8 i false l
    ∙ ap (f j) (zero-add i)

bit_power : (j i : ℕ) → j < 8 → i < 8 → bit j (2 ^ i) ≡ eqb j i
bit_power j i h l =
    sym (in_table (λ j i. bit j (2 ^ i)) j i h l) ∙ ap (λ (rows : List (List Bool)). get_or (get_or rows j []) i false) bits_table ∙ in_table eqb j i h l

bit_or_lem : (j x y : ℕ) → j < 8 → bit j (bit_or x y) ≡ (bit j x || bit j y)
unfolding ◌∈◌ ◌∪◌
bit_or_lem j x y h =
    let d : j / 8 ≡ 0 = omega arith in
    let m : j % 8 ≡ j = omega arith in
    rw (d, m) at (∈-∪ j (x ∷ []) (y ∷ []))

pub one_bit : (x : ℕ) (s : Atoms) → set s (x / 8) (bit_or (get_or s (x / 8) 0) (1 * 2 ^ (x % 8) % 256)) ≡ with_member x s
one_bit x s =
    let p : 2 ^ (x % 8) < 256 = pow-lt {i = x % 8} {j = 8} (mod-lt x (omega arith)) in
    let b : 1 * 2 ^ (x % 8) % 256 ≡ 2 ^ (x % 8) = omega arith in
    ap (λ y. set s (x / 8) (bit_or (get_or s (x / 8) 0) y)) b

pub ∈-with : (k x : ℕ) (s : Atoms) → x / 8 < length s → k ∈ with_member x s ≡ (k ∈ s || eqb k x)
unfolding ◌∈◌
∈-with k x s h = elim (ℕ_discrete (k / 8) (x / 8)) [
  | yes e ↦
      let i : k % 8 < 8 = mod-lt k (omega arith) in
      let j : x % 8 < 8 = mod-lt x (omega arith) in
      rw (e, get_or-set_same s (x / 8) (bit_or (get_or s (x / 8) 0) (2 ^ (x % 8))) 0 h)
      (bit_or_lem (k % 8) (get_or s (x / 8) 0) (2 ^ (x % 8)) i ∙ ap (λ b. bit (k % 8) (get_or s (x / 8) 0) || b) (bit_power (k % 8) (x % 8) i j ∙ same e))
  | no n ↦
      rw (get_or-set_other s (x / 8) (k / 8) (bit_or (get_or s (x / 8) 0) (2 ^ (x % 8))) 0 n, ne_eqb k x (λ q. n (omega arith)))
      (sym (or-false (bit (k % 8) (get_or s (k / 8) 0))))
]
  where
    same : k / 8 ≡ x / 8 → eqb (k % 8) (x % 8) ≡ eqb k x
    same e = elim (ℕ_discrete k x) [
      | yes q ↦ eq-eqb (k % 8) (x % 8) (omega arith) ∙ sym (eq-eqb k x q)
      | no n ↦ ne_eqb (k % 8) (x % 8) (λ q. n (omega arith)) ∙ sym (ne_eqb k x n)
    ]

-- ---- a set of the numbers below a number that pass a test

module _ (t : ℕ → Bool) where
  pub passing_none : (n : ℕ) → Passing t 0 (replicate n 0)
  unfolding ◌∈◌ bit
  passing_none n k = rw (at_zeros n (k / 8), zero-div, le-ltb k 0 (omega arith))

  module _ (x : ℕ) (s : Atoms) (g : Passing t x s) where
    pub passing_below : (k : ℕ) → k < x → k ∈ s ≡ t k
    passing_below k h = g k ∙ ap (λ b. b && t k) (lt-ltb k x h)

    pub passing_yes : t x ≡ true → x / 8 < length s → Passing t (x + 1) (with_member x s)
    passing_yes e h k = ∈-with k x s h ∙ ap (λ b. b || eqb k x) (g k) ∙ more
      where
        more : (ltb k x && t k || eqb k x) ≡ (ltb k (x + 1) && t k)
        more = elim (ℕ_discrete k x) [
          | yes q ↦ rw (le-ltb k x (omega arith), eq-eqb k x q, lt-ltb k (x + 1) (omega arith)) (sym (ap t q ∙ e))
          | no q ↦ elim (dec_lt k x) [
            | yes l ↦ rw (lt-ltb k x l, ne_eqb k x q, lt-ltb k (x + 1) (omega arith)) (or-false (t k))
            | no l ↦ rw (le-ltb k x (omega arith), ne_eqb k x q, le-ltb k (x + 1) (omega arith))
          ]
        ]

    pub passing_no : t x ≡ false → Passing t (x + 1) s
    passing_no e k = g k ∙ elim (ℕ_discrete k x) [
      | yes q ↦ rw (le-ltb k x (omega arith), lt-ltb k (x + 1) (omega arith)) (sym (ap t q ∙ e))
      | no q ↦ elim (dec_lt k x) [
        | yes l ↦ rw (lt-ltb k x l, lt-ltb k (x + 1) (omega arith))
        | no l ↦ rw (le-ltb k x (omega arith), le-ltb k (x + 1) (omega arith))
      ]
    ]
