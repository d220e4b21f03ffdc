-- The truth values and the set stand for each other, over any number of bytes.
use mathlib.Core.Path.{◌≡◌, refl, ap, ◌∙◌, sym}
use mathlib.Core.Bool.{Bool, true, false}
use mathlib.Core.List.{List, []}
use Prim.Native.Nat.{ℕ, zero, suc, ◌+◌, ◌*◌, ◌/◌, ◌%◌, ◌^◌, ◌<◌}
use native.Mathlib.Nat.{zero-add, add-zero, mod-lt, pow-suc}
use native.Mathlib.Decide.{dec_lt, ℕ_discrete}
use native.Mathlib.Omega.{arith}
use lib.Bits.{bit_or, or_lt}
use lib.Dec.{eqb}
use lib.ListN.{length, get_or, get_or-eq_default}
use lib.Pow.{pow-lt, shr-shr}
use lib.Seq.{get_or-set_same, get_or-set_other}
use Rattle.paper.specs.Atoms.{Atoms, bit, ◌∈◌}
use Rattle.paper.specs.Next.{if}
use Rattle.paper.specs.Theorems.{AreBytes}
use Rattle.paper.proofs.Sets.{by_members, past}
use Rattle.runs.specs.Order.{numbers}
use Rattle.runs.proofs.Numbers.{length_made, made_at}
use Rattle.meaning.specs.Looking.{how_many}
use Rattle.meaning.proofs.Looking.{many_yes, many_no, many_both}
use Rattle.sets.specs.Sets.{with_member, Passing}
use Rattle.sets.proofs.Members.{passing_below}
use Rattle.unpacked.specs.Truths.{values, bits_from, packed, StandForEachOther}
use lib.Seq.{ext_get_or}

-- ---- one byte

-- a truth value as a digit, with what is behind it: the digit is the lowest bit, and the rest are the others
first_bit : (b : Bool) (x : ℕ) → bit 0 (if b 1 0 + 2 * x) ≡ b
unfolding bit
first_bit true x = let e : (1 + 2 * x) / 2 ^ 0 % 2 ≡ 1 = omega arith in ap (λ d. eqb d 1) e
first_bit false x = let e : (0 + 2 * x) / 2 ^ 0 % 2 ≡ 0 = omega arith in ap (λ d. eqb d 1) e

half : (b : Bool) (x : ℕ) → (if b 1 0 + 2 * x) / 2 ≡ x
half true x = omega arith
half false x = omega arith

other_bit : (b : Bool) (x i : ℕ) → bit (suc i) (if b 1 0 + 2 * x) ≡ bit i x
unfolding bit
other_bit b x i =
    let y = if b 1 0 + 2 * x in
    let s : 1 + i ≡ suc i = omega arith in
    let e : y / 2 ^ suc i ≡ x / 2 ^ i = ap (λ j. y / 2 ^ j) (sym s) ∙ sym (shr-shr y 1 i) ∙ ap (λ z. z / 2 ^ i) (half b x) in
    ap (λ d. eqb (d % 2) 1) e

bits_at : (v : List Bool) (k m i : ℕ) → i < m → bit i (bits_from v k m) ≡ get_or v (k + i) false
bits_at v k zero i h = absurd (omega arith)
bits_at v k (suc m) zero h = first_bit (get_or v k false) (bits_from v (suc k) m) ∙ ap (λ j. get_or v j false) (sym (add-zero k))
bits_at v k (suc m) (suc i) h =
    let e : suc k + i ≡ k + suc i = omega arith in
    other_bit (get_or v k false) (bits_from v (suc k) m) i ∙ bits_at v (suc k) m i (omega arith) ∙ ap (λ j. get_or v j false) e

digit_lt : (b : Bool) (x n : ℕ) → x < n → if b 1 0 + 2 * x < n * 2
digit_lt true x n h = omega arith
digit_lt false x n h = omega arith

bits_lt : (v : List Bool) (k m : ℕ) → bits_from v k m < 2 ^ m
bits_lt v k zero = omega arith
bits_lt v k (suc m) = rw (pow-suc 2 m) (digit_lt (get_or v k false) (bits_from v (suc k) m) (2 ^ m) (bits_lt v (suc k) m))

-- ---- all bytes

pub length_packed : (n : ℕ) (v : List Bool) → length (packed n v) ≡ n
unfolding packed
length_packed n v = length_made (λ i. bits_from v (8 * i) 8) 0 n

byte_at : (n : ℕ) (v : List Bool) (i : ℕ) → i < n → get_or (packed n v) i 0 ≡ bits_from v (8 * i) 8
unfolding packed
byte_at n v i h = made_at (λ i. bits_from v (8 * i) 8) 0 n i 0 h ∙ ap (λ j. bits_from v (8 * j) 8) (zero-add i)

pub packed_bytes : (n : ℕ) (v : List Bool) → AreBytes (packed n v)
packed_bytes n v i = elim (dec_lt i n) [
  | yes h ↦ rw (byte_at n v i h) (bits_lt v (8 * i) 8)
  | no h ↦ let l = length_packed n v in let e : get_or (packed n v) i 0 ≡ 0 = get_or-eq_default (packed n v) 0 (omega arith) in omega arith
]

-- an atom is in the set of truth values exactly where its value is true
pub member_packed : (n : ℕ) (v : List Bool) → length v ≡ 8 * n → (k : ℕ) → (k ∈ packed n v) ≡ get_or v k false
unfolding ◌∈◌
member_packed n v l k = elim (dec_lt (k / 8) n) [
  | yes h ↦
      let e : 8 * (k / 8) + k % 8 ≡ k = omega arith in
      rw (byte_at n v (k / 8) h) (bits_at v (8 * (k / 8)) 8 (k % 8) (mod-lt k (omega arith)) ∙ ap (λ j. get_or v j false) e)
  | no h ↦ let m = length_packed n v in past (packed n v) k (omega arith) ∙ sym (get_or-eq_default v false (omega arith))
]

-- truth values that tell of each atom whether it is in a set are those of that set
pub packed_is : (n : ℕ) (v : List Bool) (s : Atoms) → length v ≡ 8 * n → length s ≡ n → AreBytes s
    → ((k : ℕ) → k < 8 * n → get_or v k false ≡ (k ∈ s)) → packed n v ≡ s
packed_is n v s l m b h =
    by_members (packed n v) s (length_packed n v ∙ sym m) (packed_bytes n v) b
    (λ k i. (let p = length_packed n v in member_packed n v l k ∙ h k (omega arith)))

-- a set of the atoms below the last byte's end whose values are true is that of the truth values
pub packed_all : (n : ℕ) (v : List Bool) (s : Atoms) → length v ≡ 8 * n → length s ≡ n → AreBytes s
    → Passing (λ k. get_or v k false) (8 * n) s → s ≡ packed n v
packed_all n v s l m b g = sym (packed_is n v s l m b (λ k h. sym (passing_below (λ k. get_or v k false) (8 * n) s g k h)))

-- bytes with one member more are bytes
pub with_bytes : (k : ℕ) (s : Atoms) → k / 8 < length s → AreBytes s → AreBytes (with_member k s)
with_bytes k s h b i =
    let x = bit_or (get_or s (k / 8) 0) (2 ^ (k % 8)) in
    let p : 2 ^ (k % 8) < 2 ^ 8 = pow-lt {i = k % 8} {j = 8} (mod-lt k (omega arith)) in
    elim (ℕ_discrete i (k / 8)) [
      | yes e ↦ rw (e, get_or-set_same s (k / 8) x 0 h) (or_lt 8 (get_or s (k / 8) 0) (2 ^ (k % 8)) (b (k / 8)) p)
      | no e ↦ rw (get_or-set_other s (k / 8) i x 0 e) (b i)
    ]

-- ---- and the truth values of a set

pub length-values : (s : Atoms) → length (values s) ≡ 8 * length s
unfolding values
length-values s = length_made (λ k. k ∈ s) 0 (8 * length s)

pub value_at : (s : Atoms) (k : ℕ) → k < 8 * length s → get_or (values s) k false ≡ (k ∈ s)
unfolding values
value_at s k h = made_at (λ k. k ∈ s) 0 (8 * length s) k false h ∙ ap (λ j. j ∈ s) (zero-add k)

-- truth values, one an atom, that tell of each whether it is in a set are the values of that set
pub values_are : (s : Atoms) (v : List Bool) → length v ≡ 8 * length s → ((k : ℕ) → k < 8 * length s → get_or v k false ≡ (k ∈ s)) → v ≡ values s
values_are s v l h = ext_get_or false v (values s) (l ∙ sym (length-values s)) (λ k b. (let c : k < 8 * length s = omega arith in h k c ∙ sym (value_at s k c)))

-- a set comes back from its truth values
pub packed_values : (n : ℕ) (s : Atoms) → length s ≡ n → AreBytes s → packed n (values s) ≡ s
packed_values n s l b = packed_is n (values s) s (length-values s ∙ ap (λ m. 8 * m) l) l b (λ k h. value_at s k (omega arith))

-- ---- how many are true

module _ (t : ℕ → Bool) (k : ℕ) where
  pub counted_yes : t k ≡ true → how_many t (numbers 0 (k + 1)) ≡ how_many t (numbers 0 k) + 1
  unfolding numbers
  counted_yes e = many_both t 0 k 1 ∙ ap (λ n. how_many t (numbers 0 k) + n) (many_yes t (0 + k) [] (ap t (zero-add k) ∙ e))

  pub counted_no : t k ≡ false → how_many t (numbers 0 (k + 1)) ≡ how_many t (numbers 0 k)
  unfolding numbers
  counted_no e =
      many_both t 0 k 1 ∙ ap (λ n. how_many t (numbers 0 k) + n) (many_no t (0 + k) [] (ap t (zero-add k) ∙ e))
      ∙ add-zero (how_many t (numbers 0 k))

-- ---- the whole

pub stand_for_each_other : StandForEachOther
stand_for_each_other = record {
  back = λ s b. packed_values (length s) s refl b;
  forth = λ n v l. sym (values_are (packed n v) v (l ∙ ap (λ m. 8 * m) (sym (length_packed n v))) (λ k h. sym (member_packed n v l k)));
  each = member_packed;
}
