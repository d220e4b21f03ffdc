-- The laws of sets of atoms, for any number of bytes, and what an action does to the members.
use mathlib.Core.Path.{◌≡◌, refl, ap, ◌∙◌, sym}
use mathlib.Core.Bool.{Bool, true, false, not, ◌&&◌, ◌||◌, and-true}
use mathlib.Core.List.{[], ◌∷◌}
use Prim.Native.Nat.{ℕ, zero, suc, ◌+◌, ◌*◌, ◌/◌, ◌%◌, ◌^◌, ◌≤◌, ◌<◌}
use native.Mathlib.Nat.{zero-div, mod-lt, div-div-eq-div-mul, pow-suc, mul_comm, div-lt_iff_lt-mul}
use native.Mathlib.Decide.{dec_lt}
use native.Mathlib.Omega.{arith}
use lib.Arith.{lt-one}
use lib.Bits.{bit_and, bit_or, bit_xor, or_shr, or_mod, and_shr, and_mod, xor_shr, xor_mod, or_zero_r, and_zero_r, xor_zero_r}
use lib.Dec.{eqb}
use lib.ListN.{length, length-replicate, replicate, get_or, get_or-replicate, get_or-eq_default}
use lib.Seq.{ext_get_or}
use Rattle.paper.specs.Atoms.{Atoms, bit, ◌∈◌, ◌∪◌, ◌∖◌}
use Rattle.paper.specs.Language.{Specification}
use Rattle.paper.specs.Transitions.{σ', γ'}
use Rattle.paper.specs.Theorems.{AreBytes, SetLaws, ActionLaws}

-- ---- one bit of a byte

-- bit i as a number
abbrev digit : ℕ → ℕ → ℕ
digit i x = x / 2 ^ i % 2

digit_lt : (i x : ℕ) → digit i x < 2
digit_lt i x = mod-lt (x / 2 ^ i) (omega arith)

digit_or : (i x y : ℕ) → digit i (bit_or x y) ≡ bit_or (digit i x) (digit i y)
digit_or i x y = ap (λ (n : ℕ). n % 2) (or_shr x y i) ∙ or_mod (x / 2 ^ i) (y / 2 ^ i) 1

digit_and : (i x y : ℕ) → digit i (bit_and x y) ≡ bit_and (digit i x) (digit i y)
digit_and i x y = ap (λ (n : ℕ). n % 2) (and_shr x y i) ∙ and_mod (x / 2 ^ i) (y / 2 ^ i) 1

digit_xor : (i x y : ℕ) → digit i (bit_xor x y) ≡ bit_xor (digit i x) (digit i y)
digit_xor i x y = ap (λ (n : ℕ). n % 2) (xor_shr x y i) ∙ xor_mod (x / 2 ^ i) (y / 2 ^ i) 1

-- a claim of two digits, by its four cases
two_digits : (P : ℕ → ℕ → Type 0) → P 0 0 → P 0 1 → P 1 0 → P 1 1 → (u v : ℕ) → u < 2 → v < 2 → P u v
two_digits P a b c d zero zero h k = a
two_digits P a b c d zero (suc zero) h k = b
two_digits P a b c d (suc zero) zero h k = c
two_digits P a b c d (suc zero) (suc zero) h k = d
two_digits P a b c d zero (suc (suc v)) h k = absurd (omega arith)
two_digits P a b c d (suc zero) (suc (suc v)) h k = absurd (omega arith)
two_digits P a b c d (suc (suc u)) v h k = absurd (omega arith)

bit_or_lem : (i x y : ℕ) → bit i (bit_or x y) ≡ bit i x || bit i y
unfolding bit
bit_or_lem i x y =
    rw (digit_or i x y)
    (two_digits (λ u v. eqb (bit_or u v) 1 ≡ eqb u 1 || eqb v 1) refl refl refl refl (digit i x) (digit i y) (digit_lt i x) (digit_lt i y))

bit_minus : (i x y : ℕ) → bit i (bit_xor x (bit_and x y)) ≡ bit i x && not (bit i y)
unfolding bit
bit_minus i x y =
    rw (digit_xor i x (bit_and x y), digit_and i x y)
    (two_digits (λ u v. eqb (bit_xor u (bit_and u v)) 1 ≡ eqb u 1 && not (eqb v 1)) refl refl refl refl (digit i x) (digit i y) (digit_lt i x) (digit_lt i y))

-- ---- one byte of a set

pub at-∪ : (s t : Atoms) (i : ℕ) → get_or (s ∪ t) i 0 ≡ bit_or (get_or s i 0) (get_or t i 0)
unfolding ◌∪◌
at-∪ [] t i = refl
at-∪ (x ∷ s) [] i = sym (or_zero_r (get_or (x ∷ s) i 0))
at-∪ (x ∷ s) (y ∷ t) zero = refl
at-∪ (x ∷ s) (y ∷ t) (suc i) = at-∪ s t i

minus_zero : (x : ℕ) → bit_xor x (bit_and x 0) ≡ x
minus_zero x = ap (bit_xor x) (and_zero_r x) ∙ xor_zero_r x

pub at-∖ : (s t : Atoms) (i : ℕ) → get_or (s ∖ t) i 0 ≡ bit_xor (get_or s i 0) (bit_and (get_or s i 0) (get_or t i 0))
unfolding ◌∖◌
at-∖ [] t i = refl
at-∖ (x ∷ s) [] i = sym (minus_zero (get_or (x ∷ s) i 0))
at-∖ (x ∷ s) (y ∷ t) zero = refl
at-∖ (x ∷ s) (y ∷ t) (suc i) = at-∖ s t i

pub length-∪ : (s t : Atoms) → length s ≡ length t → length (s ∪ t) ≡ length s
unfolding ◌∪◌
length-∪ [] [] h = refl
length-∪ [] (y ∷ t) h = sym h
length-∪ (x ∷ s) [] h = refl
length-∪ (x ∷ s) (y ∷ t) h = ap suc (length-∪ s t (omega arith))

pub length-∖ : (s t : Atoms) → length (s ∖ t) ≡ length s
unfolding ◌∖◌
length-∖ [] t = refl
length-∖ (x ∷ s) [] = refl
length-∖ (x ∷ s) (y ∷ t) = ap suc (length-∖ s t)

-- ---- membership

pub ∈-∪ : (k : ℕ) (s t : Atoms) → k ∈ s ∪ t ≡ (k ∈ s || k ∈ t)
unfolding ◌∈◌
∈-∪ k s t = rw (at-∪ s t (k / 8)) (bit_or_lem (k % 8) (get_or s (k / 8) 0) (get_or t (k / 8) 0))

pub ∈-∖ : (k : ℕ) (s t : Atoms) → k ∈ s ∖ t ≡ (k ∈ s && not (k ∈ t))
unfolding ◌∈◌
∈-∖ k s t = rw (at-∖ s t (k / 8)) (bit_minus (k % 8) (get_or s (k / 8) 0) (get_or t (k / 8) 0))

-- ---- a set is known by its members

same_digit : (u v : ℕ) → u < 2 → v < 2 → eqb u 1 ≡ eqb v 1 → u ≡ v
same_digit = two_digits (λ u v. eqb u 1 ≡ eqb v 1 → u ≡ v) (λ e. refl) (λ e. (let z : ◌≡◌ {A = ℕ} 0 1 = cc in z)) (λ e. (let z : ◌≡◌ {A = ℕ} 1 0 = cc in z)) (λ e. refl)

digit-suc : (i x : ℕ) → digit i (x / 2) ≡ digit (suc i) x
digit-suc i x = ap (λ (n : ℕ). n % 2) (div-div-eq-div-mul x 2 (2 ^ i) ∙ ap (λ (n : ℕ). x / n) (mul_comm 2 (2 ^ i) ∙ sym (pow-suc 2 i)))

by_digits : (k x y : ℕ) → x < 2 ^ k → y < 2 ^ k → ((i : ℕ) → i < k → digit i x ≡ digit i y) → x ≡ y
by_digits zero x y h g e = lt-one h ∙ sym (lt-one g)
by_digits (suc k) x y h g e =
    let h' : x / 2 < 2 ^ k = (div-lt_iff_lt-mul {k = 2} (omega arith)).1 (rw pow-suc at h) in
    let g' : y / 2 < 2 ^ k = (div-lt_iff_lt-mul {k = 2} (omega arith)).1 (rw pow-suc at g) in
    let ih : x / 2 ≡ y / 2 = by_digits k (x / 2) (y / 2) h' g' (λ i l. digit-suc i x ∙ e (suc i) (omega arith) ∙ sym (digit-suc i y)) in
    let z : x / 2 ^ 0 % 2 ≡ y / 2 ^ 0 % 2 = e 0 (omega arith) in
    omega arith

pub by_bits : (x y : ℕ) → x < 256 → y < 256 → ((i : ℕ) → i < 8 → bit i x ≡ bit i y) → x ≡ y
unfolding bit
by_bits x y h g e = by_digits 8 x y h g (λ i l. same_digit (digit i x) (digit i y) (digit_lt i x) (digit_lt i y) (e i l))

pub by_members : (s t : Atoms) → length s ≡ length t → AreBytes s → AreBytes t → ((k : ℕ) → k < 8 * length s → k ∈ s ≡ k ∈ t) → s ≡ t
unfolding ◌∈◌
by_members s t l hs ht e = ext_get_or 0 s t l (λ i h. by_bits _ _ (hs i) (ht i) (λ j k. same i j h k))
  where
    same : (i j : ℕ) → i < length s → j < 8 → bit j (get_or s i 0) ≡ bit j (get_or t i 0)
    same i j h k =
        let a : (8 * i + j) / 8 ≡ i = omega arith in
        let b : (8 * i + j) % 8 ≡ j = omega arith in
        rw (a, b) at (e (8 * i + j) (omega arith))

pub set_laws : SetLaws
set_laws = record { in_union = ∈-∪; in_difference = ∈-∖; by_members = by_members }

-- ---- an action

pub ∈-σ' : (k : ℕ) (σ : Atoms) (s : Specification) → k ∈ σ' σ s ≡ ((k ∈ σ || k ∈ s.Add) && not (k ∈ s.Del))
unfolding σ'
∈-σ' k σ s = ∈-∖ k (σ ∪ s.Add) s.Del ∙ ap (λ b. b && not (k ∈ s.Del)) (∈-∪ k σ s.Add)

pub ∈-γ' : (k : ℕ) (σ γ : Atoms) (s : Specification) → k ∈ γ' σ γ s ≡ (k ∈ γ && not (k ∈ σ' σ s))
unfolding γ'
∈-γ' k σ γ s = ∈-∖ k γ (σ' σ s)

without : (b c : Bool) → c ≡ true → b && not c ≡ false
without true c e = rw e
without false c e = refl

gone : (k : ℕ) (σ : Atoms) (s : Specification) → k ∈ s.Del ≡ true → k ∈ σ' σ s ≡ false
gone k σ s del = ∈-σ' k σ s ∙ without (k ∈ σ || k ∈ s.Add) (k ∈ s.Del) del

pub action_laws : ActionLaws
action_laws =
    record {
      beliefs = ∈-σ';
      goals = ∈-γ';
      in_both = λ k σ γ s add del. (gone k σ s del, ∈-γ' k σ γ s ∙ ap (λ b. k ∈ γ && not b) (gone k σ s del) ∙ and-true (k ∈ γ));
    }

-- ---- what is in no set

-- no atom past the last byte of a set is in it
pub past : (s : Atoms) (k : ℕ) → 8 * length s ≤ k → k ∈ s ≡ false
unfolding ◌∈◌ bit
past s k h = let e : get_or s (k / 8) 0 ≡ 0 = get_or-eq_default s 0 (omega arith) in rw (e, zero-div)

-- no atom is in a set of zeros
pub none_in : (n k : ℕ) → k ∈ replicate n 0 ≡ false
unfolding ◌∈◌ bit
none_in n k = elim (dec_lt (k / 8) n) [
  | yes l ↦ (let e : ◌≡◌ {A = ℕ} (get_or (replicate n 0) (k / 8) 0) 0 = get_or-replicate n (k / 8) 0 0 l in rw (e, zero-div))
  | no l ↦ past (replicate n 0) k (let e : length (replicate {A = ℕ} n 0) ≡ n = length-replicate n 0 in omega arith)
]
