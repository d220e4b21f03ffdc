-- The ones of the bytes of a set are as many as its members.
use mathlib.Core.Path.{◌≡◌, refl, ap, ap₂, ◌∙◌, sym}
use mathlib.Core.Bool.{Bool}
use mathlib.Core.List.{[], ◌∷◌, ◌++◌}
use Prim.Native.Nat.{ℕ, zero, suc, ◌+◌, ◌*◌, ◌/◌, ◌%◌, ◌^◌, ◌≤◌, ◌<◌}
use native.Mathlib.Nat.{add-zero, zero-add, mod-lt}
use native.Mathlib.Numerals.{add-one}
use native.Mathlib.Decide.{dec_lt}
use native.Mathlib.Omega.{arith}
use lib.Count.{ones, ones_step, ones-le, ones_cat}
use Rattle.std.specs.Int.{from_le_bytes}
use mir.Syntax.{w64}
use lib.Dec.{eqb}
use lib.ListN.{length, get_or, take, drop, drop_of_length-le}
use lib.Seq.{take-add, drop-cons}
use lib.Pow.{shr-shr}
use Rattle.paper.specs.Atoms.{Atoms, bit, ◌∈◌}
use Rattle.paper.specs.Theorems.{AreBytes}
use Rattle.runs.specs.Order.{numbers}
use Rattle.meaning.specs.Looking.{how_many, size}
use Rattle.meaning.proofs.Looking.{many_yes, many_no, many_both, many_same}
use Rattle.sets.specs.Ones.{ones_of, OnesLaw}

-- ---- the ones of a byte

-- of n digits from the j-th on, and of those above
digits : (x n j : ℕ) → how_many (λ k. bit k x) (numbers j n) + ones (x / 2 ^ (j + n)) ≡ ones (x / 2 ^ j)
unfolding numbers bit
digits x zero j = zero-add (ones (x / 2 ^ (j + 0))) ∙ ap (λ k. ones (x / 2 ^ k)) (add-zero j)
digits x (suc n) j = go (x / 2 ^ j % 2) refl (mod-lt (x / 2 ^ j) (omega arith)) (digits x n (suc j))
  where
    t : ℕ → Bool
    t k = bit k x

    step : ones (x / 2 ^ j) ≡ x / 2 ^ j % 2 + ones (x / 2 ^ suc j)
    step = ones_step (x / 2 ^ j) ∙ ap (λ y. x / 2 ^ j % 2 + ones y) (shr-shr x j 1 ∙ ap (λ k. x / 2 ^ k) (add-one j))

    behind : suc j + n ≡ j + suc n
    behind = omega arith

    go : (d : ℕ) → x / 2 ^ j % 2 ≡ d → d < 2 → how_many t (numbers (suc j) n) + ones (x / 2 ^ (suc j + n)) ≡ ones (x / 2 ^ suc j)
        → how_many t (numbers j (suc n)) + ones (x / 2 ^ (j + suc n)) ≡ ones (x / 2 ^ j)
    go zero e l ih =
        let m = many_no t j (numbers (suc j) n) (ap (λ d. eqb d 1) e) in
        let b = ap (λ k. ones (x / 2 ^ k)) behind in
        omega (arith, step)
    go (suc zero) e l ih =
        let m = many_yes t j (numbers (suc j) n) (ap (λ d. eqb d 1) e) in
        let b = ap (λ k. ones (x / 2 ^ k)) behind in
        omega (arith, step)
    go (suc (suc d)) e l ih = absurd (omega arith)

no_ones : ones 0 ≡ 0
unfolding ones
no_ones = refl

byte_ones : (x : ℕ) → x < 256 → how_many (λ k. bit k x) (numbers 0 8) ≡ ones x
byte_ones x h =
    let d = digits x 8 0 in
    let z : x / 2 ^ (0 + 8) ≡ 0 = omega arith in
    let o : x / 2 ^ 0 ≡ x = omega arith in
    let f = ap ones z in
    let g = ap ones o in
    let n = no_ones in
    omega arith

-- ---- the ones of a set

behind : (x : ℕ) (s : Atoms) (k : ℕ) → 8 + k ∈ x ∷ s ≡ k ∈ s
unfolding ◌∈◌
behind x s k =
    let m : (8 + k) % 8 ≡ k % 8 = omega arith in
    let d : (8 + k) / 8 ≡ suc (k / 8) = omega arith in
    ap₂ (λ i j. bit i (get_or (x ∷ s) j 0)) m d

front : (x : ℕ) (s : Atoms) → how_many (λ k. k ∈ x ∷ s) (numbers 0 8) ≡ how_many (λ k. bit k x) (numbers 0 8)
unfolding ◌∈◌ numbers
front x s = refl

pub ones_law : OnesLaw
unfolding size numbers
ones_law [] h = refl
ones_law (x ∷ s) h =
    let ih = ones_law s (λ i. h (suc i)) in
    let e : 8 * length (x ∷ s) ≡ 8 + 8 * length s = omega arith in
    let b = many_both (λ k. k ∈ x ∷ s) 0 8 (8 * length s) in
    let f = front x s ∙ byte_ones x (h 0) in
    let m = many_same (λ k. k ∈ x ∷ s) (λ k. k ∈ s) 8 0 (8 * length s) (λ i. (let z : 0 + i ≡ i = omega arith in behind x s i ∙ ap (λ k. k ∈ s) (sym z))) in
    rw e (omega (arith, ih, b, f, m))

-- ---- the ones of a part of a set

ones_both : (s t : Atoms) → ones_of (s ++ t) ≡ ones_of s + ones_of t
ones_both [] t = sym (zero-add (ones_of t))
ones_both (x ∷ s) t = let ih = ones_both s t in omega arith

-- of one word more
pub ones_more : (s : Atoms) (i n : ℕ) → ones_of (take (i + n) s) ≡ ones_of (take i s) + ones_of (take n (drop i s))
ones_more s i n = ap ones_of (take-add i n s) ∙ ones_both (take i s) (take n (drop i s))

-- the first of them, and those behind it
ones_first : (s : Atoms) (i n : ℕ) → i < length s → ones_of (take (suc n) (drop i s)) ≡ ones (get_or s i 0) + ones_of (take n (drop (i + 1) s))
ones_first s i n h = rw (drop-cons s i 0 h, add-one i)

pub ones_most : (s : Atoms) → AreBytes s → (n i : ℕ) → ones_of (take n (drop i s)) ≤ 8 * n
ones_most s h zero i = omega arith
ones_most s h (suc n) i =
    let ih = ones_most s h n (i + 1) in
    elim (dec_lt i (length s)) [
      | yes l ↦ let f = ones_first s i n l in let o = ones-le 8 (get_or s i 0) (h i) in omega arith
      | no l ↦ rw (drop_of_length-le s {i = i} (omega arith)) (omega arith)
    ]

-- the eight bytes of a word
pub word_of : (s : Atoms) (i : ℕ) → i + 8 ≤ length s
    → ones_of (take 8 (drop i s))
    ≡ ones (get_or s i 0) + ones (get_or s (i + 1) 0) + (ones (get_or s (i + 2) 0) + ones (get_or s (i + 3) 0))
    + (ones (get_or s (i + 4) 0) + ones (get_or s (i + 5) 0) + (ones (get_or s (i + 6) 0) + ones (get_or s (i + 7) 0)))
word_of s i h =
    let e0 = ones_first s i 7 (omega arith) in
    let e1 = after 1 6 (omega arith) in
    let e2 = after 2 5 (omega arith) in
    let e3 = after 3 4 (omega arith) in
    let e4 = after 4 3 (omega arith) in
    let e5 = after 5 2 (omega arith) in
    let e6 = after 6 1 (omega arith) in
    let e7 = after 7 0 (omega arith) in
    omega arith
  where
    after : (j n : ℕ) → j < 8 → ones_of (take (suc n) (drop (i + j) s)) ≡ ones (get_or s (i + j) 0) + ones_of (take n (drop (i + suc j) s))
    after j n l = let e : i + j + 1 ≡ i + suc j = omega arith in ones_first s (i + j) n (omega arith) ∙ ap (λ k. ones (get_or s (i + j) 0) + ones_of (take n (drop k s))) e

-- the number that a word's bytes are, low byte first, has the ones of all of them
pub ones_word : (a b c d e f g h : ℕ) → a < 256 → b < 256 → c < 256 → d < 256 → e < 256 → f < 256 → g < 256
    → ones (from_le_bytes w64 (a ∷ b ∷ c ∷ d ∷ e ∷ f ∷ g ∷ h ∷ [])) ≡ ones a + ones b + (ones c + ones d) + (ones e + ones f + (ones g + ones h))
ones_word a b c d e f g h la lb lc ld le lf lg =
    let x6 = h * 256 + g in
    let x5 = x6 * 256 + f in
    let x4 = x5 * 256 + e in
    let x3 = x4 * 256 + d in
    let x2 = x3 * 256 + c in
    let x1 = x2 * 256 + b in
    let x0 : from_le_bytes w64 (a ∷ b ∷ c ∷ d ∷ e ∷ f ∷ g ∷ h ∷ []) ≡ x1 * 256 + a = omega arith in
    let o0 = ap ones x0 ∙ ones_cat 8 x1 a la in
    let o1 = ones_cat 8 x2 b lb in
    let o2 = ones_cat 8 x3 c lc in
    let o3 = ones_cat 8 x4 d ld in
    let o4 = ones_cat 8 x5 e le in
    let o5 = ones_cat 8 x6 f lf in
    let o6 = ones_cat 8 h g lg in
    omega (arith, o0, o1, o2, o3, o4, o5, o6)
