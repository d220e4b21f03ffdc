-- Sets and plans read from a text, number by number.
use mathlib.Core.Path.{◌≡◌, refl, ap, ap₂, sym, ◌∙◌, subst}
use mathlib.Core.Bool.{Bool, true, false, ◌&&◌, ◌||◌, and_assoc, and-true, and-eq-true_iff, or_assoc, or-false}
use mathlib.Core.List.{List, [], ◌∷◌, ◌++◌}
use Prim.Native.Nat.{ℕ, zero, suc, ◌+◌, ◌-◌, ◌/◌, ◌%◌, ◌^◌, ◌≤◌, ◌<◌}
use native.Mathlib.Nat.{mod-lt, zero-div}
use native.Mathlib.Omega.{arith}
use borrow.Author.Tests.{leb-true}
use lib.Bits.{bit_or, or_zero_r, or_lt}
use lib.Pow.{pow-lt}
use lib.Dec.{leb}
use lib.ListN.{length, drop, get_or, set, replicate, length-append, length-replicate}
use Rattle.paper.specs.Atoms.{Atoms, bit, ◌∈◌, ◌∪◌}
use Rattle.paper.specs.Theorems.{AreBytes}
use Rattle.paper.proofs.Sets.{at-∪, length-∪, ∈-∪, by_members}
use Rattle.meaning.specs.Card.{Bytes}
use Rattle.meaning.proofs.Widening.{at_zeros}
use Rattle.sets.specs.Sets.{with_member}
use Rattle.notation.specs.Built.{single, set_of}
use Rattle.notation.specs.Values.{number_value, digits_rest, list_goes_on, list_of, behind_list}
use Rattle.notation.specs.Making.{when, added_to, set_fits, with_plan}
use Rattle.std.specs.Prelude.{IfSome}
use Rattle.conditions.specs.Reads.{Count, ReadsNumber}
use Rattle.conditions.specs.declared.number.Numeral.{Numeral}
use Rattle.lines.specs.Lines.{WithAtom, ReadsSet, pool_of, WithAction, ReadsPlan}
use Rattle.lines.proofs.Numbered.{turn_list, turn_behind, list_over, behind_over, capped_when, capped_leb}

-- ---- the set of one atom

none_more : (s : Atoms) → s ∪ replicate (length s) 0 ≡ s
unfolding ◌∪◌
none_more [] = refl
none_more (x ∷ s) = ap₂ (λ y (t : Atoms). y ∷ t) (or_zero_r x) (none_more s)

byte_more : (s : Atoms) (i n x : ℕ) → length s ≡ i + suc n → set s i (bit_or (get_or s i 0) x) ≡ s ∪ (replicate i 0 ++ (x ∷ replicate n 0))
unfolding ◌∪◌
byte_more [] i n x h = absurd (omega arith)
byte_more (y ∷ s) zero n x h =
    let e : length s ≡ n = omega arith in
    ap (λ (t : Atoms). bit_or y x ∷ t) (sym (none_more s) ∙ ap (λ k. s ∪ replicate k 0) e)
byte_more (y ∷ s) (suc i) n x h = ap₂ (λ z (t : Atoms). z ∷ t) (sym (or_zero_r y)) (byte_more s i n x (omega arith))

-- a set with one member more is its union with the set of that atom
pub with_single : (v : ℕ) (s : Atoms) → v ≤ 127 → length s ≡ 16 → with_member v s ≡ s ∪ single v
with_single v s h l = byte_more s (v / 8) (15 - v / 8) (2 ^ (v % 8)) (omega arith)

zeros_bytes : (n : ℕ) → AreBytes (replicate n 0)
zeros_bytes zero i = omega arith
zeros_bytes (suc n) zero = omega arith
zeros_bytes (suc n) (suc i) = zeros_bytes n i

one_bytes : (n m x : ℕ) → x < 256 → AreBytes (replicate n 0 ++ (x ∷ replicate m 0))
one_bytes zero m x h zero = h
one_bytes zero m x h (suc i) = zeros_bytes m i
one_bytes (suc n) m x h zero = omega arith
one_bytes (suc n) m x h (suc i) = one_bytes n m x h i

single_bytes : (n : ℕ) → AreBytes (single n)
single_bytes n = one_bytes (n / 8) (15 - n / 8) (2 ^ (n % 8)) (pow-lt {i = n % 8} {j = 8} (mod-lt n (omega arith)))

single_length : (n : ℕ) → n ≤ 127 → length (single n) ≡ 16
single_length n h =
    let a = length-append (replicate (n / 8) 0) (2 ^ (n % 8) ∷ replicate (15 - n / 8) 0) in
    let b = length-replicate {A = ℕ} (n / 8) 0 in
    let c = length-replicate {A = ℕ} (15 - n / 8) 0 in
    omega arith

∪-bytes : (s t : Atoms) → AreBytes s → AreBytes t → AreBytes (s ∪ t)
∪-bytes s t a b i = rw (at-∪ s t i) (or_lt 8 (get_or s i 0) (get_or t i 0) (a i) (b i))

set_bytes : (ns : List ℕ) → set_fits ns ≡ true → (length (set_of ns) ≡ 16) × AreBytes (set_of ns)
unfolding set_of
set_bytes [] e = (refl, zeros_bytes 16)
set_bytes (n ∷ ns) e =
    let both = (and-eq-true_iff (leb n 127) (set_fits ns)).0 e in
    let l = single_length n (leb-true n 127 both.0) in
    let r = set_bytes ns both.1 in
    (length-∪ (single n) (set_of ns) (l ∙ sym r.0) ∙ l, ∪-bytes (single n) (set_of ns) (single_bytes n) r.1)

none_in : (k : ℕ) → k ∈ replicate 16 0 ≡ false
unfolding ◌∈◌ bit
none_in k = rw (at_zeros 16 (k / 8), zero-div)

-- ---- a set, read from a place on as far as the numbers before next

abbrev pub SetTo : Bytes → ℕ → Bytes → Bool → ℕ → Type 0
SetTo t at s fits next =
    (at ≤ next)
    × (next ≤ length t)
    × (behind_list (drop next t) ≡ behind_list (drop at t))
    × ((fits && set_fits (list_of (drop next t))) ≡ set_fits (list_of (drop at t)))
    × (length s ≡ 16)
    × (fits ≡ true → AreBytes s × ((k : ℕ) → (k ∈ s || k ∈ set_of (list_of (drop next t))) ≡ k ∈ set_of (list_of (drop at t))))

pub set_start : (t : Bytes) (at : ℕ) (s : Bytes) → at ≤ length t → s ≡ replicate 16 0 → SetTo t at s true at
set_start t at s h e = (
  omega arith,
  h,
  refl,
  refl,
  ap length e,
  λ f. (subst AreBytes (sym e) (zeros_bytes 16), λ k. ap (λ b. b || k ∈ set_of (list_of (drop at t))) (ap (λ (x : Bytes). k ∈ x) e ∙ none_in k)),
)

module _ (t : Bytes) (at : ℕ) (s : Bytes) (fits : Bool) (n : ℕ) (p : SetTo t at s fits n) where
  pub set_turn : list_goes_on (drop n t) ≡ true → (r : Numeral) → ReadsNumber t (n + 1) r → (s' : Bytes) → WithAtom s r.value s' → length s' ≡ 16
      → SetTo t at s' (fits && leb r.value 127) r.next
  unfolding set_of
  set_turn e r q s' w l =
      let a = p.0 in
      let b = q.1 in
      let v : ℕ = number_value (drop (n + 1) t) in
      let there : drop r.next t ≡ digits_rest (drop (n + 1) t) = q.2.1 in
      let ns : List ℕ = list_of (drop r.next t) in
      let now : list_of (drop n t) ≡ v ∷ ns = turn_list t n e r.next there in
      let small : leb r.value 127 ≡ leb v 127 = ap (λ x. leb x 127) q.0 ∙ capped_leb v 127 (omega arith) in (
        omega arith,
        q.2.0,
        sym (turn_behind t n e r.next there) ∙ p.2,
        and_assoc fits (leb r.value 127) (set_fits ns) ∙ ap (λ b. fits && (b && set_fits ns)) small ∙ sym (ap (λ (x : List ℕ). fits && set_fits x) now) ∙ p.3,
        l,
        λ f.
            let both = (and-eq-true_iff fits (leb r.value 127)).0 f in
            let low : r.value ≤ 127 = leb-true r.value 127 both.1 in
            let same : r.value ≡ v = (let z = q.0 in omega arith) in
            let more : s' ≡ s ∪ single v = w low ∙ ap (λ x. s ∪ single x) same in
            let old = p.5 both.0 in (
              subst AreBytes (sym more) (∪-bytes s (single v) old.0 (single_bytes v)),
              λ k.
                  ap (λ (x : Bytes). k ∈ x || k ∈ set_of ns) more
                  ∙ ap (λ b. b || k ∈ set_of ns) (∈-∪ k s (single v))
                  ∙ or_assoc (k ∈ s) (k ∈ single v) (k ∈ set_of ns)
                  ∙ ap (λ b. k ∈ s || b) (sym (∈-∪ k (single v) (set_of ns)))
                  ∙ sym (ap (λ (x : List ℕ). k ∈ s || k ∈ set_of x) now)
                  ∙ old.1 k,
            ),
      )

  pub set_over : list_goes_on (drop n t) ≡ false → ReadsSet t at (record { set = s; fits = fits; next = n })
  unfolding set_of
  set_over e =
      let none : list_of (drop n t) ≡ [] = list_over (drop n t) e in
      let all : List ℕ = list_of (drop at t) in
      let good : fits ≡ set_fits all = sym (ap (λ (x : List ℕ). fits && set_fits x) none ∙ and-true fits) ∙ p.3 in (
        p.0,
        (p.1, sym (behind_over (drop n t) e) ∙ p.2),
        good,
        λ f.
            let old = p.5 f in
            let known = set_bytes all (sym good ∙ f) in
            by_members s (set_of all) (p.4 ∙ sym known.0) old.0 known.1
            (λ k h. sym (ap (λ (x : List ℕ). k ∈ s || k ∈ set_of x) none ∙ ap (λ b. k ∈ s || b) (none_in k) ∙ or-false (k ∈ s)) ∙ old.1 k),
      )

-- ---- the pool

abbrev pub PlanTo : Bytes → ℕ → Bytes → Count → Bytes → Count → ℕ → Type 0
PlanTo t at d₀ k₀ d k next =
    (at ≤ next)
    × (next ≤ length t)
    × (behind_list (drop next t) ≡ behind_list (drop at t))
    × IfSome k (λ n. n ≤ 8192)
    × (length d ≡ 8192)
    × (with_plan (list_of (drop next t)) (pool_of k d) ≡ with_plan (list_of (drop at t)) (pool_of k₀ d₀))

module _ (t : Bytes) (at : ℕ) (d₀ : Bytes) (k₀ : Count) (d : Bytes) (k : Count) (n : ℕ) (p : PlanTo t at d₀ k₀ d k n) where
  pub plan_turn : list_goes_on (drop n t) ≡ true → (r : Numeral) → ReadsNumber t (n + 1) r → (k' : Count) (d' : Bytes) → WithAction d k r.value k' d'
      → PlanTo t at d₀ k₀ d' k' r.next
  unfolding with_plan
  plan_turn e r q k' d' w =
      let a = p.0 in
      let b = q.1 in
      let v = number_value (drop (n + 1) t) in
      let there : drop r.next t ≡ digits_rest (drop (n + 1) t) = q.2.1 in (
        omega arith,
        q.2.0,
        sym (turn_behind t n e r.next there) ∙ p.2,
        w.0,
        w.1,
        ap (with_plan (list_of (drop r.next t))) (
            w.2
            ∙ ap (λ x. when (leb x 255) (added_to 8192 (x ∷ []) (pool_of k d))) q.0
            ∙ capped_when v 255 (λ x. added_to 8192 (x ∷ []) (pool_of k d)) (omega arith))
            ∙ sym (ap (λ ns. with_plan ns (pool_of k d)) (turn_list t n e r.next there))
            ∙ p.5,
      )

  pub plan_over : list_goes_on (drop n t) ≡ false → ReadsPlan t at d₀ k₀ (record { next = n; count = k }) d
  unfolding with_plan
  plan_over e = (p.0, (p.1, sym (behind_over (drop n t) e) ∙ p.2), p.3, p.4, sym (ap (λ ns. with_plan ns (pool_of k d)) (list_over (drop n t) e)) ∙ p.5)
