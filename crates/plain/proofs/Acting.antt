-- What changed truth values stand for: the set operations, of any number of bytes.
use mathlib.Core.Path.{◌≡◌, ap, ap₂, ◌∙◌, sym}
use mathlib.Core.Bool.{Bool, false, not, ◌&&◌, ◌||◌}
use mathlib.Core.List.{List}
use Prim.Native.Nat.{ℕ, ◌*◌}
use native.Mathlib.Omega.{arith}
use lib.Bits.{bit_and, or_lt, and_lt, xor_lt}
use lib.ListN.{length, get_or, replicate, length-replicate}
use Rattle.paper.specs.Atoms.{Atoms, ◌∈◌, ◌∪◌, ◌∖◌}
use Rattle.paper.specs.Theorems.{AreBytes}
use Rattle.paper.specs.Transitions.{struck_by}
use Rattle.paper.proofs.Sets.{at-∪, at-∖, length-∪, length-∖, ∈-∪, ∈-∖, none_in}
use Rattle.meaning.proofs.Widening.{at_zeros}
use Rattle.unpacked.specs.Truths.{values, packed}
use Rattle.unpacked.specs.Tables.{Holds}
use Rattle.unpacked.proofs.Values.{length_packed, packed_bytes, member_packed, packed_is, length-values, packed_values}

-- ---- bytes

bytes-∪ : (s t : Atoms) → AreBytes s → AreBytes t → AreBytes (s ∪ t)
bytes-∪ s t g h i = rw (at-∪ s t i) (or_lt 8 (get_or s i 0) (get_or t i 0) (g i) (h i))

bytes-∖ : (s t : Atoms) → AreBytes s → AreBytes t → AreBytes (s ∖ t)
bytes-∖ s t g h i =
    rw (at-∖ s t i) (xor_lt 8 (get_or s i 0) (bit_and (get_or s i 0) (get_or t i 0)) (g i) (and_lt 8 (get_or s i 0) (get_or t i 0) (g i) (h i)))

bytes_none : (n : ℕ) → AreBytes (replicate n 0)
bytes_none n i = rw (at_zeros n i) (omega arith)

-- ---- truth values, one an atom

module _ (n : ℕ) (v : List Bool) (long : length v ≡ 8 * n) where
  -- none is true
  pub packed_none : Holds false (λ k. false) (8 * n) v → packed n v ≡ replicate n 0
  packed_none h = packed_is n v (replicate n 0) long (length-replicate n 0) (bytes_none n) (λ k l. h k l ∙ sym (none_in n k))

  module _ (s t : List Bool) (ls : length s ≡ 8 * n) (lt : length t ≡ 8 * n) where
    -- those of s that are not t's
    pub packed_struck : Holds false (λ k. get_or s k false && not (get_or t k false)) (8 * n) v → packed n v ≡ struck_by (packed n t) (packed n s)
    packed_struck h =
        packed_is n v (packed n s ∖ packed n t) long (length-∖ (packed n s) (packed n t) ∙ length_packed n s)
        (bytes-∖ (packed n s) (packed n t) (packed_bytes n s) (packed_bytes n t))
        (λ k l. h k l ∙ sym (∈-∖ k (packed n s) (packed n t) ∙ ap₂ (λ x y. x && not y) (member_packed n s ls k) (member_packed n t lt k)))

    in_both : (k : ℕ) → k ∈ packed n s ∪ packed n t ≡ (get_or s k false || get_or t k false)
    in_both k = ∈-∪ k (packed n s) (packed n t) ∙ ap₂ ◌||◌ (member_packed n s ls k) (member_packed n t lt k)

    -- those of s and of t, without d's
    pub packed_acted : (d : List Bool) → length d ≡ 8 * n → Holds false (λ k. (get_or s k false || get_or t k false) && not (get_or d k false)) (8 * n) v
        → packed n v ≡ (packed n s ∪ packed n t) ∖ packed n d
    packed_acted d ld h =
        let both = packed n s ∪ packed n t in
        let le : length both ≡ n = length-∪ (packed n s) (packed n t) (length_packed n s ∙ sym (length_packed n t)) ∙ length_packed n s in
        packed_is n v (both ∖ packed n d) long (length-∖ both (packed n d) ∙ le)
        (bytes-∖ both (packed n d) (bytes-∪ (packed n s) (packed n t) (packed_bytes n s) (packed_bytes n t)) (packed_bytes n d))
        (λ k l. h k l ∙ sym (∈-∖ k both (packed n d) ∙ ap₂ (λ x y. x && not y) (in_both k) (member_packed n d ld k)))

-- ---- the truth values of sets

-- they stand for the set, and are as many as its bytes can hold
module _ (n : ℕ) (s : Atoms) (v : List Bool) (l : length s ≡ n) (e : v ≡ values s) where
  pub unpacked_length : length v ≡ 8 * n
  unpacked_length = ap length e ∙ length-values s ∙ ap (λ m. 8 * m) l

  pub unpacked_is : AreBytes s → packed n v ≡ s
  unpacked_is b = ap (packed n) e ∙ packed_values n s l b

-- beliefs after an action, where α and δ are the truth values of Add and Del
pub acted_by : (n : ℕ) (β α δ v : List Bool) (add del : Atoms) → length β ≡ 8 * n → length v ≡ 8 * n
    → length add ≡ n → AreBytes add → α ≡ values add → length del ≡ n → AreBytes del → δ ≡ values del
    → Holds false (λ k. (get_or β k false || get_or α k false) && not (get_or δ k false)) (8 * n) v
    → packed n v ≡ (packed n β ∪ add) ∖ del
acted_by n β α δ v add del lβ lv la ba a ld bd d h =
    packed_acted n v lv β α lβ (unpacked_length n add α la a) δ (unpacked_length n del δ ld d) h
    ∙ ap₂ (λ x y. (packed n β ∪ x) ∖ y) (unpacked_is n add α la a ba) (unpacked_is n del δ ld d bd)

-- goals that are struck by beliefs, where both are the truth values of sets
pub struck_by_lem : (n : ℕ) (γ β v : List Bool) (wanted believed : Atoms) → length v ≡ 8 * n
    → length wanted ≡ n → AreBytes wanted → γ ≡ values wanted → length believed ≡ n → AreBytes believed → β ≡ values believed
    → Holds false (λ k. get_or γ k false && not (get_or β k false)) (8 * n) v
    → packed n v ≡ struck_by believed wanted
struck_by_lem n γ β v wanted believed lv lw bw w lb bb b h =
    packed_struck n v lv γ β (unpacked_length n wanted γ lw w) (unpacked_length n believed β lb b) h
    ∙ ap₂ struck_by (unpacked_is n believed β lb b bb) (unpacked_is n wanted γ lw w bw)
