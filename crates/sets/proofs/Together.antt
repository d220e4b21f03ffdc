-- A set that another joins or leaves, byte by byte: each byte of the other is put together with the one that stands where it does,
-- and the bytes behind stay.
use mathlib.Core.Path.{◌≡◌, refl, sym, ap, ◌∙◌}
use mathlib.Core.List.{[], ◌∷◌}
use Prim.Native.Nat.{ℕ, suc, ◌+◌, ◌-◌, ◌≤◌, ◌<◌}
use native.Mathlib.Decide.{dec_lt}
use native.Mathlib.Omega.{arith}
use lib.Bits.{and_self, bit_and, bit_or, bit_xor, and_zero_r, or_zero_r, xor_zero_r, xor_add_and}
use lib.ListN.{length, get_or}
use lib.Seq.{ext_get_or}
use Rattle.paper.specs.Atoms.{Atoms, ◌∪◌, ◌∖◌}
use Rattle.paper.proofs.Sets.{at-∪, at-∖, length-∖}
use Rattle.std.proofs.lemmas.Nat.{and-not, and_comm, and_assoc}
use Rattle.std.proofs.lemmas.List.{get_or_past}

-- a byte without the bits of another
pub without_bits : (x y : ℕ) → x < 256 → y < 256 → bit_and x (255 - y) ≡ bit_xor x (bit_and x y)
without_bits x y h g =
    let a : bit_and (255 - y) x + bit_and y x ≡ x = and-not 8 y x g h in
    let b : bit_and x (255 - y) ≡ bit_and (255 - y) x = and_comm x (255 - y) in
    let c : bit_and x y ≡ bit_and y x = and_comm x y in
    let d : bit_and x (bit_and x y) ≡ bit_and x y = sym (and_assoc y x x) ∙ ap (λ z. bit_and z y) (and_self x) in
    let e = xor_add_and x (bit_and x y) in
    omega (arith, a, b, c, d, e)

length-∪ : (s t : Atoms) → length t ≤ length s → length (s ∪ t) ≡ length s
unfolding ◌∪◌
length-∪ [] [] h = refl
length-∪ [] (y ∷ t) h = absurd (omega arith)
length-∪ (x ∷ s) [] h = refl
length-∪ (x ∷ s) (y ∷ t) h = ap suc (length-∪ s t (omega arith))

module _ (s t r : Atoms) (room : length t ≤ length s) (long : length r ≡ length s)
    (rest : (i : ℕ) → length t ≤ i → get_or r i 0 ≡ get_or s i 0) where
  pub joined : ((i : ℕ) → i < length t → get_or r i 0 ≡ bit_or (get_or s i 0) (get_or t i 0)) → r ≡ s ∪ t
  joined each = ext_get_or 0 r (s ∪ t) (long ∙ sym (length-∪ s t room)) (λ i h. elim (dec_lt i (length t)) [
    | yes l ↦ each i l ∙ sym (at-∪ s t i)
    | no l ↦
        let z : get_or t i 0 ≡ 0 = get_or_past t i 0 (omega arith) in
        rest i (omega arith) ∙ sym (at-∪ s t i ∙ ap (bit_or (get_or s i 0)) z ∙ or_zero_r (get_or s i 0))
  ])

  pub left : ((i : ℕ) → i < length t → get_or r i 0 ≡ bit_xor (get_or s i 0) (bit_and (get_or s i 0) (get_or t i 0))) → r ≡ s ∖ t
  left each = ext_get_or 0 r (s ∖ t) (long ∙ sym (length-∖ s t)) (λ i h. elim (dec_lt i (length t)) [
    | yes l ↦ each i l ∙ sym (at-∖ s t i)
    | no l ↦
        let x = get_or s i 0 in
        let z : get_or t i 0 ≡ 0 = get_or_past t i 0 (omega arith) in
        rest i (omega arith) ∙ sym (at-∖ s t i ∙ ap (λ y. bit_xor x (bit_and x y)) z ∙ ap (bit_xor x) (and_zero_r x) ∙ xor_zero_r x)
  ])
