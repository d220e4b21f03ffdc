-- Union and difference of sets in 32 bytes are those of the sets.
use mathlib.Core.Path.{◌≡◌, ap₂, ◌∙◌, sym}
use mathlib.Core.List.{[], ◌∷◌}
use Prim.Native.Nat.{ℕ, zero, suc, ◌≤◌}
use native.Mathlib.Omega.{arith}
use lib.Bits.{bit_and, bit_or, bit_xor}
use lib.ListN.{length}
use lib.Seq.{ext_get_or}
use Rattle.paper.specs.Atoms.{Atoms, ◌∪◌, ◌∖◌}
use Rattle.paper.proofs.Sets.{at-∪, at-∖, length-∪, length-∖}
use Rattle.meaning.specs.Card.{Bytes, widened}
use Rattle.meaning.proofs.Widening.{length_widened, at_widened}

pub most-∪ : (n : ℕ) (s t : Atoms) → length s ≤ n → length t ≤ n → length (s ∪ t) ≤ n
unfolding ◌∪◌
most-∪ n [] t h g = g
most-∪ n (x ∷ s) [] h g = h
most-∪ zero (x ∷ s) (y ∷ t) h g = absurd (omega arith)
most-∪ (suc n) (x ∷ s) (y ∷ t) h g = let e = most-∪ n s t (omega arith) (omega arith) in omega arith

pub widened-∪ : (s t : Bytes) → length s ≤ 32 → length t ≤ 32 → widened (s ∪ t) ≡ widened s ∪ widened t
widened-∪ s t h g =
    let e = length_widened s h in
    let f = length_widened t g in
    let m : length (widened (s ∪ t)) ≡ 32 = length_widened (s ∪ t) (most-∪ 32 s t h g) in
    let n : length (widened s ∪ widened t) ≡ length (widened s) = length-∪ (widened s) (widened t) (e ∙ sym f) in
    ext_get_or 0 (widened (s ∪ t)) (widened s ∪ widened t) (m ∙ sym (n ∙ e))
    (λ i l. at_widened (s ∪ t) i ∙ at-∪ s t i ∙ sym (at-∪ (widened s) (widened t) i ∙ ap₂ bit_or (at_widened s i) (at_widened t i)))

pub widened-∖ : (s t : Bytes) → length s ≤ 32 → widened (s ∖ t) ≡ widened s ∖ widened t
widened-∖ s t h =
    let e = length_widened s h in
    let k = length-∖ s t in
    let m : length (widened (s ∖ t)) ≡ 32 = length_widened (s ∖ t) (omega arith) in
    let n : length (widened s ∖ widened t) ≡ length (widened s) = length-∖ (widened s) (widened t) in
    ext_get_or 0 (widened (s ∖ t)) (widened s ∖ widened t) (m ∙ sym (n ∙ e))
    (λ i l. at_widened (s ∖ t) i ∙ at-∖ s t i ∙ sym (at-∖ (widened s) (widened t) i ∙ ap₂ (λ x y. bit_xor x (bit_and x y)) (at_widened s i) (at_widened t i)))
