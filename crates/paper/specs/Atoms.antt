-- Sets of atoms, as bytes (01, "The card, edition 1"). A set here has any number of bytes; an atom past its last byte is not in
-- it.
use Rattle.std.specs.Prelude.{Bool, List, [], ◌∷◌, ℕ, ◌/◌, ◌%◌, ◌^◌, eqb, get_or}
use Rattle.std.specs.Int.Bits.{bit_and, bit_or, bit_xor}

-- 01, "The card, edition 1": "A set of atoms is 16 bytes". Here of any number of bytes (docs/DECISIONS.md, "Lists in
-- definitions").
abbrev pub Atoms : Type 0
Atoms = List ℕ

-- Bit i of a byte. Serves ◌∈◌: 01, "The card, edition 1": "atom k is bit (k modulo 8)".
unfoldable pub bit : ℕ → ℕ → Bool
bit i b = eqb (b / 2 ^ i % 2) 1

infix 40 ◌∈◌
-- 01, "The card, edition 1": "atom k is bit (k modulo 8) of byte (k divided by 8)".
unfoldable pub ◌∈◌ : ℕ → Atoms → Bool
k ∈ s = bit (k % 8) (get_or s (k / 8) 0)

infixl 50 ◌∪◌
-- The union, byte by byte. Serves σ': 004, Definition 9: "σ ∪ Add".
unfoldable pub ◌∪◌ : Atoms → Atoms → Atoms
[] ∪ t = t
(x ∷ s) ∪ [] = x ∷ s
(x ∷ s) ∪ (y ∷ t) = bit_or x y ∷ (s ∪ t)

infixl 50 ◌∖◌
-- The difference, byte by byte. Serves σ' and struck_by: 004, Definition 9: "σ' = (σ ∪ Add) \ Del".
unfoldable pub ◌∖◌ : Atoms → Atoms → Atoms
[] ∖ t = []
(x ∷ s) ∖ [] = x ∷ s
(x ∷ s) ∖ (y ∷ t) = bit_xor x (bit_and x y) ∷ (s ∖ t)
