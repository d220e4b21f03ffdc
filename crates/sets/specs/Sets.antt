-- Sets of any number of bytes: the empty one, the atoms below a number, and one member more.
use Rattle.std.specs.Prelude.{◌≡◌, Bool, ◌&&◌, map, ℕ, ◌-◌, ◌*◌, ◌/◌, ◌%◌, ◌^◌, min, eqb, ltb, get_or, set}
use Rattle.std.specs.Int.Bits.{bit_or}
use Rattle.paper.specs.Atoms.{Atoms, ◌∈◌}
use Rattle.runs.specs.Order.{numbers}
use Rattle.meaning.specs.Refusals.{all}

-- no byte has a bit
abbrev pub is_empty : Atoms → Bool
is_empty s = all (λ x. eqb x 0) s

-- the lowest n bits of a byte, all eight from eight on
abbrev pub low_bits : ℕ → ℕ
low_bits n = 2 ^ min n 8 - 1

-- the atoms below n, in w bytes: byte i holds those from 8 i on
unfoldable pub below : ℕ → ℕ → Atoms
below w n = map (λ i. low_bits (n - 8 * i)) (numbers 0 w)

-- a set, with number k too
abbrev pub with_member : ℕ → Atoms → Atoms
with_member k s = set s (k / 8) (bit_or (get_or s (k / 8) 0) (2 ^ (k % 8)))

-- a set of the numbers below x that pass a test
abbrev pub Passing : (ℕ → Bool) → ℕ → Atoms → Type 0
Passing t x s = (k : ℕ) → k ∈ s ≡ (ltb k x && t k)
