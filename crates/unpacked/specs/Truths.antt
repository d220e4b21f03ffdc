-- A set as one truth value an atom, and back, over any number of bytes (02, Wish 12; proved in proofs/Values.antt).
use Rattle.std.specs.Prelude.{◌≡◌, Bool, false, List, map, ℕ, zero, suc, ◌+◌, ◌*◌, length, get_or}
use Rattle.paper.specs.Atoms.{Atoms, ◌∈◌}
use Rattle.paper.specs.Next.{if}
use Rattle.paper.specs.Theorems.{AreBytes}
use Rattle.runs.specs.Order.{numbers}
use Rattle.meaning.specs.declared.Configuration.{Configuration}
use Rattle.meaning.specs.Sizes.{edition2_set}
use Rattle.layout.specs.PlaceParts.{configured}
use Rattle.unpacked.specs.declared.configuration.Unpacked.{Unpacked}

-- 02, Wish 12: "one truth value an atom": of every atom that the bytes of a set can hold, whether it is in it.
unfoldable pub values : Atoms → List Bool
values s = map (λ k. k ∈ s) (numbers 0 (8 * length s))

-- The number whose bits are m truth values from atom k on, the lowest atom's first. Serves packed.
abbrev pub bits_from : List Bool → ℕ → ℕ → ℕ
bits_from v k zero = 0
bits_from v k (suc m) = if (get_or v k false) 1 0 + 2 * bits_from v (suc k) m

-- The set of truth values, in n bytes: 01, "The card, edition 1": "atom k is bit (k modulo 8) of byte (k divided by 8)".
unfoldable pub packed : ℕ → List Bool → Atoms
packed n v = map (λ i. bits_from v (8 * i) 8) (numbers 0 n)

-- The truth values and the set stand for each other, over any number of bytes.
pub record StandForEachOther : Type 0 where
  pub back : (s : Atoms) → AreBytes s → packed (length s) (values s) ≡ s
  pub forth : (n : ℕ) (v : List Bool) → length v ≡ 8 * n → values (packed n v) ≡ v
  -- an atom is in the set exactly where its value is true
  pub each : (n : ℕ) (v : List Bool) → length v ≡ 8 * n → (k : ℕ) → (k ∈ packed n v) ≡ get_or v k false

-- The configuration that an unpacked one stands for.
abbrev pub configuration_from : Unpacked → Configuration
configuration_from u = configured (packed edition2_set u.beliefs) (packed edition2_set u.goals) u.standing u.plan
