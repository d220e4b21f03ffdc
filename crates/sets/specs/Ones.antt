-- Ones counted in the bytes of a set, and that they are its members (02, Wish 11: "by a count of set bits"; proved in
-- proofs/Ones.antt).
use Rattle.std.specs.Prelude.{◌≡◌, [], ◌∷◌, ℕ, ◌+◌}
use Rattle.std.specs.Int.Count.{ones}
use Rattle.paper.specs.Atoms.{Atoms}
use Rattle.paper.specs.Theorems.{AreBytes}
use Rattle.meaning.specs.Looking.{size}

-- The ones of all bytes of a set.
abbrev pub ones_of : Atoms → ℕ
ones_of [] = 0
ones_of (x ∷ s) = ones x + ones_of s

-- 01, "Expected forms by place": "ones counted per word of the goal set, sum proved equal to the number of goal atoms": of any
-- number of bytes.
abbrev pub OnesLaw : Type 0
OnesLaw = (s : Atoms) → AreBytes s → ones_of s ≡ size s
