-- Plans in their room of 1,024 bytes.
use Rattle.std.specs.Prelude.{◌≡◌, Bool, ◌++◌, ℕ, ◌+◌, ◌-◌, eqb, get_or, take, replicate}
use Rattle.meaning.specs.Card.{Bytes, part}
use Rattle.meaning.specs.Configurations.{padded}

-- the first len bytes of d are the plan, and zeros stand after its end
abbrev pub Padded : Bytes → ℕ → Type 0
Padded d len = d ≡ padded (take len d)

-- d, once what stands after the first h of its len actions is moved to b, and zeros stand after that
abbrev pub shifted : Bytes → ℕ → ℕ → ℕ → Bytes
shifted d len h b = take b d ++ part d h (len - h) ++ replicate (1024 - (b + (len - h))) 0

-- whether byte j of c, from `at` on, is byte j of d, from `from` on
abbrev pub same : Bytes → ℕ → Bytes → ℕ → ℕ → Bool
same c at d from j = eqb (get_or c (at + j) 0) (get_or d (from + j) 0)
