-- UTF-8 read byte by byte: what is awaited behind the bytes that were read. That it accepts what the grammar has, and nothing
-- else, is a theorem.
use Rattle.std.specs.Prelude.{Bool, ◌&&◌, ◌||◌, [], ◌∷◌, ℕ, ◌-◌, leb, eqb}
use Rattle.paper.specs.Next.{if}
use Rattle.meaning.specs.Card.{Bytes}
use Rattle.utf8.specs.declared.Awaited.{Awaited}

-- so many tails, the next of them within a range
abbrev pub awaited : ℕ → ℕ → ℕ → Awaited
awaited n low high = record { tails = n; low = low; high = high }

-- no tail: a character may begin, or the bytes may end
abbrev pub nothing : Awaited
nothing = awaited 0 0x80 0xBF

-- a byte that there is none of, for ever: the bytes are wrong
abbrev pub never : Awaited
never = awaited 1 1 0

-- whether a character may begin with a byte
abbrev pub begins : ℕ → Bool
begins x = leb x 0x7F || (leb 0xC2 x && leb x 0xF4)

-- how many tails come behind a character's first byte
abbrev pub tails_of : ℕ → ℕ
tails_of x = if (leb x 0x7F) 0 (if (leb x 0xDF) 1 (if (leb x 0xEF) 2 3))

-- the least that its second byte may be: lower ones would spell a number that has a shorter form
abbrev pub low_of : ℕ → ℕ
low_of x = if (eqb x 0xE0) 0xA0 (if (eqb x 0xF0) 0x90 0x80)

-- the most that its second byte may be: higher ones would spell a surrogate, or a number above 10FFFF
abbrev pub high_of : ℕ → ℕ
high_of x = if (eqb x 0xED) 0x9F (if (eqb x 0xF4) 0x8F 0xBF)

-- what is awaited behind a character's first byte
unfoldable pub behind_first : ℕ → Awaited
behind_first x = if (begins x) (awaited (tails_of x) (low_of x) (high_of x)) never

-- what is awaited behind a tail
unfoldable pub behind_tail : Awaited → ℕ → Awaited
behind_tail a x = if (leb a.low x && leb x a.high) (awaited (a.tails - 1) 0x80 0xBF) never

-- what is awaited behind the next byte
unfoldable pub behind : Awaited → ℕ → Awaited
behind a x = if (eqb a.tails 0) (behind_first x) (behind_tail a x)

-- what is awaited behind bytes
unfoldable pub awaited_behind : Awaited → Bytes → Awaited
awaited_behind a [] = a
awaited_behind a (x ∷ s) = awaited_behind (behind a x) s

-- whether bytes are UTF-8: no tail is awaited behind them
unfoldable pub utf8 : Bytes → Bool
utf8 s = eqb (awaited_behind nothing s).tails 0
