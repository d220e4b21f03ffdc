-- A sheet of move names: 02, Wish 8: "A sheet has a count n, n + 1 offsets that never fall (two bytes each, the first 2n + 4, the
-- last the sheet's length), then the names, each in UTF-8 as RFC 3629 defines it."
use Rattle.std.specs.Prelude.{Bool, ◌&&◌, ◌||◌, ℕ, ◌+◌, ◌*◌, ◌-◌, leb, eqb, length}
use Rattle.meaning.specs.declared.Span.{Span}
use Rattle.meaning.specs.Card.{Bytes, number_at, part}
use Rattle.meaning.specs.Refusals.{every}
use Rattle.utf8.specs.Reading.{utf8}

-- 02, Wish 8: "n + 1 offsets … two bytes each": number i of them, behind the count.
abbrev pub offset_at : Bytes → ℕ → ℕ
offset_at s i = number_at s (2 + 2 * i)

-- 02, Wish 8: "the part of the shed's sheet that holds its name": from the offset of action i to the next. In a sheet of no bytes
-- that is an empty part.
abbrev pub name_span : Bytes → ℕ → Span
name_span s i = record { start = offset_at s i; length = offset_at s (i + 1) - offset_at s i }

-- The bytes of a part.
abbrev pub bytes_of : Bytes → Span → Bytes
bytes_of s p = part s p.start p.length

-- 02, Wish 8: "a count n" that is the card's, "the first 2n + 4, the last the sheet's length".
abbrev pub head_good : ℕ → Bytes → Bool
head_good n s = eqb (number_at s 0) n && (eqb (offset_at s 0) (2 * n + 4) && eqb (offset_at s n) (length s))

-- 02, Wish 8: "offsets that never fall", and a name "in UTF-8", of so many bytes at least.
abbrev pub name_good : ℕ → Bytes → ℕ → Bool
name_good least s i = leb (offset_at s i + least) (offset_at s (i + 1)) && utf8 (bytes_of s (name_span s i))

-- The rules of a sheet for a card with n actions, whose names have so many bytes at least: there is room for the count and the
-- offsets, those are right, and so is every name.
unfoldable pub sheet_good : ℕ → ℕ → Bytes → Bool
sheet_good least n s = leb (2 * n + 4) (length s) && (head_good n s && every n (name_good least s))

-- 02, Wish 8: "may have one in its own language (an empty part: none)": any of its names may be empty.
unfoldable pub shed_good : ℕ → Bytes → Bool
shed_good n s = eqb (length s) 0 || sheet_good 0 n s

-- 02, Wish 8: "no master name is empty".
unfoldable pub master_good : ℕ → Bytes → Bool
master_good n s = sheet_good 1 n s
