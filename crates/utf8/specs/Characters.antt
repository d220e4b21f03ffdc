-- The characters' numbers: RFC 3629, section 3, "UTF-8 definition": the table from numbers to bytes and back.
use Rattle.std.specs.Prelude.{[], ◌∷◌, ◌⊎◌, ℕ, ◌+◌, ◌*◌, ◌-◌, ◌/◌, ◌%◌, leb}
use Rattle.paper.specs.Next.{if}
use Rattle.meaning.specs.Card.{Bytes}
use Rattle.utf8.specs.Grammar.{From}

-- RFC 3629, section 3: "characters from the U+0000..U+10FFFF range", of which it "prohibits encoding character numbers between
-- U+D800 and U+DFFF": 1,112,064 of them.
abbrev pub CodePoint : ℕ → Type 0
CodePoint c = From 0 0xD7FF c ⊎ From 0xE000 0x10FFFF c

-- RFC 3629, section 3: "10xxxxxx": a byte with six bits of a number, above so many lower ones.
abbrev pub six : ℕ → ℕ → ℕ
six c above = 0x80 + c / above % 64

-- RFC 3629, section 3, the table: "0xxxxxxx", "110xxxxx 10xxxxxx", "1110xxxx 10xxxxxx 10xxxxxx", "11110xxx 10xxxxxx 10xxxxxx
-- 10xxxxxx", by the number's range: to 7F, to 7FF, to FFFF, and above.
unfoldable pub encode : ℕ → Bytes
encode c =
    if (leb c 0x7F) (c ∷ [])
    (if (leb c 0x7FF) ((0xC0 + c / 64) ∷ (six c 1 ∷ []))
    (if (leb c 0xFFFF) ((0xE0 + c / 4096) ∷ (six c 64 ∷ (six c 1 ∷ [])))
    ((0xF0 + c / 262144) ∷ (six c 4096 ∷ (six c 64 ∷ (six c 1 ∷ []))))))

-- RFC 3629, section 3: the number that the bits marked x spell, by how many bytes there are; 0 of what is no character.
unfoldable pub decode : Bytes → ℕ
decode [] = 0
decode (a ∷ []) = a
decode (a ∷ (b ∷ [])) = 64 * (a - 0xC0) + (b - 0x80)
decode (a ∷ (b ∷ (c ∷ []))) = 4096 * (a - 0xE0) + (64 * (b - 0x80) + (c - 0x80))
decode (a ∷ (b ∷ (c ∷ (d ∷ [])))) = 262144 * (a - 0xF0) + (4096 * (b - 0x80) + (64 * (c - 0x80) + (d - 0x80)))
decode (a ∷ (b ∷ (c ∷ (d ∷ (e ∷ s))))) = 0
