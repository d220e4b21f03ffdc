-- A card put together from the sections that stand where they begin in the largest card: 01, "The card, edition 1": "The sections
-- follow the weights in the header's order with no gap; the card ends with the pool."
use Rattle.std.specs.Prelude.{◌≡◌, ◌++◌, ℕ, ◌+◌, ◌*◌, ◌≤◌, length, take}
use Rattle.meaning.specs.Card.{Bytes, part}
use Rattle.meaning.specs.Place.{two_bytes}
use Rattle.notation.specs.Making.{header_of}
use Rattle.lines.specs.declared.made.Made.{Made}

-- ---- the sections of a card in the making, from one on, with no gap

unfoldable pub pool_on : Made → Bytes → Bytes
pool_on m d = part d 15936 m.pool

unfoldable pub revisions_on : Made → Bytes → Bytes
revisions_on m d = part d 12864 (12 * m.revisions) ++ pool_on m d

unfoldable pub selections_on : Made → Bytes → Bytes
selections_on m d = part d 10816 (8 * m.selections) ++ revisions_on m d

unfoldable pub specifications_on : Made → Bytes → Bytes
specifications_on m d = part d 1600 (36 * m.specifications) ++ selections_on m d

unfoldable pub nodes_on : Made → Bytes → Bytes
nodes_on m d = part d 576 (4 * m.nodes) ++ specifications_on m d

-- ---- what a move does

-- the sections s, moved down behind the first e bytes, end at r
pub record Packed (e : ℕ) (s d : Bytes) (r : ℕ) (d' : Bytes) : Type 0 where
  pub ends : r ≡ e + length s
  pub fits : r ≤ 24128
  pub room : length d' ≡ 24128
  pub front : take r d' ≡ take e d ++ s

-- ---- the header

-- 01, "The card, edition 1": "Numbers are two bytes, low byte first"
abbrev pub eight_numbers : ℕ → ℕ → ℕ → ℕ → ℕ → ℕ → ℕ → ℕ → Bytes
eight_numbers a b c d e f g h =
    two_bytes a ++ (two_bytes b ++ (two_bytes c ++ (two_bytes d ++ (two_bytes e ++ (two_bytes f ++ (two_bytes g ++ two_bytes h))))))

-- that of a card in the making
abbrev pub header_in : Made → Bytes
header_in m =
    header_of m.atoms m.weights m.nodes m.specifications m.selections m.revisions m.pool m.start m.len
