-- The sizes, offsets and limits that follow from how many bytes a set of atoms has (01, "The card, edition 1" and "The place"; 02,
-- Wish 9): each is a function of that number, s.
use Rattle.std.specs.Prelude.{true, false, ℕ, ◌+◌, ◌*◌, eqb}
use Rattle.meaning.specs.declared.Layout.{Layout}

-- 01, "The card, edition 1": "A set of atoms is 16 bytes". 02, Wish 9: "Text cards stay edition 1".
abbrev pub edition1_set : ℕ
edition1_set = 16

-- 02, Wish 9: "Edition 2 of card and place has sets of 32 bytes". So many has every set of a configuration, which has no edition.
abbrev pub edition2_set : ℕ
edition2_set = 32

-- Both, by the edition.
unfoldable pub edition_set : ℕ → ℕ
edition_set e = elim (eqb e 2) [ true ↦ edition2_set | false ↦ edition1_set ]

-- The same, of a card with a layout, and of a place that is judged against it.
abbrev pub set_bytes : Layout → ℕ
set_bytes l = edition_set l.edition

-- 01, "The card, edition 1": "atom k is bit (k modulo 8) of byte (k divided by 8)"; at 4: "atoms", "1..128"; 02,
-- Wish 9: "Jacquard cards need 256 atoms."
abbrev pub most_atoms : ℕ → ℕ
most_atoms s = 8 * s

-- 01, "The card, edition 1", at 32, 48: "initial beliefs, initial goals"
abbrev pub goals_at : ℕ → ℕ
goals_at s = 32 + s

-- 01, "The card, edition 1", at 64: "weights, one for each action": the header ends where they begin; 02, Wish 9: "a card's
-- header grows to 96 bytes before the weights".
abbrev pub header_bytes : ℕ → ℕ
header_bytes s = 32 + 2 * s

-- 01, "The card, edition 1": "Specification, 36 bytes: action, node, 0, 0, Add, Del.": where Del stands in it; Add stands at 4.
abbrev pub del_at : ℕ → ℕ
del_at s = 4 + s

-- 01, "The card, edition 1": "Specification, 36 bytes"
abbrev pub specification_bytes : ℕ → ℕ
specification_bytes s = 4 + 2 * s

-- 01, "The place": "beliefs at 12; goals at 28"
abbrev pub place_goals_at : ℕ → ℕ
place_goals_at s = 12 + s

-- 01, "The place": "the plan's L bytes at 44"; 02, Wish 9: "a place's plan starts at 76"
abbrev pub plan_at : ℕ → ℕ
plan_at s = 12 + 2 * s
