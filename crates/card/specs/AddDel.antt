-- Add and Del of all specifications at once (01, "The card, edition 1": "Specification, 36 bytes: action, node, 0, 0, Add, Del."):
-- what row 9 judges of them is asked of one union.
use Rattle.std.specs.Prelude.{List, [], ◌∷◌, ℕ, ◌+◌, ◌*◌, replicate}
use Rattle.paper.specs.Atoms.{Atoms, ◌∪◌}
use Rattle.meaning.specs.declared.Layout.{Layout}
use Rattle.meaning.specs.Sizes.{set_bytes, specification_bytes}
use Rattle.meaning.specs.Card.{Bytes, part, entry_at, entries}

-- the bytes of specification i's Add and, behind them, those of its Del, as they stand in the card
abbrev pub add_del_at : Layout → Bytes → ℕ → Bytes
add_del_at l b i = part b (entry_at (specification_bytes (set_bytes l)) l.specifications i + 4) (2 * set_bytes l)

-- a set with the atoms of others, in their order
abbrev pub with_all : Atoms → List Atoms → Atoms
with_all s [] = s
with_all s (t ∷ ts) = with_all (s ∪ t) ts

-- the atoms of every Add and, behind them, those of every Del
unfoldable pub all_add_del : Layout → Bytes → Bytes
all_add_del l b = with_all (replicate (2 * set_bytes l) 0) (entries (add_del_at l b) l.specifications)
