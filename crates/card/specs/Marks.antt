-- The nodes that contain an atom of a kind, marked: one byte a node for both kinds, 1 (believes) and 2 (has goal).
use Rattle.std.specs.Prelude.{◌≡◌, Bool, not, List, ℕ, ◌/◌, ◌%◌, ◌<◌, eqb, get_or}
use Rattle.std.specs.Int.Bits.{bit_or}
use Rattle.meaning.specs.declared.Layout.{Layout}
use Rattle.card.specs.declared.nodes.AtomKind.{AtomKind}
use Rattle.meaning.specs.Kinds.{NodeKind, True, Believes, HasGoal, Not, And, Or, Unknown}
use Rattle.meaning.specs.Card.{Bytes}
use Rattle.meaning.specs.Refusals.{containing, condition_good}

-- the value of a kind's bit: 01, "The card, edition 1": "1 believes a; 2 has goal a"
abbrev pub atom_kind : AtomKind → ℕ
atom_kind AtomKind.Believes = 1
atom_kind AtomKind.HasGoal = 2

-- whether a mark tells of an atom of a kind: each kind is the value of its bit
abbrev pub tells : ℕ → ℕ → Bool
tells kind mark = eqb (mark / kind % 2) 1

-- the mark of a node by its kind and the marks of its children
abbrev pub mark_of : NodeKind → ℕ → ℕ → ℕ
mark_of True first second = 0
mark_of Believes first second = 1
mark_of HasGoal first second = 2
mark_of Not first second = first
mark_of And first second = bit_or first second
mark_of Or first second = bit_or first second
mark_of Unknown first second = 0

-- Marked are the nodes in whose condition an atom of a kind stands, and the unknown ones: those that no condition of the other
-- kind may name.
abbrev pub Marks : ℕ → Layout → Bytes → List ℕ → Type 0
Marks kind l b marks = (i : ℕ) → i < 256 → not (tells kind (get_or marks i 0)) ≡ condition_good l (containing kind l b) i
