-- The entries that row 7 judges, by the kind of the choices that they stand for: "the kind (0 selection, 1 action, 2 revision)".
use Rattle.std.specs.Prelude.{Bool, ℕ}
use Rattle.runs.specs.Order.{by_kind}
use Rattle.meaning.specs.declared.Layout.{Layout}
use Rattle.meaning.specs.Card.{Bytes, specification_at, selection_at, revision_at}
use Rattle.meaning.specs.Refusals.{containing, specification_good, selection_good, revision_good}

-- whether entry i of a kind keeps its kind's rule
abbrev pub entry_good : Layout → Bytes → ℕ → ℕ → Bool
entry_good l b k i =
    by_kind k
    (selection_good (containing 1 l b) (containing 2 l b) l (selection_at l b i))
    (specification_good (containing 2 l b) l (specification_at l b i))
    (revision_good (containing 2 l b) l (revision_at l b i))
