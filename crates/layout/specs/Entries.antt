-- The choices of a card by their kinds: "the kind (0 selection, 1 action, 2 revision)".
use Rattle.std.specs.Prelude.{ℕ}
use Rattle.runs.specs.Order.{by_kind}
use Rattle.meaning.specs.declared.Layout.{Layout}

-- how many choices a card has of a kind
abbrev pub count_of : Layout → ℕ → ℕ
count_of l k = by_kind k l.selections.count l.specifications.count l.revisions.count
