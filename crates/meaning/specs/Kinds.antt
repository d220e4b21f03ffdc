-- The kinds of a card's nodes, by name (01, "The card, edition 1").
use Rattle.std.specs.Prelude.{[], ◌∷◌, ℕ, get_or}

-- 01, "The card, edition 1": "Kind 0 true (a = b = 0); 1 believes a; 2 has goal a …; 3 not a (b = 0); 4 a and b; 5 a or b.", and
-- what is no kind (docs/DECISIONS.md, "An unknown node or kind in the definitions").
pub data NodeKind : Type 0 where
  True Believes HasGoal Not And Or Unknown : NodeKind

-- The kind of a number.
abbrev pub node_kind : ℕ → NodeKind
node_kind k = get_or (True ∷ Believes ∷ HasGoal ∷ Not ∷ And ∷ Or ∷ []) k Unknown
