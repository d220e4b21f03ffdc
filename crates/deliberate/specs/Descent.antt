-- From an entry down to the one whose move is made, and the numbers that remain behind it.
use Rattle.std.specs.Prelude.{◌≡◌, Bool, List, ◌∷◌, ℕ, ◌≤◌, ◌<◌, length, drop}
use Rattle.paper.specs.Next.{if}
use Rattle.meaning.specs.declared.Node.{Node}
use Rattle.meaning.specs.Card.{Bytes}
use Rattle.deliberation.specs.Kinds.{Then, Or, entry_kind}
use Rattle.deliberation.specs.Entries.{entry_of, entry_count}
use Rattle.deliberation.specs.Stacked.{Stacked}
use Rattle.deliberate.specs.declared.descent.Leaf.{Leaf}

-- 128 bytes of which those from top on are the numbers behind an entry: they and the entry are stacked
pub record Stack (p stack : Bytes) (n top : ℕ) : Type 0 where
  pub room : length stack ≡ 128
  pub within : top ≤ 128
  pub stacked : Stacked (entry_count p) (n ∷ drop top stack)

-- from an entry, with ns behind it, to the part in which its first move is made, by whether the left has one, and what then stands
-- behind: of a sequence its right before the numbers
pub data Into (e : Node) (left : Bool) (ns : List ℕ) : ℕ → List ℕ → Type 0 where
  first_of : entry_kind e.kind ≡ Then → Into e left ns e.a (e.b ∷ ns)
  one_of : entry_kind e.kind ≡ Or → Into e left ns (if left e.a e.b) ns

-- entry i, with is behind it, is reached from entry n, with ns behind it, each time by the part in which the first move is made,
-- where `has` tells which entries have one
pub data Down (p : Bytes) (has : ℕ → Bool) (n : ℕ) (ns : List ℕ) : ℕ → List ℕ → Type 0 where
  here : Down p has n ns n ns
  lower : {i j : ℕ} {is js : List ℕ} → i < entry_count p → Down p has n ns i is → Into (entry_of p i) (has (entry_of p i).a) is j js
      → Down p has n ns j js

-- an entry that is reached, and the stack then
pub record Reaches (p stack : Bytes) (x : Leaf) : Type 0 where
  pub entry : x.entry ≡ entry_of p x.at
  pub stacked : Stack p stack x.at x.top

-- the entry that a descent ends at, and the stack then
pub record AtLeaf (p stack : Bytes) (x : Leaf) : Type 0 where
  pub entry : x.entry ≡ entry_of p x.at
  pub leaf : x.entry.kind < 5
  pub stacked : Stack p stack x.at x.top
