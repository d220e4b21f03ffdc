-- The laws of an accepted program: what the call may rely on.
use Rattle.std.specs.Prelude.{◌≡◌, true, ℕ, ◌*◌, ◌≤◌, ◌<◌, length}
use Rattle.meaning.specs.declared.Layout.{Layout}
use Rattle.meaning.specs.declared.Node.{Node}
use Rattle.meaning.specs.Card.{Bytes}
use Rattle.meaning.specs.Refusals.{containing}
use Rattle.card.specs.GoodCard.{GoodCondition}
use Rattle.deliberation.specs.Kinds.{entry_kind}
use Rattle.deliberation.specs.Entries.{entry_of, entry_count, program_good}
use Rattle.deliberation.specs.Theorems.{EntryLaws}

-- entry i: of a known kind, whose rule, node and parts are known
pub record GoodEntry (l : Layout) (b : Bytes) (i : ℕ) (e : Node) : Type 0 where
  pub kinds : e.kind < 7
  pub names : EntryLaws l.revisions.count l.selections.count (GoodCondition l b 2) i e.a e.b (entry_kind e.kind)

-- 1 to 128 good entries, and no byte more
pub record GoodProgram (l : Layout) (b p : Bytes) : Type 0 where
  pub good : program_good (containing 2 l b) l p ≡ true
  pub some : 1 ≤ entry_count p
  pub most : entry_count p ≤ 128
  pub bytes : length p ≡ 4 * entry_count p
  pub entries : (i : ℕ) → i < entry_count p → GoodEntry l b i (entry_of p i)
