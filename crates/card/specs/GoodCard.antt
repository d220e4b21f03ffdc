-- The laws of an accepted card: what every layer above may rely on.
use Rattle.std.specs.Prelude.{◌≡◌, true, false, ℕ, ◌+◌, ◌≤◌, ◌<◌, get_or}
use Rattle.meaning.specs.declared.Span.{Span}
use Rattle.meaning.specs.declared.Layout.{Layout}
use Rattle.meaning.specs.declared.SpecificationEntry.{SpecificationEntry}
use Rattle.meaning.specs.declared.SelectionEntry.{SelectionEntry}
use Rattle.meaning.specs.declared.RevisionEntry.{RevisionEntry}
use Rattle.meaning.specs.Card.{Bytes, byte, weight_at, specification_at, selection_at, revision_at}
use Rattle.meaning.specs.Refusals.{nodes_good, containing}
use Rattle.layout.specs.GoodLayout.{GoodLayout}

-- a plan within the pool, of at least so many and at most 1,024 actions
pub record GoodSpan (l : Layout) (least : ℕ) (s : Span) : Type 0 where
  pub some : least ≤ s.length
  pub fits : s.length ≤ 1024
  pub inside : s.start + s.length ≤ l.pool.count

-- a known node whose condition contains no atom of a kind
pub record GoodCondition (l : Layout) (b : Bytes) (without node : ℕ) : Type 0 where
  pub known : node < l.nodes.count
  pub kind : get_or (containing without l b) node false ≡ false

-- a specification of a known action and a belief condition
pub record GoodSpecification (l : Layout) (b : Bytes) (e : SpecificationEntry) : Type 0 where
  pub action : e.action < l.actions
  pub belief : GoodCondition l b 2 e.node

-- a selection rule of a belief condition, a goal condition and a plan that is not empty
pub record GoodSelection (l : Layout) (b : Bytes) (e : SelectionEntry) : Type 0 where
  pub belief : GoodCondition l b 2 e.belief
  pub goal : GoodCondition l b 1 e.goal
  pub plan : GoodSpan l 1 e.plan

-- a revision rule of a belief condition, a head that is not empty, and a body
pub record GoodRevision (l : Layout) (b : Bytes) (e : RevisionEntry) : Type 0 where
  pub belief : GoodCondition l b 2 e.node
  pub head : GoodSpan l 1 e.head
  pub body : GoodSpan l 0 e.body

-- 01, "Weight and grading": "Each action weighs 1 to 1,024."
pub record GoodWeight (w : ℕ) : Type 0 where
  pub least : 1 ≤ w
  pub most : w ≤ 1024

-- Everything lies where the layout says; children are lower, kinds right, actions known, plans within the pool.
pub record GoodCard (l : Layout) (b : Bytes) : Type 0 where
  pub layout : GoodLayout l b
  pub weights : (a : ℕ) → a < l.actions → GoodWeight (weight_at l b a)
  pub nodes : nodes_good l b ≡ true
  pub specifications : (i : ℕ) → i < l.specifications.count → GoodSpecification l b (specification_at l b i)
  pub selections : (i : ℕ) → i < l.selections.count → GoodSelection l b (selection_at l b i)
  pub revisions : (i : ℕ) → i < l.revisions.count → GoodRevision l b (revision_at l b i)
  pub initial : GoodSpan l 0 l.initial
  pub pool : (i : ℕ) → i < l.pool.count → byte b (l.pool.offset + i) < l.actions
