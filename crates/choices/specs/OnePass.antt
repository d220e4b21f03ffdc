-- The one pass and the tree: a condition judged in one pass over its nodes has the value and the settling node of its tree
-- (02, Wish 3; proved in proofs/OnePass.antt).
use Rattle.std.specs.Prelude.{◌≡◌, Bool, true, false, List, ℕ, ◌≤◌, get_or, Ok}
use Rattle.paper.specs.Atoms.{Atoms}
use Rattle.paper.specs.Language.{Letter, Config}
use Rattle.paper.specs.Transitions.{◌⊨◌}
use Rattle.meaning.specs.declared.Layout.{Layout}
use Rattle.meaning.specs.Kinds.{NodeKind, node_kind}
use Rattle.meaning.specs.Card.{Bytes, layout, node_at, nodes, pass, conditions, condition}
use Rattle.meaning.specs.Refusals.{other, card_answer}
use Rattle.meaning.specs.Why.{settled_by, settler}
use Rattle.card.specs.GoodCard.{GoodCondition}
use Rattle.door.specs.Asking.{judging}
use Rattle.choices.specs.Truth.{truth_of}

-- 02, Wish 3: "keeping one mark and the settling atom for each node": both of node i, by what was kept of the lower nodes and
-- nothing else.
abbrev pub kept_of : ℕ → NodeKind → ℕ → ℕ → Atoms → Atoms → (ℕ → Bool × ℕ) → Bool × ℕ
kept_of i κ a b σ γ below =
    (truth_of κ a b σ γ (λ j. (below j).0), settled_by i (λ j. j) κ a b (λ j. (below j).0) (λ j. (below j).1))

-- 02, Wish 3: "in one pass over its nodes from the lowest upward": what is kept of every node.
unfoldable pub kept : Layout → Bytes → Atoms → Atoms → List (Bool × ℕ)
kept l b σ γ = pass (λ i n below. kept_of i (node_kind n.kind) n.a n.b σ γ below) (false, 0) (nodes l b)

-- The value of the tree of node n's condition, read by a letter (004, Definition 8). Serves Settles and OnePass.
abbrev pub value_of : Letter → Layout → Bytes → Config → ℕ → Bool
value_of L l b c n = c ⊨ condition (conditions L l b) n

-- 02, Wish 1: "name the atom that settled it", on the tree from its root down: node i settles the condition of node n.
pub data Settles (L : Letter) (l : Layout) (b : Bytes) (c : Config) (i : ℕ) : ℕ → Type 0 where
  -- "for an atom or "true", that node"
  itself : (node_at l b i).kind ≤ 2 → Settles L l b c i i
  -- "for "not", its child's"
  of_not : {n : ℕ} → (node_at l b n).kind ≡ 3 → Settles L l b c i (node_at l b n).a → Settles L l b c i n
  -- "for "and" and "or", the left child's where the left alone settles the value": a false left settles an "and"
  and_left : {n : ℕ} → (node_at l b n).kind ≡ 4 → value_of L l b c (node_at l b n).a ≡ false
      → Settles L l b c i (node_at l b n).a → Settles L l b c i n
  -- "else the right's"
  and_right : {n : ℕ} → (node_at l b n).kind ≡ 4 → value_of L l b c (node_at l b n).a ≡ true
      → Settles L l b c i (node_at l b n).b → Settles L l b c i n
  -- "the left child's where the left alone settles the value": a true left settles an "or"
  or_left : {n : ℕ} → (node_at l b n).kind ≡ 5 → value_of L l b c (node_at l b n).a ≡ true
      → Settles L l b c i (node_at l b n).a → Settles L l b c i n
  -- "else the right's"
  or_right : {n : ℕ} → (node_at l b n).kind ≡ 5 → value_of L l b c (node_at l b n).a ≡ false
      → Settles L l b c i (node_at l b n).b → Settles L l b c i n

-- 02, Wish 3: "Let a condition be judged in one pass over its nodes from the lowest upward, keeping one mark and the settling
-- atom for each node. Answers and promises remain what they are.": of the condition of node n.
pub record OnePass (L : Letter) (l : Layout) (b : Bytes) (c : Config) (n : ℕ) : Type 0 where
  -- "keeping one mark and the settling atom for each node": the tree's value, and the node that take answers with 16. What is kept
  -- is what the code's own loop marks (Marked in Judged)
  pub keeps : get_or (kept l b c.σ c.γ) n (false, 0) ≡ judging L l b c n
  -- "the settling atom": by the tree that node settles it
  pub settled : Settles L l b c (settler L l b c n) n
  -- and no other does
  pub only : (i : ℕ) → Settles L l b c i n → i ≡ settler L l b c n

-- The same of every condition of an accepted card, and every configuration.
abbrev pub OnePassLaw : Type 0
OnePassLaw = (b : Bytes) → card_answer b ≡ Ok tt → (L : Letter) (c : Config) (n : ℕ)
    → GoodCondition (layout b) b (other L) n → OnePass L (layout b) b c n
