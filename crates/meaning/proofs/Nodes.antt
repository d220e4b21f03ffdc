-- The nodes of a card that keep their rule: where their children are, and what a pass makes of each.
use mathlib.Core.Path.{◌≡◌, refl, ap, ap₂, ◌∙◌, sym}
use mathlib.Core.Bool.{Bool, true, false, ◌||◌}
use mathlib.Core.List.{List}
use Prim.Native.Nat.{ℕ, ◌≤◌, ◌<◌}
use native.Mathlib.Decide.{dec_le}
use native.Mathlib.Nat.{zero-add}
use native.Mathlib.Omega.{arith}
use lib.Dec.{eqb, ltb}
use lib.ListN.{length, get_or, get_or-map}
use borrow.Author.Tests.{ltb-true}
use Rattle.paper.specs.Language.{Letter}
use Rattle.paper.proofs.Relation.{both, false≢true}
use Rattle.runs.proofs.Numbers.{length_made, made_at}
use Rattle.meaning.specs.declared.Layout.{Layout}
use Rattle.meaning.specs.declared.Node.{Node}
use Rattle.meaning.specs.Kinds.{NodeKind, node_kind}
use Rattle.meaning.specs.Trees.{Tree, tree_of, query_of}
use Rattle.meaning.specs.Trees as Trees
use Rattle.meaning.specs.Card.{Bytes, node_at, nodes, pass, trees, tree_at, conditions, condition}
use Rattle.meaning.specs.Refusals.{kind_good, node_good, nodes_good, contains_of, containing}
use Rattle.meaning.proofs.Every.{every_at}
use Rattle.meaning.proofs.NodeKinds.{Leaf, is_true, is_belief, is_goal, Inner, is_not, is_and, is_or, Known, leaf, inner, known_kind, unknown_kind, leaf_low, inner_high}
use Rattle.meaning.proofs.Pass.{pass_at}

-- what a node's rule says of its kind and of its children
pub record Rule (n i kind a b : ℕ) : Type 0 where
  pub kinds : kind ≤ 5
  pub atom : 1 ≤ kind → kind ≤ 2 → a < n
  pub first : 3 ≤ kind → a < i
  pub second : 4 ≤ kind → b < i

module _ (n i a b : ℕ) where
  childless : {k : ℕ} {κ : NodeKind} → Leaf k κ → (1 ≤ k → a < n) → Rule n i k a b
  childless l h = let z = leaf_low l in record { kinds = omega arith; atom = λ o _. h o; first = λ m. absurd (omega arith); second = λ m. absurd (omega arith) }

  parent : {k : ℕ} {κ : NodeKind} → Inner k κ → a < i → (4 ≤ k → b < i) → Rule n i k a b
  parent j h g = let z = inner_high j in record { kinds = z.1; atom = λ _ m. absurd (omega arith); first = λ _. h; second = g }

  known_rule : {k : ℕ} {κ : NodeKind} → Known k κ → kind_good n i κ a b ≡ true → Rule n i k a b
  known_rule (leaf is_true) e = childless is_true (λ m. absurd (omega arith))
  known_rule (leaf is_belief) e = childless is_belief (λ _. ltb-true a n (both (ltb a n) _ e).0)
  known_rule (leaf is_goal) e = childless is_goal (λ _. ltb-true a n (both (ltb a n) _ e).0)
  known_rule (inner is_not) e = parent is_not (ltb-true a i (both (ltb a i) (eqb b 0) e).0) (λ m. absurd (omega arith))
  known_rule (inner is_and) e = parent is_and (ltb-true a i (both (ltb a i) _ e).0) (λ _. ltb-true b i (both (ltb a i) _ e).1)
  known_rule (inner is_or) e = parent is_or (ltb-true a i (both (ltb a i) _ e).0) (λ _. ltb-true b i (both (ltb a i) _ e).1)

  pub rule : (k : ℕ) → kind_good n i (node_kind k) a b ≡ true → Rule n i k a b
  rule k e = elim (dec_le k 5) [
    | yes h ↦ known_rule (known_kind k h) e
    | no h ↦ absurd (false≢true (ap (λ κ. kind_good n i κ a b) (sym (unknown_kind k (omega arith))) ∙ e))
  ]

-- ---- the nodes of a layout

module _ (l : Layout) (b : Bytes) where
  pub length_nodes : length (nodes l b) ≡ l.nodes.count
  unfolding nodes
  length_nodes = length_made (node_at l b) 0 l.nodes.count

  pub node_at_lem : (i : ℕ) (d : Node) → i < l.nodes.count → get_or (nodes l b) i d ≡ node_at l b i
  unfolding nodes
  node_at_lem i d h = made_at (node_at l b) 0 l.nodes.count i d h ∙ ap (node_at l b) (zero-add i)

  module _ (good : nodes_good l b ≡ true) (i : ℕ) (h : i < l.nodes.count) where
    abbrev x : Node
    x = node_at l b i

    pub node_rule : Rule l.atoms i x.kind x.a x.b
    unfolding nodes_good
    node_rule = rule l.atoms i x.a x.b x.kind (both (kind_good l.atoms i (node_kind x.kind) x.a x.b) _ (every_at (λ i. node_good l.atoms i (node_at l b i)) l.nodes.count i good h)).0

    -- what a pass makes of node i, if it looks at the children that the kind has
    module _ {X : Type 0} (make : ℕ → NodeKind → ℕ → ℕ → (ℕ → X) → X) (other : X)
        (children : (i k : ℕ) (κ : NodeKind) → Known k κ → (a b : ℕ) (q q' : ℕ → X) → (3 ≤ k → q a ≡ q' a) → (4 ≤ k → q b ≡ q' b) → make i κ a b q ≡ make i κ a b q') where
      abbrev made : List X
      made = pass (λ i n q. make i (node_kind n.kind) n.a n.b q) other (nodes l b)

      pub made_of : get_or made i other ≡ make i (node_kind x.kind) x.a x.b (λ j. get_or made j other)
      made_of =
          let e : get_or (nodes l b) i x ≡ x = node_at_lem i x h in
          let r = node_rule in
          let p = pass_at (λ i n q. make i (node_kind n.kind) n.a n.b q) other (nodes l b) i x (rw length_nodes h)
          (rw e (λ q q' same. children i x.kind (node_kind x.kind) (known_kind x.kind r.kinds) x.a x.b q q' (λ k. same x.a (r.first k)) (λ k. same x.b (r.second k)))) in
          rw e at p

      -- the same, from what is right below node i
      pub made_from : (q : ℕ → X) → ((j : ℕ) → j < i → q j ≡ get_or made j other) → make i (node_kind x.kind) x.a x.b q ≡ get_or made i other
      made_from q same =
          let r = node_rule in
          children i x.kind (node_kind x.kind) (known_kind x.kind r.kinds) x.a x.b q (λ j. get_or made j other) (λ k. same x.a (r.first k)) (λ k. same x.b (r.second k)) ∙ sym made_of

-- ---- what is made of a node looks at the children that its kind has

pub contains_children : (kind : ℕ) {k : ℕ} {κ : NodeKind} → Known k κ → (a b : ℕ) (q q' : ℕ → Bool) → (3 ≤ k → q a ≡ q' a) → (4 ≤ k → q b ≡ q' b) → contains_of kind κ a b q ≡ contains_of kind κ a b q'
contains_children kind (leaf is_true) a b q q' f s = refl
contains_children kind (leaf is_belief) a b q q' f s = refl
contains_children kind (leaf is_goal) a b q q' f s = refl
contains_children kind (inner is_not) a b q q' f s = f (omega arith)
contains_children kind (inner is_and) a b q q' f s = ap₂ ◌||◌ (f (omega arith)) (s (omega arith))
contains_children kind (inner is_or) a b q q' f s = ap₂ ◌||◌ (f (omega arith)) (s (omega arith))

tree_children : {k : ℕ} {κ : NodeKind} → Known k κ → (a b : ℕ) (q q' : ℕ → Tree) → (3 ≤ k → q a ≡ q' a) → (4 ≤ k → q b ≡ q' b) → tree_of κ a b q ≡ tree_of κ a b q'
tree_children (leaf is_true) a b q q' f s = refl
tree_children (leaf is_belief) a b q q' f s = refl
tree_children (leaf is_goal) a b q q' f s = refl
tree_children (inner is_not) a b q q' f s = ap Trees.not (f (omega arith))
tree_children (inner is_and) a b q q' f s = ap₂ Trees.and (f (omega arith)) (s (omega arith))
tree_children (inner is_or) a b q q' f s = ap₂ Trees.or (f (omega arith)) (s (omega arith))

-- the condition of a node is its tree, read as a query
pub query_at : (L : Letter) (l : Layout) (b : Bytes) (n : ℕ) → condition (conditions L l b) n ≡ query_of L (tree_at l b n)
unfolding conditions
query_at L l b n = get_or-map (query_of L) (trees l b) n Trees.true

module _ (l : Layout) (b : Bytes) (good : nodes_good l b ≡ true) (i : ℕ) (h : i < l.nodes.count) where
  pub contains_at : (kind : ℕ)
      → get_or (containing kind l b) i false ≡ contains_of kind (node_kind (node_at l b i).kind) (node_at l b i).a (node_at l b i).b (λ j. get_or (containing kind l b) j false)
  unfolding containing
  contains_at kind = made_of l b good i h (λ i. contains_of kind) false (λ i k κ. contains_children kind)

  pub tree_at_lem : tree_at l b i ≡ tree_of (node_kind (node_at l b i).kind) (node_at l b i).a (node_at l b i).b (tree_at l b)
  unfolding trees
  tree_at_lem = made_of l b good i h (λ i. tree_of) Trees.true (λ i k κ. tree_children)

  pub condition_at : (L : Letter)
      → condition (conditions L l b) i ≡ query_of L (tree_of (node_kind (node_at l b i).kind) (node_at l b i).a (node_at l b i).b (tree_at l b))
  condition_at L = query_at L l b i ∙ ap (query_of L) tree_at_lem
