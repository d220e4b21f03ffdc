-- The node that settles a condition is one of its own, is "true" or an atom, and has its value, turned for each "not".
use mathlib.Core.Path.{◌≡◌, refl, ap, ap₂, sym, ◌∙◌, subst}
use mathlib.Core.Bool.{Bool, true, false, not, ◌&&◌, ◌||◌}
use Prim.Native.Nat.{ℕ, zero, suc, ◌≤◌, ◌<◌}
use native.Mathlib.Nat.{not-suc-le-zero}
use native.Mathlib.Omega.{arith}
use borrow.Author.Tests.{lt-ltb}
use lib.Dec.{ltb}
use lib.ListN.{get_or}
use Rattle.paper.specs.Next.{if, is_empty}
use Rattle.paper.specs.Language.{Letter, Config}
use Rattle.paper.specs.Transitions.{◌⊨◌}
use Rattle.meaning.specs.declared.Layout.{Layout}
use Rattle.meaning.specs.declared.Node.{Node}
use Rattle.meaning.specs.Kinds.{NodeKind, node_kind}
use Rattle.meaning.specs.Trees.{tree_of, query_of}
use Rattle.meaning.specs.Card.{Bytes, layout, node_at, tree_at, conditions, condition}
use Rattle.meaning.specs.Refusals.{nodes_good}
use Rattle.meaning.specs.Why.{settled_by, settlers, settler, turns, why}
use Rattle.meaning.specs.Theorems.{StandsIn, is_it, in_first, in_second, turned_by, SettlerLaws, SettlerLaw, BeliefFirstLaw}
use Rattle.meaning.proofs.Accepted.{accepted}
use Rattle.meaning.proofs.NodeKinds.{Leaf, is_true, is_belief, is_goal, is_not, is_and, is_or, Known, leaf, inner, known_kind, leaf_low}
use Rattle.meaning.proofs.Nodes.{node_rule, made_of, query_at, condition_at}

-- ---- what is made of a node looks at the children that its kind has

if_same : {X : Type 0} (v : Bool) {x x' y y' : X} → x ≡ x' → y ≡ y' → if v x y ≡ if v x' y'
if_same true e f = e
if_same false e f = f

-- a node without children passes on its own
pub settled_leaf : {X : Type 0} (own : X) (turn : X → X) {k : ℕ} {κ : NodeKind} → Leaf k κ → (a b : ℕ) (t : ℕ → Bool) (q : ℕ → X) → settled_by own turn κ a b t q ≡ own
settled_leaf own turn is_true a b t q = refl
settled_leaf own turn is_belief a b t q = refl
settled_leaf own turn is_goal a b t q = refl

settled_children : {X : Type 0} (own : X) (turn : X → X) (t : ℕ → Bool) {k : ℕ} {κ : NodeKind} → Known k κ → (a b : ℕ) (q q' : ℕ → X) → (3 ≤ k → q a ≡ q' a) → (4 ≤ k → q b ≡ q' b)
    → settled_by own turn κ a b t q ≡ settled_by own turn κ a b t q'
settled_children own turn t (leaf l) a b q q' f s = settled_leaf own turn l a b t q ∙ sym (settled_leaf own turn l a b t q')
settled_children own turn t (inner is_not) a b q q' f s = ap turn (f (omega arith))
settled_children own turn t (inner is_and) a b q q' f s = if_same (not (t a)) (f (omega arith)) (s (omega arith))
settled_children own turn t (inner is_or) a b q q' f s = if_same (t a) (f (omega arith)) (s (omega arith))

turned_not : (t v : Bool) → turned_by (not t) v ≡ not (turned_by t v)
turned_not false v = refl
turned_not true false = refl
turned_not true true = refl

-- ---- the laws, node by node

module _ (L : Letter) (l : Layout) (b : Bytes) (good : nodes_good l b ≡ true) (c : Config) where
  abbrev t : ℕ → Bool
  t j = c ⊨ condition (conditions L l b) j

  abbrev s : ℕ → ℕ
  s = settler L l b c

  abbrev u : ℕ → Bool
  u j = get_or (turns L l b c) j false

  abbrev Law : ℕ → Type 0
  Law = SettlerLaws L l b c

  -- a tree has the truth of the node's condition
  pub tree_truth : (j : ℕ) → (c ⊨ query_of L (tree_at l b j)) ≡ t j
  tree_truth j = ap (λ φ. c ⊨ φ) (sym (query_at L l b j))

  module _ (n : ℕ) (h : n < l.nodes.count) where
    abbrev x : Node
    x = node_at l b n

    pub settler_at : s n ≡ settled_by n (λ j. j) (node_kind x.kind) x.a x.b t s
    unfolding settlers
    settler_at = made_of l b good n h (λ i κ a b q. settled_by i (λ j. j) κ a b t q) 0 (λ i k κ. settled_children i (λ j. j) t)

    turned_at : u n ≡ settled_by false not (node_kind x.kind) x.a x.b t u
    unfolding turns
    turned_at = made_of l b good n h (λ i κ a b q. settled_by false not κ a b t q) false (λ i k κ. settled_children false not t)

    truth_at : t n ≡ (c ⊨ query_of L (tree_of (node_kind x.kind) x.a x.b (tree_at l b)))
    truth_at = ap (λ φ. c ⊨ φ) (condition_at l b good n h L)

    -- a node that settles itself
    itself : x.kind ≤ 2 → s n ≡ n → u n ≡ false → Law n
    itself k e f = record {
      own = subst (λ m. StandsIn l b m n) (sym e) is_it;
      leaf = subst (λ m. (node_at l b m).kind ≤ 2) (sym e) k;
      value = λ i. turned_by (sym f i) (t (sym e i));
    }

    -- a node that passes on what settled a child
    passed : (j : ℕ) → ((m : ℕ) → StandsIn l b m j → StandsIn l b m n) → s n ≡ s j → (w : Bool) → u n ≡ w → t n ≡ turned_by w (t (s j)) → Law j → Law n
    passed j inside e w f v r = record {
      own = subst (λ m. StandsIn l b m n) (sym e) (inside (s j) r.own);
      leaf = subst (λ m. (node_at l b m).kind ≤ 2) (sym e) r.leaf;
      value = v ∙ (λ i. turned_by (sym f i) (t (sym e i)));
    }

    -- the left child, or the right one
    left : 3 ≤ x.kind → s n ≡ s x.a → u n ≡ u x.a → t n ≡ t x.a → Law x.a → Law n
    left k e f v r = passed x.a (λ m. in_first k) e (u x.a) f (v ∙ r.value) r

    right : 4 ≤ x.kind → s n ≡ s x.b → u n ≡ u x.b → t n ≡ t x.b → Law x.b → Law n
    right k e f v r = passed x.b (λ m. in_second k) e (u x.b) f (v ∙ r.value) r

    both_and : 4 ≤ x.kind → Law x.a → Law x.b → (v : Bool) → t x.a ≡ v → s n ≡ if (not v) (s x.a) (s x.b) → u n ≡ if (not v) (u x.a) (u x.b) → t n ≡ v && t x.b → Law n
    both_and k ra rb true q e f v = right k e f v rb
    both_and k ra rb false q e f v = left (omega arith) e f (v ∙ sym q) ra

    both_or : 4 ≤ x.kind → Law x.a → Law x.b → (v : Bool) → t x.a ≡ v → s n ≡ if v (s x.a) (s x.b) → u n ≡ if v (u x.a) (u x.b) → t n ≡ v || t x.b → Law n
    both_or k ra rb true q e f v = left (omega arith) e f (v ∙ sym q) ra
    both_or k ra rb false q e f v = right k e f v rb

    by_kind : {k : ℕ} {κ : NodeKind} → Known k κ → x.kind ≡ k → (3 ≤ k → Law x.a) → (4 ≤ k → Law x.b)
        → s n ≡ settled_by n (λ j. j) κ x.a x.b t s → u n ≡ settled_by false not κ x.a x.b t u
        → t n ≡ (c ⊨ query_of L (tree_of κ x.a x.b (tree_at l b))) → Law n
    unfolding ◌⊨◌
    by_kind (leaf y) e first second es eu et = let z = leaf_low y in itself (omega arith) (es ∙ settled_leaf n (λ j. j) y x.a x.b t s) (eu ∙ settled_leaf false not y x.a x.b t u)
    by_kind (inner is_not) e first second es eu et =
        let r = first (omega arith) in
        passed x.a (λ m. in_first (omega arith)) es (not (u x.a)) eu (et ∙ ap not (tree_truth x.a ∙ r.value) ∙ sym (turned_not (u x.a) (t (s x.a)))) r
    by_kind (inner is_and) e first second es eu et =
        both_and (omega arith) (first (omega arith)) (second (omega arith)) (t x.a) refl es eu (et ∙ ap₂ ◌&&◌ (tree_truth x.a) (tree_truth x.b))
    by_kind (inner is_or) e first second es eu et =
        both_or (omega arith) (first (omega arith)) (second (omega arith)) (t x.a) refl es eu (et ∙ ap₂ ◌||◌ (tree_truth x.a) (tree_truth x.b))

  below : (m n : ℕ) → n < m → n < l.nodes.count → Law n
  below zero n h k = absurd (not-suc-le-zero h)
  below (suc m) n h k =
      let r = node_rule l b good n k in
      by_kind n k (known_kind (node_at l b n).kind r.kinds) refl
      (λ q. (let z = r.first q in below m (node_at l b n).a (omega arith) (omega arith)))
      (λ q. (let z = r.second q in below m (node_at l b n).b (omega arith) (omega arith)))
      (settler_at n k) (turned_at n k) (truth_at n k)

pub settler_law : SettlerLaw
settler_law b card L c n h = below L (layout b) b (accepted b card).nodes c (suc n) n (omega arith) h

-- ---- which of a selection's conditions is shown

pub belief_first : BeliefFirstLaw
unfolding why
belief_first l b c n h e =
    let there : ltb n l.selections.count ≡ true = lt-ltb n l.selections.count h in
    let front : is_empty c.π ≡ true = ap is_empty e in
    record { belief = λ q. rw (there, front, q, why); goal = λ q. rw (there, front, q, why) }
