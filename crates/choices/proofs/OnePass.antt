-- The one pass has the tree's value and the tree's settling node.
use mathlib.Core.Path.{◌≡◌, refl, ap, ap₂, sym, ◌∙◌, subst}
use mathlib.Core.Bool.{Bool, true, false, not, ◌&&◌, ◌||◌}
use Prim.Native.Nat.{ℕ, zero, suc, ◌≤◌, ◌<◌}
use native.Mathlib.Nat.{not-suc-le-zero}
use native.Mathlib.Omega.{arith}
use lib.ListN.{get_or}
use Rattle.paper.specs.Next.{if}
use Rattle.paper.specs.Atoms.{Atoms}
use Rattle.paper.specs.Language.{Letter, 𝐁, 𝐆, Config}
use Rattle.paper.specs.Transitions.{◌⊨◌}
use Rattle.meaning.specs.declared.Layout.{Layout}
use Rattle.meaning.specs.declared.Node.{Node}
use Rattle.meaning.specs.Kinds.{NodeKind, node_kind}
use Rattle.meaning.specs.Trees.{Tree, tree_of, query_of}
use Rattle.meaning.specs.Card.{Bytes, layout, node_at, tree_at}
use Rattle.meaning.specs.Refusals.{nodes_good, contains_of, containing, other}
use Rattle.meaning.specs.Why.{settled_by, settler}
use Rattle.meaning.proofs.Accepted.{accepted}
use Rattle.meaning.proofs.NodeKinds.{is_true, is_belief, is_goal, is_not, is_and, is_or, Known, leaf, inner, known_kind, leaf_low, leaf_kind, inner_kind}
use Rattle.meaning.proofs.Nodes.{node_rule, made_of, made_from, contains_at, condition_at}
use Rattle.meaning.proofs.Settling.{settled_leaf, tree_truth, settler_at}
use Rattle.meaning.proofs.AtomKinds.{or-none, first_free, second_free}
use Rattle.paper.proofs.Relation.{false≢true}
use Rattle.card.specs.GoodCard.{GoodCondition}
use Rattle.door.specs.Asking.{judging}
use Rattle.choices.specs.Truth.{truth_of}
use Rattle.choices.specs.OnePass.{kept_of, kept, value_of, Settles, itself, of_not, and_left, and_right, or_left, or_right, OnePass, OnePassLaw}

-- ---- the node that the definition names is the one that settles the tree

module _ (L : Letter) (l : Layout) (b : Bytes) (good : nodes_good l b ≡ true) (c : Config) where
  abbrev s : ℕ → ℕ
  s = settler L l b c

  abbrev v : ℕ → Bool
  v = value_of L l b c

  abbrev At : ℕ → ℕ → Type 0
  At = Settles L l b c

  -- of a node, by its kind
  module _ (n : ℕ) (h : n < l.nodes.count) where
    abbrev x : Node
    x = node_at l b n

    of_kind_lem : (k : ℕ) → x.kind ≡ k → s n ≡ settled_by n (λ j. j) (node_kind k) x.a x.b v s
    of_kind_lem k e = settler_at L l b good c n h ∙ ap (λ k. settled_by n (λ j. j) (node_kind k) x.a x.b v s) e

    leaf_is : x.kind ≤ 2 → s n ≡ n
    leaf_is k = settler_at L l b good c n h ∙ settled_leaf n (λ j. j) (leaf_kind x.kind k) x.a x.b v s

    and_is : (w : Bool) → x.kind ≡ 4 → v x.a ≡ w → s n ≡ if (not w) (s x.a) (s x.b)
    and_is w e q = of_kind_lem 4 e ∙ ap (λ w. if (not w) (s x.a) (s x.b)) q

    or_is : (w : Bool) → x.kind ≡ 5 → v x.a ≡ w → s n ≡ if w (s x.a) (s x.b)
    or_is w e q = of_kind_lem 5 e ∙ ap (λ w. if w (s x.a) (s x.b)) q

    -- what settles node n settles it under another name
    named : {i : ℕ} → s n ≡ i → At i n → At (s n) n
    named e r = subst (λ i. At i n) (sym e) r

    by_and : (w : Bool) → x.kind ≡ 4 → v x.a ≡ w → At (s x.a) x.a → At (s x.b) x.b → At (s n) n
    by_and true e q ra rb = named (and_is true e q) (and_right e q rb)
    by_and false e q ra rb = named (and_is false e q) (and_left e q ra)

    by_or : (w : Bool) → x.kind ≡ 5 → v x.a ≡ w → At (s x.a) x.a → At (s x.b) x.b → At (s n) n
    by_or true e q ra rb = named (or_is true e q) (or_left e q ra)
    by_or false e q ra rb = named (or_is false e q) (or_right e q rb)

    by_kind : {k : ℕ} {κ : NodeKind} → Known k κ → x.kind ≡ k → (3 ≤ k → At (s x.a) x.a) → (4 ≤ k → At (s x.b) x.b) → At (s n) n
    by_kind (leaf l) e f g = let z = leaf_low l in named (leaf_is (omega arith)) (itself (omega arith))
    by_kind (inner is_not) e f g = named (of_kind_lem 3 e) (of_not e (f (omega arith)))
    by_kind (inner is_and) e f g = by_and (v x.a) e refl (f (omega arith)) (g (omega arith))
    by_kind (inner is_or) e f g = by_or (v x.a) e refl (f (omega arith)) (g (omega arith))

  settles_below : (m n : ℕ) → n < m → n < l.nodes.count → At (s n) n
  settles_below zero n h k = absurd (not-suc-le-zero h)
  settles_below (suc m) n h k =
      let r = node_rule l b good n k in
      by_kind n k (known_kind (node_at l b n).kind r.kinds) refl
      (λ q. (let z = r.first q in settles_below m (node_at l b n).a (omega arith) (omega arith)))
      (λ q. (let z = r.second q in settles_below m (node_at l b n).b (omega arith) (omega arith)))

  -- the children that a kind has are nodes too
  first_known : (n k : ℕ) → n < l.nodes.count → (node_at l b n).kind ≡ k → 3 ≤ k → (node_at l b n).a < l.nodes.count
  first_known n k h e m = let z = (node_rule l b good n h).first (omega arith) in omega arith

  second_known : (n k : ℕ) → n < l.nodes.count → (node_at l b n).kind ≡ k → 4 ≤ k → (node_at l b n).b < l.nodes.count
  second_known n k h e m = let z = (node_rule l b good n h).second (omega arith) in omega arith

  settles_only : {i n : ℕ} → n < l.nodes.count → At i n → i ≡ s n
  settles_only {i} h (itself k) = sym (leaf_is i h k)
  settles_only h (of_not {n} e r) = settles_only (first_known n 3 h e (omega arith)) r ∙ sym (of_kind_lem n h 3 e)
  settles_only h (and_left {n} e q r) = settles_only (first_known n 4 h e (omega arith)) r ∙ sym (and_is n h false e q)
  settles_only h (and_right {n} e q r) = settles_only (second_known n 4 h e (omega arith)) r ∙ sym (and_is n h true e q)
  settles_only h (or_left {n} e q r) = settles_only (first_known n 5 h e (omega arith)) r ∙ sym (or_is n h true e q)
  settles_only h (or_right {n} e q r) = settles_only (second_known n 5 h e (omega arith)) r ∙ sym (or_is n h false e q)

-- ---- what is kept of a node

-- one node: its truth is that of its query, if this holds of its children and no atom is of the other kind
node_truth : (L : Letter) (c : Config) {k : ℕ} {κ : NodeKind} → Known k κ → (a b : ℕ) (t : ℕ → Bool) (tree : ℕ → Tree) (contains : ℕ → Bool)
    → contains_of (other L) κ a b contains ≡ false
    → (3 ≤ k → contains a ≡ false → t a ≡ (c ⊨ query_of L (tree a))) → (4 ≤ k → contains b ≡ false → t b ≡ (c ⊨ query_of L (tree b)))
    → truth_of κ a b c.σ c.γ t ≡ (c ⊨ query_of L (tree_of κ a b tree))
unfolding ◌⊨◌
node_truth L c (leaf is_true) a b t q n e f s = refl
node_truth 𝐁 c (leaf is_belief) a b t q n e f s = refl
node_truth 𝐆 c (leaf is_belief) a b t q n e f s = absurd (false≢true (sym e))
node_truth 𝐁 c (leaf is_goal) a b t q n e f s = absurd (false≢true (sym e))
node_truth 𝐆 c (leaf is_goal) a b t q n e f s = refl
node_truth L c (inner is_not) a b t q n e f s = ap not (f (omega arith) e)
node_truth L c (inner is_and) a b t q n e f s =
    let (x, y) = or-none (n a) (n b) e in
    ap₂ ◌&&◌ (f (omega arith) x) (s (omega arith) y)
node_truth L c (inner is_or) a b t q n e f s =
    let (x, y) = or-none (n a) (n b) e in
    ap₂ ◌||◌ (f (omega arith) x) (s (omega arith) y)

kept_children : (σ γ : Atoms) (i : ℕ) {k : ℕ} {κ : NodeKind} → Known k κ → (a b : ℕ) (q q' : ℕ → Bool × ℕ) → (3 ≤ k → q a ≡ q' a) → (4 ≤ k → q b ≡ q' b) → kept_of i κ a b σ γ q ≡ kept_of i κ a b σ γ q'
kept_children σ γ i (leaf is_true) a b q q' f s = refl
kept_children σ γ i (leaf is_belief) a b q q' f s = refl
kept_children σ γ i (leaf is_goal) a b q q' f s = refl
kept_children σ γ i (inner is_not) a b q q' f s = ap (λ p. (not p.0, p.1)) (f (omega arith))
kept_children σ γ i (inner is_and) a b q q' f s = ap₂ (λ p r. (p.0 && r.0, if (not p.0) p.1 r.1)) (f (omega arith)) (s (omega arith))
kept_children σ γ i (inner is_or) a b q q' f s = ap₂ (λ p r. (p.0 || r.0, if p.0 p.1 r.1)) (f (omega arith)) (s (omega arith))

module _ (l : Layout) (b : Bytes) (good : nodes_good l b ≡ true) (σ γ : Atoms) (i : ℕ) (h : i < l.nodes.count) where
  kept_at : get_or (kept l b σ γ) i (false, 0)
      ≡ kept_of i (node_kind (node_at l b i).kind) (node_at l b i).a (node_at l b i).b σ γ (λ j. get_or (kept l b σ γ) j (false, 0))
  unfolding kept
  kept_at = made_of l b good i h (λ i κ a b q. kept_of i κ a b σ γ q) (false, 0) (λ i k κ. kept_children σ γ i)

  -- a turn of the pass: what is kept of node i by what was kept of the lower nodes
  pub kept_next : (q : ℕ → Bool × ℕ) → ((j : ℕ) → j < i → q j ≡ get_or (kept l b σ γ) j (false, 0))
      → kept_of i (node_kind (node_at l b i).kind) (node_at l b i).a (node_at l b i).b σ γ q ≡ get_or (kept l b σ γ) i (false, 0)
  unfolding kept
  kept_next q same = made_from l b good i h (λ i κ a b q. kept_of i κ a b σ γ q) (false, 0) (λ i k κ. kept_children σ γ i) q same

module _ (L : Letter) (l : Layout) (b : Bytes) (good : nodes_good l b ≡ true) (c : Config) where
  abbrev keeps : ℕ → Bool × ℕ
  keeps n = get_or (kept l b c.σ c.γ) n (false, 0)

  -- the tree's value and the settling node
  abbrev due : ℕ → Bool × ℕ
  due = judging L l b c

  abbrev contains : ℕ → Bool
  contains n = get_or (containing (other L) l b) n false

  keeps_below : (m n : ℕ) → n < m → n < l.nodes.count → contains n ≡ false → keeps n ≡ due n
  keeps_below zero n h k e = absurd (not-suc-le-zero h)
  keeps_below (suc m) n h k e =
      let x = node_at l b n in
      let r = node_rule l b good n k in
      let known = known_kind x.kind r.kinds in
      let free = sym (contains_at l b good n k (other L)) ∙ e in
      kept_at l b good c.σ c.γ n k
      ∙ kept_children c.σ c.γ n known x.a x.b keeps due
      (λ q. (let z = r.first q in keeps_below m x.a (omega arith) (omega arith) (first_free (other L) (inner_kind x.kind q r.kinds) x.a x.b contains free)))
      (λ q. (let z = r.second q in keeps_below m x.b (omega arith) (omega arith) (second_free (other L) (inner_kind x.kind (omega arith) r.kinds) x.a x.b contains q free)))
      ∙ ap₂ (λ v i. (v, i))
      (node_truth L c known x.a x.b (value_of L l b c) (tree_at l b) contains free (λ _ _. sym (tree_truth L l b good c x.a)) (λ _ _. sym (tree_truth L l b good c x.b))
      ∙ ap (λ φ. c ⊨ φ) (sym (condition_at l b good n k L)))
      (sym (settler_at L l b good c n k))

  pub one_pass_of : (n : ℕ) → GoodCondition l b (other L) n → OnePass L l b c n
  one_pass_of n g = record {
    keeps = keeps_below (suc n) n (omega arith) g.known g.kind;
    settled = settles_below L l b good c (suc n) n (omega arith) g.known;
    only = λ i. settles_only L l b good c g.known;
  }

pub one_pass : OnePassLaw
one_pass b card L c = one_pass_of L (layout b) b (accepted b card).nodes c
