-- A tree's nodes, each when it is completed, are the tree's nodes from the next number on.
use mathlib.Core.Path.{◌≡◌, refl, ap, ◌∙◌}
use mathlib.Core.Bool.{Bool, ◌&&◌}
use mathlib.Core.List.{[], ◌∷◌, ◌++◌, flatten, append_assoc}
use mathlib.Core.Option.{none, some}
use Prim.Native.Nat.{ℕ, ◌+◌, ◌-◌, ◌*◌, ◌/◌, ◌≤◌}
use native.Mathlib.Omega.{arith}
use borrow.Author.Tests.{leb-true, le-leb}
use lib.Dec.{leb}
use lib.ListN.{length, length-append}
use Rattle.paper.specs.Next.{if}
use Rattle.paper.proofs.Relation.{both}
use Rattle.meaning.specs.Trees.{Tree, believes, goal, not, and, or}
use Rattle.meaning.specs.Card.{Bytes}
use Rattle.meaning.proofs.Every.{both_true}
use Rattle.notation.specs.Built.{size, own, node, nodes_from}
use Rattle.notation.specs.Reading.{atoms_fit}
use Rattle.notation.specs.Making.{added, added_to, last_node, with_tree}
use Rattle.notation.proofs.MadeExactly.{Exactly, exactly_as, exactly_if, exactly_when, exactly_added, exactly_equal, and_then, when_none}
use Rattle.notation.proofs.MadeLists.{EntrySized, sized_append, length_flatten, flatten_append}

-- ---- how many nodes

pub some_node : (t : Tree) → 1 ≤ size t
unfolding size
some_node Tree.true = omega arith
some_node (believes n) = omega arith
some_node (goal n) = omega arith
some_node (not t) = omega arith
some_node (and l r) = omega arith
some_node (or l r) = omega arith

pub nodes_counted : (k : ℕ) (t : Tree) → length (nodes_from k t) ≡ size t
unfolding size nodes_from
nodes_counted k Tree.true = refl
nodes_counted k (believes n) = refl
nodes_counted k (goal n) = refl
nodes_counted k (not t) = simp length-append (omega (arith, nodes_counted k t))
nodes_counted k (and l r) = simp length-append (omega (arith, nodes_counted k l, nodes_counted (k + size l) r))
nodes_counted k (or l r) = simp length-append (omega (arith, nodes_counted k l, nodes_counted (k + size l) r))

pub nodes_sized : (k : ℕ) (t : Tree) → EntrySized 4 (nodes_from k t)
unfolding nodes_from
nodes_sized k Tree.true = (refl, tt)
nodes_sized k (believes n) = (refl, tt)
nodes_sized k (goal n) = (refl, tt)
nodes_sized k (not t) = sized_append 4 (nodes_from k t) _ (nodes_sized k t) (refl, tt)
nodes_sized k (and l r) =
    sized_append 4 (nodes_from k l) _ (nodes_sized k l) (sized_append 4 (nodes_from (k + size l) r) _ (nodes_sized (k + size l) r) (refl, tt))
nodes_sized k (or l r) =
    sized_append 4 (nodes_from k l) _ (nodes_sized k l) (sized_append 4 (nodes_from (k + size l) r) _ (nodes_sized (k + size l) r) (refl, tt))

pub nodes_length : (k : ℕ) (t : Tree) → length (flatten (nodes_from k t)) ≡ 4 * size t
nodes_length k t = length_flatten 4 (nodes_from k t) (nodes_sized k t) ∙ ap (λ n. 4 * n) (nodes_counted k t)

-- ---- the last node

-- the number of the last node of a section that has k nodes and then a tree's
pub last_own : (k : ℕ) (t : Tree) (s : Bytes) → length s ≡ 4 * k → length (s ++ flatten (nodes_from k t)) / 4 - 1 ≡ own k t
last_own k t s h = rw (length-append, nodes_length) (omega (arith, h))

pub tree_grown : (k : ℕ) (t : Tree) (s : Bytes) → length s ≡ 4 * k → length (s ++ flatten (nodes_from k t)) ≡ 4 * (k + size t)
tree_grown k t s h = rw (length-append, nodes_length) (omega (arith, h))

-- ---- a tree

-- what a tree asks of a section that has k nodes
abbrev pub TreeFits : ℕ → Tree → Type 0
TreeFits k t = (atoms_fit t ≡ Bool.true) × (k + size t ≤ 256)

pub tree_none : (t : Tree) → with_tree t none ≡ none
unfolding with_tree
tree_none Tree.true = refl
tree_none (believes n) = when_none (leb n 255)
tree_none (goal n) = when_none (leb n 255)
tree_none (not t) = rw (tree_none t)
tree_none (and l r) = rw (tree_none l, tree_none r)
tree_none (or l r) = rw (tree_none l, tree_none r)

-- one node more, behind trees that have been completed
one_more : (k : ℕ) (e s : Bytes) → length s ≡ 4 * k → length e ≡ 4 → Exactly (k + 1 ≤ 256) (s ++ e) (added 1024 e s)
one_more k e s h f = exactly_if (λ p. omega (arith, h, f)) (λ p. omega (arith, h, f)) (exactly_added 1024 e s)

-- the node of "not", behind a tree
not_more : (k : ℕ) (t : Tree) (s : Bytes) → length s ≡ 4 * k
    → Exactly (TreeFits k t) (s ++ flatten (nodes_from k t)) (with_tree t (some s))
    → Exactly ((atoms_fit t ≡ Bool.true) × (k + (size t + 1) ≤ 256)) (s ++ flatten (nodes_from k t ++ (node 3 (own k t) 0 ∷ [])))
    (added_to 1024 (node 3 (last_node (with_tree t (some s))) 0) (with_tree t (some s)))
unfolding flatten
not_more k t s h a =
    let s₁ : Bytes = s ++ flatten (nodes_from k t) in
    let put : s₁ ++ node 3 (length s₁ / 4 - 1) 0 ≡ s ++ flatten (nodes_from k t ++ (node 3 (own k t) 0 ∷ [])) =
    rw (last_own k t s h) (simp (flatten_append, append_assoc)) in
    exactly_as put
    (exactly_if (λ p. (p.0.0, omega arith)) (λ p. ((p.0, omega arith), omega arith))
    (and_then (λ p. added_to 1024 (node 3 (last_node p) 0) p) refl a
    (λ _. one_more (k + size t) (node 3 (length s₁ / 4 - 1) 0) s₁ (tree_grown k t s h) refl)))

-- an operator's node, behind two trees
operator_put : (k : ℕ) (l r : Tree) (kind : ℕ) (s : Bytes) → length s ≡ 4 * k
    → ((s ++ flatten (nodes_from k l)) ++ flatten (nodes_from (k + size l) r))
    ++ node kind (length (s ++ flatten (nodes_from k l)) / 4 - 1)
    (length ((s ++ flatten (nodes_from k l)) ++ flatten (nodes_from (k + size l) r)) / 4 - 1)
    ≡ s ++ flatten (nodes_from k l ++ (nodes_from (k + size l) r ++ (node kind (own k l) (own (k + size l) r) ∷ [])))
unfolding flatten
operator_put k l r kind s h =
    rw (last_own k l s h, last_own (k + size l) r (s ++ flatten (nodes_from k l)) (tree_grown k l s h))
    (simp (flatten_append, append_assoc))

two_more : (k : ℕ) (l r : Tree) (kind : ℕ) (s : Bytes)
    → length s ≡ 4 * k
    → Exactly (TreeFits k l) (s ++ flatten (nodes_from k l)) (with_tree l (some s))
    → Exactly (TreeFits (k + size l) r) ((s ++ flatten (nodes_from k l)) ++ flatten (nodes_from (k + size l) r))
    (with_tree r (some (s ++ flatten (nodes_from k l))))
    → Exactly ((atoms_fit l && atoms_fit r ≡ Bool.true) × (k + (size l + size r + 1) ≤ 256))
    (s ++ flatten (nodes_from k l ++ (nodes_from (k + size l) r ++ (node kind (own k l) (own (k + size l) r) ∷ []))))
    (added_to 1024 (node kind (last_node (with_tree l (some s))) (last_node (with_tree r (with_tree l (some s))))) (with_tree r (with_tree l (some s))))
two_more k l r kind s h a b =
    let n : ℕ = k + size l in
    let s₁ : Bytes = s ++ flatten (nodes_from k l) in
    let s₂ : Bytes = s₁ ++ flatten (nodes_from n r) in
    let h₁ : length s₁ ≡ 4 * n = tree_grown k l s h in
    let third : Exactly (n + size r + 1 ≤ 256) (s₂ ++ node kind (length s₁ / 4 - 1) (length s₂ / 4 - 1))
    (added 1024 (node kind (length s₁ / 4 - 1) (length s₂ / 4 - 1)) s₂) =
    one_more (n + size r) (node kind (length s₁ / 4 - 1) (length s₂ / 4 - 1)) s₂ (tree_grown n r s₁ h₁) refl in
    exactly_as (operator_put k l r kind s h)
    (exactly_if
    (λ p. (both_true (atoms_fit l) (atoms_fit r) p.0.0 p.1.0.0, omega arith))
    (λ p.
    let ab : (atoms_fit l ≡ Bool.true) × (atoms_fit r ≡ Bool.true) = both (atoms_fit l) (atoms_fit r) p.0 in
    ((ab.0, omega arith), ((ab.1, omega arith), omega arith)))
    (and_then (λ p. added_to 1024 (node kind (last_node p) (last_node (with_tree r p))) (with_tree r p)) (rw (tree_none r)) a
    (λ _. and_then (λ q. added_to 1024 (node kind (length s₁ / 4 - 1) (last_node q)) q) refl b (λ _. third))))

pub tree_exactly : (t : Tree) (k : ℕ) (s : Bytes) → length s ≡ 4 * k
    → Exactly (TreeFits k t) (s ++ flatten (nodes_from k t)) (with_tree t (some s))
unfolding with_tree size nodes_from flatten
tree_exactly Tree.true k s h = exactly_if (λ p. (refl, p)) (λ p. p.1) (one_more k (node 0 0 0) s h refl)
tree_exactly (believes n) k s h = exactly_when (leb n 255) (λ e. one_more k (node 1 n 0) s h refl)
tree_exactly (goal n) k s h = exactly_when (leb n 255) (λ e. one_more k (node 2 n 0) s h refl)
tree_exactly (not t) k s h = not_more k t s h (tree_exactly t k s h)
tree_exactly (and l r) k s h = two_more k l r 4 s h (tree_exactly l k s h) (tree_exactly r (k + size l) (s ++ flatten (nodes_from k l)) (tree_grown k l s h))
tree_exactly (or l r) k s h = two_more k l r 5 s h (tree_exactly l k s h) (tree_exactly r (k + size l) (s ++ flatten (nodes_from k l)) (tree_grown k l s h))

-- as an equation
pub tree_made : (t : Tree) (k : ℕ) (s : Bytes) → length s ≡ 4 * k
    → with_tree t (some s) ≡ if (atoms_fit t && leb (k + size t) 256) (some (s ++ flatten (nodes_from k t))) none
tree_made t k s h =
    exactly_equal (atoms_fit t && leb (k + size t) 256)
    (exactly_if
    (λ p. both_true (atoms_fit t) (leb (k + size t) 256) p.0 (le-leb (k + size t) 256 p.1))
    (λ e. let ab : (atoms_fit t ≡ Bool.true) × (leb (k + size t) 256 ≡ Bool.true) = both (atoms_fit t) (leb (k + size t) 256) e in
    (ab.0, leb-true (k + size t) 256 ab.1))
    (tree_exactly t k s h))
