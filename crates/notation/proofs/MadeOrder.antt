-- The nodes of the card that a text stands for, each numbered as it is completed.
use mathlib.Core.Path.{◌≡◌, refl, ap, sym, ◌∙◌, subst}
use mathlib.Core.List.{List, [], ◌∷◌, ◌++◌, append_assoc}
use Prim.Native.Nat.{ℕ, suc, ◌+◌, ◌<◌}
use native.Mathlib.Omega.{arith}
use lib.ListN.{length, get_or, length-append}
use lib.Seq.{get_or_at}
use Rattle.meaning.specs.declared.Node.{Node}
use Rattle.meaning.specs.Kinds.{node_kind}
use Rattle.meaning.specs.Trees.{Tree, true, believes, goal, not, and, or}
use Rattle.meaning.specs.Card.{Bytes}
use Rattle.notation.specs.Built.{size, sizes, own, node, nodes_from, all_nodes}
use Rattle.notation.specs.Completed.{IsNode, Completed, the_true, a_belief, a_goal, a_not, an_and, an_or, AllCompleted, no_tree, next_tree}
use Rattle.notation.proofs.MadeTrees.{some_node, nodes_counted}
use Rattle.notation.proofs.MadeCompleted.{node_of}

module _ (at : ℕ → Node) (es : List Bytes) (told : (i : ℕ) → i < length es → at i ≡ node_of (get_or es i [])) where
  -- the node of an entry behind others
  node_behind : (kind a b : ℕ) (front behind : List Bytes) (i : ℕ) → es ≡ front ++ (node kind a b ∷ behind) → length front ≡ i
      → IsNode (at i) (node_kind kind) a b
  node_behind kind a b front behind i h f =
      let inside : i < length es = rw (h, length-append front (node kind a b ∷ behind)) (omega arith) in
      let is : at i ≡ node_of (node kind a b) =
      told i inside ∙ ap node_of (ap (λ z. get_or z i []) h ∙ get_or_at front (node kind a b) behind [] i f) in
      (ap (λ x. node_kind x.kind) is, (ap (λ x. x.a) is, ap (λ x. x.b) is))

  -- an operator behind two trees
  operator : (kind : ℕ) (op : Tree → Tree → Tree) (l r : Tree) (front behind : List Bytes) (k : ℕ)
      → ((i j : ℕ) → Completed at k l i → Completed at (suc i) r j → IsNode (at (suc j)) (node_kind kind) i j → Completed at k (op l r) (suc j))
      → size (op l r) ≡ size l + size r + 1
      → es ≡ front ++ ((nodes_from k l ++ (nodes_from (k + size l) r ++ (node kind (own k l) (own (k + size l) r) ∷ []))) ++ behind) → length front ≡ k
      → ((behind : List Bytes) → es ≡ front ++ (nodes_from k l ++ behind) → Completed at k l (own k l))
      → ((front behind : List Bytes) → es ≡ front ++ (nodes_from (k + size l) r ++ behind) → length front ≡ k + size l
      → Completed at (k + size l) r (own (k + size l) r))
      → Completed at k (op l r) (own k (op l r))
  operator kind op l r front behind k make count h f left right =
      let nl : List Bytes = nodes_from k l in
      let nr : List Bytes = nodes_from (k + size l) r in
      let x : Bytes = node kind (own k l) (own (k + size l) r) in
      let hl : es ≡ front ++ (nl ++ ((nr ++ (x ∷ [])) ++ behind)) = h ∙ ap (λ z. front ++ z) (append_assoc nl (nr ++ (x ∷ [])) behind) in
      let hr : es ≡ (front ++ nl) ++ (nr ++ (x ∷ behind)) =
      hl ∙ ap (λ z. front ++ (nl ++ z)) (append_assoc nr (x ∷ []) behind) ∙ sym (append_assoc front nl (nr ++ (x ∷ behind))) in
      let hx : es ≡ ((front ++ nl) ++ nr) ++ (x ∷ behind) = hr ∙ sym (append_assoc (front ++ nl) nr (x ∷ behind)) in
      let p = some_node l in
      let q = some_node r in
      let fl : length (front ++ nl) ≡ k + size l = length-append front nl ∙ omega (arith, nodes_counted k l) in
      let fr : length ((front ++ nl) ++ nr) ≡ suc (own (k + size l) r) = length-append (front ++ nl) nr ∙ omega (arith, nodes_counted (k + size l) r) in
      let next : k + size l ≡ suc (own k l) = omega arith in
      let last : suc (own (k + size l) r) ≡ own k (op l r) = omega arith in
      subst (Completed at k (op l r)) last
      (make (own k l) (own (k + size l) r) (left ((nr ++ (x ∷ [])) ++ behind) hl)
      (subst (λ i. Completed at i r (own (k + size l) r)) next (right (front ++ nl) (x ∷ behind) hr fl))
      (node_behind kind (own k l) (own (k + size l) r) ((front ++ nl) ++ nr) behind (suc (own (k + size l) r)) hx fr))

  tree_completed : (t : Tree) (front behind : List Bytes) (k : ℕ) → es ≡ front ++ (nodes_from k t ++ behind) → length front ≡ k → Completed at k t (own k t)
  unfolding nodes_from size
  tree_completed true front behind k h f =
      let last : k ≡ own k true = omega arith in subst (Completed at k true) last (the_true (node_behind 0 0 0 front behind k h f))
  tree_completed (believes p) front behind k h f =
      let last : k ≡ own k (believes p) = omega arith in subst (Completed at k (believes p)) last (a_belief (node_behind 1 p 0 front behind k h f))
  tree_completed (goal p) front behind k h f =
      let last : k ≡ own k (goal p) = omega arith in subst (Completed at k (goal p)) last (a_goal (node_behind 2 p 0 front behind k h f))
  tree_completed (not t) front behind k h f =
      let nt : List Bytes = nodes_from k t in
      let x : Bytes = node 3 (own k t) 0 in
      let ht : es ≡ front ++ (nt ++ (x ∷ behind)) = h ∙ ap (λ z. front ++ z) (append_assoc nt (x ∷ []) behind) in
      let p = some_node t in
      let last : suc (own k t) ≡ own k (not t) = omega arith in
      let ft : length (front ++ nt) ≡ suc (own k t) = length-append front nt ∙ omega (arith, nodes_counted k t) in
      subst (Completed at k (not t)) last
      (a_not (tree_completed t front (x ∷ behind) k ht f)
      (node_behind 3 (own k t) 0 (front ++ nt) behind (suc (own k t)) (ht ∙ sym (append_assoc front nt (x ∷ behind))) ft))
  tree_completed (and l r) front behind k h f =
      operator 4 and l r front behind k (λ i j x y z. an_and x y z) refl h f
      (λ more g. tree_completed l front more k g f) (λ less more g c. tree_completed r less more (k + size l) g c)
  tree_completed (or l r) front behind k h f =
      operator 5 or l r front behind k (λ i j x y z. an_or x y z) refl h f
      (λ more g. tree_completed l front more k g f) (λ less more g c. tree_completed r less more (k + size l) g c)

  trees_completed : (ts : List Tree) (front : List Bytes) (k : ℕ) → es ≡ front ++ all_nodes k ts → length front ≡ k → AllCompleted at k ts (k + sizes ts)
  unfolding all_nodes sizes
  trees_completed [] front k h f = let end : k ≡ k + 0 = omega arith in subst (AllCompleted at k []) end no_tree
  trees_completed (t ∷ ts) front k h f =
      let p = some_node t in
      let next : k + size t ≡ suc (own k t) = omega arith in
      let end : (k + size t) + sizes ts ≡ k + (size t + sizes ts) = omega arith in
      let rest = trees_completed ts (front ++ nodes_from k t) (k + size t) (h ∙ sym (append_assoc front (nodes_from k t) (all_nodes (k + size t) ts)))
      (length-append front (nodes_from k t) ∙ omega (arith, nodes_counted k t)) in
      next_tree (tree_completed t front (all_nodes (k + size t) ts) k h f)
      (subst (λ i. AllCompleted at i ts (k + (size t + sizes ts))) next (subst (AllCompleted at (k + size t) ts) end rest))

  -- all of them, from the first on
  pub all_completed_lem : (ts : List Tree) → es ≡ all_nodes 0 ts → AllCompleted at 0 ts (sizes ts)
  all_completed_lem ts h = let end : 0 + sizes ts ≡ sizes ts = omega arith in subst (AllCompleted at 0 ts) end (trees_completed ts [] 0 h refl)
