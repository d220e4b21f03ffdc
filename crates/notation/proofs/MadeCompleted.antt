-- A pass over a tree's nodes makes the tree again, at its own node.
use mathlib.Core.Path.{◌≡◌, refl, ap, ap₂, sym, ◌∙◌}
use mathlib.Core.List.{List, [], ◌∷◌, ◌++◌, map, flatten, append_assoc, append-nil, map-append}
use Prim.Native.Nat.{ℕ, ◌+◌}
use native.Mathlib.Omega.{arith}
use lib.ListN.{length, get_or, length-append}
use lib.Seq.{get_or_at}
use Rattle.meaning.specs.declared.Node.{Node}
use Rattle.meaning.specs.Kinds.{node_kind}
use Rattle.meaning.specs.Trees.{Tree, true, believes, goal, not, and, or, tree_of}
use Rattle.meaning.specs.Card.{Bytes, pass_on, pass}
use Rattle.notation.specs.Built.{size, sizes, own, node, nodes_from, all_nodes}
use Rattle.notation.proofs.MadeLists.{flatten_append}

-- the trees of a tree's nodes, in the order in which they are completed
unfoldable pub completed : Tree → List Tree
completed true = true ∷ []
completed (believes n) = believes n ∷ []
completed (goal n) = goal n ∷ []
completed (not t) = completed t ++ (not t ∷ [])
completed (and l r) = completed l ++ (completed r ++ (and l r ∷ []))
completed (or l r) = completed l ++ (completed r ++ (or l r ∷ []))

pub completed_counted : (t : Tree) → length (completed t) ≡ size t
unfolding completed size
completed_counted true = refl
completed_counted (believes n) = refl
completed_counted (goal n) = refl
completed_counted (not t) = simp length-append (omega (arith, completed_counted t))
completed_counted (and l r) = simp length-append (omega (arith, completed_counted l, completed_counted r))
completed_counted (or l r) = simp length-append (omega (arith, completed_counted l, completed_counted r))

-- the last of them is the tree itself
completed_last : (t : Tree) → (us : List Tree) × (completed t ≡ us ++ (t ∷ []))
unfolding completed
completed_last true = ([], refl)
completed_last (believes n) = ([], refl)
completed_last (goal n) = ([], refl)
completed_last (not t) = (completed t, refl)
completed_last (and l r) = (completed l ++ completed r, sym (append_assoc (completed l) (completed r) (and l r ∷ [])))
completed_last (or l r) = (completed l ++ completed r, sym (append_assoc (completed l) (completed r) (or l r ∷ [])))

-- behind k trees a tree is the one with its own number
pub own_tree : (made : List Tree) (t : Tree) (behind : List Tree) (k : ℕ) → length made ≡ k → get_or ((made ++ completed t) ++ behind) (own k t) true ≡ t
own_tree made t behind k h =
    let us : List Tree = (completed_last t).0 in
    let e : completed t ≡ us ++ (t ∷ []) = (completed_last t).1 in
    let split : (made ++ completed t) ++ behind ≡ (made ++ us) ++ (t ∷ behind) = rw e (simp append_assoc) in
    let count : length us + 1 ≡ size t = sym (length-append us (t ∷ [])) ∙ sym (ap length e) ∙ completed_counted t in
    rw split (get_or_at (made ++ us) t behind true (own k t) (length-append made us ∙ omega arith))

own_last : (made : List Tree) (t : Tree) (k : ℕ) → length made ≡ k → get_or (made ++ completed t) (own k t) true ≡ t
own_last made t k h = rw (append-nil (made ++ completed t)) at (own_tree made t [] k h)

-- ---- one pass

-- a node from its bytes
abbrev pub node_of : Bytes → Node
node_of e = record { kind = get_or e 0 0; a = get_or e 1 0; b = get_or e 2 0; zero = get_or e 3 0 }

abbrev pub make_tree : ℕ → Node → (ℕ → Tree) → Tree
make_tree i n tree = tree_of (node_kind n.kind) n.a n.b tree

abbrev pass_trees : List Tree → List Bytes → List Tree
pass_trees made es = pass_on make_tree true made (map node_of es)

-- an operator's node, behind two trees
pass_operator : (kind : ℕ) (op : Tree → Tree → Tree) → ((a b : ℕ) (tree : ℕ → Tree) → tree_of (node_kind kind) a b tree ≡ op (tree a) (tree b))
    → (l r : Tree) (k : ℕ) (made : List Tree) (rest : List Bytes) → length made ≡ k
    → ((es : List Bytes) → pass_trees made (nodes_from k l ++ es) ≡ pass_trees (made ++ completed l) es)
    → ((es : List Bytes) → pass_trees (made ++ completed l) (nodes_from (k + size l) r ++ es) ≡ pass_trees ((made ++ completed l) ++ completed r) es)
    → pass_trees made ((nodes_from k l ++ (nodes_from (k + size l) r ++ (node kind (own k l) (own (k + size l) r) ∷ []))) ++ rest)
    ≡ pass_trees (made ++ (completed l ++ (completed r ++ (op l r ∷ [])))) rest
pass_operator kind op is l r k made rest h p q =
    let e : Bytes = node kind (own k l) (own (k + size l) r) in
    let m₁ : List Tree = made ++ completed l in
    let m₂ : List Tree = m₁ ++ completed r in
    let h₁ : length m₁ ≡ k + size l = length-append made (completed l) ∙ omega (arith, completed_counted l) in
    let one : get_or m₂ (own k l) true ≡ l = own_tree made l (completed r) k h in
    let two : get_or m₂ (own (k + size l) r) true ≡ r = own_last m₁ r (k + size l) h₁ in
    let last : tree_of (node_kind kind) (own k l) (own (k + size l) r) (λ j. get_or m₂ j true) ≡ op l r =
    is (own k l) (own (k + size l) r) (λ j. get_or m₂ j true) ∙ ap₂ op one two in
    ap (pass_trees made) (append_assoc (nodes_from k l) (nodes_from (k + size l) r ++ (e ∷ [])) rest)
    ∙ p ((nodes_from (k + size l) r ++ (e ∷ [])) ++ rest)
    ∙ ap (pass_trees m₁) (append_assoc (nodes_from (k + size l) r) (e ∷ []) rest)
    ∙ q (e ∷ rest)
    ∙ ap (λ t. pass_trees (m₂ ++ (t ∷ [])) rest) last
    ∙ ap (λ m. pass_trees m rest)
    (append_assoc m₁ (completed r) (op l r ∷ []) ∙ append_assoc made (completed l) (completed r ++ (op l r ∷ [])))

pass_tree : (t : Tree) (k : ℕ) (made : List Tree) (rest : List Bytes) → length made ≡ k
    → pass_trees made (nodes_from k t ++ rest) ≡ pass_trees (made ++ completed t) rest
unfolding nodes_from completed
pass_tree true k made rest h = refl
pass_tree (believes n) k made rest h = refl
pass_tree (goal n) k made rest h = refl
pass_tree (not t) k made rest h =
    ap (pass_trees made) (append_assoc (nodes_from k t) (node 3 (own k t) 0 ∷ []) rest)
    ∙ pass_tree t k made (node 3 (own k t) 0 ∷ rest) h
    ∙ ap (λ u. pass_trees ((made ++ completed t) ++ (not u ∷ [])) rest) (own_last made t k h)
    ∙ ap (λ m. pass_trees m rest) (append_assoc made (completed t) (not t ∷ []))
pass_tree (and l r) k made rest h =
    pass_operator 4 and (λ a b tree. refl) l r k made rest h
    (λ es. pass_tree l k made es h)
    (λ es. pass_tree r (k + size l) (made ++ completed l) es (length-append made (completed l) ∙ omega (arith, completed_counted l)))
pass_tree (or l r) k made rest h =
    pass_operator 5 or (λ a b tree. refl) l r k made rest h
    (λ es. pass_tree l k made es h)
    (λ es. pass_tree r (k + size l) (made ++ completed l) es (length-append made (completed l) ∙ omega (arith, completed_counted l)))

-- ---- all the trees

abbrev pub all_completed : List Tree → List Tree
all_completed ts = flatten (map completed ts)

pub all_completed_counted : (ts : List Tree) → length (all_completed ts) ≡ sizes ts
unfolding flatten sizes
all_completed_counted [] = refl
all_completed_counted (t ∷ ts) = length-append (completed t) (all_completed ts) ∙ omega (arith, completed_counted t, all_completed_counted ts)

pass_trees_lem : (ts : List Tree) (k : ℕ) (made : List Tree) → length made ≡ k → pass_trees made (all_nodes k ts) ≡ made ++ all_completed ts
unfolding all_nodes flatten
pass_trees_lem [] k made h = sym (append-nil made)
pass_trees_lem (t ∷ ts) k made h =
    pass_tree t k made (all_nodes (k + size t) ts) h
    ∙ pass_trees_lem ts (k + size t) (made ++ completed t) (length-append made (completed t) ∙ omega (arith, completed_counted t))
    ∙ append_assoc made (completed t) (all_completed ts)

-- what a pass over the nodes of several trees makes
pub passed_trees : (ts : List Tree) → pass make_tree true (map node_of (all_nodes 0 ts)) ≡ all_completed ts
passed_trees ts = pass_trees_lem ts 0 [] refl

-- a tree is the one with its own number, behind the nodes of those before it
pub tree_among : (before : List Tree) (t : Tree) (behind : List Tree)
    → get_or (all_completed (before ++ (t ∷ behind))) (own (sizes before) t) true ≡ t
unfolding flatten
tree_among before t behind =
    let split : all_completed (before ++ (t ∷ behind)) ≡ (all_completed before ++ completed t) ++ all_completed behind =
    ap flatten (map-append completed before (t ∷ behind)) ∙ flatten_append (map completed before) (map completed (t ∷ behind))
    ∙ sym (append_assoc (all_completed before) (completed t) (all_completed behind)) in
    rw split (own_tree (all_completed before) t (all_completed behind) (sizes before) (all_completed_counted before))
