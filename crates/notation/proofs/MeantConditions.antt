-- A pass over a card's nodes that makes something of each is made of the trees that the nodes stand for.
use mathlib.Core.Path.{◌≡◌, refl, ap, ap₂, sym, ◌∙◌, fun_ext}
use mathlib.Core.Bool.{Bool, ◌||◌}
use mathlib.Core.List.{List, [], ◌∷◌, ◌++◌, map, map-append}
use Prim.Native.Nat.{ℕ}
use lib.Dec.{eqb}
use lib.ListN.{length, get_or, length-map, get_or-map}
use Rattle.paper.specs.Language.{Letter, 𝐁, 𝐆}
use Rattle.paper.proofs.Relation.{false≢true}
use Rattle.meaning.specs.declared.Layout.{Layout}
use Rattle.meaning.specs.declared.Node.{Node}
use Rattle.meaning.specs.Kinds.{NodeKind, True, Believes, HasGoal, Not, And, Or, Unknown, node_kind}
use Rattle.meaning.specs.Trees.{Tree, true, believes, goal, not, and, or, tree_of, query_of}
use Rattle.meaning.specs.Card.{Bytes, pass_on, pass, nodes, trees, tree_at}
use Rattle.meaning.specs.Refusals.{contains_of, containing, other}
use Rattle.meaning.proofs.AtomKinds.{or-none}
use Rattle.meaning.proofs.Nodes.{query_at}
use Rattle.notation.specs.Meant.{tree_of_query, OneTree}
use Rattle.notation.proofs.MadeCompleted.{make_tree}

-- ---- a pass and what is made of it

module _ {X Y : Type 0} (make : ℕ → Node → (ℕ → X) → X) (beyond : X) (make' : ℕ → Node → (ℕ → Y) → Y) (f : X → Y)
    (same : (i : ℕ) (n : Node) (q : ℕ → X) → make' i n (λ j. f (q j)) ≡ f (make i n q)) where
  passed_on : (made : List X) (ns : List Node) → pass_on make' (f beyond) (map f made) ns ≡ map f (pass_on make beyond made ns)
  passed_on made [] = refl
  passed_on made (n ∷ ns) =
      let q : ℕ → X = λ j. get_or made j beyond in
      let p : ℕ → Y = λ j. get_or (map f made) j (f beyond) in
      let p' : ℕ → Y = λ j. f (q j) in
      let below : p ≡ p' = fun_ext (λ j. get_or-map f made j beyond) in
      let one : make' (length (map f made)) n p ≡ f (make (length made) n q) =
      ap₂ (λ i r. make' i n r) (length-map made f) below ∙ same (length made) n q in
      ap (λ y. pass_on make' (f beyond) (map f made ++ (y ∷ [])) ns) one
      ∙ ap (λ m. pass_on make' (f beyond) m ns) (sym (map-append f made (make (length made) n q ∷ [])))
      ∙ passed_on (made ++ (make (length made) n q ∷ [])) ns

  passed : (ns : List Node) → pass make' (f beyond) ns ≡ map f (pass make beyond ns)
  passed ns = passed_on [] ns

-- ---- the atoms of a tree

-- whether one of a kind stands in it
abbrev has : ℕ → Tree → Bool
has kind true = Bool.false
has kind (believes p) = eqb kind 1
has kind (goal p) = eqb kind 2
has kind (not t) = has kind t
has kind (and l r) = has kind l || has kind r
has kind (or l r) = has kind l || has kind r

has_of : (kind : ℕ) (k : NodeKind) (a b : ℕ) (tree : ℕ → Tree) → contains_of kind k a b (λ j. has kind (tree j)) ≡ has kind (tree_of k a b tree)
has_of kind True a b tree = refl
has_of kind Believes a b tree = refl
has_of kind HasGoal a b tree = refl
has_of kind Not a b tree = refl
has_of kind And a b tree = refl
has_of kind Or a b tree = refl
has_of kind Unknown a b tree = refl

module _ (l : Layout) (b : Bytes) where
  has_trees : (kind : ℕ) → containing kind l b ≡ map (has kind) (trees l b)
  unfolding containing trees
  has_trees kind = passed make_tree true (λ i n q. contains_of kind (node_kind n.kind) n.a n.b q) (has kind) (λ i n q. has_of kind (node_kind n.kind) n.a n.b q) (nodes l b)

  has_at : (kind n : ℕ) → get_or (containing kind l b) n Bool.false ≡ has kind (tree_at l b n)
  has_at kind n = rw (has_trees kind) (get_or-map (has kind) (trees l b) n true)

-- ---- a tree without atoms of the other letter

-- is written as it is read
as_written : (L : Letter) (t : Tree) → has (other L) t ≡ Bool.false → tree_of_query L (query_of L t) ≡ t
as_written L true e = refl
as_written 𝐁 (believes p) e = refl
as_written 𝐆 (believes p) e = absurd (false≢true (sym e))
as_written 𝐁 (goal p) e = absurd (false≢true (sym e))
as_written 𝐆 (goal p) e = refl
as_written L (not t) e = ap not (as_written L t e)
as_written L (and l r) e =
    let (f, g) = or-none (has (other L) l) (has (other L) r) e in ap₂ and (as_written L l f) (as_written L r g)
as_written L (or l r) e =
    let (f, g) = or-none (has (other L) l) (has (other L) r) e in ap₂ or (as_written L l f) (as_written L r g)

pub one_tree : OneTree
one_tree L l b n free =
    ap (tree_of_query L) (query_at L l b n) ∙ as_written L (tree_at l b n) (sym (has_at l b (other L) n) ∙ free)
