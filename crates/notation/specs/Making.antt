-- A card in the making: what each line adds to its sections, in the order of the text; nothing once anything is too large.
use Rattle.std.specs.Prelude.{Bool, ◌&&◌, ℕ, ◌+◌, ◌-◌, ◌*◌, ◌/◌, leb, length, replicate}
use mathlib.Core.List.{List, [], ◌∷◌, ◌++◌, map, flatten}
use Rattle.std.proofs.Math.Option.{Option, none, some}
use Rattle.paper.specs.Next.{if}
use Rattle.meaning.specs.Sizes.{edition1_set, header_bytes, specification_bytes}
use Rattle.meaning.specs.Trees.{Tree, true, believes, goal, not, and, or}
use Rattle.meaning.specs.Card.{Bytes}
use Rattle.meaning.specs.Place.{two_bytes}
use Rattle.meaning.specs.Refusals.{all}
use Rattle.notation.specs.Lines.{Do, Select, Revise, Begin, Said}
use Rattle.notation.specs.Built.{node, set_of}
use Rattle.notation.specs.Values.{Item, atoms_said, action_said, do_said, select_said, revise_said, begin_said}

-- What is made so far: the sections' bytes, the start's sets, and where its plan starts in the pool and how long it is.
pub record Sections : Type 0 where
  pub atoms : ℕ
  pub weights : Bytes
  pub nodes : Bytes
  pub specifications : Bytes
  pub selections : Bytes
  pub revisions : Bytes
  pub pool : Bytes
  pub sets : Bytes
  pub start : ℕ
  pub len : ℕ

abbrev pub nothing_made : Sections
nothing_made = record {
  atoms = 0;
  weights = [];
  nodes = [];
  specifications = [];
  selections = [];
  revisions = [];
  pool = [];
  sets = replicate 32 0;
  start = 0;
  len = 0;
}

-- ---- one part changed

abbrev pub put_atoms : Sections → ℕ → Sections
put_atoms m n = record {
  atoms = n;
  weights = m.weights;
  nodes = m.nodes;
  specifications = m.specifications;
  selections = m.selections;
  revisions = m.revisions;
  pool = m.pool;
  sets = m.sets;
  start = m.start;
  len = m.len;
}

abbrev pub put_weights : Sections → Bytes → Sections
put_weights m s = record {
  atoms = m.atoms;
  weights = s;
  nodes = m.nodes;
  specifications = m.specifications;
  selections = m.selections;
  revisions = m.revisions;
  pool = m.pool;
  sets = m.sets;
  start = m.start;
  len = m.len;
}

abbrev pub put_nodes : Sections → Bytes → Sections
put_nodes m s = record {
  atoms = m.atoms;
  weights = m.weights;
  nodes = s;
  specifications = m.specifications;
  selections = m.selections;
  revisions = m.revisions;
  pool = m.pool;
  sets = m.sets;
  start = m.start;
  len = m.len;
}

abbrev pub put_specifications : Sections → Bytes → Sections
put_specifications m s = record {
  atoms = m.atoms;
  weights = m.weights;
  nodes = m.nodes;
  specifications = s;
  selections = m.selections;
  revisions = m.revisions;
  pool = m.pool;
  sets = m.sets;
  start = m.start;
  len = m.len;
}

abbrev pub put_selections : Sections → Bytes → Sections
put_selections m s = record {
  atoms = m.atoms;
  weights = m.weights;
  nodes = m.nodes;
  specifications = m.specifications;
  selections = s;
  revisions = m.revisions;
  pool = m.pool;
  sets = m.sets;
  start = m.start;
  len = m.len;
}

abbrev pub put_revisions : Sections → Bytes → Sections
put_revisions m s = record {
  atoms = m.atoms;
  weights = m.weights;
  nodes = m.nodes;
  specifications = m.specifications;
  selections = m.selections;
  revisions = s;
  pool = m.pool;
  sets = m.sets;
  start = m.start;
  len = m.len;
}

abbrev pub put_pool : Sections → Bytes → Sections
put_pool m s = record {
  atoms = m.atoms;
  weights = m.weights;
  nodes = m.nodes;
  specifications = m.specifications;
  selections = m.selections;
  revisions = m.revisions;
  pool = s;
  sets = m.sets;
  start = m.start;
  len = m.len;
}

abbrev pub put_start : Sections → Bytes → ℕ → ℕ → Sections
put_start m sets start len = record {
  atoms = m.atoms;
  weights = m.weights;
  nodes = m.nodes;
  specifications = m.specifications;
  selections = m.selections;
  revisions = m.revisions;
  pool = m.pool;
  sets = sets;
  start = start;
  len = len;
}

-- ---- a section of at most so many bytes

abbrev pub bind : {X Y : Type 0} → Option X → (X → Option Y) → Option Y
bind none f = none
bind (some x) f = f x

abbrev pub when : {X : Type 0} → Bool → Option X → Option X
when b o = if b o none

-- bytes added at a section's end, if it has room for them
abbrev pub added : ℕ → Bytes → Bytes → Option Bytes
added room e s = if (leb (length s + length e) room) (some (s ++ e)) none

abbrev pub added_to : ℕ → Bytes → Option Bytes → Option Bytes
added_to room e o = bind o (added room e)

-- the number of the last node
abbrev pub last_node : Option Bytes → ℕ
last_node none = 0
last_node (some s) = length s / 4 - 1

-- a tree's nodes, each when it is completed
unfoldable pub with_tree : Tree → Option Bytes → Option Bytes
with_tree true o = added_to 1024 (node 0 0 0) o
with_tree (believes n) o = when (leb n 255) (added_to 1024 (node 1 n 0) o)
with_tree (goal n) o = when (leb n 255) (added_to 1024 (node 2 n 0) o)
with_tree (not t) o = added_to 1024 (node 3 (last_node (with_tree t o)) 0) (with_tree t o)
with_tree (and l r) o = added_to 1024 (node 4 (last_node (with_tree l o)) (last_node (with_tree r (with_tree l o)))) (with_tree r (with_tree l o))
with_tree (or l r) o = added_to 1024 (node 5 (last_node (with_tree l o)) (last_node (with_tree r (with_tree l o)))) (with_tree r (with_tree l o))

-- a plan's actions
unfoldable pub with_plan : List ℕ → Option Bytes → Option Bytes
with_plan [] o = o
with_plan (n ∷ ns) o = with_plan ns (when (leb n 255) (added_to 8192 (n ∷ []) o))

-- ---- what is made so far, and more

abbrev pub made_nodes : Option Sections → Option Bytes
made_nodes o = bind o (λ m. some m.nodes)

abbrev pub made_pool : Option Sections → Option Bytes
made_pool o = bind o (λ m. some m.pool)

-- how many actions the pool has
abbrev pub pool_size : Option Sections → ℕ
pool_size none = 0
pool_size (some m) = length m.pool

unfoldable pub tree_in : Tree → Option Sections → Option Sections
tree_in t o = bind o (λ m. bind (with_tree t (some m.nodes)) (λ s. some (put_nodes m s)))

unfoldable pub plan_in : List ℕ → Option Sections → Option Sections
plan_in ns o = bind o (λ m. bind (with_plan ns (some m.pool)) (λ s. some (put_pool m s)))

unfoldable pub weight_in : Bytes → Option Sections → Option Sections
weight_in e o = bind o (λ m. bind (added 512 e m.weights) (λ s. some (put_weights m s)))

unfoldable pub specification_in : Bytes → Option Sections → Option Sections
specification_in e o = bind o (λ m. bind (added 9216 e m.specifications) (λ s. some (put_specifications m s)))

unfoldable pub selection_in : Bytes → Option Sections → Option Sections
selection_in e o = bind o (λ m. bind (added 2048 e m.selections) (λ s. some (put_selections m s)))

unfoldable pub revision_in : Bytes → Option Sections → Option Sections
revision_in e o = bind o (λ m. bind (added 3072 e m.revisions) (λ s. some (put_revisions m s)))

abbrev pub set_fits : List ℕ → Bool
set_fits ns = all (λ a. leb a 127) ns

-- ---- the lines

unfoldable pub do_in : Do → Option Sections → Option Sections
do_in d o =
    let p = tree_in d.condition.tree o in
    when (leb d.action 255 && (set_fits d.add && set_fits d.del))
    (specification_in (d.action ∷ last_node (made_nodes p) ∷ 0 ∷ 0 ∷ (set_of d.add ++ set_of d.del)) p)

unfoldable pub select_in : Select → Option Sections → Option Sections
select_in s o =
    let p = tree_in s.belief.tree o in
    let q = tree_in s.goal.tree p in
    let r = plan_in s.plan q in
    selection_in (last_node (made_nodes p) ∷ last_node (made_nodes q)
    ∷ (two_bytes (pool_size q) ++ (two_bytes (pool_size r - pool_size q) ++ two_bytes 0))) r

unfoldable pub revise_in : Revise → Option Sections → Option Sections
revise_in v o =
    let p = plan_in v.head o in
    let q = tree_in v.condition.tree p in
    let r = plan_in v.body q in
    revision_in (last_node (made_nodes q) ∷ 0
    ∷ (two_bytes (pool_size o) ++ (two_bytes (pool_size p - pool_size o) ++ (two_bytes (pool_size p) ++ (two_bytes (pool_size r - pool_size p) ++ two_bytes 0))))) r

unfoldable pub begin_in : Begin → Option Sections → Option Sections
begin_in b o =
    let p = plan_in b.plan o in
    when (set_fits b.beliefs && set_fits b.goals)
    (bind p (λ m. some (put_start m (set_of b.beliefs ++ set_of b.goals) (pool_size o) (pool_size p - pool_size o))))

unfoldable pub item_in : Item → Option Sections → Option Sections
item_in (atoms_said n) o = when (leb n 65535) (bind o (λ m. some (put_atoms m n)))
item_in (action_said w) o = when (leb w 65535) (weight_in (two_bytes w) o)
item_in (do_said d) o = do_in d o
item_in (select_said s) o = select_in s o
item_in (revise_said r) o = revise_in r o
item_in (begin_said b) o = begin_in b o

unfoldable pub items_in : List Item → Option Sections → Option Sections
items_in [] o = o
items_in (i ∷ is) o = items_in is (item_in i o)

-- ---- the card

-- the header, from the numbers of atoms, actions, nodes, specifications, selection and revision rules, pool bytes, and the initial
-- plan's start and length
unfoldable pub header_of : ℕ → ℕ → ℕ → ℕ → ℕ → ℕ → ℕ → ℕ → ℕ → Bytes
header_of atoms actions nodes specifications selections revisions pool start len =
    let nodes_at : ℕ = header_bytes edition1_set + 2 * actions in
    let specifications_at : ℕ = nodes_at + 4 * nodes in
    let selections_at : ℕ = specifications_at + specification_bytes edition1_set * specifications in
    let revisions_at : ℕ = selections_at + 8 * selections in
    let pool_at : ℕ = revisions_at + 12 * revisions in
    0x33 ∷ 0x41
    ∷ flatten (map two_bytes (
    1 ∷ atoms ∷ actions ∷ nodes ∷ nodes_at ∷ specifications ∷ specifications_at ∷ selections ∷ selections_at
    ∷ revisions ∷ revisions_at ∷ pool ∷ pool_at ∷ start ∷ len ∷ []))

-- the sections, one behind the other
unfoldable pub sections_of : Sections → Bytes
sections_of m = m.weights ++ (m.nodes ++ (m.specifications ++ (m.selections ++ (m.revisions ++ m.pool))))

unfoldable pub card_of : Sections → Bytes
card_of m =
    header_of m.atoms (length m.weights / 2) (length m.nodes / 4) (length m.specifications / 36) (length m.selections / 8)
    (length m.revisions / 12) (length m.pool) m.start m.len
    ++ (m.sets ++ sections_of m)

-- ---- the items of a text

abbrev pub items_said : Said → List Item
items_said s =
    atoms_said s.atoms
    ∷ (map action_said s.weights
    ++ (map do_said s.dos ++ (map select_said s.selects ++ (map revise_said s.revises ++ (begin_said s.begin ∷ [])))))
