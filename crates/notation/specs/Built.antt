-- docs/TEXT.md, "The card that it stands for".
use mathlib.Core.List.{List, [], ◌∷◌, ◌++◌, map, flatten}
use Rattle.std.specs.Prelude.{ℕ, ◌+◌, ◌-◌, ◌/◌, ◌%◌, ◌^◌, length, replicate}
use Rattle.paper.specs.Atoms.{Atoms, ◌∪◌}
use Rattle.meaning.specs.Sizes.{edition1_set}
use Rattle.meaning.specs.Trees.{Tree, true, believes, goal, not, and, or}
use Rattle.meaning.specs.Card.{Bytes}
use Rattle.meaning.specs.Place.{two_bytes}
use Rattle.notation.specs.Conditions.{trees_of}
use Rattle.meaning.specs.Assembled.{assembled}
use Rattle.notation.specs.Lines.{Do, Select, Revise, Said, conditions, plans}

-- ---- nodes

-- 02, Wish 2: "Each atom, `T`, `!` and operator makes one node": how many a tree has.
unfoldable pub size : Tree → ℕ
size true = 1
size (believes n) = 1
size (goal n) = 1
size (not t) = size t + 1
size (and l r) = size l + size r + 1
size (or l r) = size l + size r + 1

-- 02, Wish 2: "numbered as it is completed": the number of a tree's own node, which is the last of its nodes, if k is that of the
-- first.
abbrev pub own : ℕ → Tree → ℕ
own k t = k + size t - 1

-- 01, "The card, edition 1": "Node, 4 bytes: kind, a, b, 0."
abbrev pub node : ℕ → ℕ → ℕ → Bytes
node kind a b = kind ∷ a ∷ b ∷ 0 ∷ []

-- A tree's nodes from number k on: a part before what it is a part of, the left before the right.
unfoldable pub nodes_from : ℕ → Tree → List Bytes
nodes_from k true = node 0 0 0 ∷ []
nodes_from k (believes n) = node 1 n 0 ∷ []
nodes_from k (goal n) = node 2 n 0 ∷ []
nodes_from k (not t) = nodes_from k t ++ (node 3 (own k t) 0 ∷ [])
nodes_from k (and l r) = nodes_from k l ++ (nodes_from (k + size l) r ++ (node 4 (own k l) (own (k + size l) r) ∷ []))
nodes_from k (or l r) = nodes_from k l ++ (nodes_from (k + size l) r ++ (node 5 (own k l) (own (k + size l) r) ∷ []))

-- docs/TEXT.md: "in the order of the text": the nodes of several trees, one behind the other, and how many they are.
unfoldable pub all_nodes : ℕ → List Tree → List Bytes
all_nodes k [] = []
all_nodes k (t ∷ ts) = nodes_from k t ++ all_nodes (k + size t) ts

-- Serves built.
unfoldable pub sizes : List Tree → ℕ
sizes [] = 0
sizes (t ∷ ts) = size t + sizes ts

-- ---- sets and plans

-- 01, "The card, edition 1": "A set of atoms is 16 bytes; atom k is bit (k modulo 8) of byte (k divided by 8).": of one atom.
abbrev pub single : ℕ → Atoms
single n = replicate (n / 8) 0 ++ (2 ^ (n % 8) ∷ replicate (edition1_set - 1 - n / 8) 0)

-- docs/TEXT.md: "A set's numbers may come in any order and twice"
unfoldable pub set_of : List ℕ → Atoms
set_of [] = replicate edition1_set 0
set_of (n ∷ ns) = single n ∪ set_of ns

-- docs/TEXT.md: "The pool has the plans in the order of the text"
abbrev pub pool : Said → Bytes
pool s = flatten (plans s)

-- ---- entries

-- 01, "The card, edition 1": "Specification, 36 bytes: action, node, 0, 0, Add, Del.", with nodes from number k on.
unfoldable pub specifications : ℕ → List Do → List Bytes
specifications k [] = []
specifications k (d ∷ ds) =
    (d.action ∷ own k d.condition.tree ∷ 0 ∷ 0 ∷ (set_of d.add ++ set_of d.del)) ∷ specifications (k + size d.condition.tree) ds

-- 01, "The card, edition 1": "Selection rule, 8 bytes: belief node, goal node, start, length (1..1,024), zero number.", with nodes
-- from number k on and plans from the pool's byte p on.
unfoldable pub selections : ℕ → ℕ → List Select → List Bytes
selections k p [] = []
selections k p (s ∷ ss) =
    let b = s.belief.tree in
    let g = s.goal.tree in
    (own k b ∷ own (k + size b) g ∷ (two_bytes p ++ (two_bytes (length s.plan) ++ two_bytes 0)))
    ∷ selections (k + size b + size g) (p + length s.plan) ss

-- 01, "The card, edition 1": "Revision rule, 12 bytes: node, 0, head start, head length (1..1,024), body start, body length
-- (0..1,024), zero number."
unfoldable pub revisions : ℕ → ℕ → List Revise → List Bytes
revisions k p [] = []
revisions k p (r ∷ rs) =
    let h = length r.head in
    let b = length r.body in
    (own k r.condition.tree ∷ 0 ∷ (two_bytes p ++ (two_bytes h ++ (two_bytes (p + h) ++ (two_bytes b ++ two_bytes 0)))))
    ∷ revisions (k + size r.condition.tree) (p + h + b) rs

-- ---- the card

-- The card that a text stands for: its nodes are those of the do lines, then those of the select lines, then those of the revise
-- lines, and so are the plans of the select lines before those of the revise lines.
unfoldable pub built : Said → Bytes
built s =
    let dos = map (λ d. d.condition.tree) s.dos in
    let selects = flatten (map (λ s. s.belief.tree ∷ s.goal.tree ∷ []) s.selects) in
    let plans = flatten (map (λ s. s.plan) s.selects) in
    let begin = length (pool s) - length s.begin.plan in
    assembled s.atoms s.weights
    (all_nodes 0 (trees_of (conditions s)))
    (specifications 0 s.dos)
    (selections (sizes dos) 0 s.selects)
    (revisions (sizes dos + sizes selects) (length plans) s.revises)
    (pool s) (set_of s.begin.beliefs) (set_of s.begin.goals) begin (length s.begin.plan)
