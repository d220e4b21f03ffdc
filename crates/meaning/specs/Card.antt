-- The card, edition 1: what its bytes stand for (01, "The card, edition 1").
use Rattle.std.specs.Prelude.{List, [], ◌∷◌, ◌++◌, map, ℕ, ◌+◌, ◌*◌, ◌-◌, length, get_or, take, drop, replicate}
use Rattle.paper.specs.Language.{Plan, Letter, 𝐁, 𝐆, Query, ⊤, Specification, Selection, Revision, Agent, ⟨◌/◌/◌⟩}
use Rattle.paper.specs.Transitions.{struck_by}
use Rattle.runs.specs.Order.{State, numbers}
use Rattle.meaning.specs.declared.Section.{Section}
use Rattle.meaning.specs.declared.Span.{Span}
use Rattle.meaning.specs.declared.Layout.{Layout}
use Rattle.meaning.specs.declared.Node.{Node}
use Rattle.meaning.specs.declared.SpecificationEntry.{SpecificationEntry}
use Rattle.meaning.specs.declared.SelectionEntry.{SelectionEntry}
use Rattle.meaning.specs.declared.RevisionEntry.{RevisionEntry}
use Rattle.meaning.specs.Kinds.{node_kind}
use Rattle.meaning.specs.Trees.{Tree, true, tree_of, query_of}
use Rattle.meaning.specs.Sizes.{edition2_set, set_bytes, goals_at, header_bytes, del_at, specification_bytes}

-- 00, demand 1: "on all bytes and numbers": the bytes of a card or place, in their order.
abbrev pub Bytes : Type 0
Bytes = List ℕ

-- The byte at an offset; 0 past the end. Serves number_at and the entries: 01, "The card, edition 1": "a kind, a, b, an action, a
-- node and a plain 0 are one byte each".
abbrev pub byte : Bytes → ℕ → ℕ
byte b at = get_or b at 0

-- 01, "The card, edition 1": "Numbers are two bytes, low byte first"
abbrev pub number_at : Bytes → ℕ → ℕ
number_at b at = byte b at + 256 * byte b (at + 1)

-- n bytes from an offset on. Serves set_at and plan.
unfoldable pub part : Bytes → ℕ → ℕ → Bytes
part b at n = take n (drop at b)

-- A set of either edition in the 32 bytes that a configuration has for it: one of edition 1 has zeros above (docs/DECISIONS.md, "A
-- configuration has no edition").
unfoldable pub widened : Bytes → Bytes
widened s = s ++ replicate (edition2_set - length s) 0

-- The set at an offset of a card or place: 01, "The card, edition 1": "A set of atoms is 16 bytes"; 02, Wish 9: "sets of 32 bytes".
abbrev pub set_at : Layout → Bytes → ℕ → Bytes
set_at l b at = widened (part b at (set_bytes l))

-- 01, "The card, edition 1", the table: "nodes, offset" and the like, two numbers in turn. Serves layout.
abbrev pub section : Bytes → ℕ → Section
section b at = record { count = number_at b at; offset = number_at b (at + 2) }

-- 01, "The card, edition 1": "a start and a length in the pool", two numbers in turn. Serves layout and the rules.
abbrev pub span : Bytes → ℕ → Span
span b at = record { start = number_at b at; length = number_at b (at + 2) }

-- 01, "The card, edition 1": "counts and offsets in a header": the table, row by row.
unfoldable pub layout : Bytes → Layout
layout b = record {
  -- 01, "The card, edition 1", at 2: "edition"
  edition = number_at b 2;
  -- 01, "The card, edition 1", at 4: "atoms"
  atoms = number_at b 4;
  -- 01, "The card, edition 1", at 6: "actions"
  actions = number_at b 6;
  -- 01, "The card, edition 1", at 8, 10: "nodes, offset"
  nodes = section b 8;
  -- 01, "The card, edition 1", at 12, 14: "specifications, offset"
  specifications = section b 12;
  -- 01, "The card, edition 1", at 16, 18: "selection rules, offset"
  selections = section b 16;
  -- 01, "The card, edition 1", at 20, 22: "revision rules, offset"
  revisions = section b 20;
  -- 01, "The card, edition 1", at 24, 26: "pool bytes, offset"
  pool = section b 24;
  -- 01, "The card, edition 1", at 28, 30: "initial plan start, length"
  initial = span b 28;
}

-- Where entry number i of a section starts: its offset plus i sizes, for 01, "The card, edition 1" has "with no gap". Serves
-- node_at, specification_at, selection_at and revision_at.
abbrev pub entry_at : ℕ → Section → ℕ → ℕ
entry_at size s i = s.offset + size * i

-- What stands under each number of a section, in their order. Serves nodes and agent_of.
abbrev pub entries : {R : Type 0} → (ℕ → R) → Section → List R
entries read s = map read (numbers 0 s.count)

-- 01, "The card, edition 1", at 64: "weights, one for each action". The weight of action a.
abbrev pub weight_at : Layout → Bytes → ℕ → ℕ
weight_at l b a = number_at b (header_bytes (set_bytes l) + 2 * a)

-- 01, "The card, edition 1", at 64: "weights, one for each action". All of them, from action 0 on.
unfoldable pub weights : Layout → Bytes → List ℕ
weights l b = map (weight_at l b) (numbers 0 l.actions)

-- 01, "The card, edition 1": "Node, 4 bytes: kind, a, b, 0." Each is one byte: the node that starts at a place.
abbrev pub node_from : Bytes → ℕ → Node
node_from b at = record { kind = byte b at; a = byte b (at + 1); b = byte b (at + 2); zero = byte b (at + 3) }

-- Node i of a card.
unfoldable pub node_at : Layout → Bytes → ℕ → Node
node_at l b i = node_from b (entry_at 4 l.nodes i)

-- 01, "The card, edition 1": "Specification, 36 bytes: action, node, 0, 0, Add, Del."
unfoldable pub specification_at : Layout → Bytes → ℕ → SpecificationEntry
specification_at l b i =
    let at : ℕ = entry_at (specification_bytes (set_bytes l)) l.specifications i in
    record {
      action = byte b at;
      node = byte b (at + 1);
      zero = number_at b (at + 2);
      add = set_at l b (at + 4);
      del = set_at l b (at + del_at (set_bytes l));
    }

-- 01, "The card, edition 1": "Selection rule, 8 bytes: belief node, goal node, start, length (1..1,024), zero number."
unfoldable pub selection_at : Layout → Bytes → ℕ → SelectionEntry
selection_at l b i =
    let at : ℕ = entry_at 8 l.selections i in
    record { belief = byte b at; goal = byte b (at + 1); plan = span b (at + 2); zero = number_at b (at + 6) }

-- 01, "The card, edition 1": "Revision rule, 12 bytes: node, 0, head start, head length (1..1,024), body start, body length
-- (0..1,024), zero number."
unfoldable pub revision_at : Layout → Bytes → ℕ → RevisionEntry
revision_at l b i =
    let at : ℕ = entry_at 12 l.revisions i in
    record { node = byte b at; plain = byte b (at + 1); head = span b (at + 2); body = span b (at + 6); zero = number_at b (at + 10) }

-- 01, "The card, edition 1": "Node, 4 bytes": the card's nodes in their order.
unfoldable pub nodes : Layout → Bytes → List Node
nodes l b = entries (node_at l b) l.nodes

-- One pass over the nodes from the lowest upward: what is made of a node may use what was made of the lower ones. `make` is
-- given the node's number, the node, and what was made so far; `other` stands for what was not made.
module _ {X : Type 0} (make : ℕ → Node → (ℕ → X) → X) (other : X) where
  -- The pass from a node on, with what was made of the lower ones. Serves pass.
  abbrev pub pass_on : List X → List Node → List X
  pass_on made [] = made
  pass_on made (n ∷ ns) = pass_on (made ++ (make (length made) n (λ j. get_or made j other) ∷ [])) ns

  -- The whole pass. Serves trees, and containing in Refusals: 01, "The card, edition 1": "A child's number is lower than
  -- the node's own."
  abbrev pub pass : List Node → List X
  pass ns = pass_on [] ns

-- 01, "The card, edition 1": "Kind 0 true …; 1 believes a; …": what each node stands for, in one pass.
unfoldable pub trees : Layout → Bytes → List Tree
trees l b = pass (λ i n tree. tree_of (node_kind n.kind) n.a n.b tree) true (nodes l b)

-- The tree of a node, by its number.
abbrev pub tree_at : Layout → Bytes → ℕ → Tree
tree_at l b n = get_or (trees l b) n true

-- 01, "A configuration and its transitions": "Conditions (004, Definitions 3 and 8)": what each node stands for, as a belief
-- condition or as a goal condition.
unfoldable pub conditions : (L : Letter) → Layout → Bytes → List (Query L)
conditions L l b = map (query_of L) (trees l b)

-- A node's condition, by its number. Serves the entries: 01, "The card, edition 1": "action, node", "belief node, goal node". A
-- node past the last one is "true" (docs/DECISIONS.md, "An unknown node or kind in the definitions").
abbrev pub condition : {L : Letter} → List (Query L) → ℕ → Query L
condition qs n = get_or qs n ⊤

-- 01, "The card, edition 1": "The pool is one byte an action. A plan is a start and a length in the pool"
unfoldable pub plan : Layout → Bytes → Span → Plan
plan l b s = part b (l.pool.offset + s.start) s.length

-- 004, Definition 4, of 01, "The card, edition 1": "Specification, 36 bytes"; βs are the nodes' conditions.
unfoldable pub specification_of : List (Query 𝐁) → SpecificationEntry → Specification
specification_of βs e = record { β = condition βs e.node; a = e.action; Add = e.add; Del = e.del }

-- 004, Definition 5, of 01, "The card, edition 1": "Selection rule, 8 bytes".
unfoldable pub selection_of : List (Query 𝐁) → List (Query 𝐆) → Layout → Bytes → SelectionEntry → Selection
selection_of βs κs l b e = record { β = condition βs e.belief; κ = condition κs e.goal; π = plan l b e.plan }

-- 004, Definition 6, of 01, "The card, edition 1": "Revision rule, 12 bytes".
unfoldable pub revision_of : List (Query 𝐁) → Layout → Bytes → RevisionEntry → Revision
revision_of βs l b e = record { πₕ = plan l b e.head; β = condition βs e.node; πb = plan l b e.body }

-- 00, the card: "A card is an agent in 3APL": its three lists, each in the card's order, where βs and κs are its nodes'
-- conditions. Serves agent_for.
unfoldable pub agent_of : List (Query 𝐁) → List (Query 𝐆) → Layout → Bytes → Agent
agent_of βs κs l b = record {
  PS = entries (λ i. selection_of βs κs l b (selection_at l b i)) l.selections;
  PR = entries (λ i. revision_of βs l b (revision_at l b i)) l.revisions;
  AS = entries (λ i. specification_of βs (specification_at l b i)) l.specifications;
}

-- agent_of with the conditions of the card's own nodes. Serves agent: 00, the card: "A card is an agent in 3APL".
unfoldable pub agent_for : Layout → Bytes → Agent
agent_for l b = agent_of (conditions 𝐁 l b) (conditions 𝐆 l b) l b

-- 00, the card: "A card is an agent in 3APL"
unfoldable pub agent : Bytes → Agent
agent b = agent_for (layout b) b

-- 01, "Weight and grading": "Each action weighs 1 to 1,024." An action that the card does not have weighs 1 (docs/DECISIONS.md,
-- "An action that a card does not have").
unfoldable pub weight : Bytes → ℕ → ℕ
weight b a = get_or (weights (layout b) b) a 1

-- 01, "The card, edition 1", at 28, 30: "initial plan start, length"
unfoldable pub initial_plan : Bytes → Plan
initial_plan b = plan (layout b) b (layout b).initial

-- 01, "The card, edition 1", at 32: "initial beliefs"
abbrev pub initial_beliefs : Layout → Bytes → Bytes
initial_beliefs l b = set_at l b 32

-- 01, "The card, edition 1", at 48: "initial goals"
abbrev pub initial_goals : Layout → Bytes → Bytes
initial_goals l b = set_at l b (goals_at (set_bytes l))

-- 01, "A configuration and its transitions": "Loading answers the card's initial beliefs, goals and plan with phase 0"; 02, Wish
-- 4: "since load"; 02, Wish 5: "the goals are those not believed, and at load likewise", by which "document 01's line on loading is
-- amended".
unfoldable pub start : Bytes → State
start b = record {
  mental = ⟨ initial_beliefs (layout b) b / initial_plan b / struck_by (initial_beliefs (layout b) b) (initial_goals (layout b) b) ⟩;
  phase = 0;
  finished = 0;
}
