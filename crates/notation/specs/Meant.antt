-- A text means what it says: the agent, the weights and the start of a card, held beside the lines of a text.
use Rattle.std.specs.Prelude.{◌≡◌, ◌↔◌, Bool, ℕ, get_or, take, Ok}
use mathlib.Core.List.{List, [], ◌∷◌, Memᴰ}
use Rattle.paper.specs.Atoms.{Atoms, ◌∈◌}
use Rattle.paper.specs.Language.{Letter, 𝐁, 𝐆, Query, ⊤, atom, ¬', ◌∧'◌, ◌∨'◌, Specification, Selection, Revision, ⟨◌/◌/◌⟩}
use Rattle.paper.specs.Transitions.{struck_by}
use Rattle.runs.specs.Order.{State}
use Rattle.meaning.specs.declared.Layout.{Layout}
use Rattle.meaning.specs.Trees.{Tree, true, believes, goal, not, and, or}
use Rattle.meaning.specs.Card.{Bytes, widened, layout, conditions, condition, weights, agent, initial_beliefs, initial_goals, start, tree_at}
use Rattle.meaning.specs.Refusals.{containing, other}
use Rattle.notation.specs.Lines.{Do, Select, Revise, Begin, Said, Text}
use Rattle.notation.specs.Built.{set_of}
use Rattle.notation.specs.Reading.{Reads}

-- 01, "A configuration and its transitions": "Conditions (004, Definitions 3 and 8)": the tree that a belief query or a goal query
-- is written as.
abbrev pub tree_of_query : (L : Letter) → Query L → Tree
tree_of_query L ⊤ = true
tree_of_query 𝐁 (atom p) = believes p
tree_of_query 𝐆 (atom p) = goal p
tree_of_query L (¬' q) = not (tree_of_query L q)
tree_of_query L (q ∧' r) = and (tree_of_query L q) (tree_of_query L r)
tree_of_query L (q ∨' r) = or (tree_of_query L q) (tree_of_query L r)

-- What a node stands for is one tree: as the query that an agent asks it is written as the tree that is printed, if it has no atom
-- of the other letter.
abbrev pub OneTree : Type 0
OneTree =
    (L : Letter) (l : Layout) (b : Bytes) (n : ℕ) → get_or (containing (other L) l b) n Bool.false ≡ Bool.false
    → tree_of_query L (condition (conditions L l b) n) ≡ tree_at l b n

-- The set of a text's numbers as a configuration holds it: 16 bytes stand in the card, "Text cards stay edition 1" (02, Wish 9).
abbrev pub atoms_of : List ℕ → Atoms
atoms_of ns = widened (set_of ns)

-- 02, Wish 2: "A text card gives atoms, actions with weights, specifications, rules and the start one to a line.": a do line gives
-- a specification.
pub record Specifies (d : Do) (x : Specification) : Type 0 where
  pub action : x.a ≡ d.action
  pub condition : tree_of_query 𝐁 x.β ≡ d.condition.tree
  pub add : x.Add ≡ atoms_of d.add
  pub del : x.Del ≡ atoms_of d.del

-- a select line gives a selection rule
pub record Selects (r : Select) (x : Selection) : Type 0 where
  pub belief : tree_of_query 𝐁 x.β ≡ r.belief.tree
  pub goal : tree_of_query 𝐆 x.κ ≡ r.goal.tree
  pub plan : x.π ≡ r.plan

-- a revise line gives a revision rule
pub record Revises (r : Revise) (x : Revision) : Type 0 where
  pub head : x.πₕ ≡ r.head
  pub condition : tree_of_query 𝐁 x.β ≡ r.condition.tree
  pub body : x.πb ≡ r.body

-- the begin line gives the start. 02, Wish 5: "the goals are those not believed, and at load likewise".
abbrev pub start_of : Begin → State
start_of b = record {
  mental = ⟨ atoms_of b.beliefs / b.plan / struck_by (atoms_of b.beliefs) (atoms_of b.goals) ⟩;
  phase = 0;
  finished = 0;
}

-- Just so many, each in its turn: docs/TEXT.md: "Atoms, actions, specifications and rules have the numbers of their lines, from 0,
-- each kind for itself."
pub data InTurn {X Y : Type 0} (Gives : X → Y → Type 0) : List X → List Y → Type 0 where
  no_more : InTurn Gives [] []
  then : {x : X} {y : Y} {xs : List X} {ys : List Y} → Gives x y → InTurn Gives xs ys → InTurn Gives (x ∷ xs) (y ∷ ys)

-- 02, Wish 2: "A text card gives atoms, actions with weights, specifications, rules and the start": the card has just those.
pub record Means (s : Said) (b : Bytes) : Type 0 where
  pub atoms : (layout b).atoms ≡ s.atoms
  pub actions : weights (layout b) b ≡ s.weights
  pub specifications : InTurn Specifies s.dos (agent b).AS
  pub selections : InTurn Selects s.selects (agent b).PS
  pub revisions : InTurn Revises s.revises (agent b).PR
  pub beliefs : initial_beliefs (layout b) b ≡ atoms_of s.begin.beliefs
  pub goals : initial_goals (layout b) b ≡ atoms_of s.begin.goals
  pub begin : start b ≡ start_of s.begin

-- 02, Wish 2: "builds an edition 1 card": of every text that is answered done, what the lent buffer holds then means the lines of
-- the text.
abbrev pub MeantLaw : Type 0
MeantLaw = (t out : Bytes) (n : ℕ) (left : Bytes) → Reads t out (Ok tt) n left → (s : Said) × (Text t s × Means s (take n left))

-- docs/TEXT.md: "A set's numbers may come in any order and twice": the set has just those atoms.
abbrev pub SetLaw : Type 0
SetLaw = (ns : List ℕ) (k : ℕ) → (k ∈ atoms_of ns ≡ Bool.true) ↔ Memᴰ k ns
