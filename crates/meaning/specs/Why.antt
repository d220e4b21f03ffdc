-- Why a move is closed (02, Wish 1).
use Rattle.std.specs.Prelude.{Bool, false, not, List, ℕ, ltb, get_or}
use Rattle.std.proofs.Math.Option.{Option, none, some}
use Rattle.paper.specs.Language.{Letter, 𝐁, 𝐆, Config}
use Rattle.paper.specs.Transitions.{◌⊨◌, Choice, select, act, revise}
use Rattle.paper.specs.Next.{if, is_empty, starts_with, is_prefix}
use Rattle.meaning.specs.declared.Refusal.{Refusal}
use Rattle.meaning.specs.declared.Layout.{Layout}
use Rattle.meaning.specs.Kinds.{NodeKind, True, Believes, HasGoal, Not, And, Or, Unknown, node_kind}
use Rattle.meaning.specs.Card.{Bytes, nodes, pass, conditions, condition, plan, specification_at, selection_at, revision_at}

-- 02, Wish 1: "Judging a condition should also name the atom that settled it: for an atom or "true", that node; for "not", its
-- child's; for "and" and "or", the left child's where the left alone settles the value, else the right's.": what a node passes
-- on, its own or, turned at a "not", what a child passed on, by what is true of the lower nodes. A false left settles an "and", a
-- true left an "or" (docs/DECISIONS.md, "What settles a condition").
abbrev pub settled_by : {X : Type 0} → X → (X → X) → NodeKind → ℕ → ℕ → (ℕ → Bool) → (ℕ → X) → X
settled_by own turn True a b truth below = own
settled_by own turn Believes a b truth below = own
settled_by own turn HasGoal a b truth below = own
settled_by own turn Not a b truth below = turn (below a)
settled_by own turn And a b truth below = if (not (truth a)) (below a) (below b)
settled_by own turn Or a b truth below = if (truth a) (below a) (below b)
settled_by own turn Unknown a b truth below = own

-- The node that settles each node's condition, read by a letter, in one pass. Serves settler.
unfoldable pub settlers : Letter → Layout → Bytes → Config → List ℕ
settlers L l b c =
    pass (λ i n settler. settled_by i (λ j. j) (node_kind n.kind) n.a n.b (λ j. c ⊨ condition (conditions L l b) j) settler) 0 (nodes l b)

-- The node that settles the condition of node n.
abbrev pub settler : Letter → Layout → Bytes → Config → ℕ → ℕ
settler L l b c n = get_or (settlers L l b c) n 0

-- Whether an odd number of "not" stands on the way from each node to the node that settles it, in one pass: a screen that is told
-- the settling node may say by it whether its atom is missing or in the way. Serves SettlerLaws.
unfoldable pub turns : Letter → Layout → Bytes → Config → List Bool
turns L l b c =
    pass (λ i n turned. settled_by false not (node_kind n.kind) n.a n.b (λ j. c ⊨ condition (conditions L l b) j) turned) false (nodes l b)

-- 02, Wish 1: "15 the plan's front doesn't fit (empty, not empty, other first action, other head)", before 16.
abbrev pub front_first : Bool → Refusal → Refusal
front_first fits why = if fits why Refusal.Front

-- 02, Wish 1: "14 no such rule or specification", before 15 and 16.
abbrev pub rule_first : Bool → Refusal → Refusal
rule_first there why = if there why Refusal.NoRule

-- 02, Wish 1: "16 a condition is false, with the node, the belief condition before the goal condition."
abbrev pub false_of : Bool → ℕ → ℕ → Refusal
false_of holds belief goal = Refusal.Condition (if holds goal belief)

-- 02, Wish 1: "Refusals: 10 gives way to three in its place and this order": why a choice that has no transition has none.
unfoldable pub why : Layout → Bytes → Config → Choice → Refusal
why l b c (select n) =
    let e = selection_at l b n in
    rule_first (ltb n l.selections.count)
    (front_first (is_empty c.π)
    (false_of (c ⊨ condition (conditions 𝐁 l b) e.belief) (settler 𝐁 l b c e.belief) (settler 𝐆 l b c e.goal)))
why l b c (act n) =
    let e = specification_at l b n in
    rule_first (ltb n l.specifications.count) (front_first (starts_with e.action c.π) (Refusal.Condition (settler 𝐁 l b c e.node)))
why l b c (revise n) =
    let e = revision_at l b n in
    rule_first (ltb n l.revisions.count) (front_first (is_prefix (plan l b e.head) c.π) (Refusal.Condition (settler 𝐁 l b c e.node)))

-- The same of a code's choice; a code that stands for none is 14 (docs/DECISIONS.md, "Codes").
abbrev pub why_closed : Layout → Bytes → Config → Option Choice → Refusal
why_closed l b c none = Refusal.NoRule
why_closed l b c (some k) = why l b c k
