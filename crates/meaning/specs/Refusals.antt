-- The refusals: 01, "Numbers the guide may answer", row by row in the table's order. A row is named by its number.
use Rattle.std.specs.Prelude.{Bool, true, false, not, ◌&&◌, ◌||◌, List, [], ◌∷◌, ℕ, ◌+◌, ◌*◌, ◌-◌, leb, ltb, eqb, length, get_or, take, drop, Ok, Err}
use Rattle.paper.specs.Atoms.{Atoms, ◌∈◌}
use Rattle.paper.specs.Language.{Letter, 𝐁, 𝐆}
use Rattle.runs.specs.Limits.{longest_plan, heaviest_action}
use Rattle.runs.specs.Order.{numbers}
use Rattle.meaning.specs.declared.Refusal.{Refusal}
use Rattle.meaning.specs.Answers.{Answer}
use Rattle.meaning.specs.declared.Section.{Section}
use Rattle.meaning.specs.declared.Span.{Span}
use Rattle.meaning.specs.declared.Layout.{Layout}
use Rattle.meaning.specs.declared.Configuration.{Configuration}
use Rattle.meaning.specs.declared.Node.{Node}
use Rattle.meaning.specs.declared.SpecificationEntry.{SpecificationEntry}
use Rattle.meaning.specs.declared.SelectionEntry.{SelectionEntry}
use Rattle.meaning.specs.declared.RevisionEntry.{RevisionEntry}
use Rattle.meaning.specs.Kinds.{NodeKind, True, Believes, HasGoal, Not, And, Or, Unknown, node_kind}
use Rattle.meaning.specs.Sizes.{set_bytes, most_atoms, header_bytes, specification_bytes, place_goals_at, plan_at}
use Rattle.meaning.specs.Card.{Bytes, byte, number_at, part, set_at, layout, weight_at, node_at, nodes, pass, specification_at, selection_at, revision_at, initial_beliefs, initial_goals}

-- 01, "Numbers the guide may answer": the columns "no." and "name"; 02, Wish 1: "10 gives way to three in its place", 14, 15 and
-- 16; 02, Wish 2: "17 text", "18 nested too deep", "25 a number too large for its field, or more entries or pool bytes"; 02, Wish
-- 6: "19 a program breaking these rules"; 02, Wish 8: "20 a sheet breaking these rules", "21 unknown action"; 02, Wish 10: "22 the
-- card is open or the plan too heavy".
unfoldable pub number_of : Refusal → ℕ
number_of Refusal.Short = 1
number_of Refusal.Mark = 2
number_of Refusal.Count = 3
number_of Refusal.Offsets = 4
number_of Refusal.Weight = 5
number_of Refusal.Node = 6
number_of Refusal.Rule = 7
number_of Refusal.ActionByte = 8
number_of Refusal.Atom = 9
number_of Refusal.Configuration = 13
number_of Refusal.NoRule = 14
number_of Refusal.Front = 15
number_of (Refusal.Condition n) = 16
number_of Refusal.PlanFull = 11
number_of Refusal.NoRoom = 12
number_of (Refusal.Text p) = 17
number_of Refusal.Nested = 18
number_of Refusal.Large = 25
number_of Refusal.Program = 19
number_of (Refusal.Sheet k) = 20
number_of Refusal.NoAction = 21
number_of Refusal.OpenOrHeavy = 22

-- 01, "Numbers the guide may answer", row 0: "done", "none below holds".
unfoldable pub answer_number : Answer → ℕ
answer_number (Ok _) = 0
answer_number (Err r) = number_of r

-- 02, Wish 1: "16 a condition is false, with the node", Wish 2: "17 text, with the place", Wish 8: "20 a sheet …, the shed's before
-- the master" (which it is): the number that a refusal carries, and 0 where it carries none (docs/DECISIONS.md, "Numbers in
-- refusals").
unfoldable pub carried : Refusal → ℕ
carried (Refusal.Condition n) = n
carried Refusal.Short = 0
carried Refusal.Mark = 0
carried Refusal.Count = 0
carried Refusal.Offsets = 0
carried Refusal.Weight = 0
carried Refusal.Node = 0
carried Refusal.Rule = 0
carried Refusal.ActionByte = 0
carried Refusal.Atom = 0
carried Refusal.Configuration = 0
carried Refusal.NoRule = 0
carried Refusal.Front = 0
carried Refusal.PlanFull = 0
carried Refusal.NoRoom = 0
carried (Refusal.Text p) = p
carried Refusal.Nested = 0
carried Refusal.Large = 0
carried Refusal.Program = 0
carried (Refusal.Sheet k) = k
carried Refusal.NoAction = 0
carried Refusal.OpenOrHeavy = 0

-- The number that an answer carries, and 0 where it carries none: 02, Wish 1: "only a refused choice shows it".
unfoldable pub answer_carried : Answer → ℕ
answer_carried (Ok _) = 0
answer_carried (Err r) = carried r

-- 01, "Numbers the guide may answer": a row of the table.
pub record Row (X : Type 0) : Type 0 where
  -- 01, "Numbers the guide may answer": the column "name", with the number that the refusal carries, if it carries one
  -- (docs/DECISIONS.md, "Numbers in refusals")
  pub refusal : X → Refusal
  -- 01, "Numbers the guide may answer": the column "given exactly when"
  pub when : X → Bool

infix 20 ◌given_when◌
-- A row as the table has it. Serves the tables: 01, "Numbers the guide may answer": "given exactly when".
abbrev pub ◌given_when◌ : {X : Type 0} → Refusal → (X → Bool) → Row X
r given_when t = record { refusal = λ x. r; when = t }

-- 01, "Numbers the guide may answer": "They are tested in the table's order". Row 0: "none below holds".
unfoldable pub first_given : {X : Type 0} → List (Row X) → X → Answer
first_given [] x = Ok tt
first_given (r ∷ rs) x = elim (r.when x) [ true ↦ Err (r.refusal x) | false ↦ first_given rs x ]

-- 01, "Numbers the guide may answer": "the card first with 1 to 9, then": the first refusal of two answers.
abbrev pub and_then : Answer → Answer → Answer
and_then (Ok _) a = a
and_then (Err r) a = Err r

-- Every member of a list is good. Serves every, actions_good, set_good and configuration_good.
abbrev pub all : {X : Type 0} → (X → Bool) → List X → Bool
all good [] = true
all good (x ∷ xs) = good x && all good xs

-- Every number below n is good. Serves weights_good, nodes_good, rules_good and sets_good.
abbrev pub every : ℕ → (ℕ → Bool) → Bool
every n good = all good (numbers 0 n)

-- 01, "The card, edition 1": the column "range", as in "1..128". Serves counts_good, weights_good and span_good.
abbrev pub within : ℕ → ℕ → ℕ → Bool
within low high n = leb low n && leb n high

-- ---- a card

-- Not 02, Wish 9: "a file under 4 bytes is 1": its mark and its edition are there. Serves both tables.
unfoldable pub has_edition : Bytes → Bool
has_edition b = leb 4 (length b)

-- Not 01, "Numbers the guide may answer", row 2: "first two bytes or edition differ": the first byte is 33 hex, the second is
-- given. Serves card_mark_good and place_mark_good.
abbrev pub marked : ℕ → Bytes → Bool
marked second b = eqb (byte b 0) 0x33 && eqb (byte b 1) second

-- 01, "The card, edition 1", at 0: "bytes 33 41 hex"; at 2: "edition", 1; 02, Wish 9: "Edition 2 of card and place".
unfoldable pub card_mark_good : Bytes → Bool
card_mark_good b = marked 0x41 b && (eqb (number_at b 2) 1 || eqb (number_at b 2) 2)

-- Not 02, Wish 9: "then one shorter than its edition's header is 1".
unfoldable pub card_long_enough : Bytes → Bool
card_long_enough b = leb (header_bytes (set_bytes (layout b))) (length b)

-- Not 01, "Numbers the guide may answer", row 3: "the number of atoms, of actions or of a section's entries or bytes is out of
-- range (the initial plan's length is 7)". The ranges: 01, "The card, edition 1", "1..128", "1..256", "0..256" and "0..8,192".
unfoldable pub counts_good : Layout → Bool
counts_good l =
    within 1 (most_atoms (set_bytes l)) l.atoms && (within 1 256 l.actions && (within 1 256 l.nodes.count
    && (leb l.specifications.count 256 && (leb l.selections.count 256 && (leb l.revisions.count 256
    && leb l.pool.count 8192)))))

-- Where a section ends. Serves offsets_good: 01, "The card, edition 1": "with no gap".
abbrev pub end_of : ℕ → Section → ℕ
end_of size s = s.offset + size * s.count

-- Not 01, "Numbers the guide may answer", row 4: "an offset or the total length is not the required one". 01, "The card,
-- edition 1": "The sections follow the weights in the header's order with no gap; the card ends with the pool." n is the total
-- length.
unfoldable pub offsets_good : Layout → ℕ → Bool
offsets_good l n =
    eqb l.nodes.offset (header_bytes (set_bytes l) + 2 * l.actions) && (eqb l.specifications.offset (end_of 4 l.nodes)
    && (eqb l.selections.offset (end_of (specification_bytes (set_bytes l)) l.specifications)
    && (eqb l.revisions.offset (end_of 8 l.selections) && (eqb l.pool.offset (end_of 12 l.revisions)
    && eqb n (end_of 1 l.pool)))))

-- Not 01, "Numbers the guide may answer", row 5: "a weight is 0 or over 1,024"
unfoldable pub weights_good : Layout → Bytes → Bool
weights_good l b = every l.actions (λ a. within 1 heaviest_action (weight_at l b a))

-- Node i of a card with n atoms: 01, "The card, edition 1": "Kind 0 true (a = b = 0); 1 believes a; 2 has goal a (in both b = 0
-- and a is below the number of atoms); 3 not a (b = 0); 4 a and b; 5 a or b. A child's number is lower than the node's own."
abbrev pub kind_good : ℕ → ℕ → NodeKind → ℕ → ℕ → Bool
kind_good n i True a b = eqb a 0 && eqb b 0
kind_good n i Believes a b = ltb a n && eqb b 0
kind_good n i HasGoal a b = ltb a n && eqb b 0
kind_good n i Not a b = ltb a i && eqb b 0
kind_good n i And a b = ltb a i && ltb b i
kind_good n i Or a b = ltb a i && ltb b i
kind_good n i Unknown a b = false

-- 01, "The card, edition 1": "Node, 4 bytes: kind, a, b, 0." The 0 is of its rule too (docs/DECISIONS.md, "A node's fourth
-- byte").
abbrev pub node_good : ℕ → ℕ → Node → Bool
node_good n i x = kind_good n i (node_kind x.kind) x.a x.b && eqb x.zero 0

-- Not 01, "Numbers the guide may answer", row 6: "a node breaks its rule above"
unfoldable pub nodes_good : Layout → Bytes → Bool
nodes_good l b = every l.nodes.count (λ i. node_good l.atoms i (node_at l b i))

-- 01, "A configuration and its transitions": "A belief condition contains no goal atom, and a goal condition no belief atom.":
-- whether an atom of a kind (1 believes, 2 has goal) stands in a node's condition, by form (docs/DECISIONS.md, "Condition of
-- the wrong kind"). What is no node of kinds 0 to 5 contains none.
abbrev pub contains_of : ℕ → NodeKind → ℕ → ℕ → (ℕ → Bool) → Bool
contains_of kind True a b contains = false
contains_of kind Believes a b contains = eqb kind 1
contains_of kind HasGoal a b contains = eqb kind 2
contains_of kind Not a b contains = contains a
contains_of kind And a b contains = contains a || contains b
contains_of kind Or a b contains = contains a || contains b
contains_of kind Unknown a b contains = false

-- contains_of for each node, in one pass. Serves condition_good: 01, "Numbers the guide may answer", row 7: "condition of the
-- wrong kind".
unfoldable pub containing : ℕ → Layout → Bytes → List Bool
containing kind l b = pass (λ i x contains. contains_of kind (node_kind x.kind) x.a x.b contains) false (nodes l b)

-- 01, "A configuration and its transitions": "A belief condition contains no goal atom, and a goal condition no belief atom.": the
-- kind of the atoms that a condition of a letter may not contain.
abbrev pub other : Letter → ℕ
other 𝐁 = 2
other 𝐆 = 1

-- Not 01, "Numbers the guide may answer", row 7: "unknown … node, condition of the wrong kind": a known node whose condition
-- contains no atom of the other kind.
abbrev pub condition_good : Layout → List Bool → ℕ → Bool
condition_good l others n = ltb n l.nodes.count && not (get_or others n false)

-- 01, "The card, edition 1": "start plus length at most the pool's bytes", and a length from least to 1,024: "length
-- (1..1,024)", "body length (0..1,024)", "length 0..1,024".
abbrev pub span_good : Layout → ℕ → Span → Bool
span_good l least s = within least longest_plan s.length && leb (s.start + s.length) l.pool.count

-- Not 01, "Numbers the guide may answer", row 7: "an entry … breaks its rule", of a specification. 01, "A configuration and its
-- transitions": "A specification's and a revision's condition are belief conditions." gs tells the nodes that contain a goal
-- atom.
unfoldable pub specification_good : List Bool → Layout → SpecificationEntry → Bool
specification_good gs l e = ltb e.action l.actions && (condition_good l gs e.node && eqb e.zero 0)

-- Not 01, "Numbers the guide may answer", row 7: "an entry … breaks its rule", of a selection rule. bs tells the nodes that
-- contain a belief atom.
unfoldable pub selection_good : List Bool → List Bool → Layout → SelectionEntry → Bool
selection_good bs gs l e =
    condition_good l gs e.belief && (condition_good l bs e.goal && (span_good l 1 e.plan && eqb e.zero 0))

-- Not 01, "Numbers the guide may answer", row 7: "an entry … breaks its rule", of a revision rule.
unfoldable pub revision_good : List Bool → Layout → RevisionEntry → Bool
revision_good gs l e =
    condition_good l gs e.node && (eqb e.plain 0 && (span_good l 1 e.head && (span_good l 0 e.body && eqb e.zero 0)))

-- Not 01, "Numbers the guide may answer", row 7: "an entry or the initial plan breaks its rule: unknown action or node,
-- condition of the wrong kind, plan outside the pool, length out of range, a zero field not zero"
unfoldable pub rules_good : List Bool → List Bool → Layout → Bytes → Bool
rules_good bs gs l b =
    every l.specifications.count (λ i. specification_good gs l (specification_at l b i))
    && (every l.selections.count (λ i. selection_good bs gs l (selection_at l b i))
    && (every l.revisions.count (λ i. revision_good gs l (revision_at l b i))
    && span_good l 0 l.initial))

-- Not 01, "Numbers the guide may answer", row 8: "a pool or plan byte is not below the number of actions"
unfoldable pub actions_good : ℕ → Bytes → Bool
actions_good n π = all (λ a. ltb a n) π

-- Not 01, "Numbers the guide may answer", row 9: "a set has a bit at or above the number of atoms"
unfoldable pub set_good : ℕ → Atoms → Bool
set_good n s = all (λ k. not (k ∈ s)) (numbers n (8 * length s - n))

-- The same of two sets. Serves sets_good, place_table and configuration_good.
abbrev pub both_good : ℕ → Atoms → Atoms → Bool
both_good n s t = set_good n s && set_good n t

-- Not 01, "Numbers the guide may answer", row 9: "a set has a bit at or above the number of atoms", of 01, "The card, edition
-- 1": "initial beliefs, initial goals" and each "Add, Del" (docs/DECISIONS.md, "What 6, 8 and 9 judge").
unfoldable pub sets_good : Layout → Bytes → Bool
sets_good l b =
    both_good l.atoms (initial_beliefs l b) (initial_goals l b)
    && every l.specifications.count (λ i. both_good l.atoms (specification_at l b i).add (specification_at l b i).del)

-- 01, "The card, edition 1", at 24, 26: "pool bytes, offset". Serves card_table, row 8: 01, "Numbers the guide may answer": "a
-- pool … byte".
abbrev pub pool : Layout → Bytes → Bytes
pool l b = part b l.pool.offset l.pool.count

-- 01, "Numbers the guide may answer": "the card first with 1 to 9"
unfoldable pub card_table : List (Row Bytes)
card_table =
    -- 02, Wish 9: "a file under 4 bytes is 1"
    (Refusal.Short given_when (λ b. not (has_edition b)))
    -- 02, Wish 9: "then a wrong mark or edition is 2"
    ∷ (Refusal.Mark given_when (λ b. not (card_mark_good b)))
    -- 02, Wish 9: "then one shorter than its edition's header is 1"
    ∷ (Refusal.Short given_when (λ b. not (card_long_enough b)))
    -- 01, "Numbers the guide may answer", row 3: "the number of atoms, of actions or of a section's entries or bytes is out of
    -- range"
    ∷ (Refusal.Count given_when (λ b. not (counts_good (layout b))))
    -- 01, "Numbers the guide may answer", row 4: "an offset or the total length is not the required one"
    ∷ (Refusal.Offsets given_when (λ b. not (offsets_good (layout b) (length b))))
    -- 01, "Numbers the guide may answer", row 5: "a weight is 0 or over 1,024"
    ∷ (Refusal.Weight given_when (λ b. not (weights_good (layout b) b)))
    -- 01, "Numbers the guide may answer", row 6: "a node breaks its rule above"
    ∷ (Refusal.Node given_when (λ b. not (nodes_good (layout b) b)))
    -- 01, "Numbers the guide may answer", row 7: "an entry or the initial plan breaks its rule"
    ∷ (Refusal.Rule given_when (λ b. not (rules_good (containing 1 (layout b) b) (containing 2 (layout b) b) (layout b) b)))
    -- 01, "Numbers the guide may answer", row 8: "a pool … byte is not below the number of actions"
    ∷ (Refusal.ActionByte given_when (λ b. not (actions_good (layout b).actions (pool (layout b) b))))
    -- 01, "Numbers the guide may answer", row 9: "a set has a bit at or above the number of atoms"
    ∷ (Refusal.Atom given_when (λ b. not (sets_good (layout b) b)))
    ∷ []

-- 01, "Numbers the guide may answer": "They are tested in the table's order, the card first with 1 to 9"
unfoldable pub card_answer : Bytes → Answer
card_answer b = first_given card_table b

-- ---- a place, judged against the card that it is given with

-- Not 01, "Numbers the guide may answer", row 1: "place under 44"; 02, Wish 9: "one shorter than its edition's header".
abbrev pub place_long_enough : Layout → Bytes → Bool
place_long_enough l p = leb (plan_at (set_bytes l)) (length p)

-- Not 01, "Numbers the guide may answer", row 2: "first two bytes or edition differ". 01, "The place": "Bytes 33 50 hex"; 02, Wish
-- 9: "A place whose edition isn't its card's is met with refusal 2."
abbrev pub place_mark_good : Layout → Bytes → Bool
place_mark_good l p = marked 0x50 p && eqb (number_at p 2) l.edition

-- Not 01, "Numbers the guide may answer", row 3: "in a place L over 1,024, phase over 2"; 02, Wish 4: "3 no longer looks at those
-- bytes", 10 and 11.
abbrev pub place_counts_good : Bytes → Bool
place_counts_good p = leb (number_at p 4) longest_plan && leb (number_at p 8) 2

-- Not 01, "Numbers the guide may answer", row 4: "an offset or the total length is not the required one". 01, "The place": "plan
-- offset 44 at 6", "Exactly 44 + L bytes."
abbrev pub place_offsets_good : Layout → Bytes → Bool
place_offsets_good l p = eqb (number_at p 6) (plan_at (set_bytes l)) && eqb (length p) (plan_at (set_bytes l) + number_at p 4)

-- 01, "Numbers the guide may answer": "then a place with 1, 2, 3, 4, 8, 9". 01, "The place": "it is judged against the card it
-- is given with".
unfoldable pub place_table : Layout → List (Row Bytes)
place_table l =
    -- 02, Wish 9: "a file under 4 bytes is 1"
    (Refusal.Short given_when (λ p. not (has_edition p)))
    -- 02, Wish 9: "then a wrong mark or edition is 2"
    ∷ (Refusal.Mark given_when (λ p. not (place_mark_good l p)))
    -- 02, Wish 9: "then one shorter than its edition's header is 1"
    ∷ (Refusal.Short given_when (λ p. not (place_long_enough l p)))
    -- 01, "Numbers the guide may answer", row 3: "in a place L over 1,024, phase over 2"
    ∷ (Refusal.Count given_when (λ p. not (place_counts_good p)))
    -- 01, "Numbers the guide may answer", row 4: "an offset or the total length is not the required one"
    ∷ (Refusal.Offsets given_when (λ p. not (place_offsets_good l p)))
    -- 01, "Numbers the guide may answer", row 8: "a … plan byte is not below the number of actions"
    ∷ (Refusal.ActionByte given_when (λ p. not (actions_good l.actions (drop (plan_at (set_bytes l)) p))))
    -- 01, "Numbers the guide may answer", row 9: "a set has a bit at or above the number of atoms"
    ∷ (Refusal.Atom given_when (λ p. not (both_good l.atoms (set_at l p 12) (set_at l p (place_goals_at (set_bytes l))))))
    ∷ []

-- 01, "Numbers the guide may answer": "the card first with 1 to 9, then a place with 1, 2, 3, 4, 8, 9"
unfoldable pub place_answer : Bytes → Bytes → Answer
place_answer b p = and_then (card_answer b) (first_given (place_table (layout b)) p)

-- ---- a configuration

-- Not 01, "Numbers the guide may answer", row 13: "the configuration handed in has a plan over 1,024, an action or atom unknown
-- to the card, a phase over 2, or anything but zero after the plan's end"
unfoldable pub configuration_good : Layout → Configuration → Bool
configuration_good l c =
    leb c.mind.length longest_plan && (actions_good l.actions (take c.mind.length c.plan)
    && (both_good l.atoms c.mind.beliefs c.mind.goals
    && (leb c.mind.phase 2
    && all (λ x. eqb x 0) (drop c.mind.length c.plan))))

-- 01, "Numbers the guide may answer": "a configuration with 13"
unfoldable pub configuration_table : Layout → List (Row Configuration)
configuration_table l = (Refusal.Configuration given_when (λ c. not (configuration_good l c))) ∷ []

-- 01, "Numbers the guide may answer": "the card first with 1 to 9, then … a configuration with 13"
unfoldable pub configuration_answer : Bytes → Configuration → Answer
configuration_answer b c = and_then (card_answer b) (first_given (configuration_table (layout b)) c)
