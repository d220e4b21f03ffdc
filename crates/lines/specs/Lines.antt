-- What the readers of a text's lines tell and leave in the card in the making, by the reader as a function and by what each line
-- adds.
use Rattle.std.specs.Prelude.{Some, None, IfSome, Result, Ok, Err, ◌≡◌, Bool, true, false, ◌&&◌, List, [], ◌∷◌, ◌++◌, ℕ, ◌+◌, ◌-◌, ◌*◌, ◌≤◌, ◌<◌, leb, length, take, drop, replicate}
use Rattle.std.proofs.Math.Option.{Option, none, some}
use Rattle.std.proofs.Math.Seq.{paste}
use Rattle.paper.specs.Next.{if}
use Rattle.meaning.specs.Card.{Bytes, part}
use Rattle.meaning.specs.Place.{two_bytes}
use Rattle.paper.specs.Atoms.{◌∪◌}
use Rattle.notation.specs.Built.{single, set_of}
use Rattle.notation.specs.Values.{number_value, digits_rest, list_of, behind_list, behind_line, Read, nested, got, condition_of, Item}
use Rattle.notation.specs.Conditions.{Condition}
use Rattle.notation.specs.Making as Making
use Rattle.conditions.specs.Reads.{Count, TextAt, last_of}
use Rattle.lines.specs.declared.made.Made.{Made}
use Rattle.lines.specs.declared.lists.SetRead.{SetRead}
use Rattle.lines.specs.declared.lists.PlanRead.{PlanRead}
use Rattle.conditions.specs.declared.read.Nested.{Nested}
use Rattle.lines.specs.declared.parts.Placed.{Placed}
use Rattle.lines.specs.InPlace.{Bounded, made_in}

-- what a card in the making becomes
abbrev pub Change : Type 0
Change = Option Making.Sections → Option Making.Sections

-- ---- the card in the making

-- the counts are within their bounds, and there is room for the largest card
pub record Held (m : Made) (d : Bytes) : Type 0 where
  pub bounded : Bounded m
  pub room : length d ≡ 24128

-- what is made has become what f makes of it
pub record Puts (f : Change) (m : Made) (d : Bytes) (m' : Made) (d' : Bytes) : Type 0 where
  pub held : Held m' d'
  pub made : made_in m' d' ≡ f (made_in m d)

-- something is too large
abbrev pub too_large : Made → Made
too_large m = record {
  large = true;
  atoms = m.atoms;
  weights = m.weights;
  nodes = m.nodes;
  specifications = m.specifications;
  selections = m.selections;
  revisions = m.revisions;
  pool = m.pool;
  start = m.start;
  len = m.len;
}

-- ---- entries

-- 01, "The card, edition 1": "Specification, 36 bytes: action, node, 0, 0, Add, Del."
abbrev pub specification : ℕ → ℕ → Bytes → Bytes → Bytes
specification action node add del = action ∷ (node ∷ (0 ∷ (0 ∷ (add ++ del))))

-- 01, "The card, edition 1": "Selection rule, 8 bytes: belief node, goal node, start, length (1..1,024), zero number."
abbrev pub selection : ℕ → ℕ → ℕ → ℕ → Bytes
selection belief goal start len = belief ∷ (goal ∷ (two_bytes start ++ (two_bytes len ++ two_bytes 0)))

-- 01, "The card, edition 1": "Revision rule, 12 bytes: node, 0, head start, head length (1..1,024), body start, body length
-- (0..1,024), zero number."
abbrev pub revision : ℕ → ℕ → ℕ → ℕ → ℕ → Bytes
revision node head h body b = node ∷ (0 ∷ (two_bytes head ++ (two_bytes h ++ (two_bytes body ++ (two_bytes b ++ two_bytes 0)))))

-- so many of a part of m, None if something is too large
abbrev pub count_in : Made → ℕ → Count
count_in m n = if m.large None (Some n)

-- an entry e stands behind the n others of a section that begins at start, if it has room for it
abbrev pub PutAt : Bytes → ℕ → Count → Bytes → Count → Bytes → Type 0
PutAt d start None e r d' = (r ≡ None) × (d' ≡ d)
PutAt d start (Some n) e None d' = (n ≡ 256) × (d' ≡ d)
PutAt d start (Some n) e (Some k) d' = (n < 256) × (k ≡ n + 1) × (d' ≡ paste d (start + length e * n) e (length e))

-- ---- parts of a line

-- n bytes on, or the end of the text
abbrev pub Skips : Bytes → ℕ → ℕ → ℕ → Type 0
Skips t at n r = (at ≤ r) × (at < length t → 0 < n → at < r) × TextAt t r (drop n (drop at t))

-- behind the end of the line
abbrev pub BehindLine : Bytes → ℕ → ℕ → Type 0
BehindLine t at r = (at ≤ r) × (at < length t → at < r) × TextAt t r (behind_line (drop at t))

-- a set with one atom more
abbrev pub WithAtom : Bytes → ℕ → Bytes → Type 0
WithAtom s v r = v ≤ 127 → r ≡ s ∪ single v

-- a set was read
abbrev pub ReadsSet : Bytes → ℕ → SetRead → Type 0
ReadsSet t at r =
    (at ≤ r.next)
    × TextAt t r.next (behind_list (drop at t))
    × (r.fits ≡ Making.set_fits (list_of (drop at t)))
    × (r.fits ≡ true → r.set ≡ set_of (list_of (drop at t)))

-- the pool's bytes, if nothing is too large
abbrev pub pool_of : Count → Bytes → Option Bytes
pool_of None d = none
pool_of (Some k) d = some (take k d)

-- a pool with one action more
abbrev pub WithAction : Bytes → Count → ℕ → Count → Bytes → Type 0
WithAction d k v r d' =
    IfSome r (λ n. n ≤ 8192) × (length d' ≡ 8192) × (pool_of r d' ≡ Making.when (leb v 255) (Making.added_to 8192 (v ∷ []) (pool_of k d)))

-- a plan was read: its actions stand behind those before
abbrev pub ReadsPlan : Bytes → ℕ → Bytes → Count → PlanRead → Bytes → Type 0
ReadsPlan t at d k r d' =
    (at ≤ r.next)
    × TextAt t r.next (behind_list (drop at t))
    × IfSome r.count (λ n. n ≤ 8192)
    × (length d' ≡ 8192)
    × (pool_of r.count d' ≡ Making.with_plan (list_of (drop at t)) (pool_of k d))

-- ---- a part of a line, added to the card

-- what is left behind a part, which ends at n and no earlier than low, and what is made then
pub record StepsOver (t : Bytes) (low : ℕ) (rest : Bytes) (f : Change) (m : Made) (d : Bytes) (n : ℕ) (m' : Made) (d' : Bytes) : Type 0 where
  pub place : TextAt t n rest
  pub on : low ≤ n
  pub puts : Puts f m d m' d'

-- the same, or brackets and "!" nest too deep, by what is read and what that adds
abbrev pub ReadsPart : {X : Type 0} → (X → Change) → Bytes → ℕ → Read X → Made → Bytes → Result Placed Nested → Bytes → Type 0
ReadsPart add t low nested m d (Ok p) d' = ⊥
ReadsPart add t low nested m d (Err _) d' = length d' ≡ 24128
ReadsPart add t low (got x rest) m d (Ok p) d' = StepsOver t low rest (add x) m d p.next p.made d'
ReadsPart add t low (got x rest) m d (Err _) d' = ⊥

-- a part that is always read, by what is left behind it and what it adds
abbrev pub PartOver : (Bytes → Bytes) → (Bytes → Change) → Bytes → ℕ → Made → Bytes → Placed → Bytes → Type 0
PartOver behind add t at m d r d' = StepsOver t at (behind (drop at t)) (add (drop at t)) m d r.next r.made d'

-- a condition's nodes
abbrev pub condition_in : Condition → Change
condition_in c o = Making.tree_in c.tree o

-- a condition was read, with what it adds
abbrev pub ReadsTree : Bytes → ℕ → Made → Bytes → Result Placed Nested → Bytes → Type 0
ReadsTree t at m d r d' = ReadsPart condition_in t at (condition_of (drop at t)) m d r d'

-- a plan's actions
abbrev pub plan_there : Bytes → Change
plan_there t o = Making.plan_in (list_of t) o

-- a line, by what it says; it has a byte at least
abbrev pub ReadsLine : (Bytes → Read (List Item)) → Bytes → ℕ → Made → Bytes → Result Placed Nested → Bytes → Type 0
ReadsLine item t at m d r d' = ReadsPart Making.items_in t (at + 1) (item (drop at t)) m d r d'

-- how many nodes there are
abbrev pub nodes_before : Made → Count
nodes_before m = count_in m m.nodes

-- there are k nodes
abbrev pub nodes_are : Made → ℕ → Made
nodes_are m k = record {
  large = m.large;
  atoms = m.atoms;
  weights = m.weights;
  nodes = k;
  specifications = m.specifications;
  selections = m.selections;
  revisions = m.revisions;
  pool = m.pool;
  start = m.start;
  len = m.len;
}

-- the same, if nothing is too large
abbrev pub with_nodes : Made → Count → Made
with_nodes m None = too_large m
with_nodes m (Some k) = nodes_are m k

-- how many actions the pool has
abbrev pub pool_before : Made → Count
pool_before m = count_in m m.pool

-- the pool has k actions
abbrev pub pool_is : Made → ℕ → Made
pool_is m k = record {
  large = m.large;
  atoms = m.atoms;
  weights = m.weights;
  nodes = m.nodes;
  specifications = m.specifications;
  selections = m.selections;
  revisions = m.revisions;
  pool = k;
  start = m.start;
  len = m.len;
}

-- the same, if nothing is too large
abbrev pub with_pool : Made → Count → Made
with_pool m None = too_large m
with_pool m (Some k) = pool_is m k

-- ---- the lines

-- the number of the last node, 0 if there is none or something is too large
abbrev pub last_in : Made → ℕ
last_in m = last_of (nodes_before m)

-- how many actions the pool has, 0 if something is too large
abbrev pub pool_in : Made → ℕ
pool_in m = if m.large 0 m.pool

-- a specification, if its action and its sets fit
abbrev pub specified : ℕ → Bool → ℕ → Bytes → Bytes → Change
specified action fits node add del o = Making.when (leb action 255 && fits) (Making.specification_in (specification action node add del) o)

-- "" add" list " del" list end"
abbrev pub behind_effects : Bytes → Bytes
behind_effects t = behind_line (behind_list (drop 4 (behind_list (drop 4 t))))

-- and what that adds: a specification, with the number of the last node
unfoldable pub effects : ℕ → Bytes → Change
effects action t o =
    let add = list_of (drop 4 t) in
    let del = list_of (drop 4 (behind_list (drop 4 t))) in
    specified action (Making.set_fits add && Making.set_fits del) (Making.last_node (Making.made_nodes o)) (set_of add) (set_of del) o

-- "" plan" list end"
abbrev pub behind_plan : Bytes → Bytes
behind_plan t = behind_line (behind_list (drop 5 t))

-- and what that adds in a select line: the plan and a selection rule, with the number of its belief node
unfoldable pub plan_selected : ℕ → Bytes → Change
plan_selected belief t o =
    let r = Making.plan_in (list_of (drop 5 t)) o in
    Making.selection_in (selection belief (Making.last_node (Making.made_nodes o)) (Making.pool_size o) (Making.pool_size r - Making.pool_size o)) r

-- "" to" list end"
abbrev pub behind_body : Bytes → Bytes
behind_body t = behind_line (behind_list (drop 3 t))

-- and what that adds: the body and a revision rule, with where its head starts, how long it is and where the body starts
unfoldable pub body_revised : ℕ → ℕ → ℕ → Bytes → Change
body_revised head h body t o =
    let r = Making.plan_in (list_of (drop 3 t)) o in
    Making.revision_in (revision (Making.last_node (Making.made_nodes o)) head h body (Making.pool_size r - body)) r

-- the start's sets, and where its plan starts and how long it is
abbrev pub start_in : Bytes → ℕ → ℕ → Change
start_in sets start len o = Making.bind o (λ m. some (Making.put_start m sets start len))

-- "" plan" list end" in the begin line: the plan and the start, if its sets fit
unfoldable pub start_planned : Bool → Bytes → Bytes → Change
start_planned fits sets t o =
    let r = Making.plan_in (list_of (drop 5 t)) o in
    Making.when fits (start_in sets (Making.pool_size o) (Making.pool_size r - Making.pool_size o) r)

-- there are n atoms
abbrev pub atoms_are : Made → ℕ → Made
atoms_are m n = record {
  large = m.large;
  atoms = n;
  weights = m.weights;
  nodes = m.nodes;
  specifications = m.specifications;
  selections = m.selections;
  revisions = m.revisions;
  pool = m.pool;
  start = m.start;
  len = m.len;
}

-- the same, if the number fits its field
abbrev pub with_atoms : Made → ℕ → Made
with_atoms m n = if (leb n 65535) (atoms_are m n) (too_large m)

-- a number behind n bytes, and the end of the line
abbrev pub behind_number : ℕ → Bytes → Bytes
behind_number n t = behind_line (digits_rest (drop n t))

-- ""atoms " number end"
abbrev pub AtomsRead : Bytes → ℕ → Made → Placed → Type 0
AtomsRead t at m r = (at < r.next) × TextAt t r.next (behind_number 6 (drop at t)) × (r.made ≡ with_atoms m (number_value (drop 6 (drop at t))))

-- ""action " number end"
unfoldable pub weighed : Bytes → Change
weighed t o = Making.when (leb (number_value (drop 7 t)) 65535) (Making.weight_in (two_bytes (number_value (drop 7 t))) o)

-- such a line was read, with what it adds
abbrev pub WeightRead : Bytes → ℕ → Made → Bytes → Placed → Bytes → Type 0
WeightRead t at m d r d' = StepsOver t (at + 1) (behind_number 7 (drop at t)) (weighed (drop at t)) m d r.next r.made d'

-- ---- all lines

-- before the first line
abbrev pub nothing : Made
nothing = record {
  large = false;
  atoms = 0;
  weights = 0;
  nodes = 0;
  specifications = 0;
  selections = 0;
  revisions = 0;
  pool = 0;
  start = 0;
  len = 0;
}

-- there is room for the largest card, and the start's sets are empty
pub record Blank (d : Bytes) : Type 0 where
  pub room : length d ≡ 24128
  pub sets : part d 32 32 ≡ replicate 32 0

-- all lines were read: what they say is made of nothing; or brackets and "!" nest too deep in one of them
abbrev pub LinesRead : Read (List Item) → Result Made Nested → Bytes → Type 0
LinesRead nested (Ok m) d' = ⊥
LinesRead nested (Err _) d' = length d' ≡ 24128
LinesRead (got is rest) (Ok m) d' = Held m d' × (made_in m d' ≡ Making.items_in is (some Making.nothing_made))
LinesRead (got is rest) (Err _) d' = ⊥
