-- What a reader of a number and of a condition tells, by the reader as a function.
use Rattle.std.specs.Prelude as Rust
use Rattle.std.specs.Prelude.{Some, None, IfSome, Result, Ok, Err, ◌≡◌, Bool, false, ◌||◌, [], ◌∷◌, ℕ, ◌-◌, ◌*◌, ◌≤◌, min, leb, eqb, length, take, drop}
use Rattle.std.proofs.Math.Option.{Option, none, some}
use Prim.Native.Char.{code}
use Rattle.paper.specs.Next.{if}
use Rattle.meaning.specs.Card.{Bytes}
use Rattle.notation.specs.Conditions.{Condition}
use Rattle.notation.specs.Built.{node}
use Rattle.notation.specs.Values.{number_value, digits_rest, Read, nested, got, unit_of}
use Rattle.notation.specs.Making.{when, added_to, with_tree}
use Rattle.conditions.specs.declared.number.Numeral.{Numeral}
use Rattle.conditions.specs.declared.read.TreeRead.{TreeRead}
use Rattle.conditions.specs.declared.read.Nested.{Nested}

-- a place in a text, and what is left from there on
abbrev pub TextAt : Bytes → ℕ → Bytes → Type 0
TextAt t n rest = (n ≤ length t) × (drop n t ≡ rest)

-- a number, 65,536 where it is greater
abbrev pub capped : ℕ → ℕ
capped n = min n 65536

-- a number was read: its value, and the place behind its digits
abbrev pub ReadsNumber : Bytes → ℕ → Numeral → Type 0
ReadsNumber t at r = (r.value ≡ capped (number_value (drop at t))) × (at ≤ r.next) × TextAt t r.next (digits_rest (drop at t))

-- how many nodes there are, None if something is too large
abbrev pub Count : Type 0
Count = Rust.Option ℕ

-- the nodes that a section holds, if nothing is too large
abbrev pub nodes_of : Count → Bytes → Option Bytes
nodes_of None d = none
nodes_of (Some k) d = some (take (4 * k) d)

-- the number of the last node, 0 if there is none or something is too large
abbrev pub last_of : Count → ℕ
last_of None = 0
last_of (Some k) = k - 1

-- the nodes of a section with a list's member joined, k behind the members before it and j behind it: the first one stands by
-- itself, each other one is the right side of the list's operator
abbrev pub joined_nodes : Bool → ℕ → Count → Count → Bytes → Option Bytes
joined_nodes first kind k j d = if first (nodes_of j d) (added_to 1024 (node kind (last_of k) (last_of j)) (nodes_of j d))

-- whether a text begins with the byte x
abbrev pub begins : ℕ → Bytes → Bool
begins x [] = false
begins x (y ∷ t) = eqb y x

-- "T", "B" and "G", with which a unit begins that nothing is nested in
abbrev pub leaf : ℕ → Bool
leaf x = (eqb x (code "T") || eqb x (code "B")) || eqb x (code "G")

-- the number of an atom was read, and a node of that kind stands behind those before
abbrev pub ReadsAtom : Bytes → ℕ → ℕ → Bytes → Count → TreeRead → Bytes → Type 0
ReadsAtom t at kind d k r d' =
    let a = number_value (drop at t) in
    TextAt t r.next (digits_rest (drop at t))
    × (at ≤ r.next)
    × IfSome r.count (λ n. n ≤ 256)
    × (length d' ≡ length d)
    × (nodes_of r.count d' ≡ when (leb a 255) (added_to 1024 (node kind a 0) (nodes_of k d)))

-- a condition was read: the nodes of its tree stand behind those before; or it nests too deep
abbrev pub ReadsCondition : Bytes → ℕ → Bytes → Count → Read Condition → Result TreeRead Nested → Bytes → Type 0
ReadsCondition t at d k nested (Ok r) d' = ⊥
ReadsCondition t at d k nested (Err _) d' = length d' ≡ length d
ReadsCondition t at d k (got c rest) (Ok r) d' =
    TextAt t r.next rest
    × (at ≤ r.next)
    × IfSome r.count (λ n. n ≤ 256)
    × (length d' ≡ length d)
    × (nodes_of r.count d' ≡ with_tree c.tree (nodes_of k d))
ReadsCondition t at d k (got c rest) (Err _) d' = ⊥

-- a unit that nothing is nested in was read: whatever may still nest
abbrev pub ReadsLeaf : Bytes → ℕ → Bytes → Count → TreeRead → Bytes → Type 0
ReadsLeaf t at d k r d' = (left : ℕ) → ReadsCondition t at d k (unit_of left (drop at t)) (Ok r) d'
