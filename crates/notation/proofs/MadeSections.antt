-- What a tree, a plan and an entry add to a card in the making, and that nothing is added to none.
use mathlib.Core.Path.{◌≡◌, refl}
use mathlib.Core.Bool.{◌&&◌}
use mathlib.Core.List.{List, [], ◌∷◌, ◌++◌, flatten}
use mathlib.Core.Option.{Option, none, some}
use Prim.Native.Nat.{ℕ, ◌+◌, ◌-◌, ◌*◌, ◌≤◌}
use native.Mathlib.Omega.{arith}
use lib.Dec.{leb}
use lib.ListN.{length, length-append}
use Rattle.meaning.specs.Trees.{Tree}
use Rattle.meaning.specs.Card.{Bytes}
use Rattle.notation.specs.Built.{nodes_from}
use Rattle.notation.specs.Values.{Item, atoms_said, action_said, do_said, select_said, revise_said, begin_said}
use Rattle.notation.specs.Making.{Sections, put_nodes, put_pool, put_weights, put_specifications, put_selections, put_revisions, set_fits, tree_in, plan_in, weight_in, specification_in, selection_in, revision_in, do_in, select_in, revise_in, begin_in, item_in, items_in}
use Rattle.notation.proofs.MadeExactly.{Exactly, exactly_if, exactly_in, exactly_added, when_none}
use Rattle.notation.proofs.MadeTrees.{TreeFits, tree_exactly}
use Rattle.notation.proofs.MadePlans.{PlanFits, plan_exactly}

-- ---- trees and plans

pub tree_in_lem : (t : Tree) (k : ℕ) (m : Sections) → length m.nodes ≡ 4 * k
    → Exactly (TreeFits k t) (put_nodes m (m.nodes ++ flatten (nodes_from k t))) (tree_in t (some m))
unfolding tree_in
tree_in_lem t k m h = exactly_in (put_nodes m) (tree_exactly t k m.nodes h)

pub plan_in_lem : (ns : List ℕ) (m : Sections) → length m.pool ≤ 8192
    → Exactly (PlanFits (length m.pool) ns) (put_pool m (m.pool ++ ns)) (plan_in ns (some m))
unfolding plan_in
plan_in_lem ns m h = exactly_in (put_pool m) (plan_exactly ns m.pool h)

-- how long what was added is
pub added_length : (s e : Bytes) → length (s ++ e) - length s ≡ length e
added_length s e = rw length-append (omega arith)

-- ---- entries, behind j entries

pub weight_in_lem : (e : Bytes) (j : ℕ) (m : Sections) → length e ≡ 2 → length m.weights ≡ 2 * j
    → Exactly (j + 1 ≤ 256) (put_weights m (m.weights ++ e)) (weight_in e (some m))
unfolding weight_in
weight_in_lem e j m f h = exactly_in (put_weights m) (exactly_if (λ p. omega (arith, f, h)) (λ p. omega (arith, f, h)) (exactly_added 512 e m.weights))

pub specification_in_lem : (e : Bytes) (j : ℕ) (m : Sections) → length e ≡ 36 → length m.specifications ≡ 36 * j
    → Exactly (j + 1 ≤ 256) (put_specifications m (m.specifications ++ e)) (specification_in e (some m))
unfolding specification_in
specification_in_lem e j m f h =
    exactly_in (put_specifications m) (exactly_if (λ p. omega (arith, f, h)) (λ p. omega (arith, f, h)) (exactly_added 9216 e m.specifications))

pub selection_in_lem : (e : Bytes) (j : ℕ) (m : Sections) → length e ≡ 8 → length m.selections ≡ 8 * j
    → Exactly (j + 1 ≤ 256) (put_selections m (m.selections ++ e)) (selection_in e (some m))
unfolding selection_in
selection_in_lem e j m f h =
    exactly_in (put_selections m) (exactly_if (λ p. omega (arith, f, h)) (λ p. omega (arith, f, h)) (exactly_added 2048 e m.selections))

pub revision_in_lem : (e : Bytes) (j : ℕ) (m : Sections) → length e ≡ 12 → length m.revisions ≡ 12 * j
    → Exactly (j + 1 ≤ 256) (put_revisions m (m.revisions ++ e)) (revision_in e (some m))
unfolding revision_in
revision_in_lem e j m f h =
    exactly_in (put_revisions m) (exactly_if (λ p. omega (arith, f, h)) (λ p. omega (arith, f, h)) (exactly_added 3072 e m.revisions))

-- ---- once none, always none

pub item_none : (i : Item) → item_in i none ≡ none
unfolding item_in do_in select_in revise_in begin_in tree_in plan_in weight_in specification_in selection_in revision_in
item_none (atoms_said n) = when_none (leb n 65535)
item_none (action_said w) = when_none (leb w 65535)
item_none (do_said d) = when_none (leb d.action 255 && (set_fits d.add && set_fits d.del))
item_none (select_said s) = refl
item_none (revise_said r) = refl
item_none (begin_said b) = when_none (set_fits b.beliefs && set_fits b.goals)

pub items_none : (is : List Item) → items_in is none ≡ none
unfolding items_in
items_none [] = refl
items_none (i ∷ is) = rw (item_none i) (items_none is)

-- ---- items behind one another

pub items_append : (is js : List Item) (o : Option Sections) → items_in (is ++ js) o ≡ items_in js (items_in is o)
unfolding items_in
items_append [] js o = refl
items_append (i ∷ is) js o = items_append is js (item_in i o)
