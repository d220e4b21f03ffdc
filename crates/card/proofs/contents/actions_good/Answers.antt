use Rattle.card.proofs.Laws.{known_by_last}
use mathlib.Core.Bool.{Bool}
use Rattle.sets.proofs.Loops.{found_turn, found_all}
use Rattle.meaning.specs.Refusals.{all, actions_good}
use Rattle.meaning.specs.Card.{part}
use lib.Dec.{ltb}
use mathlib.Core.Path.{◌≡◌, ap, ◌∙◌}
use Prim.Native.Nat.{ℕ, ◌+◌, ◌-◌}
use native.Mathlib.Omega.{arith}
use lib.ListN.{get_or, take, drop}
use Rattle.meaning.proofs.Every.{all_of}
use Rattle.meaning.proofs.Parts.{length_part, part_at}
use borrow.Author.Tests.{lt-ltb}
use mathlib.Core.Path.{sym}
use Rattle.card.proofs.contents.actions_good.Goals as goal

pub loop-x-preserved : goal.loop-x-preserved
loop-x-preserved c =
    let a = c.args in
    let l = c.loop-x in
    let p = take (a.from + a.n - a.from) (drop a.from a.bytes.now) in
    let t : ℕ → Bool = λ x. ltb x a.actions in
    rw (known_by_last (get_or p l.x-index 0) a.actions (omega arith)) (found_turn t p 0 l.good l.x-index 0 (omega arith) l.invariant)

pub returns : goal.returns
unfolding actions_good part
returns c =
    let a = c.args in
    let l = c.loop-x in
    let p = take (a.from + a.n - a.from) (drop a.from a.bytes.now) in
    let t : ℕ → Bool = λ x. ltb x a.actions in
    let e : a.from + a.n - a.from ≡ a.n = omega arith in
    found_all t p 0 l.good l.x-index (omega arith) l.invariant ∙ ap (λ k. all t (take k (drop a.from a.bytes.now))) e

pub returns-then-actions-eq256 : goal.returns-then-actions-eq256
unfolding actions_good
returns-then-actions-eq256 c =
    let a = c.args in
    let b = a.bytes.now in
    let n = length_part b a.from a.n (omega arith) in
    sym (all_of (λ x. ltb x a.actions) (part b a.from a.n) 0 (λ i h. (
    let e = part_at b a.from a.n i (omega arith) in
    lt-ltb (get_or (part b a.from a.n) i 0) a.actions (omega (arith, e, c.type_inv.bytes (a.from + i))))))
