use Rattle.sets.proofs.Loops.{kept_start, kept_turn, kept_all}
use Rattle.meaning.specs.Refusals.{node_good, nodes_good}
use Rattle.meaning.specs.Card.{node_at}
use mathlib.Core.Bool.{Bool}
use Prim.Native.Nat.{ℕ}
use native.Mathlib.Omega.{arith}
use Rattle.card.proofs.nodes.nodes_good.Goals as goal

pub loop-i-init : goal.loop-i-init
loop-i-init c = kept_start _ _

pub loop-i-preserved : goal.loop-i-preserved
loop-i-preserved c =
    let a = c.args in
    let l = c.loop-i in
    let t : ℕ → Bool = λ i. node_good a.card.now.layout.atoms i (node_at a.card.now.layout a.card.now.bytes.now i) in
    rw (c.kind_good.ensures, c.node-x.ensures) (kept_turn t a.card.now.layout.nodes.count l.good l.i (omega arith) l.invariant)

pub returns : goal.returns
unfolding nodes_good
returns c =
    let a = c.args in
    let l = c.loop-i in
    let t : ℕ → Bool = λ i. node_good a.card.now.layout.atoms i (node_at a.card.now.layout a.card.now.bytes.now i) in
    kept_all t a.card.now.layout.nodes.count l.good l.i (omega arith) l.invariant
