use Rattle.meaning.specs.Kinds.{node_kind}
use Rattle.meaning.proofs.NodeKinds.{known_kind}
use Rattle.meaning.proofs.Nodes.{node_rule}
use Rattle.card.proofs.Laws.{tells_mark, MarkedTo, marked_start, marked_turn, marked_all}
use Rattle.card.specs.Marks.{tells, mark_of}
use Rattle.meaning.specs.Card.{node_at}
use Rattle.meaning.specs.declared.Node.{Node}
use mathlib.Core.Path.{subst, ◌≡◌, refl, ap, ◌∙◌}
use Prim.Native.Nat.{◌<◌}
use native.Mathlib.Omega.{arith}
use lib.ListN.{get_or}
use Rattle.card.proofs.nodes.mark_nodes.Goals as goal

pub loop-i-init : goal.loop-i-init
loop-i-init c =
    let a = c.args in
    let e = c.requires.1 in
    (marked_start 1 a.card.now.layout a.card.now.bytes.now _ refl e, marked_start 2 a.card.now.layout a.card.now.bytes.now _ refl e)

pub mark_of-requires : goal.mark_of-requires
mark_of-requires c =
    let k = (node_rule _ _ c.requires.0 c.loop-i.i (omega arith)).kinds in
    rw c.node-x.ensures k

pub loop-i-preserved : goal.loop-i-preserved
loop-i-preserved c =
    let a = c.args in
    let l = c.loop-i in
    let b = a.card.now.bytes.now in
    let good = c.requires.0 in
    let k : l.i < a.card.now.layout.nodes.count = omega arith in
    let m : l.i < 256 = omega arith in
    let x = node_at a.card.now.layout b l.i in
    let e = c.mark_of.ensures ∙ ap (λ (n : Node). mark_of (node_kind n.kind) (get_or l.marks n.a 0) (get_or l.marks n.b 0)) c.node-x.ensures in
    let t = tells_mark (known_kind x.kind (node_rule a.card.now.layout b good l.i k).kinds) x.a x.b (λ j. get_or l.marks j 0) in
    (marked_turn 1 a.card.now.layout b good l.marks l.i _ k m (ap (tells 1) e ∙ t.0) l.invariant.0, marked_turn 2 a.card.now.layout b good l.marks l.i _ k m (ap (tells 2) e ∙ t.1) l.invariant.1)

pub returns : goal.returns
returns c =
    let a = c.args in
    let l = c.loop-i in
    let b = a.card.now.bytes.now in
    let e : l.i ≡ a.card.now.layout.nodes.count = omega arith in
    (marked_all 1 a.card.now.layout b l.marks (subst (MarkedTo 1 a.card.now.layout b l.marks) e l.invariant.0), marked_all 2 a.card.now.layout b l.marks (subst (MarkedTo 2 a.card.now.layout b l.marks) e l.invariant.1))
