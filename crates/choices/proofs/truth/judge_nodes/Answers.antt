use Rattle.meaning.proofs.Nodes.{node_rule}
use Rattle.meaning.specs.declared.Node.{Node}
use mathlib.Core.Bool.{false}
use lib.ListN.{length-set, get_or}
use Rattle.meaning.specs.Kinds.{node_kind}
use Rattle.choices.specs.OnePass.{kept_of, kept}
use Rattle.choices.specs.Judged.{of_mark, mark_at}
use Rattle.choices.proofs.Passing.{told_turn}
use Rattle.choices.proofs.OnePass.{kept_next}
use mathlib.Core.Path.{ap, ◌∙◌}
use Prim.Native.Nat.{◌<◌}
use native.Mathlib.Omega.{arith}
use Rattle.choices.proofs.truth.judge_nodes.Goals as goal

pub judge-requires : goal.judge-requires
judge-requires c =
    let a = c.args in
    let p = c.requires.0 in
    let r = node_rule a.card.now.layout a.card.now.bytes.now p.nodes c.loop-i.i (omega arith) in
    rw c.node.ensures r.kinds

pub loop-i-preserved : goal.loop-i-preserved
loop-i-preserved c =
    let a = c.args in
    let p = c.requires.0 in
    let l = c.loop-i in
    let b = a.card.now.bytes.now in
    let k : l.i < a.card.now.layout.nodes.count = omega arith in
    let e = c.judge.ensures ∙ ap (λ (x : Node). kept_of l.i (node_kind x.kind) x.a x.b a.beliefs.now a.goals.now (mark_at l.marks)) c.node.ensures in (
      simp length-set l.invariant.0,
      told_turn of_mark 0 (λ j. get_or (kept a.card.now.layout b a.beliefs.now a.goals.now) j (false, 0)) l.marks l.i c.judge.result (let q = p.layout.nodes in omega arith) l.invariant.1
          (e ∙ kept_next a.card.now.layout b p.nodes a.beliefs.now a.goals.now l.i k (mark_at l.marks) l.invariant.1),
    )
