use mathlib.Core.Path.{refl}
use native.Mathlib.Omega.{arith}
use borrow.Author.Rules.{rules}
use lib.ListN.{length-set}
use Rattle.plain.proofs.Judging.{judged_turn}
use Rattle.plain.proofs.judge.judge_all.Goals as goal

pub loop-i-init : goal.loop-i-init
loop-i-init c = (refl, λ l b g e t j h. absurd (omega arith))

pub loop-i-preserved : goal.loop-i-preserved
loop-i-preserved c =
    let a = c.args in
    let l = c.loop-i in
    (simp length-set l.invariant.0, judged_turn a.t.nodes a.u.beliefs a.u.goals a.l.nodes.count (search rules) (search rules) l.judged l.i c.judge.result (omega arith) (omega arith) l.invariant.1 c.judge.ensures)

pub returns : goal.returns
returns c = λ b r t n h.
    let a = c.args in
    c.loop-i.invariant.1 a.l b r.card.nodes refl t.nodes n (omega arith)
