use Rattle.plans.proofs.Laws.{filled}
use mathlib.Core.Path.{◌∙◌}
use native.Mathlib.Omega.{arith}
use Rattle.plans.proofs.fill.Goals as goal

pub returns : goal.returns
returns c =
    let a = c.args in
    let p = c.copy in
    c.clear.ensures ∙ filled a.plan.now a.bytes.now a.start a.n (omega arith) p.new.dst p.ensures (omega arith)
