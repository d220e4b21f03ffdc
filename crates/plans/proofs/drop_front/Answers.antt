use Rattle.plans.proofs.Laws.{dropped}
use mathlib.Core.Path.{◌∙◌}
use Rattle.plans.proofs.drop_front.Goals as goal

pub returns : goal.returns
returns c =
    let a = c.args in
    let p = c.requires in
    c.shift.ensures ∙ dropped a.plan.now a.len a.k p.0 p.1 p.2
