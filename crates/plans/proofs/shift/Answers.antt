use Rattle.plans.proofs.Laws.{shifted_up, shifted_down}
use mathlib.Core.Path.{◌∙◌}
use native.Mathlib.Omega.{arith}
use Rattle.plans.proofs.shift.Goals as goal

pub returns-then-blen-hlen : goal.returns-then-blen-hlen
returns-then-blen-hlen c =
    let a = c.args in
    let p = c.requires in
    c.clear.ensures
    ∙ shifted_down a.plan.now a.len a.hlen a.blen p.0 p.1 p.2 p.3 (omega arith) c.copy_within.new.self c.copy_within.ensures.after

pub returns-else-blen-hlen : goal.returns-else-blen-hlen
returns-else-blen-hlen c =
    let a = c.args in
    let p = c.requires in
    c.copy_within.ensures.after ∙ shifted_up a.plan.now a.len a.hlen a.blen p.0 p.1 p.2 p.3 (omega arith)
