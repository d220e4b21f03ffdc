use Rattle.plans.proofs.Laws.{replaced}
use mathlib.Core.Path.{◌∙◌}
use Rattle.plans.proofs.replace_front.Goals as goal

pub returns : goal.returns
returns c =
    let a = c.args in
    let p = c.requires in
    let s = c.shift in
    c.copy.ensures
    ∙ replaced a.plan.now a.len a.hlen a.blen p.0 p.1 p.2 p.4 a.card.now a.bstart p.3 s.new.plan s.ensures
