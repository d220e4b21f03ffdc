use Rattle.bounded.proofs.Calling.{too_heavy, not_too_heavy, is_open}
use Rattle.layout.specs.PlaceParts.{configured}
use mathlib.Core.Path.{refl}
use native.Mathlib.Omega.{arith}
use Rattle.bounded.proofs.admit.bounded_good.Goals as goal

pub returns-then-heaviest_plan-weigh : goal.returns-then-heaviest_plan-weigh
returns-then-heaviest_plan-weigh c b g =
    let a = c.args in
    too_heavy a.card.now.bytes.now (configured b g a.m a.plan.now) _ c.weigh.ensures (omega arith)

pub returns-in-Bounded : goal.returns-in-Bounded
returns-in-Bounded c b g =
    let a = c.args in
    not_too_heavy a.card.now.bytes.now (configured b g a.m a.plan.now) _ c.weigh.ensures _ c.in-Bounded.ensures (omega arith) refl

pub returns-in-Open : goal.returns-in-Open
returns-in-Open c b g =
    let a = c.args in
    is_open a.card.now.bytes.now (configured b g a.m a.plan.now) _ c.weigh.ensures _ c.in-Open.ensures _ refl
