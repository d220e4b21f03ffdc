use Rattle.layout.specs.PlaceParts.{configured}
use Rattle.deliberate.proofs.Calling.{refused_so}
use Rattle.deliberation.specs.Entries.{whole}
use Rattle.deliberate.proofs.call.deliberate.Goals as goal

pub returns-in_default : goal.returns-in_default
returns-in_default c =
    let a = c.args in
    let p = a.program.now in
    let d = configured a.beliefs.now a.goals.now a.m a.plan.now in
    let k = c.check_program-checked in
    let told = c.in_default.is in
    refused_so a.card.now p (whole p) a.beliefs.now a.goals.now a.m a.plan.now a.budget a.remaining.now _ (k.ensures.bad _ told (whole p) d) k.result told c.refused.result c.refused.ensures
