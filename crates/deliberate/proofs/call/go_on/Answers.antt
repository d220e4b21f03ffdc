use Rattle.layout.specs.PlaceParts.{configured}
use Rattle.deliberate.proofs.Calling.{refused_so, by_numbers}
use mathlib.Core.Path.{refl, sym, ◌∙◌}
use Rattle.deliberate.proofs.call.go_on.Goals as goal

pub returns-in_default : goal.returns-in_default
returns-in_default c =
    let a = c.args in
    let d = configured a.beliefs.now a.goals.now a.m a.plan.now in
    let k = c.check_program-checked in
    let told = c.in_default.is in
    refused_so a.card.now a.program.now a.given.now a.beliefs.now a.goals.now a.m a.plan.now a.budget a.remaining.now _ (k.ensures.bad _ told a.given.now d) k.result told c.refused.result c.refused.ensures

pub returns-then-not-numbers_good : goal.returns-then-not-numbers_good
returns-then-not-numbers_good c =
    let a = c.args in
    let b = a.card.now in
    let p = a.program.now in
    let d = configured a.beliefs.now a.goals.now a.m a.plan.now in
    let (e, g) = c.check_program-checked.ensures.good c.in-Ok.is in
    let n = sym c.numbers_good.ensures ∙ c.if-not-numbers_good.true in
    refused_so b p a.given.now a.beliefs.now a.goals.now a.m a.plan.now a.budget a.remaining.now _ (by_numbers b p _ e a.given.now d n) _ refl c.refused-then-not-numbers_good.result c.refused-then-not-numbers_good.ensures
