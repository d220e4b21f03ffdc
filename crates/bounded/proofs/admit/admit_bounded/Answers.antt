use Rattle.card.proofs.Rows.{handed_on, row_passed, row_kept_out}
use Rattle.bounded.specs.Admitted.{BoundedAdmitted}
use Rattle.bounded.proofs.Calling.{refused_before, refused_by_22, not_refused}
use Rattle.layout.specs.PlaceParts.{configured}
use Rattle.bounded.proofs.admit.admit_bounded.Goals as goal

pub returns-in_err-card : goal.returns-in_err-card
returns-in_err-card c =
    let a = c.args in
    let d = configured a.beliefs.now a.goals.now a.m a.plan.now in
    let f = c.from_residual in
    refused_before a.card.now d f.result _ (handed_on f.result _ f.ensures.1) c.in_err-card.ensures

pub bounded_good-requires : goal.bounded_good-requires
bounded_good-requires c =
    let r = c.in_ok-card.ensures.ready in
    (r.card, r.fits)

pub returns-in_err-row : goal.returns-in_err-row
returns-in_err-row c =
    let a = c.args in
    let d = configured a.beliefs.now a.goals.now a.m a.plan.now in
    let f = c.from_residual-in_err-row in
    row_kept_out (BoundedAdmitted a.card.now d) f.result _ f.ensures.1 _ _ _ (c.bounded_good.ensures a.beliefs.now a.goals.now) c.in_err-row.ensures
    (refused_by_22 a.card.now d c.in_ok-card.card c.in_ok-card.ensures)

pub returns : goal.returns
returns c =
    let a = c.args in
    let d = configured a.beliefs.now a.goals.now a.m a.plan.now in
    not_refused a.card.now d c.in_ok-card.card c.in_ok-card.ensures
    (row_passed _ _ _ (c.bounded_good.ensures a.beliefs.now a.goals.now) c.in_ok-row.ensures)
