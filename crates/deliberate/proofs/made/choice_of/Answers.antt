use Rattle.deliberation.specs.FirstMove.{lowest_action}
use native.Mathlib.Omega.{arith}
use mathlib.Core.Path.{◌≡◌}
use Rattle.deliberate.proofs.made.choice_of.Goals as goal

pub returns-in-0 : goal.returns-in-0
unfolding lowest_action
returns-in-0 c = λ σ γ j e. rw c.in-0.is (e c.in-0.is)

pub returns-in-1 : goal.returns-in-1
returns-in-1 c = λ σ γ j q. rw c.in-1.is (c.if_enabled.ensures σ γ j)

pub returns-in_default : goal.returns-in_default
returns-in_default c = λ σ γ j q.
    let low = c.requires.1 in
    let e : c.args.e.kind ≡ 2 = omega arith in
    rw e (c.if_enabled-in_default.ensures σ γ j)
