-- The paper's cases, computed.
use mathlib.Core.Path.{refl}
use Rattle.paper.specs.Atoms.{bit, ◌∈◌}
use Rattle.paper.specs.Transitions.{◌⊨◌}
use Rattle.paper.specs.Next.{can_revise, revised, outcome, next}
use Rattle.paper.specs.Cases.{small, two, Cases}

pub cases : Cases
unfolding bit ◌∈◌ ◌⊨◌ can_revise revised outcome next small two
cases = record { believes = (refl, refl); has_goal = (refl, refl); not_inside = refl; at_the_front = refl }
