-- What a card starts with: no goal that is believed; and what the empty configuration has.
use mathlib.Core.Path.{refl}
use Rattle.paper.proofs.Sets.{none_in}
use Rattle.runs.proofs.Goals.{struck_unbelieved}
use Rattle.meaning.specs.Card.{layout, initial_beliefs, initial_goals, start}
use Rattle.meaning.specs.Sizes.{edition2_set}
use Rattle.meaning.specs.Configurations.{state_of, configuration_of, empty}
use Rattle.meaning.specs.Theorems.{StartLaw, EmptyLaw}

pub start_law : StartLaw
unfolding start
start_law b k e = struck_unbelieved (initial_beliefs (layout b) b) (initial_goals (layout b) b) k e

pub empty_law : EmptyLaw
unfolding empty state_of configuration_of
empty_law = record { no_atoms = λ k. (none_in edition2_set k, none_in edition2_set k); empty_plan = refl; phase_0 = refl }
