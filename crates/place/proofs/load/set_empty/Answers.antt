use Rattle.meaning.specs.Configurations.{empty, configuration_of}
use Rattle.meaning.specs.Card.{part}
use lib.ListN.{replicate}
use Rattle.layout.specs.PlaceParts.{configured}
use Rattle.place.proofs.load.set_empty.Goals as goal

pub returns : goal.returns
unfolding part empty configuration_of
returns c = λ i. configured (replicate 32 0) (replicate 32 0) (record { length = 0; phase = 0; finished = 0 }) (c.fill.ensures i)
