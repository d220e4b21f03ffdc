use mathlib.Core.Path.{ap}
use Rattle.meaning.specs.declared.SpecificationEntry.{SpecificationEntry}
use Rattle.unpacked.specs.declared.tables.Specified.{Specified}
use Rattle.unpacked.proofs.tables.read_specified.Goals as goal

pub returns : goal.returns
returns c = ap {B = Specified} (λ (e : SpecificationEntry). record { action = e.action; node = e.node }) c.specification-e.ensures
