use Rattle.meaning.specs.Refusals.{has_edition}
use mathlib.Core.Path.{refl}
use borrow.Author.Tests.{leb-true}
use Rattle.layout.proofs.bytes.has_edition.Goals as goal

pub returns : goal.returns
unfolding has_edition
returns c = (refl, λ t. leb-true 4 _ t)
