use Rattle.meaning.specs.Place.{place_header}
use Rattle.layout.proofs.place.header_of.Goals as goal

pub returns : goal.returns
unfolding place_header
returns c = rw (c.to_le_bytes-edition.ensures, c.to_le_bytes-length.ensures, c.to_le_bytes-offset.ensures, c.to_le_bytes-finished.ensures, c.to_le_bytes-phase.ensures, c.plan_at.ensures.0)
