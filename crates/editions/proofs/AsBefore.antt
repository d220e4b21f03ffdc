-- "Accepted edition 1 files are read as before", together.
use Rattle.meaning.proofs.Widening.{∈-widened}
use Rattle.editions.specs.AsBefore.{AsBefore}
use Rattle.editions.proofs.Cards.{card_changes}
use Rattle.editions.proofs.Reading.{card_as_before}
use Rattle.editions.proofs.Places.{place_as_before}
use Rattle.editions.proofs.Closed.{card_moves, closed_as_before}
use Rattle.editions.proofs.Calls.{calls_as_before}

pub as_before : AsBefore
as_before =
    record {
      members = ∈-widened;
      card = card_as_before;
      changes = card_changes;
      place = place_as_before;
      moves = card_moves;
      closed = closed_as_before;
      calls = calls_as_before;
    }
