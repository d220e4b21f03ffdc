use Rattle.reader.proofs.Lining.{blank_card}
use Rattle.reader.proofs.read.read_text.Goals as goal

pub read_into-requires : goal.read_into-requires
read_into-requires c = blank_card
