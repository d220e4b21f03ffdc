use Rattle.meaning.specs.Card.{part}
use Rattle.std.proofs.Common.{rules}
use Rattle.layout.proofs.bytes.add_bytes.Goals as goal

pub returns : goal.returns
unfolding part
returns c = search rules
