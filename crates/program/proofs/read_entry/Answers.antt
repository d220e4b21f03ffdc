use Rattle.deliberation.specs.Entries.{entry_of}
use borrow.Author.Rules.{rules}
use Rattle.program.proofs.read_entry.Goals as goal

pub returns : goal.returns
unfolding entry_of
returns c = search rules
