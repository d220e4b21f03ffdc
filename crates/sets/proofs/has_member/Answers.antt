use Rattle.paper.specs.Atoms.{bit, ◌∈◌}
use borrow.Author.Rules.{rules}
use Rattle.sets.proofs.has_member.Goals as goal

pub returns : goal.returns
unfolding bit ◌∈◌
returns c = search rules
