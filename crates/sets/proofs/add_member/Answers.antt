use Rattle.sets.proofs.Members.{one_bit}
use Rattle.sets.proofs.add_member.Goals as goal

pub returns : goal.returns
returns c = one_bit c.args.k c.args.s.now
