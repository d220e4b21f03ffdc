use Rattle.deliberate.proofs.Calling.{handed_out}
use Rattle.deliberate.proofs.call.hand_out.Goals as goal

pub returns : goal.returns
returns c =
    let a = c.args in
    handed_out a.remaining.now c.down.new.s c.clear.new.s a.top c.requires.0 c.requires.1 c.down.ensures c.clear.ensures
