use Rattle.deliberate.proofs.Calling.{too_many}
use native.Mathlib.Omega.{arith}
use Rattle.deliberate.proofs.call.numbers_good.Goals as goal

pub returns-then-entries-n : goal.returns-then-entries-n
returns-then-entries-n c = let a = c.args in too_many a.entries a.given.now (omega arith)
