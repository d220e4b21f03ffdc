use Rattle.conditions.proofs.Units.{byte_on}
use Prim.Native.Nat.{◌<◌}
use native.Mathlib.Omega.{arith}
use lib.ListN.{length}
use Rattle.conditions.proofs.read.behind_byte.Goals as goal

pub returns-else-at-text : goal.returns-else-at-text
returns-else-at-text c =
    let a = c.args in
    let at_most = c.requires in
    let l = c.if-at-text.false in
    let more : a.at < length a.text.now = omega arith in
    (omega arith, (omega arith, byte_on a.text.now a.at more))
