use Rattle.std.proofs.Common.{◌≡◌, ◌*◌, ◌<◌, arith, rules, length}
use Rattle.unpacked.proofs.Values.{values_are}
use Rattle.unpacked.proofs.truths.unpack_set.Goals as goal

pub returns : goal.returns
returns c =
    let t = c.table.result in
    let n : length c.args.s ≡ 32 = omega arith in
    let long : length t ≡ 8 * length c.args.s = search rules in
    values_are c.args.s t long (λ i h. (let l : i < 256 = omega arith in let p = c.table.ensures i l in search rules))
