use Rattle.std.proofs.Common.{rules}
use Rattle.sets.proofs.Together.{joined}
use Rattle.sets.proofs.add.Goals as goal

pub returns : goal.returns
returns c =
    let t = c.put_together in
    joined c.args.s.now c.args.t.now t.new.s c.requires t.ensures.len (λ i h. t.ensures.rest i h) (λ i h. (let p = t.ensures.each i h in search rules))
