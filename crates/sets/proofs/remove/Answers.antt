use Rattle.std.proofs.Common.{◌≡◌, rules, ◌∙◌, get_or, bit_and, ◌-◌, ◌<◌}
use Rattle.sets.proofs.Together.{left, without_bits}
use Rattle.sets.proofs.remove.Goals as goal

pub returns : goal.returns
returns c =
    let t = c.put_together in
    left c.args.s.now c.args.t.now t.new.s c.requires t.ensures.len (λ i h. t.ensures.rest i h) (λ i h. (
    let p = t.ensures.each i h in
    let x : get_or c.args.s.now i 0 < 256 = search rules in
    let y : get_or c.args.t.now i 0 < 256 = search rules in
    let e : get_or t.new.s i 0 ≡ bit_and (get_or c.args.s.now i 0) (255 - get_or c.args.t.now i 0) = search rules in
    e ∙ without_bits _ _ x y
    ))
