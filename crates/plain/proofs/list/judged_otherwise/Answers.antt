use mathlib.Core.Path.{◌≡◌, ap, ◌∙◌}
use native.Mathlib.Omega.{arith}
use Rattle.listing.specs.Looking.{sum_of}
use Rattle.plain.specs.Asking.{judged_by}
use Rattle.plain.proofs.list.judged_otherwise.Goals as goal

pub returns : goal.returns
returns c =
    let l = c.loop-i in
    let e : l.i ≡ 256 = omega arith in
    (l.invariant.0 ∙ ap (sum_of (judged_by c.args.answers)) e, rw e at l.invariant.1)
