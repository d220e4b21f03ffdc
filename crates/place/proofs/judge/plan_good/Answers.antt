use Rattle.meaning.specs.Sizes.{set_bytes, plan_at}
use Rattle.meaning.specs.Refusals.{actions_good}
use Rattle.meaning.specs.Card.{part}
use lib.Seq.{take_all}
use lib.ListN.{length-drop, length, drop}
use mathlib.Core.Path.{◌≡◌, ap, ◌∙◌}
use Prim.Native.Nat.{◌-◌}
use native.Mathlib.Omega.{arith}
use Rattle.place.proofs.judge.plan_good.Goals as goal

pub returns : goal.returns
unfolding part
returns c =
    let b = c.args.p.now in
    let at = c.plan_at-at.ensures.0 in
    let k = plan_at (set_bytes c.args.l) in
    let n : length (drop k b) ≡ length b - k = length-drop k b in
    c.actions_good.ensures ∙ (λ i. actions_good c.args.l.actions (part b (at i) (length b - at i))) ∙ ap (actions_good c.args.l.actions) (take_all (length b - k) (drop k b) (omega arith))
