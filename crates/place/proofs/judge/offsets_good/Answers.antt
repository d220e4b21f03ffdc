use Rattle.meaning.specs.Sizes.{set_bytes, plan_at}
use Rattle.layout.specs.declared.place.PlaceParts.{PlaceParts}
use lib.Dec.{eqb}
use lib.ListN.{length}
use mathlib.Core.Bool.{◌&&◌}
use mathlib.Core.Path.{ap, ◌∙◌}
use Prim.Native.Nat.{◌+◌}
use Rattle.place.proofs.judge.offsets_good.Goals as goal

pub returns : goal.returns
returns c =
    let a = c.args in
    (λ i. eqb a.h.offset (c.plan_at.ensures.0 i) && eqb (length a.p.now) (c.place_size.ensures i)) ∙ ap (λ (h : PlaceParts). eqb h.offset (plan_at (set_bytes a.l)) && eqb (length c.args.p.now) (plan_at (set_bytes a.l) + h.length)) c.requires.0
