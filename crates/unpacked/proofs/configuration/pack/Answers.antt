use mathlib.Core.Path.{ap₂}
use Rattle.layout.specs.PlaceParts.{configured}
use Rattle.unpacked.proofs.configuration.pack.Goals as goal

pub returns : goal.returns
returns c =
    let u = c.args.u in
    ap₂ (λ b g. configured b g u.standing u.plan) c.pack_set.ensures c.pack_set-2.ensures
