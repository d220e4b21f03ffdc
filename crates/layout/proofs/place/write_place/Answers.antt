use Rattle.meaning.specs.Place.{place_header}
use Rattle.layout.proofs.Written.{place_written}
use Rattle.layout.specs.PlaceParts.{configured}
use mathlib.Core.Path.{ap}
use lib.ListN.{length}
use Rattle.std.proofs.Common.{arith}
use Rattle.layout.proofs.place.write_place.Goals as goal

pub returns : goal.returns
unfolding place_header
returns c =
    let a = c.args in
    let h = c.header_of in
    let d₁ = c.copy in
    let d₃ = c.write_sets in
    let d₄ = c.copy-2 in
    let p = c.plan_at in
    let d = configured a.beliefs.now a.goals.now a.m a.plan.now in
    place_written a.l d p.result p.ensures.0 a.out.now d₁.new.dst d₃.new.out d₄.new.dst (omega arith) (omega arith) (omega arith) c.requires.0
    h.result h.ensures (ap length h.ensures) d₁.ensures d₃.ensures d₄.ensures
