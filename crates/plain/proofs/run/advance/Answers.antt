use mathlib.Core.Path.{ap, ◌∙◌}
use Rattle.runs.specs.Step.{Reached}
use Rattle.moves.specs.Steps.{transition_of, configuration_after}
use Rattle.moves.proofs.Running.{chose}
use Rattle.unpacked.specs.Truths.{configuration_from}
use Rattle.plain.proofs.run.advance.Goals as goal

pub make-requires : goal.make-requires
make-requires c =
    let a = c.args in
    record { ready = c.requires; enabled = (chose a.card.now.layout a.card.now.bytes.now (configuration_from a.u) _ c.in-Some.ensures).0 }

pub returns : goal.returns
returns c =
    let a = c.args in
    let d = configuration_from a.u in
    let k = chose a.card.now.layout a.card.now.bytes.now d _ c.in-Some.ensures in
    let e = c.make.ensures in
    (e.0 ∙ ap transition_of k.1, e.1 ∙ ap (λ (x : Reached). configuration_after x d) k.1)
