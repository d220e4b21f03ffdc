use Rattle.meaning.specs.Refusals.{set_good}
use Rattle.meaning.proofs.KnownSets.{good-∪}
use mathlib.Core.Path.{ap, ◌∙◌}
use Rattle.sets.proofs.both_known.Goals as goal

pub returns : goal.returns
returns c =
    let a = c.args in
    c.known.ensures ∙ ap (set_good a.atoms) c.union.ensures ∙ good-∪ a.atoms a.a a.b
