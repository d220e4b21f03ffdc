use Rattle.std.proofs.Common.{◌∙◌, ◌*◌, ap}
use Rattle.meaning.specs.Refusals.{set_good}
use Rattle.meaning.proofs.Widening.{set_second, set_first}
use Rattle.card.proofs.contents.sets_good.Goals as goal
use Rattle.card.proofs.contents.sets_good.Goals.{then-card-eq2, else-card-eq2}

pub all_sets-all-requires : goal.all_sets-all-requires
all_sets-all-requires c = ap (λ w. 2 * w) (set_second c.args.card.now.layout.edition c.if-card-eq2.true)

pub all_sets-all-requires-else-card-eq2 : goal.all_sets-all-requires-else-card-eq2
all_sets-all-requires-else-card-eq2 c = ap (λ w. 2 * w) (set_first c.args.card.now.layout.edition c.if-card-eq2.false)

pub returns : goal.returns
returns c = c.known.ensures ∙ elim c.if-card-eq2.branch [
  | then-card-eq2 w ↦ ap (set_good c.args.card.now.layout.atoms) w.all-is ∙ w.all_sets-all.ensures
  | else-card-eq2 w ↦ ap (set_good c.args.card.now.layout.atoms) w.all-is ∙ w.all_sets-all-else-card-eq2.ensures
]
