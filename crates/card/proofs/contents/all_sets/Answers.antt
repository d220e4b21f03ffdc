use Rattle.std.proofs.Common.{◌≡◌, ◌/◌, ◌∙◌, arith, ap₂}
use Rattle.paper.specs.Atoms.{◌∪◌}
use Rattle.meaning.specs.Sizes.{set_bytes}
use Rattle.card.proofs.AddDel.{joined_good}
use Rattle.card.proofs.contents.all_sets.Goals as goal

pub returns : goal.returns
returns g c =
    let a = c.args in
    let e : set_bytes a.card.now.layout ≡ g.row.N / 2 = omega arith in
    joined_good a.card.now.layout a.card.now.bytes.now (g.row.N / 2) _ _ _ _ e c.all_add_del-both.ensures
    (c.union-all.ensures ∙ ap₂ ◌∪◌ c.initial_beliefs.ensures c.initial_goals.ensures)
    c.add_bytes.ensures
    c.add_bytes-2.ensures
