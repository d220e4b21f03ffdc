use mathlib.Core.Path.{refl}
use Rattle.verdict.proofs.Weights.{weighable}
use Rattle.verdict.proofs.grade.judge.Goals as goal

pub sum-requires : goal.sum-requires
sum-requires c =
    let a = c.args in
    (weighable a.card.now.layout a.card.now.bytes.now c.requires _ c.header_bytes.ensures.0, refl)

pub from_initial-requires : goal.from_initial-requires
from_initial-requires c = (c.requires, c.sum.ensures)
