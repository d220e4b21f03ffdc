use Rattle.layout.proofs.Copying.{copy_set}
use Rattle.meaning.specs.Card.{part, widened}
use Rattle.meaning.proofs.Widening.{set_second, set_first}
use mathlib.Core.Path.{sym, ap, ◌∙◌}
use native.Mathlib.Omega.{arith}
use Rattle.layout.proofs.bytes.set_at.Goals as goal

pub copy-requires : goal.copy-requires
copy-requires c = let e = set_second _ c.if-edition-eq2.true in (omega arith, omega arith)

pub returns-then-edition-eq2 : goal.returns-then-edition-eq2
returns-then-edition-eq2 c =
    let e = set_second _ c.if-edition-eq2.true in
    c.copy.ensures
    ∙ copy_set c.args.bytes.now c.args.at 32 (omega arith)
    ∙ ap (λ n. widened (part c.args.bytes.now c.args.at n)) (sym e)

pub copy-requires-else-edition-eq2 : goal.copy-requires-else-edition-eq2
copy-requires-else-edition-eq2 c = let e = set_first _ c.if-edition-eq2.false in (omega arith, omega arith)

pub returns-else-edition-eq2 : goal.returns-else-edition-eq2
returns-else-edition-eq2 c =
    let e = set_first _ c.if-edition-eq2.false in
    c.copy-else-edition-eq2.ensures
    ∙ copy_set c.args.bytes.now c.args.at 16 (omega arith)
    ∙ ap (λ n. widened (part c.args.bytes.now c.args.at n)) (sym e)
