use Rattle.utf8.specs.Reading.{awaited}
use Rattle.utf8.proofs.Steps.{first_begun, first_not_begun}
use Rattle.utf8.proofs.FirstByte.{first_plain}
use mathlib.Core.Path.{sym, ◌∙◌}
use native.Mathlib.Omega.{arith}
use Rattle.utf8.proofs.behind_first.Goals as goal

pub returns-then-x-le127 : goal.returns-then-x-le127
returns-then-x-le127 c = sym (first_plain c.args.x (record { least = omega arith; most = c.if-x-le127.true }))

pub returns-then-begins : goal.returns-then-begins
returns-then-begins c =
    first_begun
    c.args.x _
    (sym c.begins.ensures ∙ c.if-begins.true)
    (λ j. awaited (c.tails_of.ensures j) (c.bound.ensures j) (c.bound-then-begins.ensures j))

pub returns-else-begins : goal.returns-else-begins
returns-else-begins c = first_not_begun c.args.x (sym c.begins.ensures ∙ c.if-begins.false)
