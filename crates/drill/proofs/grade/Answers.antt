use Rattle.answers.proofs.Laws.{grades_narrow}
use mathlib.Core.Path.{subst, sym}
use Rattle.meaning.specs.Numbers.{verdict_rule}
use Rattle.meaning.specs.declared.Graded.{Graded}
use Prim.Native.Nat.{◌<◌}
use Rattle.drill.proofs.grade.Goals as goal

pub verdict_rule-rule-requires : goal.verdict_rule-rule-requires
verdict_rule-rule-requires c = subst (λ (x : Graded). verdict_rule x.verdict < 65536) (sym c.grade-r.ensures) (grades_narrow c.args.card.now)
