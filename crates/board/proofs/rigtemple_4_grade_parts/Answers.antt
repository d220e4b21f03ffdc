use Rattle.answers.proofs.Laws.{grades_narrow}
use mathlib.Core.Path.{subst, sym}
use Rattle.meaning.specs.Numbers.{verdict_rule}
use Rattle.meaning.specs.declared.Graded.{Graded}
use Prim.Native.Nat.{◌<◌}
use Rattle.board.proofs.rigtemple_4_grade_parts.Goals as goal

pub verdict_rule-requires : goal.verdict_rule-requires
verdict_rule-requires c = subst (λ (x : Graded). verdict_rule x.verdict < 65536) (sym c.grade-graded.ensures) (grades_narrow c.args.card.now)
