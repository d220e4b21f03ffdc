use mathlib.Core.Path.{◌≡◌}
use lib.ListN.{length}
use Rattle.plain.proofs.Judging.{JudgedTo}
use Rattle.plain.proofs.judge.judge_all.Given as goal

abbrev pub invariant-loop-i : goal.invariant-loop-i
invariant-loop-i l = (length l.judged ≡ 256) × JudgedTo l.t.nodes l.u.beliefs l.u.goals l.fn.l.nodes.count l.judged l.i
