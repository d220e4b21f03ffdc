use native.Mathlib.Omega.{arith}
use Rattle.runs.specs.declared.Kind.{Kind}
use Rattle.door.proofs.Told.{told_code, no_code}
use Rattle.plain.proofs.take.choice_by.Goals as goal
use Rattle.plain.proofs.take.choice_by.Goals.{in-0, in-1, in-2}

pub returns-in_default : goal.returns-in_default
returns-in_default c = no_code c.args.code (omega arith)

pub returns : goal.returns
returns c =
    elim c.match-code-div256.branch [
      | in-0 w ↦ rw w.kind-is (told_code c.args.code Kind.Selection w.in-0.is)
      | in-1 w ↦ rw w.kind-is (told_code c.args.code Kind.Action w.in-1.is)
      | in-2 w ↦ rw w.kind-is (told_code c.args.code Kind.Revision w.in-2.is)
    ]
