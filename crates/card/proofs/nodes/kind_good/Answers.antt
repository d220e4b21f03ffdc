use Rattle.card.proofs.Laws.{either_of}
use mathlib.Core.Logic.{⊎_elim}
use Rattle.meaning.proofs.NodeKinds.{unknown_kind}
use native.Mathlib.Omega.{arith}
use Rattle.card.proofs.nodes.kind_good.Goals as goal

pub returns-in-0 : goal.returns-in-0
returns-in-0 c = rw c.in-0.is

pub returns-in-3 : goal.returns-in-3
returns-in-3 c = rw c.in-3.is

pub returns-in-1-to-2 : goal.returns-in-1-to-2
returns-in-1-to-2 c = ⊎_elim (λ e. rw e) (λ e. rw e) (either_of 1 c.args.x.kind (omega arith) (omega arith))

pub returns-in-4-to-5 : goal.returns-in-4-to-5
returns-in-4-to-5 c = ⊎_elim (λ e. rw e) (λ e. rw e) (either_of 4 c.args.x.kind (omega arith) (omega arith))

pub returns-in_default : goal.returns-in_default
returns-in_default c =
    rw (unknown_kind c.args.x.kind (omega arith))
