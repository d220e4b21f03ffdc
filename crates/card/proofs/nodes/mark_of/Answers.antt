use Rattle.meaning.specs.Kinds.{NodeKind}
use Rattle.meaning.proofs.NodeKinds.{Leaf, is_true, is_belief, is_goal, leaf_kind}
use Rattle.card.specs.Marks.{mark_of}
use Rattle.card.proofs.Laws.{either_of}
use mathlib.Core.Path.{◌≡◌, refl}
use mathlib.Core.Logic.{⊎_elim}
use Prim.Native.Nat.{ℕ}
use native.Mathlib.Omega.{arith}
use Rattle.card.proofs.nodes.mark_of.Goals as goal

-- a node without children

own-mark : (first second : ℕ) {k : ℕ} {κ : NodeKind} → Leaf k κ → k ≡ mark_of κ first second
own-mark first second is_true = refl
own-mark first second is_belief = refl
own-mark first second is_goal = refl

pub returns-in-3 : goal.returns-in-3
returns-in-3 c = rw c.in-3.is

pub returns-in-0-to-2 : goal.returns-in-0-to-2
returns-in-0-to-2 c = own-mark _ _ (leaf_kind _ (omega arith))

pub returns-in_default : goal.returns-in_default
returns-in_default c = ⊎_elim (λ e. rw e) (λ e. rw e) (either_of 4 c.args.kind (omega arith) (omega arith))
