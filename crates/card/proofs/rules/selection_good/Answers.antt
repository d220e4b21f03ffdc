use mathlib.Core.Bool.{and_assoc}
use Rattle.meaning.specs.Refusals.{condition_good, containing, selection_good}
use mathlib.Core.Path.{◌≡◌, ◌∙◌}
use Prim.Native.Nat.{◌<◌}
use native.Mathlib.Omega.{arith}
use Rattle.card.proofs.rules.selection_good.Goals as goal

pub returns : goal.returns
unfolding selection_good
returns c = λ b m n.
    let a = c.args in
    let h : a.e.belief < 256 = omega arith in
    let k : a.e.goal < 256 = omega arith in
    let e1 : c.free_of.result ≡ condition_good a.l (containing 2 a.l b) a.e.belief = c.free_of.ensures ∙ n a.e.belief h in
    let e2 : c.free_of-2.result ≡ condition_good a.l (containing 1 a.l b) a.e.goal = c.free_of-2.ensures ∙ m a.e.goal k in
    rw (e1, e2, c.span_good.ensures) (simp and_assoc)
