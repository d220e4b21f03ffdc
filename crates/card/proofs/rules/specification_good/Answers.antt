use mathlib.Core.Bool.{and_assoc}
use Rattle.meaning.specs.Refusals.{condition_good, containing, specification_good}
use mathlib.Core.Path.{◌≡◌, ◌∙◌}
use Prim.Native.Nat.{◌<◌}
use native.Mathlib.Omega.{arith}
use Rattle.card.proofs.rules.specification_good.Goals as goal

pub returns : goal.returns
unfolding specification_good
returns c = λ b m.
    let a = c.args in
    let h : a.e.node < 256 = omega arith in
    let k : c.free_of.result ≡ condition_good a.l (containing 2 a.l b) a.e.node = c.free_of.ensures ∙ m a.e.node h in
    rw (c.byte_below.ensures, k) (simp and_assoc)
