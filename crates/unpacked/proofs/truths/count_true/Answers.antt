use mathlib.Core.Bool.{Bool, false}
use mathlib.Core.Path.{◌≡◌, refl, sym, ap, ◌∙◌}
use Prim.Native.Nat.{ℕ, ◌+◌}
use native.Mathlib.Omega.{arith}
use lib.ListN.{get_or}
use Rattle.runs.specs.Order.{numbers}
use Rattle.meaning.specs.Looking.{how_many}
use Rattle.unpacked.proofs.Values.{counted_yes, counted_no}
use Rattle.unpacked.proofs.truths.count_true.Goals as goal
use Rattle.unpacked.proofs.truths.count_true.Goals.{then-truths-k, else-truths-k}

pub loop-k-init : goal.loop-k-init
unfolding numbers
loop-k-init c = (omega arith, refl)

pub loop-k-preserved : goal.loop-k-preserved
loop-k-preserved c =
    let a = c.args in
    let l = c.loop-k in
    let t : ℕ → Bool = λ j. get_or a.truths j false in
    elim c.if-truths-k.branch [
      | then-truths-k w ↦ (omega arith, w.n-is ∙ ap (λ n. n + 1) l.invariant.1 ∙ sym (counted_yes t l.k w.if-truths-k.true))
      | else-truths-k w ↦ (omega arith, w.n-is ∙ l.invariant.1 ∙ sym (counted_no t l.k w.if-truths-k.false))
    ]

pub returns : goal.returns
returns c =
    let a = c.args in
    let l = c.loop-k in
    let e : l.k ≡ 256 = omega arith in
    l.invariant.1 ∙ ap (λ k. how_many (λ j. get_or a.truths j false) (numbers 0 k)) e
