use mathlib.Core.Path.{subst, ◌≡◌, refl, ap, ◌∙◌}
use mathlib.Core.Bool.{Bool, false}
use Prim.Native.Nat.{ℕ}
use native.Mathlib.Omega.{arith}
use lib.ListN.{length-set, length, get_or}
use Rattle.meaning.proofs.Widening.{at_zeros}
use Rattle.sets.specs.Sets.{Passing}
use Rattle.sets.proofs.Members.{passing_none, passing_yes, passing_no}
use Rattle.unpacked.proofs.Values.{packed_all, with_bytes}
use Rattle.unpacked.proofs.truths.pack_set.Goals as goal
use Rattle.unpacked.proofs.truths.pack_set.Goals.{then-truths-k, else-truths-k}

pub loop-k-init : goal.loop-k-init
loop-k-init c = (refl, λ i. (let e = at_zeros 32 i in omega arith), passing_none (λ j. get_or c.args.truths j false) 32)

pub loop-k-preserved : goal.loop-k-preserved
loop-k-preserved c =
    let a = c.args in
    let l = c.loop-k in
    let n = l.invariant.0 in
    let t : ℕ → Bool = λ j. get_or a.truths j false in
    elim c.if-truths-k.branch [
      | then-truths-k w ↦
          let q = w.s-is ∙ w.add_member.ensures in (
            ap length q ∙ length-set l.s _ _ ∙ n,
            rw q (with_bytes l.k l.s (omega arith) l.invariant.1),
            rw q (passing_yes t l.k l.s l.invariant.2 w.if-truths-k.true (omega arith)),
          )
      | else-truths-k w ↦ (
        ap length w.s-is ∙ n,
        rw w.s-is l.invariant.1,
        rw w.s-is (passing_no t l.k l.s l.invariant.2 w.if-truths-k.false),
      )
    ]

pub returns : goal.returns
returns c =
    let a = c.args in
    let l = c.loop-k in
    let e : l.k ≡ 256 = omega arith in
    packed_all 32 a.truths l.s (omega arith) l.invariant.0 l.invariant.1 (subst (λ k. Passing (λ j. get_or a.truths j false) k l.s) e l.invariant.2)
