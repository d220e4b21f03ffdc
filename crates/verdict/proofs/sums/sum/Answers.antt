use lib.ListN.{length-set, length-replicate, get_or-replicate}
use Rattle.meaning.specs.Card.{part, weight}
use Rattle.runs.specs.Weight.{weigh}
use Rattle.sets.proofs.Loops.{below_turn}
use Rattle.verdict.proofs.Weights.{weigh_part, weigh_no_part, weighable_part, part_most}
use mathlib.Core.Path.{◌≡◌, refl, sym, ap, ◌∙◌}
use Prim.Native.Nat.{ℕ, ◌+◌, ◌*◌}
use native.Mathlib.Omega.{arith}
use Rattle.verdict.proofs.sums.sum.Goals as goal

pub loop-k-init : goal.loop-k-init
loop-k-init c =
    let a = c.args in
    let b = a.card.now in
    let e = c.requires.1 in
    (rw e (length-replicate {A = ℕ} 257 0), sym (weigh_no_part (weight b) b a.pool.offset 0 refl), λ j h. rw e (get_or-replicate {A = ℕ} 257 j 0 0 (omega arith) ∙ sym (weigh_no_part (weight b) b a.pool.offset (32 * j) (omega arith))))

pub part_weight-total-requires : goal.part_weight-total-requires
part_weight-total-requires c =
    let a = c.args in
    let l = c.loop-k in
    weighable_part a.card.now a.weights a.pool.offset a.pool.count c.requires.0 (32 * l.k) 32 (omega arith)

pub overflow_add-total : goal.overflow_add-total
overflow_add-total c =
    let a = c.args in
    let p = c.requires.0 in
    let l = c.loop-k in
    let b = a.card.now in
    let at = a.pool.offset in
    let e = l.invariant.1 in
    let m = part_most b a.weights a.pool.offset a.pool.count p at (32 * l.k) in
    let f = c.part_weight-total.ensures in
    let n = part_most b a.weights a.pool.offset a.pool.count p (at + 32 * l.k) 32 in
    omega arith

pub overflow_cast-sums : goal.overflow_cast-sums
overflow_cast-sums c =
    let a = c.args in
    let p = c.requires.0 in
    let l = c.loop-k in
    let b = a.card.now in
    let at = a.pool.offset in
    let e = l.invariant.1 in
    let m = part_most b a.weights a.pool.offset a.pool.count p at (32 * l.k) in
    let f = c.part_weight-total.ensures in
    let n = part_most b a.weights a.pool.offset a.pool.count p (at + 32 * l.k) 32 in
    omega arith

pub loop-k-preserved : goal.loop-k-preserved
loop-k-preserved c =
    let a = c.args in
    let p = c.requires.0 in
    let l = c.loop-k in
    let b = a.card.now in
    let at = a.pool.offset in
    let e = l.invariant.1 in
    let f = c.part_weight-total.ensures in
    let s = weigh_part (weight b) b at (32 * l.k) 32 in
    let n : 32 * l.k + 32 ≡ 32 * (l.k + 1) = omega arith in
    let t : weigh (weight b) (part b at (32 * l.k + 32)) ≡ weigh (weight b) (part b at (32 * (l.k + 1))) = ap (λ x. weigh (weight b) (part b at x)) n in
    let u : l.total + c.part_weight-total.result ≡ weigh (weight b) (part b at (32 * (l.k + 1))) = omega arith in (
      simp length-set l.invariant.0,
      u,
      below_turn (λ j. weigh (weight b) (part b at (32 * j))) l.sums (l.k + 1) (l.total + c.part_weight-total.result) 0 (let r = l.invariant.0 in let d = p.few in omega arith) l.invariant.2 u,
    )

pub returns : goal.returns
returns c =
    let l = c.loop-k in
    λ k h. l.invariant.2 k (omega arith)
