use Rattle.sets.proofs.Loops.{kept_start, kept_turn, kept_all}
use Rattle.meaning.specs.Refusals.{within, weights_good}
use Rattle.meaning.specs.Card.{weight_at}
use mathlib.Core.Bool.{Bool}
use mathlib.Core.Path.{◌≡◌, ◌∙◌}
use Prim.Native.Nat.{ℕ}
use native.Mathlib.Omega.{arith}
use Rattle.card.proofs.contents.weights_good.Goals as goal

pub loop-a-init : goal.loop-a-init
loop-a-init c = kept_start _ _

pub loop-a-preserved : goal.loop-a-preserved
loop-a-preserved c =
    let a = c.args in
    let l = c.loop-a in
    let t : ℕ → Bool = λ i. within 1 1024 (weight_at a.card.now.layout a.card.now.bytes.now i) in
    let e : c.in_range-good.result ≡ t l.a = c.in_range-good.ensures ∙ (λ i. within 1 (c.heaviest_action.ensures i) (c.weight.ensures.0 i)) in
    rw e (kept_turn t a.card.now.layout.actions l.good l.a (omega arith) l.invariant)

pub returns : goal.returns
unfolding weights_good
returns c =
    let a = c.args in
    let l = c.loop-a in
    let t : ℕ → Bool = λ i. within 1 1024 (weight_at a.card.now.layout a.card.now.bytes.now i) in
    kept_all t a.card.now.layout.actions l.good l.a (omega arith) l.invariant
