use native.Mathlib.Nat.{add-zero}
use Rattle.plans.proofs.Laws.{agree-more, last_block, block_differs, first_differs, too_long}
use Rattle.meaning.proofs.Parts.{length_part, part_at}
use Rattle.meaning.specs.Card.{part}
use borrow.Author.Tests.{ne_eqb}
use lib.Seq.{get_or-take, length-take-le}
use mathlib.Core.Path.{◌≡◌, refl, sym, ap, ◌∙◌}
use Prim.Native.Nat.{◌+◌, ◌-◌}
use native.Mathlib.Omega.{arith}
use lib.ListN.{length, get_or, take}
use Rattle.plans.proofs.starts_with.Goals as goal
use Rattle.plans.proofs.starts_with.Goals.{else-loop-i-test, then-loop-i-test+else-not-same_bytes+else-last-i-gt64}

pub returns-then-len-hlen : goal.returns-then-len-hlen
returns-then-len-hlen c =
    let a = c.args in
    let h = part a.card.now a.hstart a.hlen in
    let π = take a.len a.plan.now in
    let m : length h ≡ a.hlen = length_part a.card.now a.hstart a.hlen (omega arith) in
    let n : length π ≡ a.len = length-take-le a.len a.plan.now (omega arith) in
    sym (too_long h π (omega arith))

pub returns-then-card-hstart : goal.returns-then-card-hstart
returns-then-card-hstart c =
    let a = c.args in
    let b = a.card.now in
    let d = a.plan.now in
    let h = part b a.hstart a.hlen in
    let π = take a.len d in
    let m : length h ≡ a.hlen = length_part b a.hstart a.hlen (omega arith) in
    let n : length π ≡ a.len = length-take-le a.len d (omega arith) in
    let x : get_or h 0 0 ≡ get_or b a.hstart 0 = part_at b a.hstart a.hlen 0 (omega arith) ∙ ap (λ k. get_or b k 0) (add-zero a.hstart) in
    let y : get_or π 0 0 ≡ get_or d 0 0 = get_or-take a.len d 0 0 (omega arith) in
    sym (first_differs h π (omega arith) (omega arith) (rw (x, y) (ne_eqb _ _ c.if-card-hstart.true)))

pub returns-then-hlen-lt64 : goal.returns-then-hlen-lt64
returns-then-hlen-lt64 c =
    let a = c.args in
    let b = a.card.now in
    let d = a.plan.now in
    last_block b d a.hstart a.hlen a.len (omega arith) (omega arith) (omega arith) a.hstart 0 a.hlen 0 (omega arith) (omega arith) (omega arith) (λ j g. absurd (omega arith)) c.same_bytes.result c.same_bytes.ensures

pub loop-i-init : goal.loop-i-init
loop-i-init c = (omega arith, λ j g. absurd (omega arith))

pub returns-then-not-same_bytes : goal.returns-then-not-same_bytes
returns-then-not-same_bytes c =
    let a = c.args in
    let b = a.card.now in
    let d = a.plan.now in
    let l = c.loop-i in
    block_differs b d a.hstart a.hlen a.len (omega arith) (omega arith) (omega arith) (a.hstart + l.i) l.i 64 refl (omega arith) c.same_bytes-in-loop-i.result c.same_bytes-in-loop-i.ensures (c.if-not-same_bytes.true)

pub loop-i-preserved : goal.loop-i-preserved
loop-i-preserved c =
    let a = c.args in
    let b = a.card.now in
    let d = a.plan.now in
    let l = c.loop-i in
    (omega arith, agree-more b d a.hstart a.hlen a.len (omega arith) (omega arith) (omega arith) (a.hstart + l.i) l.i 64 l.i refl (omega arith) l.invariant.1 (sym c.same_bytes-in-loop-i.ensures ∙ c.if-not-same_bytes.false))

pub returns : goal.returns
returns c =
    let a = c.args in
    let b = a.card.now in
    let d = a.plan.now in
    let l = c.loop-i in
    elim c.loop-i-test.branch [
      | else-loop-i-test w ↦ last_block b d a.hstart a.hlen a.len (omega arith) (omega arith) (omega arith) (a.hstart + (a.hlen - 64)) (a.hlen - 64) 64 l.i refl (omega arith) (omega arith) l.invariant.1 c.same_bytes-2.result c.same_bytes-2.ensures
      | then-loop-i-test+else-not-same_bytes+else-last-i-gt64 w ↦
          let m = agree-more b d a.hstart a.hlen a.len (omega arith) (omega arith) (omega arith) (a.hstart + l.i) l.i 64 l.i refl (omega arith) l.invariant.1 (sym w.same_bytes-in-loop-i.ensures ∙ w.if-not-same_bytes.false) in
          last_block b d a.hstart a.hlen a.len (omega arith) (omega arith) (omega arith) (a.hstart + (a.hlen - 64)) (a.hlen - 64) 64 (l.i + 64) refl (omega arith) (omega arith) m c.same_bytes-2.result c.same_bytes-2.ensures
    ]
