use lib.ListN.{drop}
use Rattle.deliberate.specs.declared.run.RanMoves.{RanMoves}
use Rattle.deliberate.specs.declared.made.AfterMove.{AfterMove}
use Rattle.deliberate.specs.Made.{MakesNext, stayed}
use Rattle.deliberate.proofs.Next.{kept_on, kept_off}
use Rattle.deliberate.specs.Ran.{RanTo}
use mathlib.Core.Path.{subst, ◌≡◌, sym}
use Rattle.meaning.specs.Configurations.{state_of}
use Rattle.layout.specs.PlaceParts.{configured}
use Rattle.deliberate.proofs.Deliberating.{outcome, is_spent, is_finished, is_stopped, is_on}
use Prim.Native.Nat.{◌<◌}
use native.Mathlib.Omega.{arith}
use Rattle.deliberate.proofs.run.run_moves.Goals as goal

pub returns-then-here-eq128 : goal.returns-then-here-eq128
returns-then-here-eq128 c =
    let a = c.args in
    let b = a.card.now.bytes.now in
    let p = a.program.now in
    let all = outcome a.card.now.layout b p a.budget (drop a.at.top a.stack.now) (state_of (configured a.beliefs.now a.goals.now a.at.standing a.plan.now)) in
    let l = c.loop-count in
    let d = configured l.beliefs l.goals l.here.standing l.plan in
    let e : l.here.top ≡ 128 = (let u = c.if-here-eq128.true in omega arith) in
    subst (λ (x : RanMoves). RanTo all x (configured l.beliefs l.goals x.standing l.plan) l.stack) (sym c.ended.ensures) (is_finished a.card.now.layout b p a.budget all d l.stack l.here.top l.count l.invariant.0 (omega arith) l.here.standing e)

pub loop-count-preserved : goal.loop-count-preserved
loop-count-preserved c =
    let a = c.args in
    let b = a.card.now.bytes.now in
    let p = a.program.now in
    let all = outcome a.card.now.layout b p a.budget (drop a.at.top a.stack.now) (state_of (configured a.beliefs.now a.goals.now a.at.standing a.plan.now)) in
    let l = c.loop-count in
    let d = configured l.beliefs l.goals l.here.standing l.plan in
    let low : l.here.top < 128 = (let w = l.invariant.0.remains.within in let u = c.if-here-eq128.false in omega arith) in
    let s = c.make_move-moved in
    let k = subst (λ (x : AfterMove). MakesNext a.card.now.layout b p d l.stack l.here.top x (configured s.new.beliefs s.new.goals s.result.standing s.new.plan) s.new.stack) (kept_on s.result l.here.top c.in-On.is) s.ensures in (
      is_on a.card.now.layout b p a.budget all d l.stack l.here.top l.count l.invariant.0 (omega arith) low s.result (configured s.new.beliefs s.new.goals s.result.standing s.new.plan) s.new.stack k c.requires.good c.in-On.is,
      c.refresh.ensures.1,
      λ h. k.keeps h c.refresh.new.marks c.refresh.ensures.0,
    )

pub returns-in_default : goal.returns-in_default
returns-in_default c =
    let a = c.args in
    let b = a.card.now.bytes.now in
    let p = a.program.now in
    let all = outcome a.card.now.layout b p a.budget (drop a.at.top a.stack.now) (state_of (configured a.beliefs.now a.goals.now a.at.standing a.plan.now)) in
    let l = c.loop-count in
    let d = configured l.beliefs l.goals l.here.standing l.plan in
    let low : l.here.top < 128 = (let w = l.invariant.0.remains.within in let u = c.if-here-eq128.false in omega arith) in
    let s = c.make_move-moved in
    let left = s.new.stack in
    let after = configured s.new.beliefs s.new.goals s.result.standing s.new.plan in
    let off = c.in_default.not-On in
    let x = stayed s.result.standing s.result.made l.here.top in
    let k = subst (λ (x : AfterMove). MakesNext a.card.now.layout b p d l.stack l.here.top x after left) (kept_off s.result l.here.top off) s.ensures in
    subst (λ (x : RanMoves). RanTo all x (configured s.new.beliefs s.new.goals x.standing s.new.plan) left) (sym c.ended-in_default.ensures)
    (subst (λ e. RanTo all (record { standing = s.result.standing; count = l.count; ending = e; top = l.here.top }) after left) (sym c.stopped.ensures)
    (is_stopped a.card.now.layout b p a.budget all d l.stack l.here.top l.count l.invariant.0 (omega arith) low x after left k s.result.standing off))

pub returns : goal.returns
returns c =
    let a = c.args in
    let b = a.card.now.bytes.now in
    let p = a.program.now in
    let all = outcome a.card.now.layout b p a.budget (drop a.at.top a.stack.now) (state_of (configured a.beliefs.now a.goals.now a.at.standing a.plan.now)) in
    let l = c.loop-count in
    let d = configured l.beliefs l.goals l.here.standing l.plan in
    let e : l.count ≡ a.budget = omega arith in
    let so = is_spent a.card.now.layout b p a.budget all d l.stack l.here.top l.count l.invariant.0 l.here.standing (omega arith) in
    subst (λ (x : RanMoves). RanTo all x (configured l.beliefs l.goals x.standing l.plan) l.stack) (sym c.ended-2.ensures) (rw e at so)
