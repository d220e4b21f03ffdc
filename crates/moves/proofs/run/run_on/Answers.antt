use Rattle.door.specs.declared.in_place.RanInPlace.{RanInPlace}
use Rattle.door.specs.InPlace.{ran_with}
use Rattle.meaning.specs.Configurations.{state_of}
use Rattle.moves.proofs.Running.{running_spent, running_rest, running_full, running_moved}
use Rattle.layout.specs.PlaceParts.{configured}
use mathlib.Core.Path.{◌≡◌, ap, ◌∙◌, sym}
use mathlib.Core.Bool.{not}
use Rattle.paper.proofs.Relation.{false≢true}
use native.Mathlib.Omega.{arith}
use Rattle.moves.proofs.run.run_on.Goals as goal
use Rattle.moves.proofs.run.run_on.Goals.{in-Action, in_default}

pub loop-count-preserved : goal.loop-count-preserved
loop-count-preserved c =
    let a = c.args in
    let l = c.loop-count in
    let s = c.advance-s in
    let x = running_moved a.card.now.layout a.card.now.bytes.now a.budget (state_of (configured a.beliefs.now a.goals.now a.m a.plan.now)) (configured l.beliefs l.goals l.cur l.plan) l.count l.invariant.0 (omega arith) s.result.transition (configured s.new.beliefs s.new.goals s.result.standing s.new.plan) s.ensures _ c.in-Taken.is in (
      x.goes,
      c.refresh.ensures.1,
      λ h. (elim c.match-matches.branch [
        | in-Action w ↦ absurd (false≢true (ap not (sym w.matches-is) ∙ h))
        | in_default w ↦ x.keeps w.in_default.not-Action c.refresh.new.marks c.refresh.ensures.0
      ]),
    )

pub returns-in-Nothing : goal.returns-in-Nothing
returns-in-Nothing c =
    let a = c.args in
    let l = c.loop-count in
    let s = c.advance-s in
    ap (λ (x : RanInPlace). ran_with x s.new.beliefs s.new.goals s.new.plan) c.ended.ensures
    ∙ running_rest a.card.now.layout a.card.now.bytes.now a.budget (state_of (configured a.beliefs.now a.goals.now a.m a.plan.now)) (configured l.beliefs l.goals l.cur l.plan) l.count l.invariant.0 (omega arith) s.result.transition (configured s.new.beliefs s.new.goals s.result.standing s.new.plan) s.ensures c.in-Nothing.is

pub returns-in-Full : goal.returns-in-Full
returns-in-Full c =
    let a = c.args in
    let l = c.loop-count in
    let s = c.advance-s in
    ap (λ (x : RanInPlace). ran_with x s.new.beliefs s.new.goals s.new.plan) c.ended-in-Full.ensures
    ∙ running_full a.card.now.layout a.card.now.bytes.now a.budget (state_of (configured a.beliefs.now a.goals.now a.m a.plan.now)) (configured l.beliefs l.goals l.cur l.plan) l.count l.invariant.0 (omega arith) s.result.transition (configured s.new.beliefs s.new.goals s.result.standing s.new.plan) s.ensures c.in-Full.is

pub returns : goal.returns
returns c =
    let a = c.args in
    let l = c.loop-count in
    let e : l.count ≡ a.budget = omega arith in
    let so = running_spent a.card.now.layout a.card.now.bytes.now a.budget (state_of (configured a.beliefs.now a.goals.now a.m a.plan.now)) (configured l.beliefs l.goals l.cur l.plan) l.count l.invariant.0 (omega arith) in
    ap (λ (x : RanInPlace). ran_with x l.beliefs l.goals l.plan) c.ended-2.ensures ∙ (rw e at so)
