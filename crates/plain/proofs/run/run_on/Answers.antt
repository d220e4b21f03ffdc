use mathlib.Core.Path.{◌≡◌, ap, ◌∙◌}
use native.Mathlib.Omega.{arith}
use Rattle.meaning.specs.Configurations.{state_of}
use Rattle.moves.proofs.Running.{running_spent, running_rest, running_full, running_moved}
use Rattle.unpacked.specs.Truths.{configuration_from}
use Rattle.plain.specs.declared.run.RunsTo.{RunsTo}
use Rattle.plain.specs.Calls.{ran_from}
use Rattle.plain.proofs.run.run_on.Goals as goal

pub loop-count-preserved : goal.loop-count-preserved
loop-count-preserved c =
    let a = c.args in
    let o = c.loop-count in
    let s = c.advance-made in
    (running_moved a.card.now.layout a.card.now.bytes.now a.budget (state_of (configuration_from a.u)) (configuration_from o.here) o.count o.invariant
    (omega arith) s.result.transition (configuration_from s.result.unpacked) s.ensures _ c.in-Taken.is).goes

pub returns-in-Nothing : goal.returns-in-Nothing
returns-in-Nothing c =
    let a = c.args in
    let o = c.loop-count in
    let s = c.advance-made in
    ap (λ (x : RunsTo). ran_from x) c.ended.ensures
    ∙ running_rest a.card.now.layout a.card.now.bytes.now a.budget (state_of (configuration_from a.u)) (configuration_from o.here) o.count o.invariant
    (omega arith) s.result.transition (configuration_from s.result.unpacked) s.ensures c.in-Nothing.is

pub returns-in-Full : goal.returns-in-Full
returns-in-Full c =
    let a = c.args in
    let o = c.loop-count in
    let s = c.advance-made in
    ap (λ (x : RunsTo). ran_from x) c.ended-in-Full.ensures
    ∙ running_full a.card.now.layout a.card.now.bytes.now a.budget (state_of (configuration_from a.u)) (configuration_from o.here) o.count o.invariant
    (omega arith) s.result.transition (configuration_from s.result.unpacked) s.ensures c.in-Full.is

pub returns : goal.returns
returns c =
    let a = c.args in
    let o = c.loop-count in
    let e : o.count ≡ a.budget = omega arith in
    let so = running_spent a.card.now.layout a.card.now.bytes.now a.budget (state_of (configuration_from a.u)) (configuration_from o.here) o.count o.invariant (omega arith) in
    ap (λ (x : RunsTo). ran_from x) c.ended-2.ensures ∙ (rw e at so)
