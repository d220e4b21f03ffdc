use mathlib.Core.Path.{refl, sym, ap, ◌∙◌, subst}
use native.Mathlib.Omega.{arith}
use Rattle.runs.specs.Order.{guide}
use Rattle.meaning.specs.Card.{agent_for}
use Rattle.meaning.specs.Configurations.{state_of}
use Rattle.layout.specs.Entries.{count_of}
use Rattle.door.proofs.First.{tried_more, found_in_turn, none_in_turn}
use Rattle.unpacked.specs.Truths.{configuration_from}
use Rattle.plain.specs.Asking.{AsksKind}
use Rattle.plain.proofs.choose.choose.Goals as goal

pub returns-in-Some : goal.returns-in-Some
unfolding guide state_of
returns-in-Some c =
    let a = c.args in
    let d = configuration_from a.u in
    let t = c.loop-turn in
    let L = a.card.now.layout in
    let b = a.card.now.bytes.now in
    let k = c.kind_of-kind.ensures in
    let e = c.in-Some.ensures L b d (c.count_of.ensures ∙ ap (count_of L) k) (subst (λ n. AsksKind L b d n c.ask_kind-answers.result) k c.ask_kind-answers.ensures) in
    found_in_turn (agent_for a.card.now.layout a.card.now.bytes.now) (state_of d).mental a.u.standing.phase t.turn (omega arith) t.invariant _ e _ refl

pub loop-turn-preserved : goal.loop-turn-preserved
loop-turn-preserved c =
    let a = c.args in
    let d = configuration_from a.u in
    let t = c.loop-turn in
    let L = a.card.now.layout in
    let b = a.card.now.bytes.now in
    let k = c.kind_of-kind.ensures in
    let e = c.in_default.ensures L b d (c.count_of.ensures ∙ ap (count_of L) k) (subst (λ n. AsksKind L b d n c.ask_kind-answers.result) k c.ask_kind-answers.ensures) in
    tried_more (agent_for a.card.now.layout a.card.now.bytes.now) (state_of d).mental a.u.standing.phase t.turn t.invariant (sym e)

pub returns : goal.returns
unfolding guide state_of
returns c =
    let a = c.args in
    none_in_turn (agent_for a.card.now.layout a.card.now.bytes.now) (state_of (configuration_from a.u)).mental a.u.standing.phase (λ k h. c.loop-turn.invariant k (omega arith))
