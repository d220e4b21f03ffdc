use mathlib.Core.Path.{refl}
use native.Mathlib.Omega.{arith}
use lib.ListN.{length-set}
use Rattle.runs.specs.Kinds.{kind_number}
use Rattle.meaning.specs.Configurations.{state_of}
use Rattle.door.specs.Asking.{asked, choice_at}
use Rattle.layout.proofs.GoodLayout.{at_most_256}
use Rattle.unpacked.specs.Truths.{configuration_from}
use Rattle.plain.proofs.Asking.{asks_start, asks_turn, kind_asked}
use Rattle.plain.proofs.ask.ask_kind.Goals as goal

pub loop-number-init : goal.loop-number-init
loop-number-init c = (refl, asks_start _)

pub loop-number-preserved : goal.loop-number-preserved
loop-number-preserved c =
    let a = c.args in
    let l = c.loop-number in
    let m = at_most_256 a.card.now.layout a.card.now.bytes.now c.requires.ready.0.card.layout (kind_number a.kind) in (
      simp length-set l.invariant.0,
      asks_turn (λ i. asked a.card.now.layout a.card.now.bytes.now (state_of (configuration_from a.u.now)).mental (choice_at (kind_number a.kind) i)) l.number l.answers c.ask.result (omega arith) c.ask.ensures l.invariant.1,
    )

pub returns : goal.returns
returns c =
    let a = c.args in
    let l = c.loop-number in
    kind_asked a.card.now.layout a.card.now.bytes.now (configuration_from a.u.now) (kind_number a.kind) l.number (omega arith) l.answers l.invariant.1
