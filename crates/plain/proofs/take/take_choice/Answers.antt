use mathlib.Core.Path.{sym, ap, ap₂, ◌∙◌}
use Rattle.runs.specs.Step.{Reached, step_by}
use Rattle.meaning.specs.declared.Refusal.{Refusal}
use Rattle.meaning.specs.Why.{why_closed}
use Rattle.meaning.specs.Card.{agent_for}
use Rattle.meaning.specs.Configurations.{state_of}
use Rattle.meaning.specs.Calls.{choice, reply}
use Rattle.door.specs.Asking.{choice_of}
use Rattle.door.proofs.Told.{told_some, told_none, number_lt}
use Rattle.moves.specs.Steps.{answer_to, taken_by}
use Rattle.moves.proofs.Taking.{refused_none, refused_so, enabled_told, enabled_something, some_answer}
use Rattle.unpacked.specs.Truths.{configuration_from}
use Rattle.plain.proofs.take.take_choice.Goals as goal

pub returns-in_default : goal.returns-in_default
returns-in_default c =
    let a = c.args in
    refused_none a.card.now.layout a.card.now.bytes.now (configuration_from a.u) (choice a.code) (told_none (choice a.code) c.in_default.ensures)

pub ask_choice-requires : goal.ask_choice-requires
ask_choice-requires c = (c.requires.0, c.requires.1, number_lt c.args.code c.in-Some.choice c.in-Some.ensures)

pub returns-in_default-answer : goal.returns-in_default-answer
returns-in_default-answer c =
    let a = c.args in
    let d = configuration_from a.u in
    let k = choice_of c.in-Some.choice in
    let q = told_some (choice a.code) c.in-Some.choice c.in-Some.ensures in
    let answer = c.answer_asked-answer.ensures in
    ap (λ x. reply x d) answer ∙ refused_so a.card.now.layout a.card.now.bytes.now d (choice a.code) k q c.ask_choice.result _ c.ask_choice.ensures (sym answer ∙ c.in_default-answer.is)

pub make-made-requires : goal.make-made-requires
make-made-requires c =
    let a = c.args in
    let k = choice_of c.in-Some.choice in record {
      ready = c.requires;
      enabled = enabled_told a.card.now.layout a.card.now.bytes.now (state_of (configuration_from a.u)).mental k c.ask_choice.result c.ask_choice.ensures (sym c.answer_asked-answer.ensures ∙ c.in-Ok.is);
    }

pub returns : goal.returns
returns c =
    let a = c.args in
    let d = configuration_from a.u in
    let k = choice_of c.in-Some.choice in
    let q = told_some (choice a.code) c.in-Some.choice c.in-Some.ensures in
    let why = why_closed a.card.now.layout a.card.now.bytes.now (state_of d).mental (choice a.code) in
    let o = enabled_told a.card.now.layout a.card.now.bytes.now (state_of d).mental k c.ask_choice.result c.ask_choice.ensures (sym c.answer_asked-answer.ensures ∙ c.in-Ok.is) in
    let s = c.make-made.ensures in
    ap₂ reply (c.answer_made.ensures ∙ ap (answer_to Refusal.NoRule) s.0 ∙ some_answer Refusal.NoRule why _ (enabled_something a.card.now.layout a.card.now.bytes.now d k o)) s.1
    ∙ ap (λ (x : Reached). taken_by why x d) (sym (ap (step_by (agent_for a.card.now.layout a.card.now.bytes.now) (state_of d)) q))
