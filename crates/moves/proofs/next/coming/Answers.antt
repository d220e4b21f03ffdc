use Rattle.moves.proofs.Running.{chose}
use Rattle.moves.proofs.Telling.{number_lt, comes_full, comes_move, comes_rest}
use Rattle.meaning.specs.declared.Coming.{Coming}
use Rattle.layout.specs.PlaceParts.{configured}
use mathlib.Core.Path.{sym, ap, ◌∙◌}
use Rattle.moves.proofs.next.coming.Goals as goal

pub returns-in_default : goal.returns-in_default
returns-in_default c = λ σ γ j.
    let a = c.args in
    sym (comes_rest a.card.now.layout a.card.now.bytes.now (configured σ γ a.m a.plan.now) (c.in_default.ensures σ γ j))

pub code-code-requires : goal.code-code-requires
code-code-requires c =
    let a = c.args in
    let p = c.requires in
    let d = configured p.beliefs p.goals a.m a.plan.now in
    let k = chose a.card.now.layout a.card.now.bytes.now d _ (c.in-Some.ensures p.beliefs p.goals p.judged) in
    number_lt a.card.now.layout a.card.now.bytes.now d p.judged.ready c.in-Some.choice.kind c.in-Some.choice.number k.0

pub too_long-requires : goal.too_long-requires
too_long-requires c =
    let a = c.args in
    let p = c.requires in
    let k = chose a.card.now.layout a.card.now.bytes.now (configured p.beliefs p.goals a.m a.plan.now) _ (c.in-Some.ensures p.beliefs p.goals p.judged) in
    record { beliefs = p.beliefs; goals = p.goals; ready = p.judged.ready; may = k.0 }

pub returns-then-too_long : goal.returns-then-too_long
returns-then-too_long c = λ σ γ j.
    let a = c.args in
    let d = configured σ γ a.m a.plan.now in
    let e = c.in-Some.ensures σ γ j in
    let k = chose a.card.now.layout a.card.now.bytes.now d _ e in
    ap Coming.Full c.code-code.ensures ∙ sym (comes_full a.card.now.layout a.card.now.bytes.now d _ e (sym c.if-too_long.true ∙ c.too_long.ensures σ γ j.ready k.0))

pub returns-else-too_long : goal.returns-else-too_long
returns-else-too_long c = λ σ γ j.
    let a = c.args in
    let d = configured σ γ a.m a.plan.now in
    let e = c.in-Some.ensures σ γ j in
    let k = chose a.card.now.layout a.card.now.bytes.now d _ e in
    ap Coming.Move c.code-code.ensures ∙ sym (comes_move a.card.now.layout a.card.now.bytes.now d _ e k.0 (sym c.if-too_long.false ∙ c.too_long.ensures σ γ j.ready k.0))
