use Rattle.scan.proofs.Stages.{next_failed, next_on, next_none, next_over, next_wrong, atoms, action, a_wrong, do_stage, select_stage, do_wrong, select_wrong, revise, begin, both_wrong}
use Rattle.scan.specs.declared.lines.Stage.{Stage}
use Rattle.scan.specs.Scans.{start_of, do_line_to, select_line_to, revise_line_to, begin_line_to}
use Rattle.notation.specs.Words.{word}
use Rattle.notation.specs.Scanning.{lines, rest, number, end, remark, step}
use Rattle.std.proofs.Common.{refl, ◌∙◌, arith}
use Rattle.scan.proofs.lines.scan_line.Goals as goal

pub returns-in-10 : goal.returns-in-10
unfolding step
returns-in-10 c = (omega arith, omega arith, next_on c.args.text.now c.args.n c.args.stage c.requires 10 c.in-10.is (lines (start_of c.args.stage)) refl)

pub returns-in_err-scan_remark-in-35 : goal.returns-in_err-scan_remark-in-35
unfolding step
returns-in_err-scan_remark-in-35 c =
    let a = c.args in
    next_failed a.text.now a.n a.stage c.from_residual.result _ c.from_residual.ensures.1
    (next_on a.text.now a.n a.stage c.requires 35 c.in-35.is (remark (lines (start_of a.stage))) refl ∙ c.in_err-scan_remark-in-35.ensures (lines (start_of a.stage)))

pub returns-in_ok-scan_remark-in-35 : goal.returns-in_ok-scan_remark-in-35
unfolding step
returns-in_ok-scan_remark-in-35 c =
    let a = c.args in
    next_over a.text.now a.n a.stage c.requires 35 c.in-35.is remark a.stage refl _ c.in_ok-scan_remark-in-35.ensures

pub returns-in_default : goal.returns-in_default
returns-in_default c = next_wrong c.args.text.now c.args.n c.args.stage c.requires (omega arith) (omega arith) (omega arith) (omega arith) (omega arith) (omega arith) (omega arith)

pub returns-in_err-scan_number_line-in-First : goal.returns-in_err-scan_number_line-in-First
returns-in_err-scan_number_line-in-First c =
    let a = c.args in
    let f = c.from_residual-in_err-scan_number_line-in-First in
    next_failed a.text.now a.n a.stage f.result _ f.ensures.1
    (next_on a.text.now a.n a.stage c.requires 97 c.in-97.is _ (atoms a.stage c.in-First.is) ∙ c.in_err-scan_number_line-in-First.ensures (lines (start_of Stage.Actions)))

pub returns-in_ok-scan_number_line-in-First : goal.returns-in_ok-scan_number_line-in-First
returns-in_ok-scan_number_line-in-First c =
    let a = c.args in
    next_over a.text.now a.n a.stage c.requires 97 c.in-97.is (λ k. rest (word "toms ") (number (end k))) Stage.Actions (atoms a.stage c.in-First.is) _ c.in_ok-scan_number_line-in-First.ensures

pub returns-in_err-scan_number_line-in-Actions : goal.returns-in_err-scan_number_line-in-Actions
returns-in_err-scan_number_line-in-Actions c =
    let a = c.args in
    let f = c.from_residual-in_err-scan_number_line-in-Actions in
    next_failed a.text.now a.n a.stage f.result _ f.ensures.1
    (next_on a.text.now a.n a.stage c.requires 97 c.in-97.is _ (action a.stage c.in-Actions.is) ∙ c.in_err-scan_number_line-in-Actions.ensures (lines (start_of Stage.Actions)))

pub returns-in_ok-scan_number_line-in-Actions : goal.returns-in_ok-scan_number_line-in-Actions
returns-in_ok-scan_number_line-in-Actions c =
    let a = c.args in
    next_over a.text.now a.n a.stage c.requires 97 c.in-97.is (λ k. rest (word "ction ") (number (end k))) Stage.Actions (action a.stage c.in-Actions.is) _ c.in_ok-scan_number_line-in-Actions.ensures

pub returns-in_err-scan_do-in-Actions-stage : goal.returns-in_err-scan_do-in-Actions-stage
returns-in_err-scan_do-in-Actions-stage c =
    let a = c.args in
    let f = c.from_residual-in_err-scan_do-in-Actions-stage in
    next_failed a.text.now a.n a.stage f.result _ f.ensures.1
    (next_on a.text.now a.n a.stage c.requires 100 c.in-100.is _ (do_stage a.stage c.in-Actions-stage.is) ∙ c.in_err-scan_do-in-Actions-stage.ensures (lines (start_of Stage.Dos)))

pub returns-in_ok-scan_do-in-Actions-stage : goal.returns-in_ok-scan_do-in-Actions-stage
returns-in_ok-scan_do-in-Actions-stage c =
    let a = c.args in
    next_over a.text.now a.n a.stage c.requires 100 c.in-100.is do_line_to Stage.Dos (do_stage a.stage c.in-Actions-stage.is) _ c.in_ok-scan_do-in-Actions-stage.ensures

pub returns-in_err-scan_select-in-Actions-stage-2 : goal.returns-in_err-scan_select-in-Actions-stage-2
returns-in_err-scan_select-in-Actions-stage-2 c =
    let a = c.args in
    let f = c.from_residual-in_err-scan_select-in-Actions-stage-2 in
    next_failed a.text.now a.n a.stage f.result _ f.ensures.1
    (next_on a.text.now a.n a.stage c.requires 115 c.in-115.is _ (select_stage a.stage c.in-Actions-stage-2.is) ∙ c.in_err-scan_select-in-Actions-stage-2.ensures (lines (start_of Stage.Selects)))

pub returns-in_ok-scan_select-in-Actions-stage-2 : goal.returns-in_ok-scan_select-in-Actions-stage-2
returns-in_ok-scan_select-in-Actions-stage-2 c =
    let a = c.args in
    next_over a.text.now a.n a.stage c.requires 115 c.in-115.is select_line_to Stage.Selects (select_stage a.stage c.in-Actions-stage-2.is) _ c.in_ok-scan_select-in-Actions-stage-2.ensures

pub returns-in_err-scan_revise-in_default-stage-4 : goal.returns-in_err-scan_revise-in_default-stage-4
returns-in_err-scan_revise-in_default-stage-4 c =
    let a = c.args in
    let f = c.from_residual-in_err-scan_revise-in_default-stage-4 in
    next_failed a.text.now a.n a.stage f.result _ f.ensures.1
    (next_on a.text.now a.n a.stage c.requires 114 c.in-114.is _ (revise a.stage c.in_default-stage-4.not-First c.in_default-stage-4.not-Ending) ∙ c.in_err-scan_revise-in_default-stage-4.ensures (lines (start_of Stage.Revises)))

pub returns-in_ok-scan_revise-in_default-stage-4 : goal.returns-in_ok-scan_revise-in_default-stage-4
returns-in_ok-scan_revise-in_default-stage-4 c =
    let a = c.args in
    next_over a.text.now a.n a.stage c.requires 114 c.in-114.is revise_line_to Stage.Revises (revise a.stage c.in_default-stage-4.not-First c.in_default-stage-4.not-Ending) _ c.in_ok-scan_revise-in_default-stage-4.ensures

pub returns-in_err-scan_begin-in_default-stage-5 : goal.returns-in_err-scan_begin-in_default-stage-5
returns-in_err-scan_begin-in_default-stage-5 c =
    let a = c.args in
    let f = c.from_residual-in_err-scan_begin-in_default-stage-5 in
    next_failed a.text.now a.n a.stage f.result _ f.ensures.1
    (next_on a.text.now a.n a.stage c.requires 98 c.in-98.is _ (begin a.stage c.in_default-stage-5.not-First c.in_default-stage-5.not-Ending) ∙ c.in_err-scan_begin-in_default-stage-5.ensures (lines (start_of Stage.Ending)))

pub returns-in_ok-scan_begin-in_default-stage-5 : goal.returns-in_ok-scan_begin-in_default-stage-5
returns-in_ok-scan_begin-in_default-stage-5 c =
    let a = c.args in
    next_over a.text.now a.n a.stage c.requires 98 c.in-98.is begin_line_to Stage.Ending (begin a.stage c.in_default-stage-5.not-First c.in_default-stage-5.not-Ending) _ c.in_ok-scan_begin-in_default-stage-5.ensures

pub returns-in_default-stage : goal.returns-in_default-stage
returns-in_default-stage c = next_none c.args.text.now c.args.n c.args.stage c.requires 97 c.in-97.is (a_wrong c.args.stage c.in_default-stage.not-First c.in_default-stage.not-Actions)

pub returns-in_default-stage-2 : goal.returns-in_default-stage-2
returns-in_default-stage-2 c = next_none c.args.text.now c.args.n c.args.stage c.requires 100 c.in-100.is (do_wrong c.args.stage c.in_default-stage-2.not-Actions c.in_default-stage-2.not-Dos)

pub returns-in_default-stage-3 : goal.returns-in_default-stage-3
returns-in_default-stage-3 c = next_none c.args.text.now c.args.n c.args.stage c.requires 115 c.in-115.is (select_wrong c.args.stage c.in_default-stage-3.not-Actions c.in_default-stage-3.not-Dos c.in_default-stage-3.not-Selects)

pub returns-in-First-stage : goal.returns-in-First-stage
returns-in-First-stage c = next_none c.args.text.now c.args.n c.args.stage c.requires 114 c.in-114.is ((both_wrong c.args.stage c.in-First-stage.is).0)

pub returns-in-First-stage-2 : goal.returns-in-First-stage-2
returns-in-First-stage-2 c = next_none c.args.text.now c.args.n c.args.stage c.requires 98 c.in-98.is ((both_wrong c.args.stage c.in-First-stage-2.is).1)
