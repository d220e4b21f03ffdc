use Rattle.scan.proofs.Scanning.{failed, chained}
use Rattle.scan.specs.Scans.{select_line_to}
use Rattle.notation.specs.Words.{word}
use Rattle.notation.specs.Scanning.{rest, list_end, unit}
use Rattle.std.proofs.Common.{refl, ◌∙◌, arith}
use Rattle.scan.proofs.lines.scan_select.Goals as goal

pub returns-in_err-belief : goal.returns-in_err-belief
returns-in_err-belief c =
    failed c.args.text.now c.args.at select_line_to (λ k. k) c.from_residual.result _ c.from_residual.ensures.1
    (λ k. c.in_err-belief.ensures (word "goal ") (unit 0 (word "plan") (list_end k)))

pub returns-in_err-goal : goal.returns-in_err-goal
returns-in_err-goal c =
    failed c.args.text.now c.args.at select_line_to (λ k. k) c.from_residual-in_err-goal.result _ c.from_residual-in_err-goal.ensures.1
    (λ k. (c.in_ok-belief.ensures (word "goal ")).2 (unit 0 (word "plan") (list_end k)) ∙ c.in_err-goal.ensures (word "plan") (list_end k))

pub returns : goal.returns
returns c =
    chained c.args.text.now (λ k. rest (word " plan") (list_end k)) (λ k. k) c.in_ok-goal.goal c.args.at select_line_to (λ k. k) (λ k. k)
    (λ k. (c.in_ok-belief.ensures (word "goal ")).2 (unit 0 (word "plan") (list_end k)) ∙ (c.in_ok-goal.ensures (word "plan")).2 (list_end k))
    c.scan_word_end.result c.scan_word_end.ensures (let l0 = (c.in_ok-belief.ensures (word "goal ")).0 in let l1 = (c.in_ok-goal.ensures (word "plan")).0 in omega arith) (λ k. refl)

pub scan_word_condition-requires-2 : goal.scan_word_condition-requires-2
scan_word_condition-requires-2 c = (c.in_ok-belief.ensures (word "goal ")).1

pub scan_word_end-requires : goal.scan_word_end-requires
scan_word_end-requires c = (c.in_ok-goal.ensures (word "plan")).1
