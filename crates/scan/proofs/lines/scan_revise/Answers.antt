use Rattle.scan.proofs.Scanning.{failed, chained}
use Rattle.scan.specs.Scans.{revise_line_to}
use Rattle.notation.specs.Words.{word}
use Rattle.notation.specs.Scanning.{rest, list_end, unit}
use Rattle.std.proofs.Common.{refl, ◌∙◌, arith}
use Rattle.scan.proofs.lines.scan_revise.Goals as goal

pub returns-in_err-head : goal.returns-in_err-head
returns-in_err-head c =
    failed c.args.text.now c.args.at revise_line_to (λ k. k) c.from_residual.result _ c.from_residual.ensures.1
    (λ k. c.in_err-head.ensures 105 (word "f ") (unit 0 (word "to") (list_end k)))

pub returns-in_err-asked : goal.returns-in_err-asked
returns-in_err-asked c =
    failed c.args.text.now c.args.at revise_line_to (λ k. k) c.from_residual-in_err-asked.result _ c.from_residual-in_err-asked.ensures.1
    (λ k. (c.in_ok-head.ensures 105 (word "f ")).2 (unit 0 (word "to") (list_end k)) ∙ c.in_err-asked.ensures (word "to") (list_end k))

pub returns : goal.returns
returns c =
    chained c.args.text.now (λ k. rest (word " to") (list_end k)) (λ k. k) c.in_ok-asked.asked c.args.at revise_line_to (λ k. k) (λ k. k)
    (λ k. (c.in_ok-head.ensures 105 (word "f ")).2 (unit 0 (word "to") (list_end k)) ∙ (c.in_ok-asked.ensures (word "to")).2 (list_end k))
    c.scan_word_end.result c.scan_word_end.ensures (let l0 = (c.in_ok-head.ensures 105 (word "f ")).0 in let l1 = (c.in_ok-asked.ensures (word "to")).0 in omega arith) (λ k. refl)

pub scan_word_condition-requires : goal.scan_word_condition-requires
scan_word_condition-requires c = (c.in_ok-head.ensures 105 (word "f ")).1

pub scan_word_end-requires : goal.scan_word_end-requires
scan_word_end-requires c = (c.in_ok-asked.ensures (word "to")).1
