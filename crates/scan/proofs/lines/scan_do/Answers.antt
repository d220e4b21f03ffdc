use Rattle.scan.proofs.Scanning.{failed, chained}
use Rattle.scan.specs.Scans.{do_line_to}
use Rattle.notation.specs.Words.{word}
use Rattle.notation.specs.Scanning.{rest, list, list_end, unit}
use Rattle.std.proofs.Common.{refl, ◌∙◌, arith}
use Rattle.scan.proofs.lines.scan_do.Goals as goal

pub returns-in_err-action : goal.returns-in_err-action
returns-in_err-action c =
    failed c.args.text.now c.args.at do_line_to (λ k. k) c.from_residual.result _ c.from_residual.ensures.1
    (λ k. c.in_err-action.ensures (rest (word " if ") (unit 0 (word "add") (list (word "del") (list_end k)))))

pub returns-in_err-asked : goal.returns-in_err-asked
returns-in_err-asked c =
    failed c.args.text.now c.args.at do_line_to (λ k. k) c.from_residual-in_err-asked.result _ c.from_residual-in_err-asked.ensures.1
    (λ k. c.in_ok-action.ensures.2 (rest (word " if ") (unit 0 (word "add") (list (word "del") (list_end k)))) ∙ c.in_err-asked.ensures (word "add") (list (word "del") (list_end k)))

pub returns-in_err-added : goal.returns-in_err-added
returns-in_err-added c =
    failed c.args.text.now c.args.at do_line_to (λ k. k) c.from_residual-in_err-added.result _ c.from_residual-in_err-added.ensures.1
    (λ k. c.in_ok-action.ensures.2 (rest (word " if ") (unit 0 (word "add") (list (word "del") (list_end k)))) ∙ (c.in_ok-asked.ensures (word "add")).2 (list (word "del") (list_end k)) ∙ c.in_err-added.ensures 100 (word "el") (list_end k))

pub returns : goal.returns
returns c =
    chained c.args.text.now (λ k. rest (word " del") (list_end k)) (λ k. k) c.in_ok-added.added c.args.at do_line_to (λ k. k) (λ k. k)
    (λ k. c.in_ok-action.ensures.2 (rest (word " if ") (unit 0 (word "add") (list (word "del") (list_end k)))) ∙ (c.in_ok-asked.ensures (word "add")).2 (list (word "del") (list_end k)) ∙ (c.in_ok-added.ensures 100 (word "el")).2 (list_end k))
    c.scan_word_end.result c.scan_word_end.ensures (let l0 = c.in_ok-action.ensures.0 in let l1 = (c.in_ok-asked.ensures (word "add")).0 in let l2 = (c.in_ok-added.ensures 100 (word "el")).0 in omega arith) (λ k. refl)

pub scan_word_list-requires : goal.scan_word_list-requires
scan_word_list-requires c = (c.in_ok-asked.ensures (word "add")).1

pub scan_word_end-requires : goal.scan_word_end-requires
scan_word_end-requires c = (c.in_ok-added.ensures 100 (word "el")).1
