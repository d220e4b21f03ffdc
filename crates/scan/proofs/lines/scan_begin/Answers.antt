use Rattle.scan.proofs.Scanning.{failed, chained}
use Rattle.scan.specs.Scans.{begin_line_to}
use Rattle.notation.specs.Words.{word}
use Rattle.notation.specs.Scanning.{rest, list, list_end}
use Rattle.std.proofs.Common.{refl, ◌∙◌, arith}
use Rattle.scan.proofs.lines.scan_begin.Goals as goal

pub returns-in_err-beliefs : goal.returns-in_err-beliefs
returns-in_err-beliefs c =
    failed c.args.text.now c.args.at begin_line_to (λ k. k) c.from_residual.result _ c.from_residual.ensures.1
    (λ k. c.in_err-beliefs.ensures 103 (word "oals") (list (word "plan") (list_end k)))

pub returns-in_err-goals : goal.returns-in_err-goals
returns-in_err-goals c =
    failed c.args.text.now c.args.at begin_line_to (λ k. k) c.from_residual-in_err-goals.result _ c.from_residual-in_err-goals.ensures.1
    (λ k. (c.in_ok-beliefs.ensures 103 (word "oals")).2 (list (word "plan") (list_end k)) ∙ c.in_err-goals.ensures 112 (word "lan") (list_end k))

pub returns : goal.returns
returns c =
    chained c.args.text.now (λ k. rest (word " plan") (list_end k)) (λ k. k) c.in_ok-goals.goals c.args.at begin_line_to (λ k. k) (λ k. k)
    (λ k. (c.in_ok-beliefs.ensures 103 (word "oals")).2 (list (word "plan") (list_end k)) ∙ (c.in_ok-goals.ensures 112 (word "lan")).2 (list_end k))
    c.scan_word_end.result c.scan_word_end.ensures (let l0 = (c.in_ok-beliefs.ensures 103 (word "oals")).0 in let l1 = (c.in_ok-goals.ensures 112 (word "lan")).0 in omega arith) (λ k. refl)

pub scan_word_list-requires-2 : goal.scan_word_list-requires-2
scan_word_list-requires-2 c = (c.in_ok-beliefs.ensures 103 (word "oals")).1

pub scan_word_end-requires : goal.scan_word_end-requires
scan_word_end-requires c = (c.in_ok-goals.ensures 112 (word "lan")).1
