use Rattle.scan.proofs.Scanning.{failed, chained}
use Rattle.notation.specs.Scanning.{rest, list_end, end}
use Rattle.std.proofs.Common.{refl, ◌∙◌, arith}
use Rattle.scan.proofs.lines.scan_word_end.Goals as goal

pub returns-in_err-n : goal.returns-in_err-n
returns-in_err-n c =
    failed c.args.text.now c.args.at (λ k. rest c.args.word.now (list_end k)) (λ k. k) c.from_residual.result _ c.from_residual.ensures.1
    (λ k. c.in_err-n.ensures (list_end k))

pub returns : goal.returns
returns c =
    let p = c.in_ok-n.ensures in
    let l = c.scan_list.ensures in
    chained c.args.text.now end (λ k. k) c.scan_list.result c.args.at (λ k. rest c.args.word.now (list_end k)) (λ k. k) (λ k. k)
    (λ k. p.2 (list_end k) ∙ l.3 k) c.scan_end.result c.scan_end.ensures (let a = p.0 in let b = l.0 in omega arith) (λ k. refl)
