use Rattle.scan.proofs.Scanning.{failed, chained}
use Rattle.notation.specs.Scanning.{rest, number, end}
use Rattle.std.proofs.Common.{refl}
use Rattle.scan.proofs.lines.scan_number_line.Goals as goal

pub returns-in_err-n : goal.returns-in_err-n
returns-in_err-n c =
    failed c.args.text.now c.args.at (λ k. rest c.args.word.now (number (end k))) (λ k. k) c.from_residual.result _ c.from_residual.ensures.1 (λ k. c.in_err-n.ensures (end k))

pub returns : goal.returns
returns c =
    chained c.args.text.now end (λ k. k) c.in_ok-n.n c.args.at (λ k. rest c.args.word.now (number (end k))) (λ k. k) (λ k. k) (λ k. c.in_ok-n.ensures.2 (end k))
    c.scan_end.result c.scan_end.ensures c.in_ok-n.ensures.0 (λ k. refl)
