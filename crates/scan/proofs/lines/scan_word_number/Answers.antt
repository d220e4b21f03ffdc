use Rattle.scan.proofs.Scanning.{failed, chained}
use Rattle.notation.specs.Scanning.{rest, number}
use Rattle.std.proofs.Common.{refl}
use Rattle.scan.proofs.lines.scan_word_number.Goals as goal

pub returns-in_err-n : goal.returns-in_err-n
returns-in_err-n c =
    failed c.args.text.now c.args.at (λ k. rest c.args.word.now (number k)) (λ k. k) c.from_residual.result _ c.from_residual.ensures.1 (λ k. c.in_err-n.ensures (number k))

pub returns : goal.returns
returns c =
    chained c.args.text.now number (λ k. k) c.in_ok-n.n c.args.at (λ k. rest c.args.word.now (number k)) (λ k. k) (λ k. k) (λ k. c.in_ok-n.ensures.2 (number k))
    c.scan_number.result c.scan_number.ensures.1 c.in_ok-n.ensures.0 (λ k. refl)
