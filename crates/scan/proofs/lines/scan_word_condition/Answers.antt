use Rattle.scan.proofs.Scanning.{failed, chained}
use Rattle.notation.specs.Scanning.{rest, unit}
use mathlib.Core.List.{◌∷◌}
use Rattle.std.proofs.Common.{refl}
use Rattle.scan.proofs.lines.scan_word_condition.Goals as goal

pub returns-in_err-n : goal.returns-in_err-n
returns-in_err-n c w =
    failed c.args.text.now c.args.at (λ k. rest c.args.word.now (unit 0 w k)) (rest (32 ∷ w)) c.from_residual.result _ c.from_residual.ensures.1 (λ k. c.in_err-n.ensures (unit 0 w k))

pub returns : goal.returns
returns c w =
    chained c.args.text.now (unit 0 w) (rest (32 ∷ w)) c.in_ok-n.n c.args.at (λ k. rest c.args.word.now (unit 0 w k)) (rest (32 ∷ w)) (λ k. k) (λ k. c.in_ok-n.ensures.2 (unit 0 w k))
    c.scan_condition.result (c.scan_condition.ensures w) c.in_ok-n.ensures.0 (λ k. refl)
