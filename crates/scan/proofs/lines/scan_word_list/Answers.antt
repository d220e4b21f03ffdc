use Rattle.scan.proofs.Scanning.{failed}
use Rattle.notation.specs.Scanning.{rest, list}
use mathlib.Core.List.{◌∷◌}
use Rattle.std.proofs.Common.{◌∙◌, arith}
use Rattle.scan.proofs.lines.scan_word_list.Goals as goal

pub returns-in_err-n : goal.returns-in_err-n
returns-in_err-n c x w =
    failed c.args.text.now c.args.at (λ k. rest c.args.word.now (list (x ∷ w) k)) (rest (32 ∷ (x ∷ w))) c.from_residual.result _ c.from_residual.ensures.1
    (λ k. c.in_err-n.ensures (list (x ∷ w) k))

pub returns : goal.returns
returns c x w =
    let p = c.in_ok-n.ensures in
    let l = c.scan_list.ensures in
    (let a = p.0 in let b = l.0 in omega arith, l.1, λ k. p.2 (list (x ∷ w) k) ∙ l.2 x w k)
