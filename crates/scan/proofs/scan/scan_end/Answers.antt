use Rattle.scan.proofs.Scanning.{end_short, end_over, end_hash, failed, chained}
use Rattle.notation.specs.Scanning.{end, remark}
use Rattle.std.proofs.Common.{refl, ◌∙◌, arith}
use Rattle.scan.proofs.scan.scan_end.Goals as goal

pub returns-then-at-text : goal.returns-then-at-text
returns-then-at-text c k = end_short c.args.text.now c.args.at k c.if-at-text.true

pub returns-then-text-at-eq10 : goal.returns-then-text-at-eq10
returns-then-text-at-eq10 c =
    let a = c.requires in
    let b = c.if-at-text.false in
    (omega arith, omega arith, λ k. end_over c.args.text.now c.args.at k (omega arith) c.if-text-at-eq10.true)

pub returns-in_err-n : goal.returns-in_err-n
returns-in_err-n c =
    let a = c.requires in
    let b = c.if-at-text.false in
    failed c.args.text.now c.args.at end (λ k. k) c.from_residual.result _ c.from_residual.ensures.1
    (λ k. end_hash c.args.text.now c.args.at k (omega arith) c.if-text-at-eq10.false ∙ c.in_err-n.ensures (remark k))

pub returns : goal.returns
returns c =
    let a = c.requires in
    let b = c.if-at-text.false in
    let w = c.in_ok-n.ensures in
    chained c.args.text.now remark (λ k. k) c.in_ok-n.n
    c.args.at end (λ k. k) (λ k. k) (λ k. end_hash c.args.text.now c.args.at k (omega arith) c.if-text-at-eq10.false ∙ w.2 (remark k))
    c.scan_remark.result c.scan_remark.ensures w.0 (λ k. refl)
