use Rattle.scan.proofs.Conditions.{unit_failed}
use mathlib.Core.List.{[]}
use Rattle.std.proofs.Common.{◌∙◌, arith}
use Rattle.scan.proofs.condition.scan_unit.Goals as goal

pub scan_closing-requires : goal.scan_closing-requires
scan_closing-requires c = (c.in_ok-n.ensures.1 c.scan_opening-opened.result.brackets []).1

pub returns-in_err-n : goal.returns-in_err-n
returns-in_err-n c =
    let o = c.scan_opening-opened in
    unit_failed c.args.text.now c.args.at c.args.brackets c.from_residual.result _ c.from_residual.ensures.1
    (λ w k. o.ensures.4 w k ∙ c.in_err-n.ensures.1 o.result.brackets w k)

pub returns : goal.returns
returns c =
    let o = c.scan_opening-opened.result in
    let e = c.scan_opening-opened.ensures in
    let n = c.in_ok-n.n in
    let d = c.scan_closing.ensures in
    let l = c.in_ok-n.ensures.0 in
    let e0 = e.0 in
    let e2 = e.2 in
    let d0 = d.0 in
    let d2 = d.2 in (
      omega arith,
      d.1,
      omega arith,
      d.3,
      λ w k. e.4 w k ∙ (c.in_ok-n.ensures.1 o.brackets w).2 k ∙ d.4 w k,
    )
