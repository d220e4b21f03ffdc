use Rattle.scan.proofs.Conditions.{unit_open, unit_not}
use Rattle.scan.specs.Scans.{scan_from}
use Rattle.notation.specs.Scanning.{unit}
use Rattle.std.proofs.Common.{◌≡◌, ◌+◌, length, ap, sym, ◌∙◌, arith}
use Rattle.scan.proofs.condition.scan_opening.Goals as goal
use Rattle.scan.proofs.condition.scan_opening.Goals.{in-40, in-33}

pub loop-n-preserved : goal.loop-n-preserved
loop-n-preserved c =
    let i = c.loop-n.invariant in
    let a = i.0 in
    let b = i.2 in
    let t = c.loop-n-test.true in
    let T = c.args.text.now in
    elim c.match-text-n.branch [
      | in-40 q ↦ (let e = q.inside-is in omega arith, omega arith, let e = q.inside-is in omega arith, λ w k. i.3 w k ∙ unit_open T c.loop-n.n w k t q.in-40.is c.loop-n.inside ∙ ap (λ m. scan_from T (c.loop-n.n + 1) (unit m w k)) (sym q.inside-is))
      | in-33 q ↦ (omega arith, omega arith, let e = q.inside-is in omega arith, λ w k. i.3 w k ∙ unit_not T c.loop-n.n w k t q.in-33.is c.loop-n.inside ∙ ap (λ m. scan_from T (c.loop-n.n + 1) (unit m w k)) (sym q.inside-is))
    ]

pub returns-in_default : goal.returns-in_default
returns-in_default c = let i = c.loop-n.invariant in (i.0, i.1, i.2, (λ h. (omega arith, omega arith)), i.3)

pub returns : goal.returns
returns c =
    let i = c.loop-n.invariant in
    let a = i.0 in
    let b = i.1 in
    let d = i.2 in
    let t = c.loop-n-test.false in
    let e : c.loop-n.n ≡ length c.args.text.now = omega arith in
    (omega arith, omega arith, omega arith, (λ h. absurd (omega arith)), λ w k. i.3 w k ∙ ap (λ m. scan_from c.args.text.now m (unit c.loop-n.inside w k)) e)
