use Rattle.scan.proofs.Conditions.{over_short, over_there, over_on}
use Rattle.scan.proofs.Scanning.{failed}
use Rattle.notation.specs.Scanning.{unit, rest}
use mathlib.Core.List.{◌∷◌}
use Rattle.scan.specs.Scans.{ConditionOver}
use mathlib.Core.Path.{refl, sym, ◌∙◌, subst}
use Prim.Native.Nat.{◌≤◌, ◌<◌}
use native.Mathlib.Omega.{arith}
use lib.ListN.{length}
use Rattle.scan.proofs.condition.scan_condition.Goals as goal

pub loop-unit-init : goal.loop-unit-init
loop-unit-init c = (omega arith, c.requires, omega arith, λ w k. refl)

pub returns-in_err-unit : goal.returns-in_err-unit
returns-in_err-unit c w =
    failed c.args.text.now c.args.at (unit 0 w) (rest (32 ∷ w)) c.from_residual.result _ c.from_residual.ensures.1
    (λ k. c.loop-unit.invariant.3 w k ∙ c.in_err-unit.ensures w k)

pub returns-then-unit-text : goal.returns-then-unit-text
returns-then-unit-text c =
    let T = c.args.text.now in
    let u = c.in_ok-unit.ensures in
    let l0 = c.loop-unit.invariant.0 in
    let u0 = u.0 in
    let r = c.in_ok-unit.unit in
    let l : c.args.at ≤ r.at = omega arith in
    subst (ConditionOver T c.args.at) (sym c.behind_last.ensures)
    (over_short T c.args.at r.at r.brackets l u.1 (λ w k. c.loop-unit.invariant.3 w k ∙ u.4 w k) c.if-unit-text.true)

pub loop-unit-smaller : goal.loop-unit-smaller
loop-unit-smaller c =
    let u = c.in_ok-unit.ensures in
    let a = u.0 in
    let b = u.1 in
    let e = c.if-unit-text.false in
    omega arith

pub loop-unit-preserved : goal.loop-unit-preserved
loop-unit-preserved c =
    let T = c.args.text.now in
    let u = c.in_ok-unit.ensures in
    let l0 = c.loop-unit.invariant.0 in
    let u0 = u.0 in
    let r = c.in_ok-unit.unit in
    let l : c.args.at ≤ r.at = omega arith in
    let a = u.1 in
    let b = u.2 in
    let e = c.if-unit-text.false in
    (omega arith, omega arith, omega arith, over_on T c.args.at r.at r.brackets l u.1 (λ w k. c.loop-unit.invariant.3 w k ∙ u.4 w k) (omega arith) (sym c.is_operator.ensures ∙ c.if-not-is_operator.false))

pub returns-then-not-is_operator : goal.returns-then-not-is_operator
returns-then-not-is_operator c =
    let T = c.args.text.now in
    let u = c.in_ok-unit.ensures in
    let l0 = c.loop-unit.invariant.0 in
    let u0 = u.0 in
    let r = c.in_ok-unit.unit in
    let l : c.args.at ≤ r.at = omega arith in
    let a = u.1 in
    let e = c.if-unit-text.false in
    let h : r.at < length T = omega arith in
    subst (ConditionOver T c.args.at) (sym c.behind_last-then-not-is_operator.ensures)
    (over_there T c.args.at r.at r.brackets l u.1 (λ w k. c.loop-unit.invariant.3 w k ∙ u.4 w k) h (sym c.is_operator.ensures ∙ c.if-not-is_operator.true) (u.3 h))
