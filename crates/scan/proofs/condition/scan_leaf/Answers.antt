use Rattle.scan.proofs.Scanning.{chained}
use Rattle.scan.proofs.Conditions.{unit_short, unit_T, unit_number, unit_wrong}
use Rattle.notation.specs.Scanning.{number, unit, after}
use mathlib.Core.Path.{refl}
use Prim.Native.Nat.{◌+◌, ◌<◌}
use native.Mathlib.Omega.{arith}
use lib.ListN.{length}
use Rattle.scan.proofs.condition.scan_leaf.Goals as goal

pub returns-then-at-text : goal.returns-then-at-text
returns-then-at-text c = (omega arith, λ i w k. unit_short c.args.text.now c.args.at w k i c.if-at-text.true)

pub returns-in-84 : goal.returns-in-84
returns-in-84 c =
    let a = c.requires.at_in_bounds in
    let b = c.if-at-text.false in
    (omega arith, λ i w. (omega arith, omega arith, λ k. unit_T c.args.text.now c.args.at w k (omega arith) c.in-84.is i))

pub returns-in-66 : goal.returns-in-66
returns-in-66 c =
    let a = c.requires.at_in_bounds in
    let b = c.if-at-text.false in
    let T = c.args.text.now in
    let n = c.args.at in
    let r = c.scan_number in
    let e = r.ensures.0 in (
      omega arith,
      λ i w. chained T number (λ k. k) (n + 1) n (unit i w) (after i w) (after i w) (λ k. unit_number T n w k (omega arith) c.in-66.is i) r.result r.ensures.1 (omega arith) (λ k. refl),
    )

pub returns-in_default : goal.returns-in_default
returns-in_default c =
    let a = c.requires.at_in_bounds in
    let b = c.if-at-text.false in
    let T = c.args.text.now in
    let n = c.args.at in
    let h : n < length T = omega arith in
    let f = c.requires.fact h in
    (omega arith, λ i w k. unit_wrong T n w k h (omega arith) (grind arith) (grind arith) f.0 f.1 i)
