use Rattle.names.specs.Sheets.{name_good}
use Rattle.names.proofs.Sheets.{not_every, name_falls, name_wrong, name_right, all_right, one_more}
use mathlib.Core.Path.{sym, ◌∙◌}
use Prim.Native.Nat.{◌-◌, ◌<◌}
use native.Mathlib.Omega.{arith}
use Rattle.names.proofs.sheet.names_good.Goals as goal

pub loop-i-init : goal.loop-i-init
loop-i-init c = let p = c.requires in (sym p.3, omega arith, λ j h l. absurd (omega arith))

pub returns-then-to-from : goal.returns-then-to-from
returns-then-to-from c =
    let a = c.args in
    let L = c.loop-i in
    let from = c.number_at-from in
    let t = c.loop-i-test.true in
    let h : 0 < L.i = omega (arith, t) in
    not_every (name_good a.least a.sheet.now) a.n (L.i - 1) (omega arith)
    (name_falls a.least a.sheet.now L.i from.result L.to h from.ensures.0 L.invariant.0 c.if-to-from.true)

pub loop-i-preserved : goal.loop-i-preserved
loop-i-preserved c =
    let a = c.args in
    let L = c.loop-i in
    let from = c.number_at-from in
    let t = c.loop-i-test.true in
    let h : 0 < L.i = omega (arith, t) in
    let good = name_right a.least a.sheet.now L.i from.result L.to h from.ensures.0 L.invariant.0 c.if-to-from.false (sym c.utf8_part.ensures ∙ c.if-not-utf8_part.false) in (
      from.ensures.0,
      omega (arith, L.invariant.1, c.if-to-from.false),
      one_more a.least a.n a.sheet.now L.i h good L.invariant.2,
    )

pub returns-then-not-utf8_part : goal.returns-then-not-utf8_part
returns-then-not-utf8_part c =
    let a = c.args in
    let L = c.loop-i in
    let from = c.number_at-from in
    let t = c.loop-i-test.true in
    let h : 0 < L.i = omega (arith, t) in
    not_every (name_good a.least a.sheet.now) a.n (L.i - 1) (omega arith)
    (name_wrong a.least a.sheet.now L.i from.result L.to h from.ensures.0 L.invariant.0 c.if-to-from.false (sym c.utf8_part.ensures ∙ c.if-not-utf8_part.true))

pub returns : goal.returns
returns c =
    let a = c.args in
    all_right a.least a.n a.sheet.now c.loop-i.i (omega arith) c.loop-i.invariant.2
