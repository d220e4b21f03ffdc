use mathlib.Core.Path.{ap₂, ◌∙◌}
use Prim.Native.Nat.{◌+◌}
use native.Mathlib.Omega.{arith}
use Rattle.unpacked.specs.Truths.{configuration_from}
use Rattle.plain.proofs.Listing.{judged_bare, judged_planned}
use Rattle.plain.proofs.list.conditions_judged.Goals as goal

pub returns-then-u-eq0 : goal.returns-then-u-eq0
returns-then-u-eq0 c =
    let a = c.args in
    let r = c.judged_selecting.ensures in
    (r.0 ∙ judged_bare a.card.now.layout a.card.now.bytes.now (configuration_from a.u) c.requires.ready.0 a.t c.requires.ready.1 a.judged c.requires.judged_all c.if-u-eq0.true, r.1)

pub returns : goal.returns
returns c =
    let a = c.args in
    let ks = c.ask_kind-specifications in
    let rs = c.ask_kind-revisions in
    let one = c.judged_otherwise.ensures in
    let two = c.judged_otherwise-2.ensures in
    let e = one.1 in
    let f = two.1 in (
      ap₂ ◌+◌ one.0 two.0
          ∙ judged_planned a.card.now.layout a.card.now.bytes.now (configuration_from a.u) c.requires.ready.0 c.if-u-eq0.false
          ks.result rs.result ks.ensures rs.ensures,
      omega (arith, e, f),
    )
