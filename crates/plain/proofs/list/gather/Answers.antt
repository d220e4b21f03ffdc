use native.Mathlib.Omega.{arith}
use Rattle.unpacked.specs.Truths.{configuration_from}
use Rattle.plain.proofs.Listing.{three_kinds}
use Rattle.plain.proofs.list.gather.Goals as goal

pub returns : goal.returns
returns c =
    let a = c.args in
    let ss = c.ask_kind in
    let ks = c.ask_kind-2 in
    let rs = c.ask_kind-3 in
    let one = c.add_kind-one.ensures in
    let two = c.add_kind-two.ensures in
    let three = c.add_kind.ensures in
    let e = one.count_bound in
    let f = two.count_bound in
    let g = three.count_bound in record {
      codes_value = three_kinds a.card.now.layout a.card.now.bytes.now (configuration_from a.u) c.requires.ready.0
          ss.result ks.result rs.result ss.ensures ks.ensures rs.ensures _ _ _ one.codes_value two.codes_value three.codes_value;
      count_bound = omega (arith, e, f, g);
    }
