use Rattle.names.specs.Naming.{asked}
use Rattle.names.proofs.Naming.{own_sheet, other_sheet, ends_within, its_bytes, its_place}
use native.Mathlib.Omega.{arith}
use Rattle.names.proofs.name.name.Goals as goal

pub overflow_add-end : goal.overflow_add-end
overflow_add-end c = omega (arith, c.named-n.ensures.length_bound)

pub slice_bounds-result-end : goal.slice_bounds-result-end
slice_bounds-result-end c =
    let a = c.args in
    let q = asked a.shed.now a.master.now a.action in
    let n = c.named-n in
    ends_within a.card.now q n.result n.ensures.names a.shed.now (own_sheet a.card.now q n.result n.ensures.names a.shed.now a.master.now c.in-Shed.is)

pub returns-in-Shed : goal.returns-in-Shed
returns-in-Shed c =
    let a = c.args in
    let q = asked a.shed.now a.master.now a.action in
    let n = c.named-n in
    let h = c.in-Shed.is in record {
      result_value = its_bytes a.card.now q n.result n.ensures.names a.shed.now (own_sheet a.card.now q n.result n.ensures.names a.shed.now a.master.now h);
      ref_ptr_value = its_place a.card.now q n.result n.ensures.names a.shed.ref_ptr a.master.ref_ptr a.shed.ref_ptr (own_sheet a.card.now q n.result n.ensures.names a.shed.ref_ptr a.master.ref_ptr h);
    }

pub slice_bounds-result-end-in-Master : goal.slice_bounds-result-end-in-Master
slice_bounds-result-end-in-Master c =
    let a = c.args in
    let q = asked a.shed.now a.master.now a.action in
    let n = c.named-n in
    ends_within a.card.now q n.result n.ensures.names a.master.now (other_sheet a.card.now q n.result n.ensures.names a.shed.now a.master.now c.in-Master.is)

pub returns-in-Master : goal.returns-in-Master
returns-in-Master c =
    let a = c.args in
    let q = asked a.shed.now a.master.now a.action in
    let n = c.named-n in
    let h = c.in-Master.is in record {
      result_value = its_bytes a.card.now q n.result n.ensures.names a.master.now (other_sheet a.card.now q n.result n.ensures.names a.shed.now a.master.now h);
      ref_ptr_value = its_place a.card.now q n.result n.ensures.names a.shed.ref_ptr a.master.ref_ptr a.master.ref_ptr (other_sheet a.card.now q n.result n.ensures.names a.shed.ref_ptr a.master.ref_ptr h);
    }
