use Rattle.names.proofs.Sheets.{span_none, span_is, span_rises}
use native.Mathlib.Omega.{arith}
use Rattle.names.proofs.sheet.name_span.Goals as goal

pub returns-then-sheet-eq0 : goal.returns-then-sheet-eq0
returns-then-sheet-eq0 c = record {
  value = span_none c.args.sheet.now c.args.action c.if-sheet-eq0.true;
  length_bound = omega arith;
}

pub two_bytes_at-from-requires : goal.two_bytes_at-from-requires
two_bytes_at-from-requires c = let p = c.requires.1 (omega arith) in omega (arith, p.0)

pub two_bytes_at-to-requires : goal.two_bytes_at-to-requires
two_bytes_at-to-requires c = let p = c.requires.1 (omega arith) in omega (arith, p.0)

pub overflow_sub-result : goal.overflow_sub-result
overflow_sub-result c =
    let a = c.args in
    let p = c.requires.1 (omega arith) in
    span_rises a.sheet.now a.action _ _ c.two_bytes_at-from.ensures.0 c.two_bytes_at-to.ensures.0 p.1

pub returns : goal.returns
returns c =
    let a = c.args in record {
      value = span_is a.sheet.now a.action _ _ c.two_bytes_at-from.ensures.0 c.two_bytes_at-to.ensures.0;
      length_bound = omega (arith, c.two_bytes_at-from.ensures.1, c.two_bytes_at-to.ensures.1);
    }
