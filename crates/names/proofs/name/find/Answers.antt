use Rattle.std.specs.Prelude.{Ok}
use Rattle.names.specs.declared.sheet.Sheet.{Sheet}
use Rattle.names.specs.Naming.{asked, named}
use Rattle.names.proofs.Naming.{found_own, found_other}
use mathlib.Core.Path.{ap, ◌∙◌}
use Rattle.names.proofs.name.find.Goals as goal

pub returns-then-own-gt0 : goal.returns-then-own-gt0
returns-then-own-gt0 c =
    let a = c.args in
    let own = c.name_span-own in record {
      value = found_own (asked a.shed.now a.master.now a.action) own.result own.ensures.value c.if-own-gt0.true;
      length_bound = own.ensures.length_bound;
    }

pub returns : goal.returns
returns c =
    let a = c.args in
    let own = c.name_span-own in
    let other = c.name_span-other in record {
      value = ap (named (Ok tt) Sheet.Master) other.ensures.value ∙ found_other (asked a.shed.now a.master.now a.action) own.result own.ensures.value c.if-own-gt0.false;
      length_bound = other.ensures.length_bound;
    }
