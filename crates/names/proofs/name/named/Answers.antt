use Rattle.names.specs.Naming.{asked}
use Rattle.names.proofs.Naming.{empty_part, rows_refuse, rows_done, sheets_ready}
use mathlib.Core.Path.{sym, ◌∙◌}
use Rattle.names.proofs.name.named.Goals as goal

pub returns-in_default : goal.returns-in_default
returns-in_default c =
    let a = c.args in
    let j = c.judge-judged in record {
      names = c.refused_name.ensures ∙ rows_refuse a.card.now (asked a.shed.now a.master.now a.action) j.result j.ensures _ c.in_default.is;
      length_bound = empty_part _ _ c.refused_name.ensures;
    }

pub find-requires : goal.find-requires
find-requires c =
    let a = c.args in
    sheets_ready a.card.now (asked a.shed.now a.master.now a.action) (sym c.judge-judged.ensures ∙ c.in-Ok.is)

pub returns : goal.returns
returns c =
    let a = c.args in
    let j = c.judge-judged in record {
      names = c.find.ensures.value ∙ rows_done a.card.now (asked a.shed.now a.master.now a.action) j.result j.ensures c.in-Ok.is;
      length_bound = c.find.ensures.length_bound;
    }
