use Rattle.deliberation.specs.Kinds.{entry_kind}
use Rattle.choices.specs.Judged.{mark_at}
use Rattle.deliberate.specs.Made.{HoldsBy, by_plan, by_mark}
use mathlib.Core.Path.{◌≡◌, sym, ap, subst}
use native.Mathlib.Omega.{arith}
use Rattle.deliberate.proofs.made.holds.Goals as goal

pub returns-in-3 : goal.returns-in-3
returns-in-3 c = by_plan (ap entry_kind c.in-3.is)

pub returns-in_default : goal.returns-in_default
returns-in_default c =
    let h = c.requires in
    let e : c.args.e.kind ≡ 4 = omega arith in
    subst (HoldsBy c.args.e c.args.m.length (mark_at c.args.marks.now c.args.e.a).0) (sym c.is_true.ensures) (by_mark (ap entry_kind e))
