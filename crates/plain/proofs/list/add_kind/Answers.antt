use mathlib.Core.Path.{◌≡◌, sym, ap, ◌∙◌}
use native.Mathlib.Omega.{arith}
use borrow.Author.Rules.{rules}
use Rattle.runs.specs.Kinds.{kind_number}
use lib.ListN.{length, get_or}
use Rattle.door.specs.declared.asked.Asked.{Asked}
use Rattle.listing.specs.Looking.{look_by}
use Rattle.plain.proofs.Asking.{read_inside}
use Rattle.plain.proofs.Listing.{added_none, added_yes, added_no}
use Rattle.plain.proofs.list.add_kind.Goals as goal
use Rattle.plain.proofs.list.add_kind.Goals.{then-is_enabled, else-is_enabled}

pub loop-number-init : goal.loop-number-init
loop-number-init c = let a = c.args in added_none a.answers (kind_number a.kind) a.before.count a.before.codes (search rules)

pub loop-number-preserved : goal.loop-number-preserved
loop-number-preserved c =
    let a = c.args in
    let l = c.loop-number in
    let h : length a.answers ≡ 256 = search rules in
    let e : (look_by (get_or a.answers l.number Asked.NoRule)).enabled ≡ c.is_enabled.result =
    ap (λ (x : Asked). (look_by x).enabled) (read_inside a.answers l.number Asked.NoRule Asked.Enabled (omega arith)) ∙ sym c.is_enabled.ensures in
    elim c.if-is_enabled.branch [
      | then-is_enabled w ↦ rw (w.codes-is, w.code_of.ensures, w.count-is) (added_yes a.answers (kind_number a.kind) a.before.count a.before.codes l.number l.codes l.count l.invariant (omega arith) c.requires (e ∙ w.if-is_enabled.true))
      | else-is_enabled w ↦ rw (w.codes-is, w.count-is) (added_no a.answers (kind_number a.kind) a.before.count a.before.codes l.number l.codes l.count l.invariant (omega arith) (e ∙ w.if-is_enabled.false))
    ]
