use Rattle.plain.proofs.Acting.{packed_struck, acted_by}
use Rattle.plain.proofs.Making.{action_room, action_made}
use Rattle.moves.proofs.Stepping.{specification_known}
use Rattle.unpacked.specs.Truths.{configuration_from}
use mir.Syntax.{w8}
use mir.Val.{Fits}
use mathlib.Core.Path.{◌≡◌}
use Prim.Native.Nat.{ℕ}
use borrow.Author.Rules.{rules}
use lib.ListN.{length, get_or}
use Rattle.plain.proofs.make.make_action.Goals as goal

pub specification-e-requires : goal.specification-e-requires
specification-e-requires c =
    let a = c.args in
    specification_known a.card.now.layout a.card.now.bytes.now (configuration_from a.u) c.requires.0 a.i c.requires.1

pub copy_plan-requires : goal.copy_plan-requires
copy_plan-requires c =
    let a = c.args in
    action_room a.card.now.layout a.card.now.bytes.now a.u c.requires.0 a.i c.requires.1

pub overflow_sub-len : goal.overflow_sub-len
overflow_sub-len c =
    let a = c.args in
    (action_room a.card.now.layout a.card.now.bytes.now a.u c.requires.0 a.i c.requires.1).1

pub returns : goal.returns
returns c =
    let a = c.args in
    let e = c.specification-e.result in
    let β = c.act_on-beliefs.result in
    let γ = c.strike.result in
    let add-bytes : (i : ℕ) → Fits w8 (get_or e.add i 0) = λ i. search rules in
    let del-bytes : (i : ℕ) → Fits w8 (get_or e.del i 0) = λ i. search rules in
    let acted-long : length β ≡ 256 = search rules in
    let believed =
    acted_by 32 a.u.beliefs _ _ β e.add e.del (search rules) acted-long
    (search rules) (λ i. (add-bytes i).fits) c.unpack_set.ensures
    (search rules) (λ i. (del-bytes i).fits) c.unpack_set-2.ensures c.act_on-beliefs.ensures in
    let wanted = packed_struck 32 γ (search rules) a.u.goals β (search rules) acted-long c.strike.ensures in
    action_made a.card.now.layout a.card.now.bytes.now a.u c.requires.0 a.i c.requires.1 e c.specification-e.ensures β γ believed wanted _ c.copy_plan.ensures _ c.taken.ensures
