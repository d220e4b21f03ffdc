use Rattle.plain.proofs.Making.{revision_head, revision_room, revision_full, revision_made}
use mathlib.Core.Path.{refl}
use Prim.Native.Nat.{◌+◌, ◌-◌, ◌≤◌, ◌<◌}
use native.Mathlib.Omega.{arith}
use Rattle.plain.proofs.make.make_revision.Goals as goal

pub overflow_sub-len : goal.overflow_sub-len
overflow_sub-len c =
    let a = c.args in
    revision_head a.card.now.layout a.card.now.bytes.now a.u c.requires.0 a.i c.requires.1 a.e c.requires.2

pub returns-then-n-len-gt1024 : goal.returns-then-n-len-gt1024
returns-then-n-len-gt1024 c =
    let a = c.args in
    let long : 1024 < a.e.body.length + (a.u.standing.length - a.e.head.length) = omega arith in
    revision_full a.card.now.layout a.card.now.bytes.now a.u c.requires.0 a.i c.requires.1 a.e c.requires.2 long _ refl

pub copy_plan-after-requires : goal.copy_plan-after-requires
copy_plan-after-requires c =
    let a = c.args in
    let short : a.e.body.length + (a.u.standing.length - a.e.head.length) ≤ 1024 = omega arith in
    revision_room a.card.now.layout a.card.now.bytes.now a.u c.requires.0 a.i c.requires.1 a.e c.requires.2 short _ c.pool_at.ensures

pub overflow_sub-len-2 : goal.overflow_sub-len-2
overflow_sub-len-2 c =
    let a = c.args in
    revision_head a.card.now.layout a.card.now.bytes.now a.u c.requires.0 a.i c.requires.1 a.e c.requires.2

pub returns : goal.returns
returns c =
    let a = c.args in
    let short : a.e.body.length + (a.u.standing.length - a.e.head.length) ≤ 1024 = omega arith in
    revision_made a.card.now.layout a.card.now.bytes.now a.u c.requires.0 a.i c.requires.1 a.e c.requires.2 short _ c.pool_at.ensures _ c.copy_plan-after.ensures _ c.taken.ensures
