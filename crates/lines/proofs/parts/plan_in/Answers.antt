use Rattle.lines.proofs.Stepping.{lent_length, count_le, plan_steps}
use Rattle.std.specs.Prelude.{IfSome}
use mathlib.Core.Path.{subst, refl, sym}
use Prim.Native.Nat.{◌≤◌}
use native.Mathlib.Omega.{arith}
use Rattle.lines.proofs.parts.plan_in.Goals as goal

pub read_plan-plan-requires : goal.read_plan-plan-requires
read_plan-plan-requires c =
    (c.requires.0, (let r = c.requires.1.room in lent_length c.args.card.now 15936 8192 (omega arith)), subst (λ k. IfSome k (λ n. n ≤ 8192)) (sym c.count_in-k.ensures) (count_le c.args.m c.args.m.pool 8192 c.requires.1.bounded.pool))

pub returns : goal.returns
returns c =
    plan_steps c.args.text.now c.args.at c.args.m c.args.card.now c.requires.1 c.count_in-k.result c.read_plan-plan.new.pool _
    c.count_in-k.ensures c.read_plan-plan.result c.read_plan-plan.ensures c.with_pool.result c.with_pool.ensures refl
