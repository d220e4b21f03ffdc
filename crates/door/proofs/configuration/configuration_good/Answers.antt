use Rattle.meaning.specs.Refusals.{configuration_good, actions_good, both_good, all}
use lib.Dec.{leb, eqb}
use borrow.Author.Tests.{lt-leb, le-leb}
use mathlib.Core.Bool.{Bool, true, false, ◌&&◌, and-true, and-false}
use mathlib.Core.Path.{◌≡◌, refl, ap, ◌∙◌, sym}
use native.Mathlib.Omega.{arith}
use borrow.Author.Rules.{rules}
use lib.ListN.{length, take, drop}
use Rattle.door.proofs.configuration.configuration_good.Goals as goal

-- row 13's clauses in the order in which they are asked

regrouped : (known zeros sets phase : Bool) → (known && zeros) && (sets && phase) ≡ known && (sets && (phase && zeros))
regrouped false z s p = refl
regrouped true true s p = ap (λ x. s && x) (sym (and-true p))
regrouped true false s p = sym (ap (λ x. s && x) (and-false p) ∙ and-false s)

pub returns-then-longest_plan-n : goal.returns-then-longest_plan-n
unfolding configuration_good
returns-then-longest_plan-n c =
    let a = c.args in
    let d = a.plan.now in
    let r : length d ≡ 1024 = search rules in
    let e : leb a.m.length 1024 ≡ false = lt-leb a.m.length 1024 (omega arith) in record {
      value = rw e;
      plan_len = r;
    }

pub returns : goal.returns
unfolding configuration_good
returns c =
    let a = c.args in
    let d = a.plan.now in
    let r : length d ≡ 1024 = search rules in
    let e : leb a.m.length 1024 ≡ true = le-leb a.m.length 1024 (omega arith) in record {
      value = rw (e, c.plan_good-actions.ensures, c.both_known-atoms.ensures, regrouped (actions_good a.l.actions (take a.m.length d)) (all (λ x. eqb x 0) (drop a.m.length d)) (both_good a.l.atoms a.beliefs.now a.goals.now) (leb a.m.phase 2));
      plan_len = r;
    }
