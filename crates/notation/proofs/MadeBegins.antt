-- What the begin line adds to a card in the making.
use mathlib.Core.Path.{◌≡◌, refl}
use mathlib.Core.Bool.{Bool, true, ◌&&◌}
use mathlib.Core.List.{◌++◌}
use mathlib.Core.Option.{some}
use Prim.Native.Nat.{ℕ, ◌-◌, ◌≤◌}
use lib.ListN.{length}
use Rattle.meaning.specs.Card.{Bytes}
use Rattle.notation.specs.Lines.{Begin}
use Rattle.notation.specs.Built.{set_of}
use Rattle.notation.specs.Making.{Sections, put_pool, put_start, bind, when, pool_size, set_fits, plan_in, begin_in}
use Rattle.notation.proofs.MadeExactly.{Exactly, holds, exactly_as, exactly_if, exactly_when, and_then, when_none}
use Rattle.notation.proofs.MadePlans.{PlanFits}
use Rattle.notation.proofs.MadeSections.{plan_in_lem, added_length}

-- what the line asks of a card that has p bytes in the pool
abbrev pub BeginFits : ℕ → Begin → Type 0
BeginFits p b = PlanFits p b.plan × (set_fits b.beliefs && set_fits b.goals ≡ true)

abbrev pub begin_made : Begin → Sections → Sections
begin_made b m = put_start (put_pool m (m.pool ++ b.plan)) (set_of b.beliefs ++ set_of b.goals) (length m.pool) (length b.plan)

pub begin_exactly : (b : Begin) (m : Sections) → length m.pool ≤ 8192
    → Exactly (BeginFits (length m.pool) b) (begin_made b m) (begin_in b (some m))
unfolding begin_in plan_in
begin_exactly b m l =
    let sets : Bytes = set_of b.beliefs ++ set_of b.goals in
    let fits : Bool = set_fits b.beliefs && set_fits b.goals in
    let m₁ : Sections = put_pool m (m.pool ++ b.plan) in
    let m₂ : Sections = put_start m₁ sets (length m.pool) (length (m.pool ++ b.plan) - length m.pool) in
    let same : m₂ ≡ begin_made b m = rw (added_length m.pool b.plan) in
    let one : Exactly (Unit {0}) m₂ (some m₂) = holds tt refl in
    exactly_as same
    (exactly_if (λ p. (p.0, p.1.0)) (λ p. (p.0, (p.1, tt)))
    (and_then (λ p. when fits (bind p (λ n. some (put_start n sets (length m.pool) (pool_size p - length m.pool))))) (when_none fits)
    (plan_in_lem b.plan m l)
    (λ _. exactly_when fits (λ _. one))))
