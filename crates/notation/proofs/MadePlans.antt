-- A plan's actions go behind the pool's.
use mathlib.Core.Path.{◌≡◌, refl}
use mathlib.Core.Bool.{Bool, true, ◌&&◌}
use mathlib.Core.List.{List, [], ◌∷◌, ◌++◌, append_assoc, append-nil}
use mathlib.Core.Option.{none, some}
use Prim.Native.Nat.{ℕ, ◌+◌, ◌≤◌}
use native.Mathlib.Omega.{arith}
use borrow.Author.Tests.{leb-true, le-leb}
use lib.Dec.{leb}
use lib.ListN.{length, length-append}
use Rattle.paper.specs.Next.{if}
use Rattle.paper.proofs.Relation.{both}
use Rattle.meaning.specs.Card.{Bytes}
use Rattle.meaning.specs.Refusals.{all}
use Rattle.meaning.proofs.Every.{both_true}
use Rattle.notation.specs.Making.{with_plan}
use Rattle.notation.proofs.MadeExactly.{Exactly, holds, exactly_as, exactly_if, exactly_when, exactly_added, exactly_equal, and_then, when_none}

abbrev pub actions_fit : List ℕ → Bool
actions_fit ns = all (λ a. leb a 255) ns

-- what a plan asks of a pool of p bytes
abbrev pub PlanFits : ℕ → List ℕ → Type 0
PlanFits p ns = (actions_fit ns ≡ true) × (p + length ns ≤ 8192)

pub plan_none : (ns : List ℕ) → with_plan ns none ≡ none
unfolding with_plan
plan_none [] = refl
plan_none (n ∷ ns) = rw (when_none (leb n 255)) (plan_none ns)

pub plan_exactly : (ns : List ℕ) (s : Bytes) → length s ≤ 8192 → Exactly (PlanFits (length s) ns) (s ++ ns) (with_plan ns (some s))
unfolding with_plan
plan_exactly [] s h = holds (refl, omega arith) (rw (append-nil s))
plan_exactly (n ∷ ns) s h =
    exactly_as (append_assoc s (n ∷ []) ns)
    (exactly_if
    (λ p. (both_true (leb n 255) (actions_fit ns) p.0.0 p.1.0, omega (arith, p.1.1, length-append s (n ∷ []))))
    (λ p.
    let ab : (leb n 255 ≡ true) × (actions_fit ns ≡ true) = both (leb n 255) (actions_fit ns) p.0 in
    ((ab.0, omega (arith, p.1)), (ab.1, omega (arith, p.1, length-append s (n ∷ [])))))
    (and_then (with_plan ns) (plan_none ns) (exactly_when (leb n 255) (λ _. exactly_added 8192 (n ∷ []) s))
    (λ p. plan_exactly ns (s ++ (n ∷ [])) (omega (arith, p.1, length-append s (n ∷ []))))))

-- as an equation
pub plan_made : (ns : List ℕ) (s : Bytes) → length s ≤ 8192
    → with_plan ns (some s) ≡ if (all (λ a. leb a 255) ns && leb (length s + length ns) 8192) (some (s ++ ns)) none
plan_made ns s h =
    exactly_equal (actions_fit ns && leb (length s + length ns) 8192)
    (exactly_if
    (λ p. both_true (actions_fit ns) (leb (length s + length ns) 8192) p.0 (le-leb (length s + length ns) 8192 p.1))
    (λ e. let ab : (actions_fit ns ≡ true) × (leb (length s + length ns) 8192 ≡ true) = both (actions_fit ns) (leb (length s + length ns) 8192) e in
    (ab.0, leb-true (length s + length ns) 8192 ab.1))
    (plan_exactly ns s h))
