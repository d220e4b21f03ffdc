-- A node's kind by its number and its name.
use mathlib.Core.Path.{◌≡◌}
use mathlib.Core.List.{[], ◌∷◌}
use Prim.Native.Nat.{ℕ, zero, suc, ◌≤◌}
use native.Mathlib.Omega.{arith}
use lib.ListN.{get_or-eq_default}
use Rattle.meaning.specs.Kinds.{NodeKind, True, Believes, HasGoal, Not, And, Or, Unknown, node_kind}

-- the kinds without children
pub data Leaf : ℕ → NodeKind → Type 0 where
  is_true : Leaf 0 True
  is_belief : Leaf 1 Believes
  is_goal : Leaf 2 HasGoal

-- those with a child, or two
pub data Inner : ℕ → NodeKind → Type 0 where
  is_not : Inner 3 Not
  is_and : Inner 4 And
  is_or : Inner 5 Or

-- those that a good node has
pub data Known (k : ℕ) (κ : NodeKind) : Type 0 where
  leaf : Leaf k κ → Known k κ
  inner : Inner k κ → Known k κ

pub known_kind : (k : ℕ) → k ≤ 5 → Known k (node_kind k)
known_kind zero h = leaf is_true
known_kind (suc zero) h = leaf is_belief
known_kind (suc (suc zero)) h = leaf is_goal
known_kind (suc (suc (suc zero))) h = inner is_not
known_kind (suc (suc (suc (suc zero)))) h = inner is_and
known_kind (suc (suc (suc (suc (suc zero))))) h = inner is_or
known_kind (suc (suc (suc (suc (suc (suc k)))))) h = absurd (omega arith)

pub unknown_kind : (k : ℕ) → 6 ≤ k → node_kind k ≡ Unknown
unknown_kind k h = get_or-eq_default (True ∷ Believes ∷ HasGoal ∷ Not ∷ And ∷ Or ∷ []) Unknown h

pub leaf_low : {k : ℕ} {κ : NodeKind} → Leaf k κ → k ≤ 2
leaf_low is_true = omega arith
leaf_low is_belief = omega arith
leaf_low is_goal = omega arith

pub inner_high : {k : ℕ} {κ : NodeKind} → Inner k κ → (3 ≤ k) × (k ≤ 5)
inner_high is_not = (omega arith, omega arith)
inner_high is_and = (omega arith, omega arith)
inner_high is_or = (omega arith, omega arith)

pub leaf_kind : (k : ℕ) → k ≤ 2 → Leaf k (node_kind k)
leaf_kind k h = elim (known_kind k (omega arith)) [ leaf l ↦ l | inner i ↦ absurd (let z = inner_high i in omega arith) ]

pub inner_kind : (k : ℕ) → 3 ≤ k → k ≤ 5 → Inner k (node_kind k)
inner_kind k h m = elim (known_kind k m) [ leaf l ↦ absurd (let z = leaf_low l in omega arith) | inner i ↦ i ]
