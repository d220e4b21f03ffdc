-- The truth of a node, by that of its children.
use Rattle.std.specs.Prelude.{Bool, true, not, ◌&&◌, ◌||◌, ℕ}
use Rattle.paper.specs.Atoms.{Atoms, ◌∈◌}
use Rattle.meaning.specs.Kinds.{NodeKind, True, Believes, HasGoal, Not, And, Or, Unknown}

-- 01, "The card, edition 1": "Kind 0 true …; 1 believes a; 2 has goal a …; 3 not a …; 4 a and b; 5 a or b.", by the truth of
-- the children. An accepted card has no other kind.
abbrev pub truth_of : NodeKind → ℕ → ℕ → Atoms → Atoms → (ℕ → Bool) → Bool
truth_of True a b σ γ truth = true
truth_of Believes a b σ γ truth = a ∈ σ
truth_of HasGoal a b σ γ truth = a ∈ γ
truth_of Not a b σ γ truth = not (truth a)
truth_of And a b σ γ truth = truth a && truth b
truth_of Or a b σ γ truth = truth a || truth b
truth_of Unknown a b σ γ truth = true
