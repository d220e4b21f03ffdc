-- Goals are struck by the beliefs: what an action leaves, and what holds along every chain.
use mathlib.Core.Path.{◌≡◌, ap, ◌∙◌, sym}
use mathlib.Core.Bool.{true, false, not, ◌&&◌}
use mathlib.Core.List.{List}
use Prim.Native.Nat.{ℕ}
use borrow.Author.Tests.{not-true}
use Rattle.paper.specs.Atoms.{Atoms, ◌∈◌}
use Rattle.paper.specs.Language.{Agent, Config}
use Rattle.paper.specs.Transitions.{Choice, act, struck_by, σ', γ', Step, execute, apply_PS, apply_PR}
use Rattle.paper.proofs.Relation.{both}
use Rattle.paper.proofs.Sets.{∈-∖}
use Rattle.runs.specs.Run.{Chain, stay, ◌then◌}
use Rattle.runs.specs.Theorems.{NoneBelieved, GoalLaw}

-- ---- the goals that are left

module _ (σ γ : Atoms) (k : ℕ) where
  -- none of them is believed
  pub struck_unbelieved : k ∈ struck_by σ γ ≡ true → k ∈ σ ≡ false
  struck_unbelieved e = not-true (k ∈ σ) (both (k ∈ γ) (not (k ∈ σ)) (sym (∈-∖ k γ σ) ∙ e)).1

  -- and none is new
  pub struck_old : k ∈ γ ≡ false → k ∈ struck_by σ γ ≡ false
  struck_old e = ∈-∖ k γ σ ∙ ap (λ b. b && not (k ∈ σ)) e

-- ---- a transition

module _ {A : Agent} where
  acted : {c c' : Config} {n : ℕ} → Step A c (act n) c' → NoneBelieved c'
  unfolding γ'
  acted (execute {σ = σ} {γ = γ} {s = s} e p) k h = struck_unbelieved (σ' σ s) γ k h

  stepped : {c c' : Config} {k : Choice} → Step A c k c' → NoneBelieved c → NoneBelieved c'
  stepped (execute {π = π} e p) h = acted (execute {π = π} e p)
  stepped (apply_PS e p q) h = h
  stepped (apply_PR π e p) h = h

  kept_out : {c c' : Config} {j : Choice} → Step A c j c' → (k : ℕ) → k ∈ c.γ ≡ false → k ∈ c'.γ ≡ false
  unfolding γ'
  kept_out (execute {σ = σ} {γ = γ} {s = s} e p) k h = struck_old (σ' σ s) γ k h
  kept_out (apply_PS e p q) k h = h
  kept_out (apply_PR π e p) k h = h

  -- ---- a chain

  along : {c c' : Config} {ks : List Choice} → Chain A c ks c' → NoneBelieved c → NoneBelieved c'
  along stay h = h
  along (◌then◌ x r) h = along r (stepped x h)

  never_back : {c c' : Config} {ks : List Choice} → Chain A c ks c' → (k : ℕ) → k ∈ c.γ ≡ false → k ∈ c'.γ ≡ false
  never_back stay k h = h
  never_back (◌then◌ x r) k h = never_back r k (kept_out x k h)

pub goal_law : GoalLaw
goal_law A = record { after_action = acted; stays_so = along; never_back = never_back }
