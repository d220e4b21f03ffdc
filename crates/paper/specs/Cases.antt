-- Cases of 01 that need the paper's definitions alone.
use Rattle.std.specs.Prelude.{◌≡◌, true, false, [], ◌∷◌}
use Rattle.std.proofs.Math.Option.{none, some}
use Rattle.paper.specs.Language.{𝐁, 𝐆, ⊤, atom, Agent, Config, ⟨◌/◌/◌⟩}
use Rattle.paper.specs.Transitions.{◌⊨◌, revise}
use Rattle.paper.specs.Next.{next}

-- An agent with one revision: 3 0 becomes 1. Serves Cases.
unfoldable pub small : Agent
small = record { PS = []; PR = record { πₕ = 3 ∷ 0 ∷ []; β = ⊤; πb = 1 ∷ [] } ∷ []; AS = [] }

-- Atom 1 is believed (bit 1 of a byte is 2), atom 2 is a goal. Serves Cases.
unfoldable pub two : Config
two = ⟨ 2 ∷ [] / [] / 4 ∷ [] ⟩

-- What believes and has goal look at, and where a head is looked for. The cases marked P are meaning's PCases.
pub record Cases : Type 0 where
  -- 004, Definition 8: "⟨σ, π, γ⟩ ⊨_L_B B(p) ⇔ p ∈ σ": atom 1 is believed and no goal, atom 2 a goal and not believed.
  pub believes : (◌⊨◌ {L = 𝐁} two (atom 1) ≡ true) × (◌⊨◌ {L = 𝐁} two (atom 2) ≡ false)
  -- 004, Definition 8: "⟨σ, π, γ⟩ ⊨_L_G G(p) ⇔ p ∈ γ": the same atoms.
  pub has_goal : (◌⊨◌ {L = 𝐆} two (atom 1) ≡ false) × (◌⊨◌ {L = 𝐆} two (atom 2) ≡ true)
  -- 01, "Errors a weaver would meet": "Matching a head anywhere in the plan instead of at its front."
  pub not_inside : next small ⟨ [] / 1 ∷ 3 ∷ 0 ∷ [] / [] ⟩ (revise 0) ≡ none
  -- 01, "A configuration and its transitions", Revision: "The body takes the head's place; the rest stays."
  pub at_the_front : next small ⟨ [] / 3 ∷ 0 ∷ 2 ∷ [] / [] ⟩ (revise 0) ≡ some ⟨ [] / 1 ∷ 2 ∷ [] / [] ⟩
