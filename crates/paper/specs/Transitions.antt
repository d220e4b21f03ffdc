-- The semantics of 3APL: Definitions 8 to 11 of 004, section 2.2, in its order and letters.
use Rattle.std.specs.Prelude.{◌≡◌, Bool, true, not, ◌&&◌, ◌||◌, List, [], ◌∷◌, ◌++◌, ℕ, T}
use Rattle.std.proofs.Math.Option.{some}
use Rattle.std.proofs.Math.ListN.{get_elem?}
use Rattle.paper.specs.Atoms.{Atoms, ◌∈◌, ◌∪◌, ◌∖◌}
use Rattle.paper.specs.Language.{Plan, Letter, 𝐁, 𝐆, Query, ⊤, atom, ¬', ◌∧'◌, ◌∨'◌, Specification, Selection, Revision, Agent, Config, ⟨◌/◌/◌⟩}

-- Where an atom is looked up. Serves ◌⊨◌: 004, section 2.2: "A formula B(p) is true in a configuration iff p is in the belief
-- base, and G(p) is true iff p is in the goal base."
abbrev pub base : Letter → Config → Atoms
base 𝐁 c = c.σ
base 𝐆 c = c.γ

infix 35 ◌⊨◌
-- 004, Definition 8: "⟨σ, π, γ⟩ ⊨_L_B B(p) ⇔ p ∈ σ" and "⟨σ, π, γ⟩ ⊨_L_G G(p) ⇔ p ∈ γ"; section 2.2: "The semantics of
-- negation, disjunction, and conjunction are defined in the obvious way". ⊤ is 01, "A configuration and its transitions":
-- "Conditions (004, Definitions 3 and 8): true".
unfoldable pub ◌⊨◌ : {L : Letter} → Config → Query L → Bool
c ⊨ ⊤ = true
◌⊨◌ {L} c (atom p) = p ∈ base L c
c ⊨ ¬' φ = not (c ⊨ φ)
c ⊨ (φ ∧' ψ) = (c ⊨ φ) && (c ⊨ ψ)
c ⊨ (φ ∨' ψ) = (c ⊨ φ) || (c ⊨ ψ)

-- 01, "A configuration and its transitions": "the kind (0 selection, 1 action, 2 revision) plus the number of the rule or
-- specification, from 0": what a transition takes.
pub data Choice : Type 0 where
  select act revise : ℕ → Choice

-- r stands in the list rs under the number n. Serves Step: 004, Definitions 9 to 11: "{β}a{Add, Del} ∈ AS", "β, κ ⇒ π ∈ PS" and
-- "πₕ | β ⇝ π_b ∈ PR".
abbrev pub Entry : {R : Type 0} → List R → ℕ → R → Type 0
Entry rs n r = get_elem? rs n ≡ some r

-- 004, Definition 9: "where σ' = (σ ∪ Add) \ Del"
unfoldable pub σ' : Atoms → Specification → Atoms
σ' σ s = (σ ∪ s.Add) ∖ s.Del

-- 02, Wish 5: "From now on goals are struck by the beliefs": of the goals γ those that are not in σ.
abbrev pub struck_by : Atoms → Atoms → Atoms
struck_by σ γ = γ ∖ σ

-- 02, Wish 5: "after an action the goals are those not believed", where 004, Definition 9 has "and γ' = γ \ Add": "This replaces
-- Definition 9's rule for goals in demand 2".
unfoldable pub γ' : Atoms → Atoms → Specification → Atoms
γ' σ γ s = struck_by (σ' σ s) γ

-- 004, section 2.2: "A transition is a transformation of one configuration into another and it corresponds to a single
-- computation step." It stands with the choice that is taken.
pub data Step (A : Agent) : Config → Choice → Config → Type 0 where
  -- 004, Definition 9 (action execution): from "{β}a{Add, Del} ∈ AS" and "⟨σ, a; π, γ⟩ ⊨_L_B β" follows
  -- "⟨σ, a; π, γ⟩ → ⟨σ', π, γ'⟩", with γ' as 02, Wish 5 has it.
  execute : {σ γ : Atoms} {π : Plan} {n : ℕ} {s : Specification}
      → Entry A.AS n s
      → T (⟨ σ / s.a ∷ π / γ ⟩ ⊨ s.β)
      → Step A ⟨ σ / s.a ∷ π / γ ⟩ (act n) ⟨ σ' σ s / π / γ' σ γ s ⟩
  -- 004, Definition 10 (plan selection rule application): from "β, κ ⇒ π ∈ PS", "⟨σ, ϵ, γ⟩ ⊨_L_B β" and "⟨σ, ϵ, γ⟩ ⊨_L_G κ"
  -- follows "⟨σ, ϵ, γ⟩ → ⟨σ, π, γ⟩".
  apply_PS : {σ γ : Atoms} {n : ℕ} {r : Selection}
      → Entry A.PS n r
      → T (⟨ σ / [] / γ ⟩ ⊨ r.β)
      → T (⟨ σ / [] / γ ⟩ ⊨ r.κ)
      → Step A ⟨ σ / [] / γ ⟩ (select n) ⟨ σ / r.π / γ ⟩
  -- 004, Definition 11 (plan revision rule application): from "πₕ | β ⇝ π_b ∈ PR" and "⟨σ, πₕ; π, γ⟩ ⊨_L_B β" follows
  -- "⟨σ, πₕ; π, γ⟩ → ⟨σ, π_b; π, γ⟩".
  apply_PR : {σ γ : Atoms} (π : Plan) {n : ℕ} {r : Revision}
      → Entry A.PR n r
      → T (⟨ σ / r.πₕ ++ π / γ ⟩ ⊨ r.β)
      → Step A ⟨ σ / r.πₕ ++ π / γ ⟩ (revise n) ⟨ σ / r.πb ++ π / γ ⟩
