-- How much the list looks at (02, Wish 11): how many conditions one listing judges, over the paper's rules, and how many goals
-- are open.
use Rattle.std.specs.Prelude.{◌≡◌, Bool, List, [], ◌∷◌, ℕ, ◌+◌, ◌*◌, ◌≤◌, length}
use Rattle.paper.specs.Atoms.{Atoms, ◌∈◌}
use Rattle.paper.specs.Language.{BasicAction, Plan, Selection, Agent, Config, ⟨◌/◌/◌⟩}
use Rattle.paper.specs.Transitions.{◌⊨◌}
use Rattle.paper.specs.Next.{if, is_empty, starts_with, is_prefix}
use Rattle.runs.specs.Order.{numbers, keep}

-- How many of a list pass a test.
abbrev pub how_many : {X : Type 0} → (X → Bool) → List X → ℕ
how_many t xs = length (keep t xs)

-- 02, Wish 11: "with an empty plan, one for each selection rule, and one more where its belief condition holds". Serves
-- conditions_judged.
abbrev pub judged_selecting : Agent → Config → ℕ
judged_selecting A c = length A.PS + how_many (λ r. c ⊨ r.β) A.PS

-- 02, Wish 11: "otherwise one for each specification of the first action and one for each revision rule whose head is a
-- prefix". Serves conditions_judged.
abbrev pub judged_otherwise : Agent → Config → ℕ
judged_otherwise A c = how_many (λ s. starts_with s.a c.π) A.AS + how_many (λ r. is_prefix r.πₕ c.π) A.PR

-- 02, Wish 11: "how many conditions one listing judges. By definition: …". Counted a rule at a time, equal conditions and "true"
-- too (docs/DECISIONS.md, "What is counted").
unfoldable pub conditions_judged : Agent → Config → ℕ
conditions_judged A c = if (is_empty c.π) (judged_selecting A c) (judged_otherwise A c)

-- How many atoms are in a set: of all that its bytes can hold, those that are in it. Serves goals_open.
unfoldable pub size : Atoms → ℕ
size s = how_many (λ k. k ∈ s) (numbers 0 (8 * length s))

-- 02, Wish 11: "how many goals are open, by a count of set bits": all goals, believed ones too (docs/DECISIONS.md, "Open goals").
unfoldable pub goals_open : Config → ℕ
goals_open c = size c.γ

-- What is proved of the two numbers (in proofs/).
pub record LookingLaws : Type 0 where
  -- 02, Wish 11: "and it is at most 512", of an agent with at most 256 of each kind: 00, the machine: "256 action specifications,
  -- 256 rules for choosing a plan and 256 for revising one".
  pub most : (A : Agent) (c : Config) → length A.PS ≤ 256 → length A.AS ≤ 256 → length A.PR ≤ 256
      → conditions_judged A c ≤ 512
  -- 02, Wish 11: "with an empty plan, one for each selection rule, and one more where its belief condition holds": what a
  -- selection rule more adds.
  pub selection_more : (A : Agent) (r : Selection) (c : Config) → c.π ≡ []
      → conditions_judged (record { PS = r ∷ A.PS; PR = A.PR; AS = A.AS }) c ≡ if (c ⊨ r.β) 2 1 + conditions_judged A c
  -- 02, Wish 11: "otherwise one for each specification of the first action and one for each revision rule whose head is a
  -- prefix": the plan alone settles it, and no condition does.
  pub plan_alone : (A : Agent) (σ σ'' γ γ'' : Atoms) (a : BasicAction) (π : Plan)
      → conditions_judged A ⟨ σ / a ∷ π / γ ⟩ ≡ conditions_judged A ⟨ σ'' / a ∷ π / γ'' ⟩
  -- 02, Wish 11: "how many goals are open": the goals alone settle it.
  pub goals_alone : (σ σ'' γ : Atoms) (π π'' : Plan) → goals_open ⟨ σ / π / γ ⟩ ≡ goals_open ⟨ σ'' / π'' / γ ⟩
