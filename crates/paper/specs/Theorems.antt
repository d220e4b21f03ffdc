-- What is proved of the paper's definitions (in proofs/).
use Rattle.std.specs.Prelude.{◌≡◌, ◌↔◌, true, false, not, ◌&&◌, ◌||◌, List, ℕ, ◌*◌, ◌<◌, length, get_or}
use Rattle.std.proofs.Math.Option.{some}
use Rattle.paper.specs.Atoms.{Atoms, ◌∈◌, ◌∪◌, ◌∖◌}
use Rattle.paper.specs.Language.{Specification, Agent, Config}
use Rattle.paper.specs.Transitions.{Choice, Step, σ', γ'}
use Rattle.paper.specs.Next.{next, enabled}

-- A list of bytes. Serves SetLaws: 01, "The card, edition 1": "A set of atoms is 16 bytes".
abbrev pub AreBytes : List ℕ → Type 0
AreBytes s = (i : ℕ) → get_or s i 0 < 256

-- 01, "Expected forms by place": "union, difference and membership over them". 02, Wish 9: "State the set laws once over the
-- number of bytes."
pub record SetLaws : Type 0 where
  -- 01, "A configuration and its transitions", Action: "beliefs with Add": ∪ is the union of the members.
  pub in_union : (k : ℕ) (s t : Atoms) → k ∈ s ∪ t ≡ (k ∈ s || k ∈ t)
  -- 01, "A configuration and its transitions", Action: "(beliefs with Add) without Del": ∖ is the difference of the members.
  pub in_difference : (k : ℕ) (s t : Atoms) → k ∈ s ∖ t ≡ (k ∈ s && not (k ∈ t))
  -- 01, "The card, edition 1": "atom k is bit (k modulo 8) of byte (k divided by 8)": two sets of as many bytes with the same
  -- members are the same bytes.
  pub by_members : (s t : Atoms) → length s ≡ length t → AreBytes s → AreBytes t
      → ((k : ℕ) → k < 8 * length s → k ∈ s ≡ k ∈ t) → s ≡ t

-- 01, "A configuration and its transitions", Action, by the members of the sets.
pub record ActionLaws : Type 0 where
  -- 01, "A configuration and its transitions", Action: "Beliefs become (beliefs with Add) without Del."
  pub beliefs : (k : ℕ) (σ : Atoms) (s : Specification) → k ∈ σ' σ s ≡ ((k ∈ σ || k ∈ s.Add) && not (k ∈ s.Del))
  -- 02, Wish 5: "after an action the goals are those not believed"
  pub goals : (k : ℕ) (σ γ : Atoms) (s : Specification) → k ∈ γ' σ γ s ≡ (k ∈ γ && not (k ∈ σ' σ s))
  -- 01, "A configuration and its transitions": "Atoms both in Add and Del end unbelieved"; 02, Wish 5, of "one that adds and
  -- withdraws a fact in the same action": its goal is kept.
  pub in_both : (k : ℕ) (σ γ : Atoms) (s : Specification) → k ∈ s.Add ≡ true → k ∈ s.Del ≡ true
      → (k ∈ σ' σ s ≡ false) × (k ∈ γ' σ γ s ≡ k ∈ γ)

-- 00, demand 2: "moves are those of Definitions 8 to 11 of source document 004, …, none missing and none added": the relation
-- and the function agree in both directions, and a choice has at most one outcome.
pub record Agree (A : Agent) : Type 0 where
  -- 00, demand 2: "none missing"
  pub none_missing : {c c' : Config} {k : Choice} → Step A c k c' → next A c k ≡ some c'
  -- 00, demand 2: "none added"
  pub none_added : (c c' : Config) (k : Choice) → next A c k ≡ some c' → Step A c k c'
  -- 01, "What the contracts settle": "the contract determines the answer"
  pub unique : {c c' c'' : Config} {k : Choice} → Step A c k c' → Step A c k c'' → c' ≡ c''
  -- 01, "A configuration and its transitions": "Enabled if …": exactly if the definitions have a transition by that choice.
  pub enabled_exactly : (c : Config) (k : Choice) → (enabled A c k ≡ true) ↔ ((c' : Config) × Step A c k c')

-- 00, demand 2, of every agent.
abbrev pub AgreeLaw : Type 0
AgreeLaw = (A : Agent) → Agree A
