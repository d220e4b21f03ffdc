-- What 000 proves of its interpreter (section 4), over our relation: Proposition 1, Lemma 1 and the finite part of Theorem 1.
use Rattle.std.specs.Prelude.{◌≡◌, ◌↔◌, ◌⊎◌, List, [], ℕ, Ok}
use Rattle.paper.specs.Language.{Revision, Agent, Config}
use Rattle.paper.specs.Transitions.{Choice, Entry, Step}
use Rattle.runs.specs.Run.{Chain}
use Rattle.runs.specs.Weight.{is_selection, selections}
use Rattle.meaning.specs.Card.{Bytes, agent}
use Rattle.meaning.specs.Refusals.{card_answer}
use Rattle.deliberation.specs.Programs.{execute, apply, select, ◌⨾◌, Rest, E, still}
use Rattle.deliberation.specs.MetaTransitions.{Label, idle, taking, MetaStep, Computation, not_idle}
use Rattle.deliberation.specs.Interpreter.{any_move, interpreter}

-- 000, section 4: "We thus exclude reactive rules from the set Rule": no head is empty.
abbrev pub NoReactiveRules : Agent → Type 0
NoReactiveRules A = (n : ℕ) (r : Revision) → Entry A.PR n r → r.πₕ ≡ [] → ⊥

-- An accepted card has none.
abbrev pub NoReactiveLaw : Type 0
NoReactiveLaw = (b : Bytes) → card_answer b ≡ Ok tt → NoReactiveRules (agent b)

-- 000's object level has no plan selection: a choice that is none.
abbrev pub NoSelection : Choice → Type 0
NoSelection k = is_selection k ≡ 0

-- 000, Proposition 1 "(object-level versus meta-level transitions)", of execute, of apply(ρ), and of the selection that 02 adds.
pub record Proposition1 (A : Agent) (s s' : Config) (n : ℕ) : Type 0 where
  pub executes : Step A s (Choice.act n) s' ↔ MetaStep A execute s (taking (Choice.act n)) E s'
  pub applies : Step A s (Choice.revise n) s' ↔ MetaStep A (apply n) s (taking (Choice.revise n)) E s'
  pub selects : Step A s (Choice.select n) s' ↔ MetaStep A (select n) s (taking (Choice.select n)) E s'

-- 000, Lemma 1 "(weak bisimulation)": the transitions without selection, and those of the interpreter.
pub record Lemma1 (A : Agent) : Type 0 where
  -- the first property: an idle transition to +*; interpreter, and one with the same label back to the interpreter
  pub forth : {s s' : Config} {k : Choice} → NoSelection k → Step A s k s'
      → MetaStep A (interpreter A) s idle (still (any_move A ⨾ interpreter A)) s
      × MetaStep A (any_move A ⨾ interpreter A) s (taking k) (still (interpreter A)) s'
  -- the second: each transition of +*; interpreter goes back to the interpreter, by one of the transitions without selection
  pub back : {s s' : Config} {x : Label} {P' : Rest} → MetaStep A (any_move A ⨾ interpreter A) s x P' s'
      → (k : Choice) × ((x ≡ taking k) × ((P' ≡ still (interpreter A)) × (NoSelection k × Step A s k s')))
  -- and each transition of the interpreter is idle: to +*; interpreter if the plan is not empty, and else to E
  pub idly : {s s' : Config} {x : Label} {P' : Rest} → MetaStep A (interpreter A) s x P' s'
      → (x ≡ idle) × ((s' ≡ s) × (((s.π ≡ [] → ⊥) × (P' ≡ still (any_move A ⨾ interpreter A))) ⊎ ((s.π ≡ []) × (P' ≡ E))))

-- 000, Theorem 1, its finite part: 000, section 3.2: "those sequences ending in a mental state or meta-configuration with an empty
-- plan or meta-program respectively" reach the same states, by the same transitions.
pub record Theorem1 (A : Agent) (s s' : Config) : Type 0 where
  pub forth : (ks : List Choice) → Chain A s ks s' → selections ks ≡ 0 → s'.π ≡ []
      → (xs : List Label) × (Computation A (still (interpreter A)) s xs E s' × (not_idle xs ≡ ks))
  pub back : (xs : List Label) → Computation A (still (interpreter A)) s xs E s'
      → Chain A s (not_idle xs) s' × ((selections (not_idle xs) ≡ 0) × (s'.π ≡ []))

-- All three, of every agent without reactive rules.
pub record InterpreterLaws : Type 0 where
  pub proposition_1 : (A : Agent) (s s' : Config) (n : ℕ) → Proposition1 A s s' n
  pub lemma_1 : (A : Agent) → NoReactiveRules A → Lemma1 A
  pub theorem_1 : (A : Agent) → NoReactiveRules A → (s s' : Config) → Theorem1 A s s'
  -- so of every accepted card
  pub no_reactive : NoReactiveLaw
