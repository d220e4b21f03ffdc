-- Transitions with sets in 32 bytes are those with sets in 16.
use mathlib.Core.Path.{◌≡◌, refl, ap, ap₂, ◌∙◌, sym}
use mathlib.Core.Bool.{Bool, true, false, ◌&&◌}
use mathlib.Core.List.{List, [], ◌∷◌, ◌++◌, map}
use mathlib.Core.Option.{Option, none, some}
use Prim.Native.Nat.{ℕ, zero, suc, ◌%◌, ◌+◌, ◌≤◌}
use native.Mathlib.Omega.{arith}
use lib.ListN.{length, drop, get_elem?, length-map}
use Rattle.paper.specs.Atoms.{Atoms, ◌∪◌, ◌∖◌}
use Rattle.paper.specs.Language.{𝐁, 𝐆, Specification, Agent, Config, Plan, ⟨◌/◌/◌⟩}
use Rattle.paper.specs.Transitions.{Choice, select, act, revise, Entry, σ', γ', Step, execute, apply_PS, apply_PR}
use Rattle.paper.specs.Next.{can_select, selected, can_act, acted, can_revise, revised, outcome, next, is_some, enabled, is_empty, starts_with, is_prefix}
use Rattle.paper.proofs.Relation.{sound, complete, some_inj, none≢some}
use Rattle.paper.proofs.Sets.{length-∖}
use Rattle.runs.specs.Order.{State, numbers, by_kind, of_kind, in_turn, first, guide, keep, code, enabled_codes}
use Rattle.runs.specs.Step.{after, fits, Reached, nothing, full, to, step, step_by}
use Rattle.runs.specs.Run.{one_more, run}
use Rattle.runs.proofs.Run.{run_rests, run_is_full, run_goes_on}
use Rattle.runs.specs.Weight.{verdict}
use Rattle.meaning.specs.Card.{widened}
use Rattle.meaning.specs.Calls.{coming, coming_by, coming_of}
use Rattle.editions.proofs.Widening.{most-∪, widened-∪, widened-∖}
use Rattle.editions.proofs.Looking.{judged, judged_same, goals_same}
use Rattle.editions.specs.Moves.{widened_specification, widened_agent, widened_config, widened_state, widened_reached, widened_outcome, SetsFit, MovesAsBefore}

-- ---- what a choice leads to

-- what may be there, by a function
abbrev through : {X Y : Type 0} → (X → Y) → Option X → Option Y
through f none = none
through f (some x) = some (f x)

at_map : {X Y : Type 0} (f : X → Y) (xs : List X) (n : ℕ) → get_elem? (map f xs) n ≡ through f (get_elem? xs n)
at_map f [] n = refl
at_map f (x ∷ xs) zero = refl
at_map f (x ∷ xs) (suc n) = at_map f xs n

module _ {R : Type 0} (can : Config → R → Bool) (done : Config → R → Config) (f : R → R) (c : Config) where
  outcome_same : (o : Option R)
      → ((r : R) → o ≡ some r → (can (widened_config c) (f r) ≡ can c r) × (done (widened_config c) (f r) ≡ widened_config (done c r)))
      → outcome can done (widened_config c) (through f o) ≡ through widened_config (outcome can done c o)
  unfolding outcome
  outcome_same none h = refl
  outcome_same (some r) h =
      let (e, g) = h r refl in
      ap (λ t. elim t as (λ x. Option Config) [ true ↦ some (done (widened_config c) (f r)) | false ↦ none ]) e ∙ go (can c r) g
    where
      go : (t : Bool) → done (widened_config c) (f r) ≡ widened_config (done c r)
          → elim t as (λ x. Option Config) [ true ↦ some (done (widened_config c) (f r)) | false ↦ none ]
          ≡ through widened_config (elim t as (λ x. Option Config) [ true ↦ some (done c r) | false ↦ none ])
      go true g = λ i. some (g i)
      go false g = refl

through_same : {X : Type 0} (o : Option X) → through (λ x. x) o ≡ o
through_same none = refl
through_same (some x) = refl

-- the sets that an action adds
abbrev pub AddsFit : Agent → Type 0
AddsFit A = (n : ℕ) (s : Specification) → Entry A.AS n s → length s.Add ≤ 32

beliefs_fit : (σ : Atoms) (s : Specification) → length σ ≤ 32 → length s.Add ≤ 32 → length (σ' σ s) ≤ 32
unfolding σ'
beliefs_fit σ s h g = let e = length-∖ (σ ∪ s.Add) s.Del in let f = most-∪ 32 σ s.Add h g in omega arith

goals_fit : (σ γ : Atoms) (s : Specification) → length γ ≤ 32 → length (γ' σ γ s) ≤ 32
unfolding γ'
goals_fit σ γ s g = let e = length-∖ γ (σ' σ s) in omega arith

acted_same : (c : Config) (s : Specification) → SetsFit c → length s.Add ≤ 32 → acted (widened_config c) (widened_specification s) ≡ widened_config (acted c s)
unfolding acted widened_config widened_specification σ' γ'
acted_same c s (h, g) a =
    let σ : (widened c.σ ∪ widened s.Add) ∖ widened s.Del ≡ widened ((c.σ ∪ s.Add) ∖ s.Del)
    = ap (λ x. x ∖ widened s.Del) (sym (widened-∪ c.σ s.Add h a)) ∙ sym (widened-∖ (c.σ ∪ s.Add) s.Del (most-∪ 32 c.σ s.Add h a)) in
    let γ : widened c.γ ∖ ((widened c.σ ∪ widened s.Add) ∖ widened s.Del) ≡ widened (c.γ ∖ ((c.σ ∪ s.Add) ∖ s.Del))
    = ap (λ x. widened c.γ ∖ x) σ ∙ sym (widened-∖ c.γ ((c.σ ∪ s.Add) ∖ s.Del) g) in
    λ i. ⟨ σ i / drop 1 c.π / γ i ⟩

module _ (A : Agent) (adds : AddsFit A) where
  next_same : (c : Config) (k : Choice) → SetsFit c → next (widened_agent A) (widened_config c) k ≡ through widened_config (next A c k)
  unfolding next widened_agent widened_specification widened_config can_select selected can_act can_revise revised
  next_same c (select n) h =
      ap (outcome can_select selected (widened_config c)) (sym (through_same (get_elem? A.PS n)))
      ∙ outcome_same can_select selected (λ r. r) c (get_elem? A.PS n) (λ r e. (ap₂ (λ x y. is_empty c.π && (x && y)) (judged 𝐁 c r.β) (judged 𝐆 c r.κ), refl))
  next_same c (act n) h =
      ap (outcome can_act acted (widened_config c)) (at_map widened_specification A.AS n)
      ∙ outcome_same can_act acted widened_specification c (get_elem? A.AS n) (λ s e. (ap (λ x. starts_with s.a c.π && x) (judged 𝐁 c s.β), acted_same c s h (adds n s e)))
  next_same c (revise n) h =
      ap (outcome can_revise revised (widened_config c)) (sym (through_same (get_elem? A.PR n)))
      ∙ outcome_same can_revise revised (λ r. r) c (get_elem? A.PR n) (λ r e. (ap (λ x. is_prefix r.πₕ c.π && x) (judged 𝐁 c r.β), refl))

  none_missing : (c c' : Config) (k : Choice) → SetsFit c → Step A c k c' → Step (widened_agent A) (widened_config c) k (widened_config c')
  none_missing c c' k h s = complete (widened_agent A) (widened_config c) (widened_config c') k (next_same c k h ∙ ap (through widened_config) (sound s))

  none_added : (c d : Config) (k : Choice) → SetsFit c → Step (widened_agent A) (widened_config c) k d → (c' : Config) × (Step A c k c' × (d ≡ widened_config c'))
  none_added c d k h s = go (next A c k) refl (sym (next_same c k h) ∙ sound s)
    where
      go : (o : Option Config) → next A c k ≡ o → through widened_config o ≡ some d → (c' : Config) × (Step A c k c' × (d ≡ widened_config c'))
      go none e f = absurd (none≢some f)
      go (some c') e f = (c', (complete A c c' k e, sym (some_inj f)))

  -- ---- what is enabled, and in which order

  enabled_same : (c : Config) (k : Choice) → SetsFit c → enabled (widened_agent A) (widened_config c) k ≡ enabled A c k
  unfolding enabled
  enabled_same c k h = ap is_some (next_same c k h) ∙ go (next A c k)
    where
      go : (o : Option Config) → is_some (through widened_config o) ≡ is_some o
      go none = refl
      go (some x) = refl

  kinds_same : (n : ℕ) → of_kind (widened_agent A) n ≡ of_kind A n
  unfolding of_kind widened_agent
  kinds_same n = ap (λ m. by_kind n (map select (numbers 0 (length A.PS))) (map act (numbers 0 m)) (map revise (numbers 0 (length A.PR)))) (length-map A.AS widened_specification)

  turn_same : (p : ℕ) → in_turn (widened_agent A) p ≡ in_turn A p
  unfolding in_turn
  turn_same p = ap₂ ◌++◌ (kinds_same (p % 3)) (ap₂ ◌++◌ (kinds_same ((p + 1) % 3)) (kinds_same ((p + 2) % 3)))

  listed : (c : Config) → SetsFit c → enabled_codes (widened_agent A) (widened_config c) ≡ enabled_codes A c
  unfolding enabled_codes
  listed c h = ap₂ (λ t ks. map code (keep t ks)) (λ i k. enabled_same c k h i) (turn_same 0)

  guide_same : (s : State) → SetsFit s.mental → guide (widened_agent A) (widened_state s) ≡ guide A s
  unfolding guide widened_state
  guide_same s h = ap₂ first (λ i k. enabled_same s.mental k h i) (turn_same s.phase)

  -- ---- a transition

  taken : (s : State) (k : Choice) → SetsFit s.mental → step (widened_agent A) (widened_state s) k ≡ widened_reached (step A s k)
  unfolding step widened_reached widened_state widened_config after fits
  taken s k h = ap (λ o. after_move o (widened_state s)) (next_same s.mental k h) ∙ go (next A s.mental k)
    where
      after_move : Option Config → State → Reached
      after_move o t = elim o [ none ↦ nothing | some c ↦ elim (fits c) [ true ↦ to k (after t k c) | false ↦ full ] ]

      fit : (c : Config) (t : Bool) → elim t as (λ x. Reached) [ true ↦ to k (after (widened_state s) k (widened_config c)) | false ↦ full ] ≡ widened_reached (elim t as (λ x. Reached) [ true ↦ to k (after s k c) | false ↦ full ])
      fit c true = refl
      fit c false = refl

      go : (o : Option Config) → after_move (through widened_config o) (widened_state s) ≡ widened_reached (after_move o s)
      go none = refl
      go (some c) = fit c (fits c)

  by_same : (s : State) (o : Option Choice) → SetsFit s.mental → step_by (widened_agent A) (widened_state s) o ≡ widened_reached (step_by A s o)
  unfolding widened_reached
  by_same s none h = refl
  by_same s (some k) h = taken s k h

  told : (s : State) → SetsFit s.mental → coming (widened_agent A) (widened_state s) ≡ coming A s
  unfolding coming widened_reached
  told s h = ap (coming_of (widened_agent A) (widened_state s)) (guide_same s h) ∙ go (guide A s)
    where
      by : (k : Choice) (r : Reached) → coming_by k (widened_reached r) ≡ coming_by k r
      by k nothing = refl
      by k full = refl
      by k (to j t) = refl

      go : (o : Option Choice) → coming_of (widened_agent A) (widened_state s) o ≡ coming_of A s o
      go none = refl
      go (some k) = ap (coming_by k) (taken s k h) ∙ by k (step A s k)

  graded : (w : ℕ → ℕ) (π : Plan) → verdict w (widened_agent A) π ≡ verdict w A π
  unfolding verdict widened_agent
  graded w π = refl

  -- ---- a run

  -- a transition leads to sets that fit
  next_fits : (c c' : Config) (k : Choice) → SetsFit c → next A c k ≡ some c' → SetsFit c'
  next_fits c c' k h e = step_fits h (complete A c c' k e)
    where
      step_fits : {c c' : Config} {k : Choice} → SetsFit c → Step A c k c' → SetsFit c'
      step_fits h (execute {σ = σ} {γ = γ} {n = n} {s = s} e p) = (beliefs_fit σ s h.0 (adds n s e), goals_fit σ γ s h.1)
      step_fits h (apply_PS e p q) = h
      step_fits h (apply_PR π e p) = h

  -- of what a transition comes to
  abbrev ReachedFits : Reached → Type 0
  ReachedFits nothing = Unit {0}
  ReachedFits full = Unit {0}
  ReachedFits (to k s) = SetsFit s.mental

  reached_fits : (s : State) (o : Option Choice) → SetsFit s.mental → ReachedFits (step_by A s o)
  unfolding step after
  reached_fits s none h = tt
  reached_fits s (some k) h = go (next A s.mental k) refl
    where
      fit : (c : Config) (t : Bool) → SetsFit c → ReachedFits (elim t as (λ x. Reached) [ true ↦ to k (after s k c) | false ↦ full ])
      fit c true g = g
      fit c false g = tt

      go : (o : Option Config) → next A s.mental k ≡ o → ReachedFits (elim o as (λ x. Reached) [ none ↦ nothing | some c ↦ elim (fits c) [ true ↦ to k (after s k c) | false ↦ full ] ])
      go none e = tt
      go (some c) e = fit c (fits c) (next_fits s.mental c k h e)

  ran : (s : State) (n : ℕ) → SetsFit s.mental → run (widened_agent A) n (widened_state s) ≡ widened_outcome (run A n s)
  unfolding run widened_outcome widened_reached
  ran s zero h = refl
  ran s (suc n) h =
      let on : step_by (widened_agent A) (widened_state s) (guide (widened_agent A) (widened_state s)) ≡ widened_reached (step_by A s (guide A s)) = ap (step_by (widened_agent A) (widened_state s)) (guide_same s h) ∙ by_same s (guide A s) h in
      go (step_by A s (guide A s)) refl (reached_fits s (guide A s) h) on (λ t. ran t n)
    where
      go : (r : Reached) → step_by A s (guide A s) ≡ r → ReachedFits r
          → step_by (widened_agent A) (widened_state s) (guide (widened_agent A) (widened_state s)) ≡ widened_reached r
          → ((t : State) → SetsFit t.mental → run (widened_agent A) n (widened_state t) ≡ widened_outcome (run A n t))
          → run (widened_agent A) (suc n) (widened_state s) ≡ widened_outcome (run A (suc n) s)
      go nothing e f on ih = run_rests (widened_agent A) n (widened_state s) on ∙ ap widened_outcome (sym (run_rests A n s e))
      go full e f on ih = run_is_full (widened_agent A) n (widened_state s) on ∙ ap widened_outcome (sym (run_is_full A n s e))
      go (to k t) e f on ih = run_goes_on (widened_agent A) n (widened_state s) k (widened_state t) on ∙ ap one_more (ih t f) ∙ ap widened_outcome (sym (run_goes_on A n s k t e))

  pub moves_as_before : MovesAsBefore A
  moves_as_before =
      record {
        none_missing = none_missing;
        none_added = none_added;
        listed = listed;
        judged = judged_same A;
        goals = goals_same;
        taken = taken;
        told = told;
        ran = ran;
        graded = graded;
      }
