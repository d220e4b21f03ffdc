-- The count of finished bands (02, Wish 4) over every call that may change a configuration, from load on (proved in proofs/).
use Rattle.std.specs.Prelude.{◌≡◌, List, [], ◌∷◌, ◌++◌, ℕ, length, Ok}
use Rattle.std.proofs.Math.Option.{some}
use Rattle.paper.specs.Transitions.{Choice}
use Rattle.runs.specs.Limits.{most_finished}
use Rattle.runs.specs.Step.{up_to}
use Rattle.runs.specs.Run.{Chain}
use Rattle.runs.specs.Theorems.{Guided, emptied}
use Rattle.meaning.specs.declared.Configuration.{Configuration}
use Rattle.meaning.specs.declared.Reply.{Reply}
use Rattle.meaning.specs.declared.Ran.{Ran}
use Rattle.meaning.specs.declared.BoundedReply.{BoundedReply}
use Rattle.meaning.specs.declared.BoundedRan.{BoundedRan}
use Rattle.meaning.specs.Card.{Bytes, agent, start}
use Rattle.meaning.specs.Configurations.{state_of}
use Rattle.meaning.specs.Calls.{choice}
use Rattle.demands.specs.CallContracts.{Loads, Takes, Runs, BoundedTakes, BoundedRuns}
use Rattle.demands.specs.TurnedScreen.{Turn, held}
use Rattle.deliberation.specs.declared.Deliberated.{Deliberated}
use Rattle.deliberation.specs.Programs.{Rest}
use Rattle.deliberation.specs.MetaTransitions.{Label, not_idle}
use Rattle.deliberation.specs.Theorems.{Followed, stand_for, GoesOn}

-- What may have been done under a card since load, up to a configuration: chosen moves, runs, both as on bounded cards too,
-- deliberations and turns of the screen, in any order.
pub data Since (b : Bytes) : Configuration → Type 0 where
  -- 02, Wish 4: "since load"
  loaded : (r : Reply) → Loads b r → r.answer ≡ Ok tt → Since b r.configuration
  -- 01, "What the guide does": "take a chosen move"
  taken : {c : Configuration} → Since b c → (n : ℕ) (r : Reply) → Takes b c n r → r.answer ≡ Ok tt → Since b r.configuration
  -- 01, "What the guide does": "run by itself"
  ran : {c : Configuration} → Since b c → (budget : ℕ) (r : Ran) → Runs b c budget r → r.answer ≡ Ok tt → Since b r.configuration
  -- 02, Wish 10: "a run and a chosen move for bounded cards"
  taken_bounded : {c : Configuration} → Since b c → (n : ℕ) (r : BoundedReply) → BoundedTakes b c n r → r.answer ≡ Ok tt
      → Since b r.configuration
  ran_bounded : {c : Configuration} → Since b c → (budget : ℕ) (r : BoundedRan) → BoundedRuns b c budget r → r.answer ≡ Ok tt
      → Since b r.configuration
  -- 02, Wish 6: "Our own deliberation.": from any numbers of a program
  deliberated : {c : Configuration} → Since b c → (p : Bytes) (ns : List ℕ) (budget : ℕ) (lent : Bytes) (r : Deliberated)
      → GoesOn b p ns c budget lent r → r.answer ≡ Ok tt → Since b r.configuration
  -- 02, Wish 4: "Saving and restoring keep it": a turn of the screen, with room to save
  turned : {c : Configuration} → Since b c → (t : Turn b c) → Since b (held t)

-- The transitions of what was done, by their choices: of a chosen move the one that its code stands for; of a run as many of the
-- guide's as it counts; of a deliberation its moves that are not idle; of a turn none.
pub data Made (b : Bytes) : (c : Configuration) → Since b c → List Choice → Type 0 where
  at_load : {r : Reply} {w : Loads b r} {d : r.answer ≡ Ok tt} → Made b _ (loaded r w d) []
  by_take : {c : Configuration} {h : Since b c} {n : ℕ} {r : Reply} {w : Takes b c n r} {d : r.answer ≡ Ok tt} {ks : List Choice} {k : Choice}
      → Made b _ h ks → choice n ≡ some k → Made b _ (taken h n r w d) (ks ++ (k ∷ []))
  by_run : {c : Configuration} {h : Since b c} {budget : ℕ} {r : Ran} {w : Runs b c budget r} {d : r.answer ≡ Ok tt} {ks js : List Choice}
      → Made b _ h ks → Guided (agent b) (state_of c) js (state_of r.configuration) → r.count ≡ length js
      → Made b _ (ran h budget r w d) (ks ++ js)
  by_bounded_take : {c : Configuration} {h : Since b c} {n : ℕ} {r : BoundedReply} {w : BoundedTakes b c n r} {d : r.answer ≡ Ok tt}
      {ks : List Choice} {k : Choice} → Made b _ h ks → choice n ≡ some k → Made b _ (taken_bounded h n r w d) (ks ++ (k ∷ []))
  by_bounded_run : {c : Configuration} {h : Since b c} {budget : ℕ} {r : BoundedRan} {w : BoundedRuns b c budget r}
      {d : r.answer ≡ Ok tt} {ks js : List Choice}
      → Made b _ h ks → Guided (agent b) (state_of c) js (state_of r.configuration) → r.count ≡ length js
      → Made b _ (ran_bounded h budget r w d) (ks ++ js)
  by_deliberation : {c : Configuration} {h : Since b c} {p : Bytes} {ns : List ℕ} {budget : ℕ} {lent : Bytes} {r : Deliberated}
      {w : GoesOn b p ns c budget lent r} {d : r.answer ≡ Ok tt} {ks : List Choice} {xs : List Label} {rest : Rest}
      → Made b _ h ks → Followed (agent b) (stand_for b p ns) (state_of c) xs rest (state_of r.configuration) → r.count ≡ length xs
      → Made b _ (deliberated h p ns budget lent r w d) (ks ++ not_idle xs)
  by_turn : {c : Configuration} {h : Since b c} {t : Turn b c} {ks : List Choice} → Made b _ h ks → Made b _ (turned h t) ks

-- 02, Wish 4: "Let the configuration hold how many transitions have left the plan empty since load, stopping at 65,535."
pub record Finished (b : Bytes) {c : Configuration} (h : Since b c) : Type 0 where
  pub choices : List Choice
  pub made : Made b _ h choices
  -- they are a chain of the definitions from what is loaded
  pub chain : Chain (agent b) (start b).mental choices (state_of c).mental
  -- "how many transitions have left the plan empty", "stopping at 65,535"
  pub counted : c.mind.finished ≡ up_to most_finished (emptied chain)

-- The same of everything that may have been done since load.
abbrev pub SinceLoad : Type 0
SinceLoad = (b : Bytes) (c : Configuration) (h : Since b c) → Finished b h
