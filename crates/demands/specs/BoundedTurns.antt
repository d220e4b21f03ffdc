-- The turned screen (02, Wish 7) of the run for bounded cards (02, Wish 10), of every answer that meets a call's contract (proved
-- in proofs/). b is the card, c a configuration.
use Rattle.std.specs.Prelude.{List, [], ◌∷◌, ℕ, ◌+◌, ◌≤◌}
use Rattle.meaning.specs.declared.Configuration.{Configuration}
use Rattle.meaning.specs.declared.BoundedRan.{BoundedRan}
use Rattle.meaning.specs.Card.{Bytes}
use Rattle.meaning.specs.BoundedCalls.{as_ran}
use Rattle.demands.specs.CallContracts.{BoundedRuns, Shaped}
use Rattle.demands.specs.TurnedScreen.{Turn, held, AsOneRun, sum}

-- 02, Wish 7: "run with budget j, save, restore under the same card, run with budget k", with any number of turns, as `TurnedRuns`
-- has it of run.
pub data BoundedTurnedRuns (b : Bytes) : Configuration → ℕ → List ℕ → BoundedRan → ℕ → Type 0 where
  -- the last run: no turn after it
  last_bounded : {c : Configuration} {j : ℕ} (r : BoundedRan) → BoundedRuns b c j r → BoundedTurnedRuns b c j [] r r.count
  -- 02, Wish 7: "where k is at least 1", and what follows
  bounded_turned : {c : Configuration} {j k n : ℕ} {ks : List ℕ} {last : BoundedRan} (r : BoundedRan) → BoundedRuns b c j r
      → (t : Turn b r.configuration) → 1 ≤ k → BoundedTurnedRuns b (held t) k ks last n
      → BoundedTurnedRuns b c j (k ∷ ks) last (r.count + n)

-- 02, Wish 7: "Configuration and ending equal those of one run with j + k, and the counts add up to its count.": of any card and
-- configuration, refused ones too.
pub record BoundedTurnedScreen : Type 0 where
  pub one_turn : (b : Bytes) (c : Configuration) → Shaped c → (j k : ℕ) → 1 ≤ k
      → (first : BoundedRan) → BoundedRuns b c j first → (t : Turn b first.configuration)
      → (second : BoundedRan) → BoundedRuns b (held t) k second
      → (one : BoundedRan) → BoundedRuns b c (j + k) one → AsOneRun (as_ran second) (first.count + second.count) (as_ran one)
  -- the same with any number of turns
  pub any_turns : (b : Bytes) (c : Configuration) → Shaped c → (j : ℕ) (ks : List ℕ) (last : BoundedRan) (n : ℕ)
      → BoundedTurnedRuns b c j ks last n → (one : BoundedRan) → BoundedRuns b c (j + sum ks) one → AsOneRun (as_ran last) n (as_ran one)
