-- The turned screen (02, Wish 7) of deliberations (02, Wish 6), of every answer that meets a call's contract (proved in proofs/). b
-- is the card, p a program.
use Rattle.std.specs.Prelude.{◌≡◌, List, [], ◌∷◌, ℕ, ◌+◌, ◌≤◌, Ok, Err}
use Rattle.meaning.specs.declared.Refusal.{Refusal}
use Rattle.meaning.specs.declared.Configuration.{Configuration}
use Rattle.meaning.specs.Card.{Bytes}
use Rattle.demands.specs.CallContracts.{Shaped}
use Rattle.demands.specs.TurnedScreen.{Turn, held, TurnDone, sum}
use Rattle.deliberation.specs.declared.Deliberated.{Deliberated}
use Rattle.deliberation.specs.Entries.{go_on_answer, whole}
use Rattle.deliberation.specs.Deliberate.{refused}
use Rattle.deliberation.specs.Theorems.{numbers_in, GoesOn, Deliberates}

-- The numbers that a caller goes on from: those that remain; after a refusal, which answers none, those that it gave.
abbrev pub kept : List ℕ → Deliberated → List ℕ
kept ns r = elim r.answer [ Ok _ ↦ numbers_in r.remaining | Err q ↦ ns ]

-- Deliberate with budget j, save, restore under the same card, go on with budget k, with any number of calls and turns: from the
-- numbers of a program and a configuration, with the first budget and those after it; the answer of the last call, and all counts
-- together. Each call is lent bytes of its own for what remains.
pub data TurnedCalls (b p : Bytes) : List ℕ → Configuration → ℕ → List ℕ → Deliberated → ℕ → Type 0 where
  -- the last call
  last_call : {ns : List ℕ} {c : Configuration} {j : ℕ} (lent : Bytes) (r : Deliberated) → GoesOn b p ns c j lent r
      → TurnedCalls b p ns c j [] r r.count
  -- 02, Wish 7: "save, restore under the same card, …, where k is at least 1", and what follows
  call_turned : {ns ks : List ℕ} {c : Configuration} {j k n : ℕ} {last : Deliberated} (lent : Bytes) (r : Deliberated)
      → GoesOn b p ns c j lent r → (t : Turn b r.configuration) → 1 ≤ k → TurnedCalls b p (kept ns r) (held t) k ks last n
      → TurnedCalls b p ns c j (k ∷ ks) last (r.count + n)
  -- a call after which no turn comes
  call_then : {ns ks : List ℕ} {c : Configuration} {j k n : ℕ} {last : Deliberated} (lent : Bytes) (r : Deliberated)
      → GoesOn b p ns c j lent r → 1 ≤ k → TurnedCalls b p (kept ns r) r.configuration k ks last n
      → TurnedCalls b p ns c j (k ∷ ks) last (r.count + n)

-- What holds of each call, with the bytes that it is lent, and of each turn.
abbrev pub EachCall : {b p : Bytes} {ns ks : List ℕ} {c : Configuration} {j n : ℕ} {last : Deliberated}
    → (Bytes → Deliberated → Type 0) → ((c : Configuration) → Turn b c → Type 0) → TurnedCalls b p ns c j ks last n → Type 0
EachCall call turn (last_call lent r w) = call lent r
EachCall call turn (call_turned lent r w t least rest) = call lent r × (turn r.configuration t × EachCall call turn rest)
EachCall call turn (call_then lent r w least rest) = call lent r × EachCall call turn rest

-- 02, Wish 7: "Configuration and ending equal those of one run with j + k, and the counts add up to its count.", of deliberations.
pub record AsOneCall (last : Deliberated) (counts : ℕ) (one : Deliberated) : Type 0 where
  pub answer : last.answer ≡ one.answer
  pub configuration : last.configuration ≡ one.configuration
  pub ending : last.ending ≡ one.ending
  pub count : counts ≡ one.count
  -- 02, Wish 6: "The answer holds the remaining program as entry numbers"
  pub numbers : numbers_in last.remaining ≡ numbers_in one.remaining
  -- and where they are written, all bytes of them, the zeros behind them too
  pub bytes : one.answer ≡ Ok tt → last.remaining ≡ one.remaining

-- Calls with turns beside one call. Where card, program, numbers and configuration are accepted every call is done; where one of
-- them is refused every call is refused alike, and leaves its lent bytes, and each turn leaves the configuration.
pub record TurnedTogether {b p : Bytes} {ns ks : List ℕ} {c : Configuration} {j n : ℕ} {last : Deliberated}
    (calls : TurnedCalls b p ns c j ks last n) (lent : Bytes) (one : Deliberated) : Type 0 where
  pub as_one_call : AsOneCall last n one
  pub all_done : go_on_answer b p ns c ≡ Ok tt → EachCall (λ lent r. r.answer ≡ Ok tt) TurnDone calls × (one.answer ≡ Ok tt)
  pub refused_alike : (q : Refusal) → go_on_answer b p ns c ≡ Err q
      → EachCall (λ lent r. r ≡ refused q c lent) (λ d t. held t ≡ d) calls × (one ≡ refused q c lent)

-- The turned screen of deliberations. Of a configuration it needs what the types of its fields say of any.
pub record TurnedDeliberation : Type 0 where
  -- deliberate with budget j, save, restore under the same card, go on with budget k, where k is at least 1, beside one
  -- deliberation with j + k
  pub one_turn : (b p : Bytes) (c : Configuration) → Shaped c → (j k : ℕ) (least : 1 ≤ k) (lent lent' lent'' : Bytes)
      → (first : Deliberated) (w : Deliberates b p c j lent first) (t : Turn b first.configuration)
      → (second : Deliberated) (w' : GoesOn b p (kept (whole p) first) (held t) k lent' second)
      → (one : Deliberated) → Deliberates b p c (j + k) lent'' one
      → TurnedTogether (call_turned lent first w t least (last_call lent' second w')) lent'' one
  -- the same from any numbers, with any number of calls and turns
  pub any_turns : (b p : Bytes) (ns : List ℕ) (c : Configuration) → Shaped c → (j : ℕ) (ks : List ℕ) (last : Deliberated) (n : ℕ)
      → (calls : TurnedCalls b p ns c j ks last n) (lent : Bytes) (one : Deliberated) → GoesOn b p ns c (j + sum ks) lent one
      → TurnedTogether calls lent one
