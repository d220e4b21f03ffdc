-- A code and the choice that it stands for.
use mathlib.Core.Path.{◌≡◌, refl, ◌∙◌}
use mathlib.Core.Option.{some}
use Prim.Native.Nat.{ℕ, zero, suc, ◌+◌, ◌*◌, ◌/◌, ◌%◌, ◌≤◌, ◌<◌}
use native.Mathlib.Omega.{arith}
use lib.ListN.{length}
use Rattle.paper.specs.Language.{Agent, Config}
use Rattle.paper.specs.Transitions.{Choice, select, act, revise, Step, execute, apply_PS, apply_PR}
use Rattle.paper.proofs.Relation.{none≢some, some_inj}
use Rattle.runs.specs.Order.{kind, number, code}
use Rattle.runs.proofs.Order.{entry_lt}
use Rattle.std.specs.Prelude.{Ok}
use Rattle.meaning.specs.Card.{Bytes, layout, agent_of, agent_for, agent}
use Rattle.meaning.specs.declared.Configuration.{Configuration}
use Rattle.meaning.specs.Refusals.{first_given, card_answer, configuration_table, configuration_answer}
use Rattle.meaning.specs.Calls.{choice_of, choice}
use Rattle.meaning.proofs.Tables.{and_then_done}
use Rattle.meaning.proofs.Accepted.{accepted, counts, length-entries, card_laws}
use Rattle.demands.specs.Demands.{OnAccepted, Transition, ChosenMove}
use Rattle.demands.specs.Closed.{Has, selection, specification, revision}

-- ---- codes

coded_of : (m r : ℕ) (k : Choice) → choice_of m r ≡ some k → code k ≡ 256 * m + r
unfolding code kind number
coded_of zero r k e = let z : select r ≡ k = some_inj e in rw (← z) refl
coded_of (suc zero) r k e = let z : act r ≡ k = some_inj e in rw (← z) refl
coded_of (suc (suc zero)) r k e = let z : revise r ≡ k = some_inj e in rw (← z) refl
coded_of (suc (suc (suc m))) r k e = absurd (none≢some e)

pub coded : (n : ℕ) (k : Choice) → choice n ≡ some k → code k ≡ n
unfolding choice
coded n k e = coded_of (n / 256) (n % 256) k e ∙ (let z : 256 * (n / 256) + n % 256 ≡ n = omega arith in z)

read : (k : Choice) → number k < 256 → choice (code k) ≡ some k
unfolding choice code kind number
read (select n) h =
    let d : (256 * 0 + n) / 256 ≡ 0 = omega arith in
    let m : (256 * 0 + n) % 256 ≡ n = omega arith in
    rw (d, m) refl
read (act n) h =
    let d : (256 * 1 + n) / 256 ≡ 1 = omega arith in
    let m : (256 * 1 + n) % 256 ≡ n = omega arith in
    rw (d, m) refl
read (revise n) h =
    let d : (256 * 2 + n) / 256 ≡ 2 = omega arith in
    let m : (256 * 2 + n) % 256 ≡ n = omega arith in
    rw (d, m) refl

-- ---- what a card's agent has

-- how many rules or specifications an agent has of a choice's kind
abbrev pub rules : Agent → Choice → ℕ
rules A (select n) = length A.PS
rules A (act n) = length A.AS
rules A (revise n) = length A.PR

pub has_lt : {A : Agent} {k : Choice} → Has A k → number k < rules A k
unfolding number
has_lt {A} (selection {n} e) = entry_lt A.PS n e
has_lt {A} (specification {n} e) = entry_lt A.AS n e
has_lt {A} (revision {n} e) = entry_lt A.PR n e

pub moved : {A : Agent} {c c' : Config} {k : Choice} → Step A c k c' → Has A k
moved (execute e p) = specification e
moved (apply_PS e p q) = selection e
moved (apply_PR π e p) = revision e

-- 00, the machine: "256 action specifications, 256 rules for choosing a plan and 256 for revising one"
pub most_rules : (b : Bytes) → card_answer b ≡ Ok tt → (k : Choice) → rules (agent b) k ≤ 256
unfolding agent agent_for agent_of
most_rules b e (select n) = (card_laws b e).numbered.selections
most_rules b e (act n) = (card_laws b e).numbered.specifications
most_rules b e (revise n) = rw (length-entries _ (layout b).revisions) (counts (layout b) (accepted b e).counts).revisions

-- ---- the code of a move, on an accepted card and configuration

pub card_accepted : (b : Bytes) (c : Configuration) → OnAccepted b c → card_answer b ≡ Ok tt
unfolding configuration_answer
card_accepted b c e = (and_then_done (card_answer b) (first_given (configuration_table (layout b)) c) e).0

module _ (b : Bytes) (c : Configuration) (on : OnAccepted b c) where
  pub has_read : {k : Choice} → Has (agent b) k → choice (code k) ≡ some k
  has_read {k} h = let m = most_rules b (card_accepted b c on) k in let l = has_lt h in read k (omega arith)

  pub read_back : {k : Choice} {c' : Config} → Transition b c k c' → choice (code k) ≡ some k
  read_back s = has_read (moved s)

  pub chosen : {n : ℕ} {k : Choice} {c' : Config} → ChosenMove b c n k c' → choice n ≡ some k
  chosen m = rw m.coded at (read_back m.transition)
