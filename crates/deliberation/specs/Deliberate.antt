-- What the calls `deliberate` and `go on` answer, on all bytes and numbers, refusals too (02, Wish 6).
use Rattle.std.specs.Prelude.{List, [], ◌∷◌, ◌++◌, ℕ, zero, suc, ◌-◌, length, replicate, Ok, Err}
use Rattle.std.proofs.Math.Option.{Option, none, some}
use Rattle.paper.specs.Language.{𝐁, Query, Agent}
use Rattle.runs.specs.Order.{State}
use Rattle.runs.specs.Step.{nothing, full, to, step}
use Rattle.meaning.specs.declared.Refusal.{Refusal}
use Rattle.meaning.specs.declared.Node.{Node}
use Rattle.meaning.specs.declared.Configuration.{Configuration}
use Rattle.meaning.specs.Card.{Bytes, layout, conditions, agent}
use Rattle.meaning.specs.Configurations.{state_of, configuration_of}
use Rattle.deliberation.specs.declared.DeliberationEnding.{DeliberationEnding}
use Rattle.deliberation.specs.declared.Remaining.{Remaining}
use Rattle.deliberation.specs.declared.Deliberated.{Deliberated}
use Rattle.deliberation.specs.MetaTransitions.{Label, idle, taking}
use Rattle.deliberation.specs.FirstMove.{Move}
use Rattle.deliberation.specs.Entries.{entries_of, first_move_of, go_on_answer, whole}

-- ---- a move

-- What a move comes to: there is none; the plan that it leaves does not fit; or it leads to a state, with what then remains.
pub data MoveResult : Type 0 where
  stuck too_long : MoveResult
  on : List ℕ → State → MoveResult

-- 02, Wish 6: "idle moves, which leave the whole configuration as it is, phase and finished count too"; any other is a
-- transition as any other: 00, demand 2: "exactly if it is such a transition and its plan fits". ns then remains.
unfoldable pub leads : Agent → State → Label → List ℕ → MoveResult
leads A s idle ns = on ns s
leads A s (taking k) ns = elim (step A s k) [
  | nothing ↦ stuck
  | full ↦ too_long
  | to k' s' ↦ on ns s'
]

-- The same of a first move, if there is one; rs stands behind the entry that moves.
abbrev pub move_result : Agent → State → Option (Move (List ℕ)) → List ℕ → MoveResult
move_result A s none rs = stuck
move_result A s (some m) rs = leads A s m.label (m.remaining ++ rs)

-- ---- a run of moves

-- What a deliberation comes to.
pub record Outcome : Type 0 where
  pub state : State
  -- 02, Wish 6: "the budget counts idle moves"
  pub count : ℕ
  pub ending : DeliberationEnding
  -- 02, Wish 6: "the remaining program as entry numbers, the next first"
  pub remaining : List ℕ

-- One that ends where it is, with no move made. Serves deliberate.
abbrev pub ended : DeliberationEnding → List ℕ → State → Outcome
ended e ns s = record { state = s; count = 0; ending = e; remaining = ns }

-- One with a move before it: 02, Wish 6: "the budget counts idle moves". Serves deliberate.
abbrev pub one_more : Outcome → Outcome
one_more o = record { state = o.state; count = suc o.count; ending = o.ending; remaining = o.remaining }

-- 02, Wish 6: "Endings, in this order: spent, finished, stuck, full.": with a budget, from what remains and a state. Of what
-- remains the first number moves.
unfoldable pub deliberate : Agent → List (Query 𝐁) → List Node → ℕ → List ℕ → State → Outcome
deliberate A βs es zero ns s = ended DeliberationEnding.Spent ns s
deliberate A βs es (suc budget) [] s = ended DeliberationEnding.Finished [] s
deliberate A βs es (suc budget) (n ∷ ns) s = elim (move_result A s (first_move_of A βs s.mental es n) ns) [
  | stuck ↦ ended DeliberationEnding.Stuck (n ∷ ns) s
  | too_long ↦ ended DeliberationEnding.Full (n ∷ ns) s
  | on ns' s' ↦ one_more (deliberate A βs es budget ns' s')
]

-- ---- the call

-- 02, Wish 6: "the remaining program as entry numbers": the numbers in their 128 bytes, with zeros after them.
unfoldable pub remaining_of : List ℕ → Remaining
remaining_of ns = record { length = length ns; numbers = ns ++ replicate (128 - length ns) 0 }

-- A deliberation's outcome as it is answered. Serves goes_on.
abbrev pub deliberated : Outcome → Deliberated
deliberated o = record {
  answer = Ok tt;
  count = o.count;
  ending = o.ending;
  configuration = configuration_of o.state;
  remaining = remaining_of o.remaining;
}

-- A deliberation that is refused with q. 01, "Numbers the guide may answer": "the configuration as it came in", "Any count in a
-- refusal is 0."; 02, Wish 6: "none when refused"; 00, demand 1: "writes to no lent buffer": the bytes that were lent for what
-- remains are as they were. It ends spent, as a refused run does (docs/DECISIONS.md, "What a refused run says beside its number").
-- Serves goes_on.
abbrev pub refused : Refusal → Configuration → Bytes → Deliberated
refused q c lent = record {
  answer = Err q;
  count = 0;
  ending = DeliberationEnding.Spent;
  configuration = c;
  remaining = record { length = 0; numbers = lent };
}

-- 02, Wish 6, of a card, a program, the numbers that remain of it, a configuration, a budget, and the 128 bytes that are lent for
-- what then remains: the deliberation goes on from these numbers.
unfoldable pub goes_on : Bytes → Bytes → List ℕ → Configuration → ℕ → Bytes → Deliberated
goes_on b p ns c budget lent = elim (go_on_answer b p ns c) [
  | Ok _ ↦ deliberated (deliberate (agent b) (conditions 𝐁 (layout b) b) (entries_of p) budget ns (state_of c))
  | Err q ↦ refused q c lent
]

-- 02, Wish 6, of a card, a program, a configuration and a budget: from the whole program.
abbrev pub deliberates : Bytes → Bytes → Configuration → ℕ → Bytes → Deliberated
deliberates b p c budget lent = goes_on b p (whole p) c budget lent

-- drill.md: "ending (1: 0 spent, 1 finished, 2 stuck, 3 full)"
unfoldable pub deliberation_ending_number : DeliberationEnding → ℕ
deliberation_ending_number DeliberationEnding.Spent = 0
deliberation_ending_number DeliberationEnding.Finished = 1
deliberation_ending_number DeliberationEnding.Stuck = 2
deliberation_ending_number DeliberationEnding.Full = 3
