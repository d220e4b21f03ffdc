-- What is proved of deliberation (in proofs/).
use Rattle.std.specs.Prelude.{◌≡◌, ◌↔◌, true, false, ℕ, ◌+◌, ◌*◌, ◌-◌, ◌≤◌, ◌<◌, length, take, Ok, Err}
use mathlib.Core.List.{List, [], ◌∷◌, ◌++◌, Memᴰ}
use Rattle.std.proofs.Math.Option.{Option, none, some}
use Rattle.paper.specs.Language.{𝐁, Query, Agent, Config}
use Rattle.paper.specs.Transitions.{Choice, Step}
use Rattle.runs.specs.Limits.{longest_plan, heaviest_plan}
use Rattle.runs.specs.declared.Verdict.{Verdict}
use Rattle.runs.specs.Order.{State}
use Rattle.runs.specs.Step.{after}
use Rattle.runs.specs.Run.{Chain}
use Rattle.runs.specs.Weight.{weigh, verdict, selections}
use Rattle.meaning.specs.declared.Refusal.{Refusal}
use Rattle.meaning.specs.declared.Node.{Node}
use Rattle.meaning.specs.declared.Configuration.{Configuration}
use Rattle.meaning.specs.Card.{Bytes, layout, condition, conditions, agent, weight, initial_plan}
use Rattle.meaning.specs.Configurations.{state_of}
use Rattle.meaning.specs.Theorems.{Without}
use Rattle.meaning.specs.Refusals.{answer_number, card_answer, containing, configuration_good}
use Rattle.deliberation.specs.declared.DeliberationEnding.{DeliberationEnding}
use Rattle.deliberation.specs.declared.Remaining.{Remaining}
use Rattle.deliberation.specs.declared.Deliberated.{Deliberated}
use Rattle.deliberation.specs.Programs.{not_empty_plan, holds, Prog, execute, apply, select, while◌doing◌od, ◌⨾◌, ◌⊕◌, Rest, E, still, ◌⨾'◌, 𝒲}
use Rattle.deliberation.specs.MetaTransitions.{Label, idle, taking, MetaStep, Computation, not_idle}
use Rattle.deliberation.specs.Kinds.{EntryKind, Execute, Apply, Select, WhilePlan, WhileBelief, Then, Or, entry_kind}
use Rattle.deliberation.specs.FirstMove.{Move, first_move}
use Rattle.deliberation.specs.Entries.{entry_of, entry_count, entries_of, program_good, numbers_good, go_on_answer, whole, deliberate_answer, program, standing, move_at}
use Rattle.deliberation.specs.Deliberate.{Outcome, deliberate, goes_on}

-- ---- the first move

-- No transition of the relation from a program in a configuration.
abbrev pub NoTransition : Agent → Prog → Config → Type 0
NoTransition A P s = (x : Label) (P' : Rest) (s' : Config) → MetaStep A P s x P' s' → ⊥

-- 02, Wish 6: "Each move is one of the document's meta-level transitions, with selection added": of a function that gives the first
-- move of a program in a configuration, if there is one.
pub record FirstMoveLaws (A : Agent) (s : Config) (first : Prog → Option (Move Rest)) (P : Prog) : Type 0 where
  -- the first move is one of the relation's transitions
  pub is_one : (m : Move Rest) → first P ≡ some m → (s' : Config) × MetaStep A P s m.label m.remaining s'
  -- and there is none exactly if the relation has none
  pub none_exactly : (first P ≡ none) ↔ NoTransition A P s

-- The same of first_move, every agent, configuration and program.
abbrev pub FirstMoveLaw : Type 0
FirstMoveLaw = (A : Agent) (s : Config) (P : Prog) → FirstMoveLaws A s (first_move A s) P

-- 000, section 2.2 has "a non-deterministic choice operator": which of the relation's transitions the first move is.
pub record WayOut (A : Agent) (s : Config) (first : Prog → Option (Move Rest)) : Type 0 where
  -- 02, Wish 6: "Execute takes the lowest enabled specification."
  pub lowest : (m : Move Rest) (n : ℕ) → first execute ≡ some m → m.label ≡ taking (Choice.act n)
      → (i : ℕ) → i < n → (s' : Config) → Step A s (Choice.act i) s' → ⊥
  -- 02, Wish 6: "Choice takes the left if it has a first move, idle or not, fitting or not"
  pub left : (P₁ P₂ : Prog) (x : Label) (P₁' : Rest) (s' : Config) → MetaStep A P₁ s x P₁' s' → first (P₁ ⊕ P₂) ≡ first P₁
  -- 02, Wish 6: "else the right"
  pub right : (P₁ P₂ : Prog) → NoTransition A P₁ s → first (P₁ ⊕ P₂) ≡ first P₂
  -- 000, Definition 14 "(sequential composition)": of a sequence it is the first move of its first part, a choice or another
  -- sequence too
  pub sequence : (P₁ P₂ : Prog) (m : Move Rest) → first P₁ ≡ some m
      → first (P₁ ⨾ P₂) ≡ some (record { label = m.label; remaining = still (m.remaining ⨾' P₂) })

abbrev pub WayOutLaw : Type 0
WayOutLaw = (A : Agent) (s : Config) → WayOut A s (first_move A s)

-- No other first move of any program meets these laws.
abbrev pub FirstMoveDetermined : Type 0
FirstMoveDetermined = (A : Agent) (s : Config) (first : Prog → Option (Move Rest)) → ((P : Prog) → FirstMoveLaws A s first P) → WayOut A s first
    → (P : Prog) → first P ≡ first_move A s P

-- ---- an entry

-- What holds of entry i of a program that is not refused, by its kind: 02, Wish 6: "part numbers are lower than their own", none of
-- them "naming an unknown rule or node", where there are so many revision and selection rules, and a condition is as it says.
pub data EntryLaws (revisions selections : ℕ) (Condition : ℕ → Type 0) (i a b : ℕ) : EntryKind → Type 0 where
  executes : EntryLaws revisions selections Condition i a b Execute
  applies : a < revisions → EntryLaws revisions selections Condition i a b Apply
  selects : a < selections → EntryLaws revisions selections Condition i a b Select
  while_plan : b < i → EntryLaws revisions selections Condition i a b WhilePlan
  while_belief : Condition a → b < i → EntryLaws revisions selections Condition i a b WhileBelief
  does_both : a < i → b < i → EntryLaws revisions selections Condition i a b Then
  does_one : a < i → b < i → EntryLaws revisions selections Condition i a b Or

-- 02, Wish 6: "unused bytes are 0": those of an entry's a and b that its kind has no use for.
pub data Unused (a b : ℕ) : EntryKind → Type 0 where
  of_execute : a ≡ 0 → b ≡ 0 → Unused a b Execute
  of_apply : b ≡ 0 → Unused a b Apply
  of_select : b ≡ 0 → Unused a b Select
  of_while_plan : a ≡ 0 → Unused a b WhilePlan
  of_while_belief : Unused a b WhileBelief
  of_then : Unused a b Then
  of_or : Unused a b Or

-- The rules for entry i of a program p under a card b.
pub record EntryRules (b p : Bytes) (i : ℕ) : Type 0 where
  -- 02, Wish 6: "0 execute, …, 6 a or b"
  pub known : (entry_of p i).kind < 7
  -- 01, "A configuration and its transitions": "A belief condition contains no goal atom"
  pub names : EntryLaws (length (agent b).PR) (length (agent b).PS) (λ n. (n < (layout b).nodes.count) × Without b 2 n) i
      (entry_of p i).a (entry_of p i).b (entry_kind (entry_of p i).kind)
  -- 02, Wish 6: "unused bytes are 0", the fourth of each too
  pub unused : Unused (entry_of p i).a (entry_of p i).b (entry_kind (entry_of p i).kind)
  pub zero : (entry_of p i).zero ≡ 0

-- 02, Wish 6: "A program is 1 to 128 entries shaped like nodes": the rules for a program p under a card b.
pub record ProgramRules (b p : Bytes) : Type 0 where
  pub at_least : 1 ≤ entry_count p
  pub at_most : entry_count p ≤ 128
  pub no_byte_more : length p ≡ 4 * entry_count p
  pub entries : (i : ℕ) → i < entry_count p → EntryRules b p i

-- 02, Wish 6: "19 a program breaking these rules or naming an unknown rule or node": under every accepted card a program is good
-- exactly if it keeps them.
abbrev pub ProgramExactly : Type 0
ProgramExactly = (b p : Bytes) → card_answer b ≡ Ok tt → (program_good (containing 2 (layout b) b) (layout b) p ≡ true) ↔ ProgramRules b p

-- ---- what entry numbers stand for

-- The parts of a program that are done one after the other, however its sequences are nested: (P₁; P₂); P₃ and P₁; (P₂; P₃) have
-- the same.
unfoldable pub parts : Prog → List Prog
parts execute = execute ∷ []
parts (apply ρ) = apply ρ ∷ []
parts (select ρ) = select ρ ∷ []
parts (while b doing P od) = (while b doing P od) ∷ []
parts (P₁ ⨾ P₂) = parts P₁ ++ parts P₂
parts (P₁ ⊕ P₂) = (P₁ ⊕ P₂) ∷ []

-- The same of what a transition leaves; E has none.
abbrev pub parts_of : Rest → List Prog
parts_of E = []
parts_of (still P) = parts P

infix 20 ◌≈◌
-- The same program but for the nesting of its sequences.
abbrev pub ◌≈◌ : Rest → Rest → Type 0
R ≈ R' = parts_of R ≡ parts_of R'

-- The nesting does not matter: what one of two such programs may do, the other may.
pub record NestingLaws (A : Agent) : Type 0 where
  pub same_transitions : {P Q : Prog} {s s' : Config} {x : Label} {P' : Rest} → still P ≈ still Q → MetaStep A P s x P' s'
      → (Q' : Rest) × (MetaStep A Q s x Q' s' × (P' ≈ Q'))
  -- and the first move is that of the first part, at any depth, with the other parts behind what remains of it
  pub first_part : (s : Config) (P Q : Prog) (Qs : List Prog) → parts P ≡ Q ∷ Qs → (m : Move Rest) → first_move A s Q ≡ some m
      → (m' : Move Rest) × ((first_move A s P ≡ some m') × ((m'.label ≡ m.label) × (parts_of m'.remaining ≡ parts_of m.remaining ++ Qs)))

abbrev pub NestingLaw : Type 0
NestingLaw = (A : Agent) → NestingLaws A

-- 02, Wish 6: "the remaining program as entry numbers": what entry numbers of a program stand for under a card.
abbrev pub stand_for : Bytes → Bytes → List ℕ → Rest
stand_for b p ns = standing (conditions 𝐁 (layout b) b) (entries_of p) ns

-- What the numbers n, ns stand for, and their first move, which is that of n; move gives that of a number.
pub record NumbersLaws (b p : Bytes) (s : Config) (move : ℕ → Option (Move (List ℕ))) (n : ℕ) (ns : List ℕ) : Type 0 where
  -- the numbers stand for a program
  pub stands : Prog
  pub standing_for : stand_for b p (n ∷ ns) ≡ still stands
  -- their first move is the first move of that program, and leaves what the numbers then stand for
  pub is_first : (m : Move (List ℕ)) → move n ≡ some m → (m' : Move Rest)
      × ((first_move (agent b) s stands ≡ some m') × ((m'.label ≡ m.label) × (m'.remaining ≈ stand_for b p (m.remaining ++ ns))))
  -- and they have none exactly if the relation has none
  pub none_exactly : (move n ≡ none) ↔ NoTransition (agent b) stands s

-- The same of a program that is not refused, its entries, and any numbers behind one.
abbrev pub NumbersLaw : Type 0
NumbersLaw = (b p : Bytes) → program_good (containing 2 (layout b) b) (layout b) p ≡ true → (s : Config) (n : ℕ) (ns : List ℕ)
    → n < entry_count p → NumbersLaws b p s (move_at (layout b) b p s) n ns

-- 02, Wish 6: "a sequence is one number until a move is made in it", which ≈ does not see: what numbers a move in entry n leaves,
-- where move gives the first move of a number.
pub record OneNumber (b p : Bytes) (s : Config) (move : ℕ → Option (Move (List ℕ))) (n : ℕ) : Type 0 where
  -- of a while that goes on: its body, a sequence or not, is one number, and the while is the next
  pub body : entry_kind (entry_of p n).kind ≡ WhilePlan → 𝒲 not_empty_plan s ≡ true
      → move n ≡ some (record { label = idle; remaining = (entry_of p n).b ∷ n ∷ [] })
  pub belief_body : entry_kind (entry_of p n).kind ≡ WhileBelief → 𝒲 (holds (condition (conditions 𝐁 (layout b) b) (entry_of p n).a)) s ≡ true
      → move n ≡ some (record { label = idle; remaining = (entry_of p n).b ∷ n ∷ [] })
  -- of a then b: the right part, a sequence or not, is one number, behind what the move leaves of the left
  pub right_part : entry_kind (entry_of p n).kind ≡ Then → (m : Move (List ℕ)) → move (entry_of p n).a ≡ some m
      → move n ≡ some (record { label = m.label; remaining = m.remaining ++ ((entry_of p n).b ∷ []) })
  -- of a or b: what the move leaves of the part that is taken
  pub left_taken : entry_kind (entry_of p n).kind ≡ Or → (m : Move (List ℕ)) → move (entry_of p n).a ≡ some m → move n ≡ some m
  pub right_taken : entry_kind (entry_of p n).kind ≡ Or → move (entry_of p n).a ≡ none → move n ≡ move (entry_of p n).b

-- The same of a program that is not refused, and its entries.
abbrev pub OneNumberLaw : Type 0
OneNumberLaw = (b p : Bytes) → program_good (containing 2 (layout b) b) (layout b) p ≡ true → (s : Config) (n : ℕ) → n < entry_count p
    → OneNumber b p s (move_at (layout b) b p s) n

-- No other first moves of a program's entries meet these laws.
abbrev pub NumbersDetermined : Type 0
NumbersDetermined = (b p : Bytes) → program_good (containing 2 (layout b) b) (layout b) p ≡ true → (s : Config) (move : ℕ → Option (Move (List ℕ)))
    → ((n : ℕ) → n < entry_count p → NumbersLaws b p s move n [] × OneNumber b p s move n)
    → (n : ℕ) → n < entry_count p → move n ≡ move_at (layout b) b p s n

-- ---- a run of moves

-- The state after a move: 02, Wish 6: "idle moves, which leave the whole configuration as it is"; any other leaves the state that
-- any transition leaves, and its plan fits.
pub data Goes (A : Agent) (s : State) : Label → State → Type 0 where
  stays : Goes A s idle s
  goes : {k : Choice} {c : Config} → Step A s.mental k c → length c.π ≤ longest_plan → Goes A s (taking k) (after s k c)

-- First moves one after the other, with the states between them.
pub data Followed (A : Agent) : Rest → State → List Label → Rest → State → Type 0 where
  no_move : {P : Rest} {s : State} → Followed A P s [] P s
  one_move : {P : Prog} {m : Move Rest} {s s' s'' : State} {xs : List Label} {P'' : Rest} → first_move A s.mental P ≡ some m
      → Goes A s m.label s' → Followed A m.remaining s' xs P'' s'' → Followed A (still P) s (m.label ∷ xs) P'' s''

-- The same of entry numbers, where move gives the first move of a number: the next number moves, and those behind it stay.
pub data FollowedNumbers (A : Agent) (move : Config → ℕ → Option (Move (List ℕ))) : List ℕ → State → List Label → List ℕ → State → Type 0 where
  as_they_are : {ns : List ℕ} {s : State} → FollowedNumbers A move ns s [] ns s
  next_moves : {n : ℕ} {ns : List ℕ} {m : Move (List ℕ)} {s s' s'' : State} {xs : List Label} {ns'' : List ℕ} → move s.mental n ≡ some m
      → Goes A s m.label s' → FollowedNumbers A move (m.remaining ++ ns) s' xs ns'' s'' → FollowedNumbers A move (n ∷ ns) s (m.label ∷ xs) ns'' s''

-- The first move of a program takes a choice that leaves too long a plan: 01, "A configuration and its transitions": "would leave
-- more than 1,024 actions".
pub record Overflows (A : Agent) (s : State) (P : Prog) : Type 0 where
  pub move : Move Rest
  pub first : first_move A s.mental P ≡ some move
  pub choice : Choice
  pub takes : move.label ≡ taking choice
  pub reached : Config
  pub leads : Step A s.mental choice reached
  pub long : longest_plan < length reached.π

-- 02, Wish 6: "Endings, in this order: spent, finished, stuck, full.": why a deliberation with a budget ends after n moves, where R
-- remains in a state.
pub record EndsExactly (A : Agent) (budget n : ℕ) (R : Rest) (s : State) (e : DeliberationEnding) : Type 0 where
  -- 02, Wish 6: "spent": the count has reached the budget
  pub spent : (e ≡ DeliberationEnding.Spent) ↔ (n ≡ budget)
  -- "finished": with budget left, nothing remains
  pub finished : (e ≡ DeliberationEnding.Finished) ↔ ((n < budget) × (R ≡ E))
  -- "stuck": with budget left, what remains has no transition
  pub stuck : (e ≡ DeliberationEnding.Stuck) ↔ ((n < budget) × ((P : Prog) × ((R ≡ still P) × NoTransition A P s.mental)))
  -- "full": with budget left, the first move of what remains leaves too long a plan
  pub full : (e ≡ DeliberationEnding.Full) ↔ ((n < budget) × ((P : Prog) × ((R ≡ still P) × Overflows A s P)))

-- The same outcome, counted on from n.
abbrev pub counted : ℕ → Outcome → Outcome
counted n o = record { state = o.state; count = n + o.count; ending = o.ending; remaining = o.remaining }

-- A deliberation with j and one with k, at least 1, from what then remains are one with both budgets. (With no budget it says spent
-- wherever it stands.)
abbrev pub DeliberationStops : Type 0
DeliberationStops = (A : Agent) (βs : List (Query 𝐁)) (es : List Node) (j k : ℕ) (ns : List ℕ) (s : State) → 1 ≤ k
    → deliberate A βs es (j + k) ns s ≡ (let o = deliberate A βs es j ns s in counted o.count (deliberate A βs es k o.remaining o.state))

-- 02, Wish 6: "the last one the whole": the program that a program's bytes stand for under a card.
abbrev pub whole_of : Bytes → Bytes → Prog
whole_of b p = program (conditions 𝐁 (layout b) b) (entries_of p) (entry_count p - 1)

-- The numbers that remain, as they are answered.
abbrev pub numbers_in : Remaining → List ℕ
numbers_in r = take r.length r.numbers

-- ---- the call

-- What the contract of `go on` says of an answer r, from the numbers ns of program p, where 128 bytes are lent for what remains.
abbrev pub GoesOn : Bytes → Bytes → List ℕ → Configuration → ℕ → Bytes → Deliberated → Type 0
GoesOn b p ns c budget lent r = r ≡ goes_on b p ns c budget lent

-- What the contract of `deliberate` says: all that is proved of `go on` is proved of it, from the whole.
abbrev pub Deliberates : Bytes → Bytes → Configuration → ℕ → Bytes → Deliberated → Type 0
Deliberates b p c budget lent r = GoesOn b p (whole p) c budget lent r

-- The numbers that may be gone on from, by each of them and those behind it: they come to less than there are entries.
abbrev pub NumbersExactly : Type 0
NumbersExactly = (entries : ℕ) (ns : List ℕ)
    → (numbers_good entries ns ≡ true) ↔ ((before : List ℕ) (n : ℕ) (behind : List ℕ) → ns ≡ before ++ (n ∷ behind) → n + length behind < entries)

-- 02, Wish 6: "the last one the whole": `deliberate` is `go on` from the last entry's number.
pub record WholeLaws (b p : Bytes) : Type 0 where
  -- it stands for the program that the bytes stand for
  pub stands_for : stand_for b p (whole p) ≡ still (whole_of b p)
  -- 02, Wish 6: "19 a program breaking these rules or naming an unknown rule or node": and for nothing else
  pub refused_exactly : card_answer b ≡ Ok tt → (c : Configuration)
      → (answer_number (deliberate_answer b p c) ≡ 19) ↔ (program_good (containing 2 (layout b) b) (layout b) p ≡ false)

abbrev pub WholeLaw : Type 0
WholeLaw = (b p : Bytes) → WholeLaws b p

-- What the answer to an accepted card, program, numbers and configuration tells.
pub record Tells (b p : Bytes) (ns : List ℕ) (c : Configuration) (budget : ℕ) (r : Deliberated) : Type 0 where
  pub done : r.answer ≡ Ok tt
  -- the labels of the moves that were made, and the program that then remains
  pub labels : List Label
  pub rest : Rest
  -- 02, Wish 6: "Each move is one of the document's meta-level transitions, with selection added"
  pub computation : Computation (agent b) (stand_for b p ns) (state_of c).mental labels rest (state_of r.configuration).mental
  -- each is the first move of what remains, and an idle one leaves the whole configuration
  pub followed : Followed (agent b) (stand_for b p ns) (state_of c) labels rest (state_of r.configuration)
  -- 02, Wish 6: "the budget counts idle moves"
  pub counted : r.count ≡ length labels
  -- 02, Wish 6: "Endings, in this order"
  pub ends : EndsExactly (agent b) budget r.count rest (state_of r.configuration) r.ending
  -- 02, Wish 6: "The answer holds the remaining program as entry numbers, the next first"
  pub remains : rest ≈ stand_for b p (numbers_in r.remaining)
  -- 02, Wish 6: "a sequence is one number until a move is made in it": they are what these moves leave of the numbers given
  pub numbered : FollowedNumbers (agent b) (move_at (layout b) b p) ns (state_of c) labels (numbers_in r.remaining) (state_of r.configuration)
  -- there is room for the numbers, each is one of the program's, and they may be gone on from
  pub room : r.remaining.length ≤ 128
  pub known : (n : ℕ) → Memᴰ n (numbers_in r.remaining) → n < entry_count p
  pub accepted : numbers_good (entry_count p) (numbers_in r.remaining) ≡ true
  -- the moves that are not idle are a chain of 004's Definitions 9 to 11
  pub chain : Chain (agent b) (state_of c).mental (not_idle labels) (state_of r.configuration).mental

-- The same of every answer that meets the contract.
abbrev pub TellsLaw : Type 0
TellsLaw = (b p : Bytes) (ns : List ℕ) (c : Configuration) (budget : ℕ) (lent : Bytes) → go_on_answer b p ns c ≡ Ok tt → (r : Deliberated)
    → GoesOn b p ns c budget lent r → Tells b p ns c budget r

-- 02, Wish 6: "Demand 3 holds for transitions that are not idle.": under a card that is graded bounded, from a plan that weighs W,
-- at most 1,024.
pub record BoundedMoves (b p : Bytes) (ns : List ℕ) (c : Configuration) (budget : ℕ) (r : Deliberated) (w : ℕ) : Type 0 where
  pub tells : Tells b p ns c budget r
  -- 00, demand 3: "no run of more than W transitions without a plan selection exists"
  pub without_selection : selections (not_idle tells.labels) ≡ 0 → length (not_idle tells.labels) ≤ w
  -- 00, demand 3: "a run with S selections has at most W plus 1,025 times S transitions"
  pub with_selections : length (not_idle tells.labels) ≤ w + 1025 * selections (not_idle tells.labels)
  -- 00, demand 3: "no run, selections included, ever meets a plan too long"
  pub never_full : r.ending ≡ DeliberationEnding.Full → ⊥

-- The same of every answer that meets the contract.
abbrev pub BoundedMovesLaw : Type 0
BoundedMovesLaw = (b p : Bytes) (ns : List ℕ) (c : Configuration) (budget : ℕ) (lent : Bytes) → go_on_answer b p ns c ≡ Ok tt → (r : Deliberated)
    → GoesOn b p ns c budget lent r → verdict (weight b) (agent b) (initial_plan b) ≡ Verdict.Bounded
    → weigh (weight b) (state_of c).mental.π ≤ heaviest_plan → BoundedMoves b p ns c budget r (weigh (weight b) (state_of c).mental.π)

-- 02, Wish 6: "Refusals: 19 …, after 9 and before 13.", of every answer that meets the contract.
pub record RefusalLaws (b p : Bytes) (ns : List ℕ) (c : Configuration) (lent : Bytes) (r : Deliberated) : Type 0 where
  -- "after 9": the card's own refusals
  pub by_card : (q : Refusal) → card_answer b ≡ Err q → r.answer ≡ Err q
  -- "19 a program breaking these rules or naming an unknown rule or node", whatever the numbers and the configuration
  pub by_program : card_answer b ≡ Ok tt → program_good (containing 2 (layout b) b) (layout b) p ≡ false → answer_number r.answer ≡ 19
  -- the same of numbers that it cannot have left, whatever the configuration
  pub by_numbers : card_answer b ≡ Ok tt → numbers_good (entry_count p) ns ≡ false → answer_number r.answer ≡ 19
  -- "before 13"
  pub by_configuration : card_answer b ≡ Ok tt → program_good (containing 2 (layout b) b) (layout b) p ≡ true
      → numbers_good (entry_count p) ns ≡ true → configuration_good (layout b) c ≡ false → answer_number r.answer ≡ 13
  -- "done" otherwise
  pub otherwise : card_answer b ≡ Ok tt → program_good (containing 2 (layout b) b) (layout b) p ≡ true
      → numbers_good (entry_count p) ns ≡ true → configuration_good (layout b) c ≡ true → r.answer ≡ Ok tt
  -- 00, demand 1: "A refusal hands back the configuration it was given"; 01, "Numbers the guide may answer": "Any count in a
  -- refusal is 0."; 02, Wish 6: "none when refused"; 00, demand 1: "writes to no lent buffer"
  pub hands_back : (q : Refusal) → r.answer ≡ Err q
      → (r.configuration ≡ c) × ((r.count ≡ 0) × ((r.remaining.length ≡ 0) × (r.remaining.numbers ≡ lent)))

abbrev pub RefusalLaw : Type 0
RefusalLaw = (b p : Bytes) (ns : List ℕ) (c : Configuration) (budget : ℕ) (lent : Bytes) (r : Deliberated) → GoesOn b p ns c budget lent r
    → RefusalLaws b p ns c lent r

-- 01, "What the contracts settle": "equality of any two conforming answers is proved"
abbrev pub DeterminedLaw : Type 0
DeterminedLaw = (b p : Bytes) (ns : List ℕ) (c : Configuration) (budget : ℕ) (lent : Bytes) (r r' : Deliberated)
    → GoesOn b p ns c budget lent r → GoesOn b p ns c budget lent r' → r ≡ r'
