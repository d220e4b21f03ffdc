-- Cases of deliberation on the stripe card (01, "The stripe card"), computed: on the left what the calls answer.
use Rattle.std.specs.Prelude.{◌≡◌, true, false, ℕ, take, replicate}
use mathlib.Core.List.{List, [], ◌∷◌, ◌++◌, map, flatten, reverse}
use Rattle.paper.specs.Language.{⟨◌/◌/◌⟩}
use Rattle.paper.specs.Transitions.{Choice}
use Rattle.runs.specs.Order.{numbers}
use Rattle.runs.specs.Step.{after}
use Rattle.meaning.specs.declared.Configuration.{Configuration}
use Rattle.meaning.specs.Card.{Bytes}
use Rattle.meaning.specs.Configurations.{state_of, configuration_of}
use Rattle.meaning.specs.Refusals.{answer_number}
use Rattle.meaning.specs.Calls.{takes, runs}
use Rattle.meaning.specs.Stripe.{set, stripe}
use Rattle.meaning.specs.Cases.{loaded}
use Rattle.deliberation.specs.declared.Deliberated.{Deliberated}
use Rattle.deliberation.specs.Entries.{entry_count, numbers_good}
use Rattle.deliberation.specs.Deliberate.{goes_on, deliberates, deliberation_ending_number}
use Rattle.deliberation.specs.Theorems.{numbers_in}

-- 02, Wish 6: "entries shaped like nodes": kind, a, b, 0.
unfoldable pub entry : ℕ → ℕ → ℕ → Bytes
entry kind a b = kind ∷ a ∷ b ∷ 0 ∷ []

-- What the call answers in numbers, but for the configuration: its number, ending and count, and the numbers that remain.
unfoldable pub in_numbers : Deliberated → List ℕ
in_numbers r = answer_number r.answer ∷ deliberation_ending_number r.ending ∷ r.count ∷ numbers_in r.remaining

-- 02, Wish 6: "The teaching shed wants revising before acting": select 0, then while the plan is not empty revision 1 or 2 or 0, or
-- an action.
unfoldable pub teaching : Bytes
teaching = flatten (
    entry 0 0 0 ∷ entry 1 0 0 ∷ entry 1 1 0 ∷ entry 1 2 0 ∷ entry 6 1 0 ∷ entry 6 3 4 ∷ entry 6 2 5 ∷ entry 3 0 6
    ∷ entry 2 0 0 ∷ entry 5 8 7 ∷ [])

-- Two actions in turn, as the right part of a sequence behind a selection, and as the body of a while behind it.
unfoldable pub two_actions : Bytes
two_actions = flatten (entry 0 0 0 ∷ entry 2 0 0 ∷ entry 5 0 0 ∷ entry 5 1 2 ∷ [])

unfoldable pub two_actions_again : Bytes
two_actions_again = two_actions ++ flatten (entry 3 0 2 ∷ entry 5 1 4 ∷ [])

-- Entries one above the other, each a choice between the one below and itself: 02, Wish 6: "part numbers are lower than their own".
unfoldable pub doubling : Bytes
doubling = entry 1 0 0 ++ flatten (map (λ i. entry 6 i i) (numbers 0 127))

-- The configuration after a selection that led to a plan, with atom 3 believed.
unfoldable pub with_plan : List ℕ → Configuration
with_plan π = configuration_of (after (state_of loaded) (Choice.select 0) ⟨ set 8 / π / set 0 ⟩)

-- A plan of 1,024, of which the first action has a revision to two.
unfoldable pub long : Configuration
long = with_plan (replicate 1024 3)

-- A plan with an action that the card does not have.
unfoldable pub wrong : Configuration
wrong = with_plan (9 ∷ [])

-- 65 whiles one in the other, about the teaching shed's choice of moves.
unfoldable pub nested : Bytes
nested = take 28 teaching ++ flatten (map (λ i. entry 3 0 i) (numbers 6 65))

-- The 128 bytes that are lent for what remains.
unfoldable pub lent : Bytes
lent = replicate 128 7

-- What `go on` answers from the numbers and the configuration of an answer under the stripe card.
unfoldable pub on_from : Bytes → Deliberated → ℕ → Deliberated
on_from p r budget = goes_on stripe p (numbers_in r.remaining) r.configuration budget lent

pub record DeliberationCases : Type 0 where
  -- 02, Wish 6: "finished": six transitions and six idle moves; where the guide's own run ends too.
  pub finished : in_numbers (deliberates stripe teaching loaded 1000 lent) ≡ 0 ∷ 1 ∷ 12 ∷ []
  pub finished_at_lem : (deliberates stripe teaching loaded 1000 lent).configuration ≡ (runs stripe loaded 1000).configuration
  -- 02, Wish 6: "spent" is looked at first: the same with a budget of 12.
  pub spent_first : in_numbers (deliberates stripe teaching loaded 12 lent) ≡ 0 ∷ 0 ∷ 12 ∷ []
  -- 02, Wish 6: "a sequence is one number until a move is made in it"
  pub no_budget : in_numbers (deliberates stripe teaching loaded 0 lent) ≡ 0 ∷ 0 ∷ 0 ∷ 9 ∷ []
  pub left_done : in_numbers (deliberates stripe teaching loaded 1 lent) ≡ 0 ∷ 0 ∷ 1 ∷ 7 ∷ []
  pub right_one_number : in_numbers (deliberates stripe two_actions loaded 1 lent) ≡ 0 ∷ 0 ∷ 1 ∷ 2 ∷ []
  pub body_one_number : in_numbers (deliberates stripe two_actions_again loaded 2 lent) ≡ 0 ∷ 0 ∷ 2 ∷ 2 ∷ 4 ∷ []
  -- 02, Wish 6: "idle moves, which leave the whole configuration as it is, phase": a while that holds leaves its body, then itself.
  pub idle_counted : in_numbers (deliberates stripe teaching loaded 2 lent) ≡ 0 ∷ 0 ∷ 2 ∷ 6 ∷ 7 ∷ []
  pub idle_leaves : (deliberates stripe teaching loaded 2 lent).configuration ≡ (takes stripe loaded 0).configuration
  -- 02, Wish 6: "stuck": revision 0 is not enabled, and what stands behind it is not looked at.
  pub stuck : in_numbers (deliberates stripe (flatten (entry 1 0 0 ∷ entry 2 0 0 ∷ entry 5 0 1 ∷ [])) loaded 9 lent) ≡ 0 ∷ 2 ∷ 0 ∷ 2 ∷ []
  -- 02, Wish 6: "Choice takes the left if it has a first move, …, else the right."
  pub right_taken : in_numbers (deliberates stripe (flatten (entry 1 0 0 ∷ entry 2 0 0 ∷ entry 6 0 1 ∷ [])) loaded 9 lent) ≡ 0 ∷ 1 ∷ 1 ∷ []
  -- 02, Wish 6: "idle or not": a while that fails is a first move, and one move.
  pub idle_left : in_numbers (deliberates stripe (flatten (entry 0 0 0 ∷ entry 3 0 0 ∷ entry 2 0 0 ∷ entry 6 1 2 ∷ [])) loaded 9 lent) ≡ 0 ∷ 1 ∷ 1 ∷ []
  -- 02, Wish 6: "fitting or not": revision 1 is enabled and does not fit; the while on the right would.
  pub full_left : in_numbers (deliberates stripe (flatten (entry 1 1 0 ∷ entry 3 0 0 ∷ entry 6 0 1 ∷ [])) long 9 lent) ≡ 0 ∷ 3 ∷ 0 ∷ 2 ∷ []
  -- 02, Wish 6: "while belief condition a holds": node 1 believes atom 1, which is not believed.
  pub belief_while : in_numbers (deliberates stripe (flatten (entry 0 0 0 ∷ entry 4 1 0 ∷ [])) loaded 9 lent) ≡ 0 ∷ 1 ∷ 1 ∷ []
  -- One pass: 127 choices, each of the one below twice.
  pub shared : in_numbers (deliberates stripe doubling loaded 9 lent) ≡ 0 ∷ 2 ∷ 0 ∷ 127 ∷ []
  -- 02, Wish 6: "19 a program breaking these rules": no entry, a byte too many, a kind that there is not, an unused byte, a part
  -- not lower, an unknown rule, a node that is no belief condition.
  pub no_entry : in_numbers (deliberates stripe [] loaded 9 lent) ≡ 19 ∷ 0 ∷ 0 ∷ []
  pub byte_more : in_numbers (deliberates stripe (0 ∷ 0 ∷ 0 ∷ 0 ∷ 0 ∷ []) loaded 9 lent) ≡ 19 ∷ 0 ∷ 0 ∷ []
  pub too_many : in_numbers (deliberates stripe (replicate 516 0) loaded 9 lent) ≡ 19 ∷ 0 ∷ 0 ∷ []
  pub no_kind : in_numbers (deliberates stripe (entry 7 0 0) loaded 9 lent) ≡ 19 ∷ 0 ∷ 0 ∷ []
  pub unused_byte : in_numbers (deliberates stripe (entry 0 0 1) loaded 9 lent) ≡ 19 ∷ 0 ∷ 0 ∷ []
  pub own_part : in_numbers (deliberates stripe (entry 0 0 0 ++ entry 6 0 1) loaded 9 lent) ≡ 19 ∷ 0 ∷ 0 ∷ []
  pub no_rule : in_numbers (deliberates stripe (entry 1 3 0) loaded 9 lent) ≡ 19 ∷ 0 ∷ 0 ∷ []
  pub goal_condition : in_numbers (deliberates stripe (entry 0 0 0 ++ entry 4 5 0) loaded 9 lent) ≡ 19 ∷ 0 ∷ 0 ∷ []
  -- 02, Wish 6: "after 9 and before 13": with a wrong configuration too, and with that alone.
  pub before_13 : in_numbers (deliberates stripe [] wrong 9 lent) ≡ 19 ∷ 0 ∷ 0 ∷ []
  pub then_13 : in_numbers (deliberates stripe teaching wrong 9 lent) ≡ 13 ∷ 0 ∷ 0 ∷ []
  -- `go on` from what remained: as many moves as one deliberation has left, and its end; from the wrong end other moves are made.
  pub gone_on : in_numbers (on_from teaching (deliberates stripe teaching loaded 2 lent) 998) ≡ 0 ∷ 1 ∷ 10 ∷ []
  pub from_wrong_end : in_numbers (goes_on stripe teaching (7 ∷ 6 ∷ []) (takes stripe loaded 0).configuration 998 lent) ≡ 0 ∷ 2 ∷ 11 ∷ 6 ∷ []
  -- 65 numbers remain of 72 entries, and are gone on from; from the wrong end they are refused.
  pub all_remain : in_numbers (deliberates stripe nested (takes stripe loaded 0).configuration 64 lent) ≡ 0 ∷ 0 ∷ 64 ∷ numbers 7 65
  pub all_gone_on : in_numbers (on_from nested (deliberates stripe nested (takes stripe loaded 0).configuration 64 lent) 1000) ≡ 0 ∷ 1 ∷ 75 ∷ []
  pub all_from_wrong_end : in_numbers (goes_on stripe nested (reverse (numbers 7 65)) (takes stripe loaded 0).configuration 9 lent) ≡ 19 ∷ 0 ∷ 0 ∷ []
  -- 02, Wish 6: "Endings, in this order: spent, finished": from no number at all.
  pub none_remain : in_numbers (goes_on stripe teaching [] loaded 9 lent) ≡ 0 ∷ 1 ∷ 0 ∷ []
  pub none_no_budget : in_numbers (goes_on stripe teaching [] loaded 0 lent) ≡ 0 ∷ 0 ∷ 0 ∷ []
  -- Of ten entries: a number, and how many stand behind it, come to nine, and are accepted; to ten, and are refused.
  pub just_known : numbers_good (entry_count teaching) (8 ∷ 7 ∷ []) ≡ true
  pub one_behind : numbers_good (entry_count teaching) (9 ∷ 7 ∷ []) ≡ false
  pub not_known_behind : numbers_good (entry_count teaching) (7 ∷ 10 ∷ []) ≡ false
  pub not_known : in_numbers (goes_on stripe teaching (10 ∷ []) loaded 9 lent) ≡ 19 ∷ 0 ∷ 0 ∷ []
  -- 02, Wish 6: "after 9 and before 13"
  pub numbers_before_13 : in_numbers (goes_on stripe teaching (10 ∷ []) wrong 9 lent) ≡ 19 ∷ 0 ∷ 0 ∷ []
  -- 00, demand 1: "writes to no lent buffer": in a refusal the lent bytes are as they were; done, all of them are written.
  pub lent_left : (goes_on stripe teaching (10 ∷ []) loaded 9 lent).remaining.numbers ≡ lent
  pub lent_left_by_program : (deliberates stripe [] loaded 9 lent).remaining.numbers ≡ lent
  pub lent_written : (deliberates stripe teaching loaded 2 lent).remaining.numbers ≡ 6 ∷ 7 ∷ replicate 126 0
