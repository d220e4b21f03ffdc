-- "Accepted edition 1 files are read as before" (02, Wish 9), and what changes (proved in proofs/).
use Rattle.std.specs.Prelude.{◌≡◌, ◌⊎◌, true, false, ℕ, ◌≤◌, ◌<◌, length, Ok, Err}
use Rattle.paper.specs.Theorems.{AreBytes}
use Rattle.runs.specs.Order.{State}
use Rattle.meaning.specs.declared.Refusal.{Refusal}
use Rattle.meaning.specs.declared.Layout.{Layout}
use Rattle.meaning.specs.Sizes.{set_bytes, most_atoms, goals_at, header_bytes, del_at, specification_bytes, place_goals_at, plan_at}
use Rattle.meaning.specs.Card.{Bytes, number_at, layout, weight, agent, start}
use Rattle.meaning.specs.Configurations.{configuration_of}
use Rattle.meaning.specs.Place.{place, placed}
use Rattle.meaning.specs.Refusals.{marked, first_given, card_mark_good, card_answer, place_mark_good, place_table, configuration_good}
use Rattle.editions.specs.Moves.{OfSixteen, widened_agent, widened_state, SameMembers, MovesAsBefore, ClosedAsBefore}
use Rattle.editions.specs.Calls.{CallsAsBefore}
use Rattle.editions.specs.Edition1.{edition1_weight, edition1_agent, edition1_start, edition1_answer, edition1_place, edition1_placed, edition1_place_answer}

-- ---- sizes

-- 01, "The card, edition 1" and "The place": every size and offset, with its own numbers.
pub record Edition1Sizes (l : Layout) : Type 0 where
  -- "A set of atoms is 16 bytes"
  pub set : set_bytes l ≡ 16
  -- at 4: "atoms", "1..128"
  pub atoms : most_atoms (set_bytes l) ≡ 128
  -- at 48: "initial goals"
  pub goals : goals_at (set_bytes l) ≡ 48
  -- at 64: "weights"
  pub header : header_bytes (set_bytes l) ≡ 64
  -- "Specification, 36 bytes: action, node, 0, 0, Add, Del."
  pub specification : specification_bytes (set_bytes l) ≡ 36
  pub del : del_at (set_bytes l) ≡ 20
  -- "goals at 28; the plan's L bytes at 44"
  pub place_goals : place_goals_at (set_bytes l) ≡ 28
  pub plan : plan_at (set_bytes l) ≡ 44

-- ---- a card

-- 02, Wish 9: "Accepted edition 1 files are read as before", of a card that document 01's own table accepts.
pub record CardAsBefore (b : Bytes) : Type 0 where
  -- it is accepted
  pub accepted : card_answer b ≡ Ok tt
  -- it is of edition 1, with every size as it was
  pub sizes : Edition1Sizes (layout b)
  -- it has the same weights, agent and start
  pub weights : (a : ℕ) → weight b a ≡ edition1_weight b a
  pub same_agent : agent b ≡ widened_agent (edition1_agent b)
  pub same_start : start b ≡ widened_state (edition1_start b)

-- 02, Wish 9: "Edition 2 of card": its mark is a card's, and its edition 2.
abbrev pub OfEdition2 : Bytes → Type 0
OfEdition2 b = (marked 0x41 b ≡ true) × (number_at b 2 ≡ 2)

-- 02, Wish 9: "a file under 4 bytes is 1, then a wrong mark or edition is 2, then one shorter than its edition's header is 1": one
-- that document 01 finds short, and whose mark or edition is wrong too.
abbrev pub WrongAndShort : Bytes → Type 0
WrongAndShort b = (4 ≤ length b) × ((length b < 64) × (card_mark_good b ≡ false))

-- What changes for a card, of any bytes.
pub record CardChanges (b : Bytes) : Type 0 where
  -- of edition 1, none is accepted that was not
  pub none_added : number_at b 2 ≡ 1 → card_answer b ≡ Ok tt → edition1_answer b ≡ Ok tt
  -- of edition 1 and 64 bytes, each refusal is the one that it was
  pub refused : number_at b 2 ≡ 1 → 64 ≤ length b → card_answer b ≡ edition1_answer b
  -- no other answer changes than these two
  pub only : (card_answer b ≡ edition1_answer b) ⊎ (OfEdition2 b ⊎ WrongAndShort b)
  -- "a wrong mark or edition is 2", before a length under 64
  pub wrong_and_short : WrongAndShort b → (edition1_answer b ≡ Err Refusal.Short) × (card_answer b ≡ Err Refusal.Mark)
  -- document 01 had no edition 2
  pub new_edition : OfEdition2 b → (edition1_answer b ≡ Err Refusal.Short) ⊎ (edition1_answer b ≡ Err Refusal.Mark)

-- ---- a place

-- The same of a place.
abbrev pub PlaceWrongAndShort : Layout → Bytes → Type 0
PlaceWrongAndShort l p = (4 ≤ length p) × ((length p < 44) × (place_mark_good l p ≡ false))

-- 02, Wish 9: "Accepted edition 1 files are read as before", of places and configurations under a card of edition 1.
pub record PlaceAsBefore (l : Layout) : Type 0 where
  -- a place is accepted exactly if document 01 accepts it
  pub accepted : (p : Bytes) → edition1_place_answer l p ≡ Ok tt → first_given (place_table l) p ≡ Ok tt
  pub none_added : (p : Bytes) → first_given (place_table l) p ≡ Ok tt → edition1_place_answer l p ≡ Ok tt
  -- of 44 bytes, each refusal is the one that it was
  pub refused : (p : Bytes) → 44 ≤ length p → first_given (place_table l) p ≡ edition1_place_answer l p
  -- no other answer changes than this one
  pub only : (p : Bytes) → (first_given (place_table l) p ≡ edition1_place_answer l p) ⊎ PlaceWrongAndShort l p
  -- "a wrong mark or edition is 2", before a length under 44
  pub wrong_and_short : (p : Bytes) → PlaceWrongAndShort l p
      → (edition1_place_answer l p ≡ Err Refusal.Short) × (first_given (place_table l) p ≡ Err Refusal.Mark)
  -- it is restored to the same state
  pub restored : (p : Bytes) → placed l p ≡ widened_state (edition1_placed p)
  -- a state is saved as the same bytes
  pub saved : (s : State) → OfSixteen s → place l (widened_state s) ≡ edition1_place s
  -- and so is a restored place
  pub saved_again : (p : Bytes) → AreBytes p → edition1_place_answer l p ≡ Ok tt → (place l (placed l p) ≡ p) × (edition1_place (edition1_placed p) ≡ p)
  -- 01, "Numbers the guide may answer", row 13: a configuration is good exactly if it was
  pub configurations : (s : State) → OfSixteen s
      → configuration_good l (configuration_of (widened_state s)) ≡ configuration_good l (configuration_of s)

-- ---- together

-- 02, Wish 9: "Accepted edition 1 files are read as before".
pub record AsBefore : Type 0 where
  pub members : SameMembers
  pub card : (b : Bytes) → edition1_answer b ≡ Ok tt → CardAsBefore b
  pub changes : (b : Bytes) → CardChanges b
  pub place : (l : Layout) → l.edition ≡ 1 → PlaceAsBefore l
  -- what an agent does, and why a choice is closed
  pub moves : (b : Bytes) → MovesAsBefore (edition1_agent b)
  pub closed : ClosedAsBefore
  -- and so each call answers as before
  pub calls : (b : Bytes) → edition1_answer b ≡ Ok tt → CallsAsBefore b
