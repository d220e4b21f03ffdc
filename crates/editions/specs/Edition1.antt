-- Document 01's card and place: edition 1 alone, with its own numbers and sets of 16 bytes (01, "The card, edition 1", "The place"
-- and "Numbers the guide may answer", as 02, Wishes 1 to 8 have them). What no set has a part in, header, nodes, rules and
-- plans, is read and judged in meaning.
use Rattle.std.specs.Prelude.{Bool, not, ◌&&◌, List, [], ◌∷◌, ◌++◌, map, ℕ, ◌+◌, ◌*◌, leb, eqb, length, get_or, drop}
use Rattle.paper.specs.Language.{𝐁, 𝐆, Agent, ⟨◌/◌/◌⟩}
use Rattle.paper.specs.Transitions.{struck_by}
use Rattle.runs.specs.Limits.{heaviest_action}
use Rattle.runs.specs.Order.{State, numbers}
use Rattle.meaning.specs.declared.Refusal.{Refusal}
use Rattle.meaning.specs.Answers.{Answer}
use Rattle.meaning.specs.declared.Layout.{Layout}
use Rattle.meaning.specs.declared.SpecificationEntry.{SpecificationEntry}
use Rattle.meaning.specs.Card.{Bytes, byte, number_at, part, layout, entry_at, entries, selection_at, revision_at, conditions, specification_of, selection_of, revision_of, initial_plan}
use Rattle.meaning.specs.Place.{two_bytes}
use Rattle.meaning.specs.Refusals.{Row, ◌given_when◌, first_given, every, within, marked, end_of, nodes_good, containing, span_good, specification_good, selection_good, revision_good, actions_good, both_good, pool, place_counts_good}

-- ---- the card

-- 01, "The card, edition 1": "A set of atoms is 16 bytes"
abbrev pub edition1_set_at : Bytes → ℕ → Bytes
edition1_set_at b at = part b at 16

-- 01, "The card, edition 1", at 64: "weights, one for each action"
abbrev pub edition1_weight_at : Bytes → ℕ → ℕ
edition1_weight_at b a = number_at b (64 + 2 * a)

-- 01, "The card, edition 1": "Specification, 36 bytes: action, node, 0, 0, Add, Del."
unfoldable pub edition1_specification_at : Layout → Bytes → ℕ → SpecificationEntry
edition1_specification_at l b i =
    let at : ℕ = entry_at 36 l.specifications i in
    record {
      action = byte b at;
      node = byte b (at + 1);
      zero = number_at b (at + 2);
      add = edition1_set_at b (at + 4);
      del = edition1_set_at b (at + 20);
    }

-- 01, "Weight and grading": "Each action weighs 1 to 1,024."
unfoldable pub edition1_weight : Bytes → ℕ → ℕ
edition1_weight b a = get_or (map (edition1_weight_at b) (numbers 0 (layout b).actions)) a 1

-- 00, the card: "A card is an agent in 3APL"
unfoldable pub edition1_agent : Bytes → Agent
edition1_agent b =
    let l = layout b in
    let βs = conditions 𝐁 l b in
    record {
      PS = entries (λ i. selection_of βs (conditions 𝐆 l b) l b (selection_at l b i)) l.selections;
      PR = entries (λ i. revision_of βs l b (revision_at l b i)) l.revisions;
      AS = entries (λ i. specification_of βs (edition1_specification_at l b i)) l.specifications;
    }

-- 01, "The card, edition 1", at 32, 48: "initial beliefs, initial goals"; 01, "A configuration and its transitions": "Loading
-- answers the card's initial beliefs, goals and plan with phase 0"; 02, Wish 5: "the goals are those not believed, and at load
-- likewise".
unfoldable pub edition1_start : Bytes → State
edition1_start b = record {
  mental = ⟨ edition1_set_at b 32 / initial_plan b / struck_by (edition1_set_at b 32) (edition1_set_at b 48) ⟩;
  phase = 0;
  finished = 0;
}

-- ---- the refusals of a card

-- Not 01, "Numbers the guide may answer", row 1: "card under 64 bytes"
abbrev pub edition1_long_enough : Bytes → Bool
edition1_long_enough b = leb 64 (length b)

-- Not 01, "Numbers the guide may answer", row 2: "first two bytes or edition differ": "bytes 33 41 hex" at 0, "edition" 1 at 2.
abbrev pub edition1_mark_good : Bytes → Bool
edition1_mark_good b = marked 0x41 b && eqb (number_at b 2) 1

-- Not 01, "Numbers the guide may answer", row 3: "the number of atoms, of actions or of a section's entries or bytes is out of
-- range": "1..128", "1..256", "0..256" and "0..8,192".
abbrev pub edition1_counts_good : Layout → Bool
edition1_counts_good l =
    within 1 128 l.atoms && (within 1 256 l.actions && (within 1 256 l.nodes.count
    && (leb l.specifications.count 256 && (leb l.selections.count 256 && (leb l.revisions.count 256
    && leb l.pool.count 8192)))))

-- Not 01, "Numbers the guide may answer", row 4: "an offset or the total length is not the required one", which is n.
abbrev pub edition1_offsets_good : Layout → ℕ → Bool
edition1_offsets_good l n =
    eqb l.nodes.offset (64 + 2 * l.actions) && (eqb l.specifications.offset (end_of 4 l.nodes)
    && (eqb l.selections.offset (end_of 36 l.specifications)
    && (eqb l.revisions.offset (end_of 8 l.selections) && (eqb l.pool.offset (end_of 12 l.revisions)
    && eqb n (end_of 1 l.pool)))))

-- Not 01, "Numbers the guide may answer", row 5: "a weight is 0 or over 1,024"
abbrev pub edition1_weights_good : Layout → Bytes → Bool
edition1_weights_good l b = every l.actions (λ a. within 1 heaviest_action (edition1_weight_at b a))

-- Not 01, "Numbers the guide may answer", row 7: "an entry or the initial plan breaks its rule": bs and gs tell the nodes that
-- contain a belief atom and those that contain a goal atom.
abbrev pub edition1_rules_good : List Bool → List Bool → Layout → Bytes → Bool
edition1_rules_good bs gs l b =
    every l.specifications.count (λ i. specification_good gs l (edition1_specification_at l b i))
    && (every l.selections.count (λ i. selection_good bs gs l (selection_at l b i))
    && (every l.revisions.count (λ i. revision_good gs l (revision_at l b i))
    && span_good l 0 l.initial))

-- Not 01, "Numbers the guide may answer", row 9: "a set has a bit at or above the number of atoms"
abbrev pub edition1_sets_good : Layout → Bytes → Bool
edition1_sets_good l b =
    both_good l.atoms (edition1_set_at b 32) (edition1_set_at b 48)
    && every l.specifications.count
    (λ i. both_good l.atoms (edition1_specification_at l b i).add (edition1_specification_at l b i).del)

-- 01, "Numbers the guide may answer": "the card first with 1 to 9"
unfoldable pub edition1_table : List (Row Bytes)
edition1_table =
    (Refusal.Short given_when (λ b. not (edition1_long_enough b)))
    ∷ (Refusal.Mark given_when (λ b. not (edition1_mark_good b)))
    ∷ (Refusal.Count given_when (λ b. not (edition1_counts_good (layout b))))
    ∷ (Refusal.Offsets given_when (λ b. not (edition1_offsets_good (layout b) (length b))))
    ∷ (Refusal.Weight given_when (λ b. not (edition1_weights_good (layout b) b)))
    ∷ (Refusal.Node given_when (λ b. not (nodes_good (layout b) b)))
    ∷ (Refusal.Rule given_when (λ b. not (edition1_rules_good (containing 1 (layout b) b) (containing 2 (layout b) b) (layout b) b)))
    ∷ (Refusal.ActionByte given_when (λ b. not (actions_good (layout b).actions (pool (layout b) b))))
    ∷ (Refusal.Atom given_when (λ b. not (edition1_sets_good (layout b) b)))
    ∷ []

-- 01, "Numbers the guide may answer": "They are tested in the table's order, the card first with 1 to 9"
unfoldable pub edition1_answer : Bytes → Answer
edition1_answer b = first_given edition1_table b

-- ---- the place

-- 01, "The place": "Bytes 33 50 hex; edition 1 at 2; plan length L at 4; plan offset 44 at 6; phase at 8; …; beliefs at 12; goals
-- at 28; the plan's L bytes at 44."; 02, Wish 4: "It stands in bytes 10 and 11 of the place".
unfoldable pub edition1_place : State → Bytes
edition1_place s =
    (0x33 ∷ 0x50 ∷ (two_bytes 1 ++ (two_bytes (length s.mental.π) ++ (two_bytes 44 ++ (two_bytes s.phase ++ two_bytes s.finished)))))
    ++ (s.mental.σ ++ (s.mental.γ ++ s.mental.π))

-- The same sentence: the state that a place's bytes stand for.
unfoldable pub edition1_placed : Bytes → State
edition1_placed p = record {
  mental = ⟨ edition1_set_at p 12 / drop 44 p / edition1_set_at p 28 ⟩;
  phase = number_at p 8;
  finished = number_at p 10;
}

-- 01, "Numbers the guide may answer": "then a place with 1, 2, 3, 4, 8, 9", under a card that has a layout.
unfoldable pub edition1_place_table : Layout → List (Row Bytes)
edition1_place_table l =
    -- 01, "Numbers the guide may answer", row 1: "place under 44"
    (Refusal.Short given_when (λ p. not (leb 44 (length p))))
    -- 01, "The place": "Bytes 33 50 hex; edition 1 at 2"
    ∷ (Refusal.Mark given_when (λ p. not (marked 0x50 p && eqb (number_at p 2) 1)))
    ∷ (Refusal.Count given_when (λ p. not (place_counts_good p)))
    -- 01, "The place": "plan offset 44 at 6", "Exactly 44 + L bytes."
    ∷ (Refusal.Offsets given_when (λ p. not (eqb (number_at p 6) 44 && eqb (length p) (44 + number_at p 4))))
    ∷ (Refusal.ActionByte given_when (λ p. not (actions_good l.actions (drop 44 p))))
    ∷ (Refusal.Atom given_when (λ p. not (both_good l.atoms (edition1_set_at p 12) (edition1_set_at p 28))))
    ∷ []

-- The same, of a place.
unfoldable pub edition1_place_answer : Layout → Bytes → Answer
edition1_place_answer l p = first_given (edition1_place_table l) p
