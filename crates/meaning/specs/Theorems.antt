-- What is proved of a card's meaning (in proofs/).
use Rattle.std.specs.Prelude.{◌≡◌, ◌↔◌, Bool, true, false, not, ℕ, ◌≤◌, ◌<◌, length, get_or, take, Ok, Err}
use mathlib.Core.List.{List, [], ◌∷◌, ◌++◌, map, Memᴰ}
use Rattle.paper.specs.Atoms.{◌∈◌}
use Rattle.paper.specs.Language.{Letter, 𝐁, 𝐆, Config}
use Rattle.paper.specs.Transitions.{◌⊨◌, select}
use Rattle.paper.specs.Theorems.{AreBytes}
use Rattle.runs.specs.Limits.{longest_plan, most_finished}
use Rattle.runs.specs.Order.{State}
use Rattle.runs.specs.Theorems.{NoneBelieved, Numbered, GradeLaws}
use Rattle.meaning.specs.declared.Refusal.{Refusal}
use Rattle.meaning.specs.declared.Layout.{Layout}
use Rattle.meaning.specs.declared.Configuration.{Configuration}
use Rattle.meaning.specs.Sizes.{set_bytes}
use Rattle.meaning.specs.Card.{Bytes, widened, layout, node_at, conditions, condition, specification_at, selection_at, revision_at, weight, agent, initial_plan, start}
use Rattle.meaning.specs.Why.{settler, turns, why}
use Rattle.meaning.specs.Configurations.{state_of, configuration_of, empty}
use Rattle.meaning.specs.Place.{place, placed}
use Rattle.meaning.specs.Refusals.{number_of, card_answer, Row, first_given, card_table, configuration_table, place_table, configuration_good}
use Rattle.meaning.specs.BoundedCalls.{bounded_table}

-- 01, "Numbers the guide may answer": "given exactly when" and "tested in the table's order": a row answers when what it is
-- given for holds and nothing of the rows before it does.
pub record FirstRow {X : Type 0} (rows : List (Row X)) (x : X) (r : Refusal) : Type 0 where
  -- the rows before it
  pub before : List (Row X)
  -- the row that answers
  pub row : Row X
  -- the rows behind it
  pub behind : List (Row X)
  -- the table is these
  pub stands : rows ≡ before ++ (row ∷ behind)
  -- 01, "Numbers the guide may answer": "tested in the table's order": nothing of the rows before it holds.
  pub passed : (q : Row X) → Memᴰ q before → q.when x ≡ false
  -- 01, "Numbers the guide may answer": "given exactly when"
  pub holds : row.when x ≡ true
  -- 01, "Numbers the guide may answer": "A refusal answers the number"
  pub answers : row.refusal x ≡ r

-- 01, "Numbers the guide may answer": "given exactly when", of a whole table.
pub record TableLaws {X : Type 0} (rows : List (Row X)) (x : X) : Type 0 where
  -- 01, "Numbers the guide may answer": "given exactly when", and "tested in the table's order"
  pub refused_exactly : (r : Refusal) → (first_given rows x ≡ Err r) ↔ FirstRow rows x r
  -- 01, "Numbers the guide may answer", row 0: "none below holds"
  pub done_exactly : (first_given rows x ≡ Ok tt) ↔ ((q : Row X) → Memᴰ q rows → q.when x ≡ false)

-- The same of every table and what is asked of it.
abbrev pub TableLaw : Type 1
TableLaw = (X : Type 0) (rows : List (Row X)) (x : X) → TableLaws rows x

-- The rows of a table by their numbers: 01, "Numbers the guide may answer": "no.". Serves TableOrder.
abbrev pub row_numbers : {X : Type 0} → List (Row X) → X → List ℕ
row_numbers rows x = map (λ q. number_of (q.refusal x)) rows

-- 01, "Numbers the guide may answer": "They are tested in the table's order, the card first with 1 to 9, then a place with 1,
-- 2, 3, 4, 8, 9 or a configuration with 13"; 02, Wish 9: "a file under 4 bytes is 1, then a wrong mark or edition is 2, then one
-- shorter than its edition's header is 1".
pub record TableOrder : Type 0 where
  -- 01, "Numbers the guide may answer": "the card first with 1 to 9"
  pub card : (b : Bytes) → row_numbers card_table b ≡ 1 ∷ 2 ∷ 1 ∷ 3 ∷ 4 ∷ 5 ∷ 6 ∷ 7 ∷ 8 ∷ 9 ∷ []
  -- 01, "Numbers the guide may answer": "then a place with 1, 2, 3, 4, 8, 9"
  pub place : (l : Layout) (p : Bytes) → row_numbers (place_table l) p ≡ 1 ∷ 2 ∷ 1 ∷ 3 ∷ 4 ∷ 8 ∷ 9 ∷ []
  -- 01, "Numbers the guide may answer": "a configuration with 13"
  pub configuration : (l : Layout) (c : Configuration) → row_numbers (configuration_table l) c ≡ 13 ∷ []
  -- 02, Wish 10: "22 the card is open or the plan too heavy"
  pub bounded : (b : Bytes) (c : Configuration) → row_numbers (bounded_table b) c ≡ 22 ∷ []

-- 00, demands 2 and 3: "On an accepted card", what holds of it.
pub record CardLaws (b : Bytes) : Type 0 where
  -- 00, the machine: "256 action specifications, 256 rules for choosing a plan": no two of its choices have one code.
  pub numbered : Numbered (agent b)
  -- 00, demand 3: "A card is graded bounded exactly if …", and what holds "Under such a card".
  pub graded : GradeLaws (weight b) (agent b) (initial_plan b)

-- 00, demands 2 and 3: "On an accepted card": each of them.
abbrev pub CardLaw : Type 0
CardLaw = (b : Bytes) → card_answer b ≡ Ok tt → CardLaws b

-- 02, Wish 5: "the goals are those not believed, and at load likewise": no goal that a card starts with is believed.
abbrev pub StartLaw : Type 0
StartLaw = (b : Bytes) → NoneBelieved (start b).mental

-- 01, "Numbers the guide may answer": "the empty one (no atoms, empty plan, phase 0)".
pub record EmptyLaw : Type 0 where
  pub no_atoms : (k : ℕ) → (k ∈ (state_of empty).mental.σ ≡ false) × (k ∈ (state_of empty).mental.γ ≡ false)
  pub empty_plan : (state_of empty).mental.π ≡ []
  pub phase_0 : (state_of empty).phase ≡ 0

-- Node j stands in the condition of node i: it is that node, or stands in one of its children. Serves KindLaws: 01, "The card,
-- edition 1": "3 not a (b = 0); 4 a and b; 5 a or b."
pub data StandsIn (l : Layout) (b : Bytes) (j : ℕ) : ℕ → Type 0 where
  is_it : StandsIn l b j j
  in_first : {i : ℕ} → 3 ≤ (node_at l b i).kind → StandsIn l b j (node_at l b i).a → StandsIn l b j i
  in_second : {i : ℕ} → 4 ≤ (node_at l b i).kind → StandsIn l b j (node_at l b i).b → StandsIn l b j i

-- No node of a kind stands in the condition of node i. Serves KindLaws.
abbrev pub Without : Bytes → ℕ → ℕ → Type 0
Without b kind i = (j : ℕ) → StandsIn (layout b) b j i → (node_at (layout b) b j).kind ≡ kind → ⊥

-- 01, "A configuration and its transitions": "A belief condition contains no goal atom, and a goal condition no belief atom.":
-- of a card's entries, so that no atom is read by the other letter.
pub record KindLaws (b : Bytes) : Type 0 where
  -- 01, "A configuration and its transitions": "A specification's and a revision's condition are belief conditions."
  pub specification : (i : ℕ) → i < (layout b).specifications.count → Without b 2 (specification_at (layout b) b i).node
  pub revision : (i : ℕ) → i < (layout b).revisions.count → Without b 2 (revision_at (layout b) b i).node
  -- 01, "The card, edition 1": "belief node, goal node"
  pub selection_belief : (i : ℕ) → i < (layout b).selections.count → Without b 2 (selection_at (layout b) b i).belief
  pub selection_goal : (i : ℕ) → i < (layout b).selections.count → Without b 1 (selection_at (layout b) b i).goal

-- The same of every accepted card.
abbrev pub KindLaw : Type 0
KindLaw = (b : Bytes) → card_answer b ≡ Ok tt → KindLaws b

-- A value turned, or not. Serves SettlerLaws.
abbrev pub turned_by : Bool → Bool → Bool
turned_by false v = v
turned_by true v = not v

-- 02, Wish 1: "Judging a condition should also name the atom that settled it", of a node's condition, read by a letter.
pub record SettlerLaws (L : Letter) (l : Layout) (b : Bytes) (c : Config) (n : ℕ) : Type 0 where
  -- the node is one of the condition's own
  pub own : StandsIn l b (settler L l b c n) n
  -- 02, Wish 1: "for an atom or "true", that node": it is one of these
  pub leaf : (node_at l b (settler L l b c n)).kind ≤ 2
  -- the condition's value is that node's value, turned once for each "not" on the way to it
  pub value : (c ⊨ condition (conditions L l b) n) ≡ turned_by (get_or (turns L l b c) n false) (c ⊨ condition (conditions L l b) (settler L l b c n))

-- The same of every node of an accepted card, and every configuration.
abbrev pub SettlerLaw : Type 0
SettlerLaw = (b : Bytes) → card_answer b ≡ Ok tt → (L : Letter) (c : Config) (n : ℕ) → n < (layout b).nodes.count → SettlerLaws L (layout b) b c n

-- 02, Wish 1: "16 a condition is false, with the node, the belief condition before the goal condition.": why a selection rule that
-- the card has is closed where the plan is empty.
pub record BeliefFirst (l : Layout) (b : Bytes) (c : Config) (n : ℕ) : Type 0 where
  -- a false belief condition shows its node, whatever the goal condition is
  pub belief : (c ⊨ condition (conditions 𝐁 l b) (selection_at l b n).belief) ≡ false
      → why l b c (select n) ≡ Refusal.Condition (settler 𝐁 l b c (selection_at l b n).belief)
  -- and only where it holds the goal condition's is shown
  pub goal : (c ⊨ condition (conditions 𝐁 l b) (selection_at l b n).belief) ≡ true
      → why l b c (select n) ≡ Refusal.Condition (settler 𝐆 l b c (selection_at l b n).goal)

-- The same of every such rule and every configuration with an empty plan.
abbrev pub BeliefFirstLaw : Type 0
BeliefFirstLaw = (l : Layout) (b : Bytes) (c : Config) (n : ℕ) → n < l.selections.count → c.π ≡ [] → BeliefFirst l b c n

-- 00, demand 2: "On an accepted card and configuration": one that passes row 13 is known by its state, and a state that fits by
-- its configuration.
pub record ConfigurationLaws : Type 0 where
  -- 01, "A configuration and its transitions": "a plan (0 to 1,024 action numbers)": what is handed out stands for the state.
  pub of_state : (s : State) → length s.mental.π ≤ longest_plan → state_of (configuration_of s) ≡ s
  -- 01, "Numbers the guide may answer", row 13: "anything but zero after the plan's end": what is handed in is nothing beside
  -- its state.
  pub of_configuration : (l : Layout) (c : Configuration) → length c.plan ≡ longest_plan → configuration_good l c ≡ true
      → configuration_of (state_of c) ≡ c

-- A set as a configuration holds one of a card's edition: 32 bytes, with zeros above those that the edition has. Serves PlaceLaws.
abbrev pub Holds : Layout → Bytes → Type 0
Holds l s = widened (take (set_bytes l) s) ≡ s

-- 00, demand 2: "A place saved and restored is the same configuration; an accepted place, restored and saved, is the same
-- bytes", of the bytes and states themselves.
pub record PlaceLaws : Type 0 where
  -- 00, demand 2: "A place saved and restored is the same configuration", with sets of its card's edition, a phase of at most 2 and
  -- a count of at most 65,535: 02, Wish 4: "demand 2's round trip now covers it".
  pub saved_restored : (l : Layout) (s : State) → Holds l s.mental.σ → Holds l s.mental.γ → s.phase ≤ 2
      → s.finished ≤ most_finished → placed l (place l s) ≡ s
  -- 00, demand 2: "an accepted place, restored and saved, is the same bytes"
  pub restored_saved : (l : Layout) (p : Bytes) → AreBytes p → first_given (place_table l) p ≡ Ok tt → place l (placed l p) ≡ p
