-- Two cards of 256 nodes whose last condition is large as a tree: one has 2 to the 255th leaves, one is nested 255 deep (02,
-- Wish 3; proved in proofs/OnePassCases.antt).
use Rattle.std.specs.Prelude.{◌≡◌, Bool, true, false, [], ◌∷◌, map, ℕ, zero, suc, Ok}
use Rattle.paper.specs.Language.{𝐁, Config, ⟨◌/◌/◌⟩}
use Rattle.runs.specs.Order.{numbers}
use Rattle.meaning.specs.Card.{Bytes, layout}
use Rattle.meaning.specs.Refusals.{card_answer}
use Rattle.meaning.specs.Assembled.{assembled}
use Rattle.meaning.specs.Stripe.{card_set, set, specification}
use Rattle.choices.specs.OnePass.{value_of, Settles}

-- A card of 256 nodes, each given by its number: with one atom, one action that weighs 1, and one specification, on node 255.
unfoldable pub card_of : (ℕ → Bytes) → Bytes
card_of node = assembled 1 (1 ∷ []) (map node (numbers 0 256)) (specification 0 255 0 0 ∷ []) [] [] [] (card_set 0) (card_set 0) 0 0

-- 01, "The card, edition 1": "1 believes a" and "4 a and b": node 0 believes atom 0, each other joins the one below with itself.
unfoldable pub shared_node : ℕ → Bytes
shared_node zero = 1 ∷ 0 ∷ 0 ∷ 0 ∷ []
shared_node (suc k) = 4 ∷ k ∷ k ∷ 0 ∷ []

-- As a tree, node 255 has 2 to the 255th leaves.
unfoldable pub shared_card : Bytes
shared_card = card_of shared_node

-- 01, "The card, edition 1": "1 believes a" and "3 not a (b = 0)": node 0 believes atom 0, each other is "not" of the one below.
unfoldable pub deep_node : ℕ → Bytes
deep_node zero = 1 ∷ 0 ∷ 0 ∷ 0 ∷ []
deep_node (suc k) = 3 ∷ k ∷ 0 ∷ 0 ∷ []

-- 02, Wish 3: "when a designer nests conditions two hundred deep": node 255 is nested 255 deep, as deep as a card can.
unfoldable pub deep_card : Bytes
deep_card = card_of deep_node

-- Atom 0 is believed.
unfoldable pub believed : Config
believed = ⟨ set 1 / [] / set 0 ⟩

-- Atom 0 is not believed.
unfoldable pub missing : Config
missing = ⟨ set 0 / [] / set 0 ⟩

-- Of node 255 of a card: the value of its condition's tree is v, and by the tree node i settles it. Serves OnePassCases.
abbrev pub LastIs : Bytes → Config → Bool → ℕ → Type 0
LastIs b c v i = (value_of 𝐁 (layout b) b c 255 ≡ v) × Settles 𝐁 (layout b) b c i 255

-- 02, Wish 3: "Answers and promises remain what they are", of the two cards. No value is looked for in a tree: one pass is
-- computed, and OnePassLaw leads from it to the tree.
pub record OnePassCases : Type 0 where
  pub shared_accepted : card_answer shared_card ≡ Ok tt
  pub shared_believed : LastIs shared_card believed true 0
  pub shared_missing : LastIs shared_card missing false 0
  pub deep_accepted : card_answer deep_card ≡ Ok tt
  -- turned by an odd number of "not"
  pub deep_believed : LastIs deep_card believed false 0
  pub deep_missing : LastIs deep_card missing true 0
