-- Edition 2 (02, Wish 9): its sizes, the longest card, the order in which files of both editions are refused, and the edition in
-- which a place is saved (proved in proofs/).
use Rattle.std.specs.Prelude.{◌≡◌, true, false, ◌+◌, ◌≤◌, ◌<◌, length, Ok, Err}
use Rattle.runs.specs.Order.{State}
use Rattle.meaning.specs.declared.Refusal.{Refusal}
use Rattle.meaning.specs.declared.Layout.{Layout}
use Rattle.meaning.specs.Sizes.{set_bytes, most_atoms, goals_at, header_bytes, del_at, specification_bytes, place_goals_at, plan_at}
use Rattle.meaning.specs.Card.{Bytes, number_at, layout}
use Rattle.meaning.specs.Place.{place}
use Rattle.meaning.specs.Refusals.{first_given, card_mark_good, card_answer, place_mark_good, place_table}
use Rattle.meaning.specs.Theorems.{Holds}

-- 02, Wish 9: "sets of 32 bytes, so a card's header grows to 96 bytes before the weights and a place's plan starts at 76".
pub record Edition2Sizes (l : Layout) : Type 0 where
  -- "sets of 32 bytes"
  pub set : set_bytes l ≡ 32
  -- "Jacquard cards need 256 atoms."
  pub atoms : most_atoms (set_bytes l) ≡ 256
  -- the initial beliefs stand at 32, and have 32 bytes
  pub goals : goals_at (set_bytes l) ≡ 64
  -- "a card's header grows to 96 bytes before the weights"
  pub header : header_bytes (set_bytes l) ≡ 96
  -- action, node, 0, 0, Add, Del
  pub specification : specification_bytes (set_bytes l) ≡ 68
  pub del : del_at (set_bytes l) ≡ 36
  -- the beliefs stand at 12, and have 32 bytes; "a place's plan starts at 76"
  pub place_goals : place_goals_at (set_bytes l) ≡ 44
  pub plan : plan_at (set_bytes l) ≡ 76

-- 02, Wish 9: "An edition 2 card is at most 32,352 bytes"; of edition 1 it is 24,128.
pub record Longest (b : Bytes) : Type 0 where
  pub either : length b ≤ 32352
  pub edition1 : (layout b).edition ≡ 1 → length b ≤ 24128

-- 02, Wish 9: "a file under 4 bytes is 1, then a wrong mark or edition is 2, then one shorter than its edition's header is 1", of a
-- card.
pub record CardOrder (b : Bytes) : Type 0 where
  -- "a file under 4 bytes is 1"
  pub under_four : length b < 4 → card_answer b ≡ Err Refusal.Short
  -- "then a wrong mark or edition is 2"
  pub wrong : 4 ≤ length b → card_mark_good b ≡ false → card_answer b ≡ Err Refusal.Mark
  -- "then one shorter than its edition's header is 1"
  pub short : 4 ≤ length b → card_mark_good b ≡ true → length b < header_bytes (set_bytes (layout b)) → card_answer b ≡ Err Refusal.Short

-- The same, of a place under a card that has a layout.
pub record PlaceOrder (l : Layout) (p : Bytes) : Type 0 where
  -- "a file under 4 bytes is 1"
  pub under_four : length p < 4 → first_given (place_table l) p ≡ Err Refusal.Short
  -- "then a wrong mark or edition is 2"
  pub wrong : 4 ≤ length p → place_mark_good l p ≡ false → first_given (place_table l) p ≡ Err Refusal.Mark
  -- "A place whose edition isn't its card's is met with refusal 2."
  pub other_edition : 4 ≤ length p → (number_at p 2 ≡ l.edition → ⊥) → first_given (place_table l) p ≡ Err Refusal.Mark
  -- "then one shorter than its edition's header is 1"
  pub short : 4 ≤ length p → place_mark_good l p ≡ true → length p < plan_at (set_bytes l) → first_given (place_table l) p ≡ Err Refusal.Short

-- 02, Wish 9: "a place is saved in its card's edition": that edition stands at 2, and so many bytes are saved.
pub record SavedIn (l : Layout) (s : State) : Type 0 where
  pub edition : number_at (place l s) 2 ≡ l.edition
  pub total : Holds l s.mental.σ → Holds l s.mental.γ → length (place l s) ≡ plan_at (set_bytes l) + length s.mental.π

-- 02, Wish 9, together.
pub record Edition2 : Type 0 where
  pub sizes : (l : Layout) → l.edition ≡ 2 → Edition2Sizes l
  pub longest : (b : Bytes) → card_answer b ≡ Ok tt → Longest b
  pub card_order : (b : Bytes) → CardOrder b
  pub place_order : (l : Layout) (p : Bytes) → PlaceOrder l p
  -- of a card that is accepted, which is of edition 1 or 2
  pub saved_in : (b : Bytes) (s : State) → card_answer b ≡ Ok tt → SavedIn (layout b) s
