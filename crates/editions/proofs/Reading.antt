-- A card of edition 1 has the weights, the agent and the start that document 01 reads, with each set in 32 bytes.
use mathlib.Core.Path.{◌≡◌, ap, ap₂, ◌∙◌, sym}
use mathlib.Core.Logic.{⊎_elim}
use mathlib.Core.List.{map, map-map}
use Prim.Native.Nat.{ℕ, ◌+◌, ◌*◌}
use lib.ListN.{get_or}
use Rattle.paper.specs.Language.{𝐁, ⟨◌/◌/◌⟩}
use Rattle.paper.specs.Transitions.{struck_by}
use Rattle.runs.specs.Order.{numbers}
use Rattle.std.specs.Prelude.{Ok}
use Rattle.meaning.specs.Sizes.{set_bytes, goals_at, header_bytes}
use Rattle.meaning.specs.Card.{Bytes, number_at, part, widened, layout, entries, weights, weight, conditions, specification_at, specification_of, agent_of, agent_for, agent, start, initial_plan}
use Rattle.editions.proofs.Widening.{widened-∖}
use Rattle.meaning.proofs.Tables.{done≢refused}
use Rattle.editions.specs.Edition1.{edition1_set_at, edition1_specification_at, edition1_weight, edition1_agent, edition1_start, edition1_answer}
use Rattle.editions.specs.Moves.{widened_specification, widened_agent, widened_config, widened_state}
use Rattle.editions.specs.AsBefore.{CardAsBefore}
use Rattle.editions.proofs.Rows.{edition1_sizes, same_specification, part_16}
use Rattle.editions.proofs.Cards.{was_edition1, only, new_edition, wrong_and_short}

module _ (b : Bytes) (e : (layout b).edition ≡ 1) where
  s16 : set_bytes (layout b) ≡ 16
  s16 = (edition1_sizes (layout b) e).set

  same_weight : (a : ℕ) → weight b a ≡ edition1_weight b a
  unfolding weight weights edition1_weight
  same_weight a = ap (λ s. get_or (map (λ k. number_at b (header_bytes s + 2 * k)) (numbers 0 (layout b).actions)) a 1) s16

  same_agent : agent b ≡ widened_agent (edition1_agent b)
  unfolding agent agent_for agent_of edition1_agent widened_agent specification_of widened_specification
  same_agent =
      let l = layout b in
      let βs = conditions 𝐁 l b in
      let same : entries (λ i. specification_of βs (specification_at l b i)) l.specifications ≡ map widened_specification (entries (λ i. specification_of βs (edition1_specification_at l b i)) l.specifications)
      = ap (λ f. entries f l.specifications) (λ j i. specification_of βs (same_specification l e b i j)) ∙ sym (map-map widened_specification (λ i. specification_of βs (edition1_specification_at l b i)) (numbers 0 l.specifications.count)) in
      λ i. record { PS = (agent b).PS; PR = (agent b).PR; AS = same i }

  same_start : start b ≡ widened_state (edition1_start b)
  unfolding start edition1_start widened_state widened_config
  same_start =
      let σ : part b 32 (set_bytes (layout b)) ≡ edition1_set_at b 32 = ap (part b 32) s16 in
      let γ : part b (goals_at (set_bytes (layout b))) (set_bytes (layout b)) ≡ edition1_set_at b 48 = ap (λ s. part b (goals_at s) s) s16 in
      let s : struck_by (widened (part b 32 (set_bytes (layout b)))) (widened (part b (goals_at (set_bytes (layout b))) (set_bytes (layout b)))) ≡ widened (struck_by (edition1_set_at b 32) (edition1_set_at b 48))
      = ap₂ (λ x y. struck_by (widened x) (widened y)) σ γ ∙ sym (widened-∖ (edition1_set_at b 48) (edition1_set_at b 32) (part_16 b 48)) in
      λ i. record { mental = ⟨ widened (σ i) / initial_plan b / s i ⟩; phase = 0; finished = 0 }

pub card_as_before : (b : Bytes) → edition1_answer b ≡ Ok tt → CardAsBefore b
unfolding layout
card_as_before b d =
    let e : (layout b).edition ≡ 1 = was_edition1 b d in
    record {
      accepted = ⊎_elim (λ s. s ∙ d) (⊎_elim (λ two. absurd (⊎_elim (λ f. done≢refused (sym d ∙ f)) (λ f. done≢refused (sym d ∙ f)) (new_edition b two))) (λ w. absurd (done≢refused (sym d ∙ (wrong_and_short b w).0)))) (only b);
      sizes = edition1_sizes (layout b) e;
      weights = same_weight b e;
      same_agent = same_agent b e;
      same_start = same_start b e;
    }
