-- What stands under a number of a card's agent.
use mathlib.Core.Path.{◌≡◌, ap, ◌∙◌}
use mathlib.Core.Option.{Option, some}
use Prim.Native.Nat.{ℕ, ◌<◌}
use native.Mathlib.Nat.{zero-add}
use lib.ListN.{get_elem?}
use Rattle.paper.specs.Language.{𝐁, 𝐆, Specification, Selection, Revision}
use Rattle.runs.proofs.Numbers.{made_entry}
use Rattle.meaning.specs.declared.Layout.{Layout}
use Rattle.meaning.specs.Card.{Bytes, conditions, specification_at, selection_at, revision_at, specification_of, selection_of, revision_of, agent_of, agent_for}

module _ (l : Layout) (b : Bytes) where
  abbrev pub selection_for : ℕ → Selection
  selection_for i = selection_of (conditions 𝐁 l b) (conditions 𝐆 l b) l b (selection_at l b i)

  abbrev pub specification_for : ℕ → Specification
  specification_for i = specification_of (conditions 𝐁 l b) (specification_at l b i)

  abbrev pub revision_for : ℕ → Revision
  revision_for i = revision_of (conditions 𝐁 l b) l b (revision_at l b i)

  module _ (i : ℕ) where
    pub selection_entry : i < l.selections.count → get_elem? (agent_for l b).PS i ≡ some (selection_for i)
    unfolding agent_for agent_of
    selection_entry h = made_entry selection_for 0 l.selections.count i h ∙ ap {B = Option Selection} (λ j. some (selection_for j)) (zero-add i)

    pub specification_entry : i < l.specifications.count → get_elem? (agent_for l b).AS i ≡ some (specification_for i)
    unfolding agent_for agent_of
    specification_entry h = made_entry specification_for 0 l.specifications.count i h ∙ ap {B = Option Specification} (λ j. some (specification_for j)) (zero-add i)

    pub revision_entry : i < l.revisions.count → get_elem? (agent_for l b).PR i ≡ some (revision_for i)
    unfolding agent_for agent_of
    revision_entry h = made_entry revision_for 0 l.revisions.count i h ∙ ap {B = Option Revision} (λ j. some (revision_for j)) (zero-add i)
