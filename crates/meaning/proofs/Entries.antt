-- Row 7 taken apart: what it asks of each entry of a card.
use mathlib.Core.Path.{◌≡◌}
use mathlib.Core.Bool.{Bool, true}
use Prim.Native.Nat.{ℕ, ◌<◌}
use Rattle.paper.proofs.Relation.{both}
use Rattle.meaning.specs.declared.Layout.{Layout}
use Rattle.meaning.specs.Card.{Bytes, specification_at, selection_at, revision_at}
use Rattle.meaning.specs.Refusals.{every, containing, span_good, specification_good, selection_good, revision_good, rules_good}
use Rattle.meaning.proofs.Every.{every_at}

pub record GoodEntries (l : Layout) (b : Bytes) : Type 0 where
  pub specification : (i : ℕ) → i < l.specifications.count → specification_good (containing 2 l b) l (specification_at l b i) ≡ true
  pub selection : (i : ℕ) → i < l.selections.count → selection_good (containing 1 l b) (containing 2 l b) l (selection_at l b i) ≡ true
  pub revision : (i : ℕ) → i < l.revisions.count → revision_good (containing 2 l b) l (revision_at l b i) ≡ true
  pub initial : span_good l 0 l.initial ≡ true

pub good_entries : (l : Layout) (b : Bytes) → rules_good (containing 1 l b) (containing 2 l b) l b ≡ true → GoodEntries l b
unfolding rules_good
good_entries l b e =
    let specification : ℕ → Bool = λ i. specification_good (containing 2 l b) l (specification_at l b i) in
    let selection : ℕ → Bool = λ i. selection_good (containing 1 l b) (containing 2 l b) l (selection_at l b i) in
    let revision : ℕ → Bool = λ i. revision_good (containing 2 l b) l (revision_at l b i) in
    let (h1, e1) = both (every l.specifications.count specification) _ e in
    let (h2, e2) = both (every l.selections.count selection) _ e1 in
    let (h3, e3) = both (every l.revisions.count revision) _ e2 in
    record {
      specification = λ i h. every_at specification l.specifications.count i h1 h;
      selection = λ i h. every_at selection l.selections.count i h2 h;
      revision = λ i h. every_at revision l.revisions.count i h3 h;
      initial = e3;
    }
