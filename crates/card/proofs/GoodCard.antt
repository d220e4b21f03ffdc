-- An accepted card keeps its laws.
use mathlib.Core.Path.{◌≡◌, refl, sym, subst}
use mathlib.Core.Bool.{true}
use Prim.Native.Nat.{ℕ, ◌+◌, ◌≤◌, ◌<◌}
use native.Mathlib.Omega.{arith}
use borrow.Author.Tests.{leb-true, ltb-true, not-true}
use lib.Dec.{ltb, eqb}
use lib.ListN.{length, get_or}
use Rattle.paper.proofs.Relation.{both}
use Rattle.std.specs.Prelude.{Ok}
use Rattle.meaning.specs.declared.Span.{Span}
use Rattle.meaning.specs.declared.Layout.{Layout}
use Rattle.meaning.specs.declared.SpecificationEntry.{SpecificationEntry}
use Rattle.meaning.specs.declared.SelectionEntry.{SelectionEntry}
use Rattle.meaning.specs.declared.RevisionEntry.{RevisionEntry}
use Rattle.meaning.specs.Card.{Bytes, byte, layout, weight_at, specification_at, selection_at, revision_at}
use Rattle.meaning.specs.Refusals.{within, weights_good, containing, condition_good, span_good, specification_good, selection_good, revision_good, actions_good, pool, card_answer}
use Rattle.meaning.proofs.Accepted.{accepted, within_low, within_high}
use Rattle.meaning.proofs.Entries.{good_entries}
use Rattle.meaning.proofs.Every.{every_at, all-at}
use Rattle.meaning.proofs.Parts.{length_part, part_at}
use Rattle.layout.specs.GoodLayout.{GoodLayout}
use Rattle.card.specs.GoodCard.{GoodSpan, GoodCondition, GoodSpecification, GoodSelection, GoodRevision, GoodWeight, GoodCard}
use Rattle.layout.proofs.GoodLayout.{good_layout}

module _ (l : Layout) (b : Bytes) where
  good_span : (least : ℕ) (s : Span) → span_good l least s ≡ true → GoodSpan l least s
  good_span least s e =
      let (h, k) = both (within least 1024 s.length) _ e in
      record { some = within_low _ _ _ h; fits = within_high _ _ _ h; inside = leb-true _ _ k }

  good_condition : (without node : ℕ) → condition_good l (containing without l b) node ≡ true → GoodCondition l b without node
  good_condition without node e =
      let (h, k) = both (ltb node l.nodes.count) _ e in
      record { known = ltb-true _ _ h; kind = not-true _ k }

  good_specification : (e : SpecificationEntry) → specification_good (containing 2 l b) l e ≡ true → GoodSpecification l b e
  unfolding specification_good
  good_specification e e0 =
      let (h1, e1) = both (ltb e.action l.actions) _ e0 in
      let (h2, e2) = both (condition_good l (containing 2 l b) e.node) _ e1 in
      record { action = ltb-true _ _ h1; belief = good_condition 2 e.node h2 }

  good_selection : (e : SelectionEntry) → selection_good (containing 1 l b) (containing 2 l b) l e ≡ true → GoodSelection l b e
  unfolding selection_good
  good_selection e e0 =
      let (h1, e1) = both (condition_good l (containing 2 l b) e.belief) _ e0 in
      let (h2, e2) = both (condition_good l (containing 1 l b) e.goal) _ e1 in
      let (h3, e3) = both (span_good l 1 e.plan) _ e2 in
      record { belief = good_condition 2 e.belief h1; goal = good_condition 1 e.goal h2; plan = good_span 1 e.plan h3 }

  good_revision : (e : RevisionEntry) → revision_good (containing 2 l b) l e ≡ true → GoodRevision l b e
  unfolding revision_good
  good_revision e e0 =
      let (h1, e1) = both (condition_good l (containing 2 l b) e.node) _ e0 in
      let (h2, e2) = both (eqb e.plain 0) _ e1 in
      let (h3, e3) = both (span_good l 1 e.head) _ e2 in
      let (h4, e4) = both (span_good l 0 e.body) _ e3 in
      record { belief = good_condition 2 e.node h1; head = good_span 1 e.head h3; body = good_span 0 e.body h4 }

  good_weight : weights_good l b ≡ true → (a : ℕ) → a < l.actions → GoodWeight (weight_at l b a)
  unfolding weights_good
  good_weight e a h =
      let w = every_at (λ a. within 1 1024 (weight_at l b a)) l.actions a e h in
      record { least = within_low _ _ _ w; most = within_high _ _ _ w }

  pool_action : GoodLayout l b → actions_good l.actions (pool l b) ≡ true → (i : ℕ) → i < l.pool.count → byte b (l.pool.offset + i) < l.actions
  unfolding actions_good
  pool_action d e i h =
      let inside : l.pool.offset + l.pool.count ≤ length b = (let q = d.ends in omega arith) in
      let long : i < length (pool l b) = rw (length_part b l.pool.offset l.pool.count inside) h in
      let below : get_or (pool l b) i 0 < l.actions = ltb-true _ _ (all-at (λ a. ltb a l.actions) (pool l b) i 0 e long) in
      rw (part_at b l.pool.offset l.pool.count i h) at below

good_check : (b : Bytes) → card_answer b ≡ Ok tt → GoodCard (layout b) b
good_check b e =
    let a = accepted b e in
    let l = layout b in
    let d = good_layout l b refl a.counts a.offsets in
    let g = good_entries l b a.rules in
    record {
      layout = d;
      weights = good_weight l b a.weights;
      nodes = a.nodes;
      specifications = λ i h. good_specification l b (specification_at l b i) (g.specification i h);
      selections = λ i h. good_selection l b (selection_at l b i) (g.selection i h);
      revisions = λ i h. good_revision l b (revision_at l b i) (g.revision i h);
      initial = good_span l b 0 l.initial g.initial;
      pool = pool_action l b d a.pool;
    }

pub good_card : (l : Layout) (b : Bytes) → card_answer b ≡ Ok tt → l ≡ layout b → GoodCard l b
good_card l b e q = subst (λ x. GoodCard x b) (sym q) (good_check b e)

-- a good plan may be empty, and is good under another name
pub good_as : (l : Layout) (least : ℕ) (s s' : Span) → s' ≡ s → GoodSpan l least s → GoodSpan l 0 s'
good_as l least s s' e g = subst (λ x. GoodSpan l 0 x) (sym e) (record { some = omega arith; fits = g.fits; inside = g.inside })
