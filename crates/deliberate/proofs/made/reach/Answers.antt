use Rattle.std.specs.Prelude as Std
use Rattle.paper.specs.Atoms.{◌∈◌}
use Rattle.sets.proofs.Members.{passing_below}
use Rattle.paper.specs.Next.{is_some}
use Rattle.layout.specs.PlaceParts.{configured}
use Rattle.meaning.specs.Configurations.{state_of}
use Rattle.meaning.specs.Card.{agent_for}
use Rattle.deliberation.specs.FirstMove.{lowest_action}
use Rattle.deliberate.proofs.Marking.{at_some}
use Rattle.deliberation.specs.Entries.{move_at}
use Rattle.deliberate.proofs.Descending.{stacked_room, down_came, later_kept}
use mathlib.Core.Bool.{Bool}
use mathlib.Core.Path.{refl, ap, ◌∙◌}
use Prim.Native.Nat.{ℕ}
use native.Mathlib.Omega.{arith}
use Rattle.deliberate.proofs.made.reach.Goals as goal

pub returns-then-first-lt5 : goal.returns-then-first-lt5
returns-then-first-lt5 c =
    let a = c.args in
    let b = a.card.now.bytes.now in
    let p = a.program.now in
    let (_, g, st) = c.requires in
    let q = c.lead-first in
    let (x, rising, kept) = q.ensures.reaches in
    let low = c.if-first-lt5.true in record {
      all_sets = λ σ γ j.
          (let d = configured σ γ a.m a.plan.now in
          let has : ℕ → Bool = λ i. is_some (move_at a.card.now.layout b p (state_of d).mental i) in
          record {
            leaf = record { entry = x.entry; leaf = omega arith; stacked = x.stacked };
            same = down_came a.card.now.layout b p d g a.from has (λ i h. refl) (q.ensures.by_index has);
            action = c.action_for.ensures σ γ j;
          });
      top_le_top = (rising, kept);
    }

pub mark_moves-movable-requires : goal.mark_moves-movable-requires
mark_moves-movable-requires c =
    let (j, g, st) = c.requires in
    let h = stacked_room c.lead-first.ensures.reaches.0.stacked.stacked in
    (j, g, omega arith)

pub returns : goal.returns
unfolding lowest_action
returns c =
    let a = c.args in
    let b = a.card.now.bytes.now in
    let p = a.program.now in
    let (_, g, st) = c.requires in
    let q = c.lead-first in
    let (x, rising, kept) = q.ensures.reaches in
    let k = c.mark_moves-movable in
    let e = c.descend in
    let (y, rising', kept') = e.ensures.at_leaf in record {
      all_sets = λ σ γ j.
          (let d = configured σ γ a.m a.plan.now in
          let has : ℕ → Bool = λ i. is_some (move_at a.card.now.layout b p (state_of d).mental i) in
          let act = c.first_of_kind-action.ensures σ γ j in
          let acts = c.is_some.ensures ∙ ap Std.is_some act ∙ at_some (lowest_action (agent_for a.card.now.layout b) (state_of d).mental) in
          record {
            leaf = y;
            same =
                down_came a.card.now.layout b p d g a.from has (λ i h. refl) (q.ensures.by_index has)
                ∙ down_came a.card.now.layout b p d g q.result.at (λ i. i ∈ k.result) (passing_below has q.result.at k.result (k.ensures σ γ j acts)) e.ensures.down;
            action = λ _. act;
          });
      top_le_top = (omega arith, later_kept q.result.top a.top e.new.stack q.new.stack rising kept' ∙ kept);
    }
