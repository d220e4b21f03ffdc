use mathlib.Core.Path.{ap, ◌∙◌, sym, subst}
use Prim.Native.Nat.{◌+◌}
use native.Mathlib.Nat.{zero-add}
use Rattle.layout.specs.Entries.{count_of}
use Rattle.layout.proofs.GoodLayout.{at_most_256}
use Rattle.choices.specs.Judged.{Judged}
use Rattle.listing.specs.Listed.{Gathered, enabled_code}
use Rattle.listing.specs.Looking.{judged_in}
use Rattle.listing.proofs.Gathering.{gathered_none, gathered_past}
use Rattle.listing.proofs.Looking.{judged_few, is_bare, not_bare, all_selecting, all_otherwise, no_selection, no_other}
use Rattle.layout.specs.PlaceParts.{configured}
use native.Mathlib.Omega.{arith}
use Rattle.listing.proofs.gather.gather.Goals as goal

pub returns-then-m-eq0 : goal.returns-then-m-eq0
returns-then-m-eq0 c =
    let a = c.args in
    let p = c.requires in
    let z = c.if-m-eq0.true in
    let b = a.card.now.bytes.now in
    let d = configured a.beliefs.now a.goals.now a.m a.plan.now in
    let t = enabled_code a.card.now.layout b d in
    let j : Judged a.card.now.layout b d c.judge_nodes.new.marks = record { ready = p.0; marked = c.judge_nodes.ensures.0 } in
    let none = subst (λ s. Gathered t 0 s 0) (sym p.1) (gathered_none t 96) in
    let g = c.gather_kind.ensures in record {
      gathered = gathered_past t 256 _ _ (g.all_sets a.beliefs.now a.goals.now j none) 512 (no_other a.card.now.layout b d p.0 z);
      judged_value = g.all_sets_2 a.beliefs.now a.goals.now j ∙ zero-add _ ∙ all_selecting a.card.now.layout b d (is_bare a.card.now.layout b d p.0 z);
      codes_len = g.codes_len.0;
    }

pub gather_kind-requires-2 : goal.gather_kind-requires-2
gather_kind-requires-2 c =
    let a = c.args in
    let p = c.requires in
    let b = a.card.now.bytes.now in
    let d = configured a.beliefs.now a.goals.now a.m a.plan.now in
    let j : Judged a.card.now.layout b d c.judge_nodes.new.marks = record { ready = p.0; marked = c.judge_nodes.ensures.0 } in
    let g = c.gather_kind-acting.ensures in
    let h = at_most_256 a.card.now.layout b p.0.card.layout 1 in
    let f = judged_few a.card.now.layout b d 1 (count_of a.card.now.layout 1) in
    let q = g.all_sets_2 a.beliefs.now a.goals.now j in
    let e = g.codes_len.1 in record {
      some_sets = (record { beliefs = a.beliefs.now; goals = a.goals.now; judged = j }, g.codes_len.0, λ e. absurd (omega arith));
      enabled_bound = (omega arith, omega (arith, h, f, q));
    }

pub returns : goal.returns
returns c =
    let a = c.args in
    let p = c.requires in
    let b = a.card.now.bytes.now in
    let d = configured a.beliefs.now a.goals.now a.m a.plan.now in
    let t = enabled_code a.card.now.layout b d in
    let j : Judged a.card.now.layout b d c.judge_nodes.new.marks = record { ready = p.0; marked = c.judge_nodes.ensures.0 } in
    let e = not_bare a.card.now.layout b d p.0 c.if-m-eq0.false in
    let none = subst (λ s. Gathered t 256 s 0) (sym p.1) (gathered_past t 0 _ 0 (gathered_none t 96) 256 (no_selection a.card.now.layout b d e)) in
    let first = c.gather_kind-acting.ensures in
    let g = c.gather_kind-2.ensures in record {
      gathered = g.all_sets a.beliefs.now a.goals.now j (first.all_sets a.beliefs.now a.goals.now j none);
      judged_value = g.all_sets_2 a.beliefs.now a.goals.now j
          ∙ ap (λ n. n + judged_in a.card.now.layout b d 2 (count_of a.card.now.layout 2)) (first.all_sets_2 a.beliefs.now a.goals.now j ∙ zero-add _)
          ∙ all_otherwise a.card.now.layout b d e;
      codes_len = g.codes_len.0;
    }
