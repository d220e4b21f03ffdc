use Rattle.meaning.specs.Calls.{over, lists, list_leaves}
use Rattle.card.specs.Rows.{answer_of}
use Rattle.listing.proofs.Gathering.{gathered_few, gathered_many, card_codes}
use Rattle.listing.proofs.Writing.{the_codes, how_many_lem}
use Rattle.listing.proofs.Answering.{refused_told, done_told, judged_most}
use Rattle.layout.proofs.GoodLayout.{at_most_256}
use Rattle.door.proofs.Accepting.{admitted_good}
use Rattle.door.proofs.Written.{refused_written, is_room, written_none, written_all}
use mathlib.Core.Path.{refl, ap, ◌∙◌}
use Rattle.layout.specs.PlaceParts.{configured}
use native.Mathlib.Omega.{arith}
use lib.ListN.{length}
use Rattle.listing.proofs.list.list.Goals as goal

pub returns-in_default : goal.returns-in_default
unfolding list_leaves
returns-in_default c =
    let a = c.args in
    let b = a.card.now in
    let d = configured a.beliefs.now a.goals.now a.m a.plan.now in
    let e = c.in_default.ensures in
    let t = c.answer_of.ensures ∙ ap answer_of c.in_default.is in
    let w = refused_written b d _ e _ t _ a.out.now (record { answer = c.answer_of.result; count = 0 }) refl in record {
      plan_value = refused_told b d a.out.now _ _ t w.0 _ c.refused_list.ensures;
      out_after = w.1;
    }

pub gather-looked-requires : goal.gather-looked-requires
gather-looked-requires c = (c.in-Ok.ensures.ready, refl)

pub returns-in_default-room : goal.returns-in_default-room
unfolding list_leaves
returns-in_default-room c =
    let a = c.args in
    let b = c.in-Ok.card.bytes.now in
    let d = configured a.beliefs.now a.goals.now a.m a.plan.now in
    let told = c.in-Ok.ensures in
    let (e, s) = admitted_good b d _ told.value in
    let f = c.gather-looked in
    let j = c.judge_room-room in
    let q = c.in_default-room.is in
    let w = written_none b d e _ a.out.now f.result.enabled (how_many_lem b d _ s told.ready.card.layout f.new.codes f.result.enabled f.ensures.gathered) j.result j.ensures _ q (record { answer = j.result; count = 0 }) refl in record {
      plan_value = refused_told b d a.out.now _ _ q w.0 _ c.refused_list-in_default-room.ensures ∙ ap (λ x. lists x d a.out.now) told.same;
      out_after = w.1 ∙ ap (λ x. list_leaves x d a.out.now) told.same;
    }

pub write-requires : goal.write-requires
write-requires c =
    let a = c.args in
    let b = c.in-Ok.card.bytes.now in
    let d = configured a.beliefs.now a.goals.now a.m a.plan.now in
    let told = c.in-Ok.ensures in
    let f = c.gather-looked in
    let j = c.judge_room-room in
    let n = f.new.codes in
    let h = is_room f.result.enabled (length a.out.now) j.result j.ensures c.in-Ok-room.is in
    let m = gathered_many _ 768 n f.result.enabled f.ensures.gathered in
    (card_codes _ b d (at_most_256 _ b told.ready.card.layout) n f.result.enabled f.ensures.gathered f.ensures.codes_len, omega arith)

pub overflow_cast-result : goal.overflow_cast-result
overflow_cast-result c =
    let f = c.gather-looked in
    let m = gathered_few _ 768 f.new.codes f.result.enabled f.ensures.gathered in
    omega arith

pub overflow_cast-result-2 : goal.overflow_cast-result-2
overflow_cast-result-2 c =
    let a = c.args in
    let b = c.in-Ok.card.bytes.now in
    let d = configured a.beliefs.now a.goals.now a.m a.plan.now in
    let told = c.in-Ok.ensures in
    let f = c.gather-looked in
    let j = f.ensures.judged_value in
    let m = judged_most b d a.out.now _ told.ready.card.layout in
    omega (arith, j, m)

pub returns : goal.returns
unfolding list_leaves
returns c =
    let a = c.args in
    let b = c.in-Ok.card.bytes.now in
    let d = configured a.beliefs.now a.goals.now a.m a.plan.now in
    let told = c.in-Ok.ensures in
    let (e, s) = admitted_good b d _ told.value in
    let l = told.ready.card.layout in
    let f = c.gather-looked in
    let j = c.judge_room-room in
    let n = f.new.codes in
    let w = written_all b d e _ a.out.now f.result.enabled (how_many_lem b d _ s l n f.result.enabled f.ensures.gathered) j.result j.ensures c.in-Ok-room.is _ (c.write.ensures ∙ ap (λ xs. over xs a.out.now) (the_codes b d _ s l n f.result.enabled f.ensures.gathered)) in record {
      plan_value = done_told b d a.out.now _ s f.result.enabled f.result.judged c.size.result w.0 f.ensures.judged_value c.size.ensures ∙ ap (λ x. lists x d a.out.now) told.same;
      out_after = w.1 ∙ ap (λ x. list_leaves x d a.out.now) told.same;
    }
