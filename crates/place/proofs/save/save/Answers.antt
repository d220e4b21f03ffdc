use Rattle.meaning.specs.declared.Layout.{Layout}
use Rattle.meaning.specs.Calls.{saves, save_leaves}
use Rattle.card.specs.Rows.{answer_of}
use Rattle.meaning.specs.Configurations.{state_of}
use Rattle.meaning.specs.Place.{place}
use Rattle.place.proofs.Laws.{place_length}
use Rattle.door.proofs.Accepting.{admitted_good}
use Rattle.door.proofs.Written.{refused_written, is_room, written_none, written_all}
use Rattle.layout.specs.PlaceParts.{configured}
use mathlib.Core.Path.{◌≡◌, ap, ap₂, sym, ◌∙◌}
use mathlib.Core.List.{◌++◌}
use borrow.Author.Rules.{rules}
use lib.ListN.{length, drop}
use Rattle.place.proofs.save.save.Goals as goal

pub returns-in_default : goal.returns-in_default
unfolding saves save_leaves
returns-in_default c =
    let a = c.args in
    let r = refused_written a.card.now (configured a.beliefs.now a.goals.now a.m a.plan.now) _ c.in_default.ensures _ (c.answer_of.ensures ∙ ap answer_of c.in_default.is) _ a.out.now _ c.refused_write.ensures in
    record { plan_value = r.0; out_after = r.1 }

pub place_size-n-requires : goal.place_size-n-requires
place_size-n-requires c = let h = c.in-Ok.ensures.ready.fits in search (rules, h)

-- "the lent list or place buffer is too short"
pub returns-in_default-room : goal.returns-in_default-room
unfolding saves save_leaves
returns-in_default-room c =
    let a = c.args in
    let b = c.in-Ok.card.bytes.now in
    let d = configured a.beliefs.now a.goals.now a.m a.plan.now in
    let lb : length a.beliefs.now ≡ 32 = (let k = c.size-arg-1.given in search (rules, k)) in
    let lg : length a.goals.now ≡ 32 = (let k = c.size-arg-2-1.given in search (rules, k)) in
    let told = c.in-Ok.ensures in
    let m = c.place_size-n.ensures ∙ place_length _ b d told.ready lb lg in
    let j = c.judge_room-room in
    let r = written_none b d (admitted_good b d _ told.value).0 _ a.out.now _ m j.result j.ensures _ c.in_default-room.is _ c.refused_write-in_default-room.ensures in
    record {
      plan_value = r.0 ∙ ap (λ x. saves x d a.out.now) told.same;
      out_after = r.1 ∙ ap (λ x. save_leaves x d a.out.now) told.same;
    }

pub overflow_cast-count : goal.overflow_cast-count
overflow_cast-count c =
    let h = c.in-Ok.ensures.ready in
    let k = h.card.layout.set_most in
    let f = h.fits in
    let n = c.place_size-n.ensures in
    search (rules, f, n, k)

pub write_place-requires : goal.write_place-requires
write_place-requires c =
    let s = c.place_size-n in
    let j = c.judge_room-room in
    let r = c.in-Ok.ensures.ready in
    (r.fits, rw s.ensures at (is_room s.result (length c.args.out.now) j.result j.ensures c.in-Ok-room.is))

pub returns : goal.returns
unfolding saves save_leaves
returns c =
    let a = c.args in
    let b = c.in-Ok.card.bytes.now in
    let d = configured a.beliefs.now a.goals.now a.m a.plan.now in
    let lb : length a.beliefs.now ≡ 32 = (let k = c.size-arg-1.given in search (rules, k)) in
    let lg : length a.goals.now ≡ 32 = (let k = c.size-arg-2-1.given in search (rules, k)) in
    let told = c.in-Ok.ensures in
    let m = c.place_size-n.ensures ∙ place_length _ b d told.ready lb lg in
    let j = c.judge_room-room in
    let r = written_all b d (admitted_good b d _ told.value).0 _ a.out.now _ m j.result j.ensures c.in-Ok-room.is _
    (c.write_place.ensures ∙ ap₂ (λ (x : Layout) k. place x (state_of d) ++ drop k a.out.now) told.ready.card.layout.says (sym c.place_size-n.ensures ∙ m)) in
    record {
      plan_value = r.0 ∙ ap (λ x. saves x d a.out.now) told.same;
      out_after = r.1 ∙ ap (λ x. save_leaves x d a.out.now) told.same;
    }
