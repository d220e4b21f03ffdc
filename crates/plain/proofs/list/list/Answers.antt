use mathlib.Core.Path.{◌≡◌, ap, ◌∙◌, sym, subst}
use native.Mathlib.Omega.{arith}
use borrow.Author.Rules.{rules}
use lib.ListN.{length}
use Rattle.meaning.specs.Calls.{lists, list_leaves}
use Rattle.card.specs.Rows.{answer_of}
use Rattle.door.specs.Ready.{Ready}
use Rattle.plain.proofs.Listing.{goals_few, list_refused, list_no_room, list_done}
use Rattle.plain.proofs.list.list.Goals as goal

pub returns-in_default : goal.returns-in_default
returns-in_default c =
    let a = c.args in
    list_refused a.card.now a.c a.out.now _ c.in_default.ensures _ (c.answer_of.ensures ∙ ap answer_of c.in_default.is) _ c.refused.ensures

pub gather-found-requires : goal.gather-found-requires
gather-found-requires c =
    let b = c.in-Ok.card.bytes.now in
    let r = subst (λ d. Ready c.in-Ok.card.layout b d) (sym c.unpack-u.ensures) c.in-Ok.ensures.ready in
    let t = c.unpack_card-t.ensures in record {
      ready = (r, t);
      judged_all = c.judge_all-judged.ensures b r t;
    }

pub returns-then-out-found : goal.returns-then-out-found
returns-then-out-found c =
    let a = c.args in
    let told = c.in-Ok.ensures in
    let u = c.unpack-u in
    let f = c.gather-found in
    let h : length f.result.codes ≡ 768 = search rules in
    let m = f.ensures.count_bound in
    let r = list_no_room _ a.c a.out.now _ told.value u.result u.ensures f.result.count f.result.codes (omega (arith, h, m)) f.ensures.codes_value
    c.if-out-found.true _ c.refused-then-out-found.ensures in
    (r.0 ∙ ap (λ x. lists x a.c a.out.now) told.same, r.1 ∙ ap (λ x. list_leaves x a.c a.out.now) told.same)

pub conditions_judged-requires : goal.conditions_judged-requires
conditions_judged-requires c =
    let b = c.in-Ok.card.bytes.now in
    let r = subst (λ d. Ready c.in-Ok.card.layout b d) (sym c.unpack-u.ensures) c.in-Ok.ensures.ready in
    let t = c.unpack_card-t.ensures in record {
      ready = (r, t);
      judged_all = c.judge_all-judged.ensures b r t;
    }

pub overflow_cast-result-3 : goal.overflow_cast-result-3
overflow_cast-result-3 c =
    let e = c.count_true.ensures in
    let m = goals_few c.unpack-u.result.goals 256 in
    record { fits = omega (arith, e, m) }

pub returns : goal.returns
returns c =
    let a = c.args in
    let told = c.in-Ok.ensures in
    let u = c.unpack-u in
    let f = c.gather-found in
    let h : length f.result.codes ≡ 768 = search rules in
    let m = f.ensures.count_bound in
    let t = c.if-out-found.false in
    let r = list_done _ a.c a.out.now _ told.value u.result u.ensures f.result.count f.result.codes (omega (arith, h, m)) f.ensures.codes_value
    (omega (arith, t)) _ _ c.conditions_judged.ensures.0 (search rules) c.count_true.ensures _ c.copy_codes.ensures in
    (r.0 ∙ ap (λ x. lists x a.c a.out.now) told.same, r.1 ∙ ap (λ x. list_leaves x a.c a.out.now) told.same)
