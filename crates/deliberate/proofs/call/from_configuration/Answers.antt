use Rattle.layout.proofs.GoodLayout.{counted}
use Rattle.layout.specs.PlaceParts.{configured}
use Rattle.door.proofs.Accepting.{accepted_card, is_ready}
use Rattle.deliberate.proofs.Calling.{has_header, given_remains, read_again, refused_so, by_configuration, done_so}
use mathlib.Core.Path.{ap, ◌∙◌}
use mathlib.Core.List.{List}
use Prim.Native.Nat.{ℕ, ◌-◌}
use native.Mathlib.Omega.{arith}
use lib.ListN.{length}
use Rattle.paper.specs.Language.{𝐁}
use Rattle.meaning.specs.Card.{conditions, agent_for}
use Rattle.meaning.specs.Configurations.{state_of}
use Rattle.deliberation.specs.declared.Deliberated.{Deliberated}
use Rattle.deliberation.specs.Entries.{entry_count, entries_of}
use Rattle.deliberation.specs.Deliberate.{deliberate, deliberated}
use Rattle.deliberation.proofs.Room.{stacked_length, good_stacked}
use Rattle.deliberate.proofs.call.from_configuration.Goals as goal

pub read_layout-layout-requires : goal.read_layout-layout-requires
read_layout-layout-requires c = has_header c.args.card.now c.requires.0

pub invariant_of-card : goal.invariant_of-card
invariant_of-card c =
    let b = c.args.card.now in
    let l = c.read_layout-layout in
    let (e, g) = read_again b c.requires.0 c.args.program.now c.requires.1 l.result l.ensures.0 in
    record { good = (accepted_card b l.result e).layout }

pub judge_configuration-judged-requires : goal.judge_configuration-judged-requires
judge_configuration-judged-requires c =
    let b = c.args.card.now in
    let l = c.read_layout-layout in
    let (e, g) = read_again b c.requires.0 c.args.program.now c.requires.1 l.result l.ensures.0 in
    counted _ _ (accepted_card b l.result e).layout

pub returns-in_default : goal.returns-in_default
returns-in_default c =
    let a = c.args in
    let b = a.card.now in
    let p = a.program.now in
    let d = configured a.beliefs.now a.goals.now a.m a.plan.now in
    let l = c.read_layout-layout in
    let (e, g) = read_again b c.requires.0 p c.requires.1 l.result l.ensures.0 in
    let j = c.judge_configuration-judged in
    let q = c.in_default.is in
    refused_so b p a.given.now a.beliefs.now a.goals.now a.m a.plan.now a.budget a.remaining.now _ (by_configuration b p l.result e g a.given.now d c.requires.2 j.result j.ensures.value ∙ q) j.result q c.refused.result c.refused.ensures

pub put_numbers-requires : goal.put_numbers-requires
put_numbers-requires c =
    let k = stacked_length (good_stacked (entry_count c.args.program.now) c.args.given.now c.requires.2) in
    let most = c.requires.1.most in
    omega arith

pub from_moves-requires : goal.from_moves-requires
from_moves-requires c =
    let a = c.args in
    let b = a.card.now in
    let l = c.read_layout-layout in
    let (e, g) = read_again b c.requires.0 a.program.now c.requires.1 l.result l.ensures.0 in
    let j = c.judge_configuration-judged in
    let (f, r) = c.put_numbers.ensures in
    record {
      ready = is_ready b (configured a.beliefs.now a.goals.now a.m a.plan.now) l.result e j.result j.ensures.value c.in-Ok.is j.ensures.plan_len;
      good = g;
      remains = given_remains a.program.now _ a.given.now (128 - length a.given.now) f (omega arith) r c.requires.2;
    }

pub returns : goal.returns
returns c =
    let a = c.args in
    let b = a.card.now in
    let p = a.program.now in
    let d = configured a.beliefs.now a.goals.now a.m a.plan.now in
    let l = c.read_layout-layout in
    let (e, g) = read_again b c.requires.0 p c.requires.1 l.result l.ensures.0 in
    let j = c.judge_configuration-judged in
    let all : List ℕ → Deliberated = λ ns. deliberated (deliberate (agent_for l.result b) (conditions 𝐁 l.result b) (entries_of p) a.budget ns (state_of d)) in
    done_so b p l.result e a.given.now d a.budget a.remaining.now (by_configuration b p l.result e g a.given.now d c.requires.2 j.result j.ensures.value ∙ c.in-Ok.is) _
    (c.from_moves.ensures ∙ ap all c.put_numbers.ensures.0)
