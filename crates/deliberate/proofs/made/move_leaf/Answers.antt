use Rattle.layout.specs.PlaceParts.{configured}
use Rattle.meaning.specs.Card.{agent_for}
use Rattle.meaning.specs.Configurations.{state_of}
use Rattle.deliberation.specs.Kinds.{entry_kind}
use Rattle.deliberation.specs.FirstMove.{Move}
use Rattle.deliberation.specs.Entries.{move_at}
use Rattle.deliberation.specs.Deliberate.{move_result}
use Rattle.deliberate.specs.declared.made.AfterMove.{AfterMove}
use Rattle.deliberate.specs.Made.{Makes}
use Rattle.deliberate.proofs.Making.{two_more, leaf_good, leaf_idles, leaf_choice}
use mathlib.Core.List.{List}
use mathlib.Core.Option.{Option}
use mathlib.Core.Path.{sym, subst}
use Prim.Native.Nat.{ℕ, ◌≤◌, ◌<◌}
use native.Mathlib.Omega.{arith}
use lib.ListN.{drop}
use Rattle.deliberate.proofs.made.move_leaf.Goals as goal

pub turn-rest-requires : goal.turn-rest-requires
turn-rest-requires c =
    let a = c.args in
    let b = a.card.now.bytes.now in
    let d = configured a.beliefs.now a.goals.now a.m a.plan.now in
    let (p, (g, x)) = c.requires.good_program in
    let t : 3 ≤ a.reached.leaf.entry.kind = (let t = c.if-e-ge3.true in omega arith) in
    let (i, w) = two_more a.card.now.layout b p d g a.stack.now a.reached.leaf x t in
    (t, x.leaf, i, w, x.stacked.within, x.stacked.room)

pub returns-then-e-ge3 : goal.returns-then-e-ge3
returns-then-e-ge3 c = λ p g x.
    let a = c.args in
    let b = a.card.now.bytes.now in
    let d = configured a.beliefs.now a.goals.now a.m a.plan.now in
    let (j, e) = c.requires.judged in
    let r = c.turn-rest in
    let left = r.new.stack in
    let (w, z) = r.ensures.upper_bound in
    let (t, (k, f)) = r.ensures.holds_by in
    let ns = drop a.reached.leaf.top a.stack.now in
    let o = move_result (agent_for a.card.now.layout b) (state_of d) (move_at a.card.now.layout b p (state_of d).mental a.reached.leaf.at) ns in
    subst (λ (y : AfterMove). Makes a.card.now.layout b d ns o y (configured a.beliefs.now a.goals.now y.standing a.plan.now) left) (sym c.stays.ensures)
    (leaf_idles a.card.now.layout b p d g a.stack.now a.reached.leaf x a.marks.now j a.m r.result left w z t k f)

pub choice_of-choice-requires : goal.choice_of-choice-requires
choice_of-choice-requires c =
    let a = c.args in
    let b = a.card.now.bytes.now in
    let d = configured a.beliefs.now a.goals.now a.m a.plan.now in
    let (j, e) = c.requires.judged in
    let (p, (g, x)) = c.requires.good_program in
    let t : a.reached.leaf.entry.kind < 3 = (let t = c.if-e-ge3.false in omega arith) in
    (record { beliefs = a.beliefs.now; goals = a.goals.now; judged = j }, t, (a.reached.leaf.at, leaf_good a.card.now.layout b p d g a.stack.now a.reached.leaf x))

pub returns : goal.returns
returns c = λ p g x.
    let a = c.args in
    let b = a.card.now.bytes.now in
    let d = configured a.beliefs.now a.goals.now a.m a.plan.now in
    let t : a.reached.leaf.entry.kind < 3 = (let t = c.if-e-ge3.false in omega arith) in
    let (j, e) = c.requires.judged in
    let q = leaf_choice a.card.now.layout b p d g a.stack.now a.reached.leaf x t in
    let r = c.make_choice in
    let ns = drop a.reached.leaf.top a.stack.now in
    subst (λ (o : Option (Move (List ℕ))). Makes a.card.now.layout b d ns (move_result (agent_for a.card.now.layout b) (state_of d) o ns) r.result (configured r.new.beliefs r.new.goals r.result.standing r.new.plan) a.stack.now) (sym q)
    (r.ensures (entry_kind a.reached.leaf.entry.kind) a.reached.leaf.entry.a (c.choice_of-choice.ensures a.beliefs.now a.goals.now j e) a.stack.now x.stacked.within x.stacked.room)
