use Rattle.deliberation.specs.Deliberate.{MoveResult}
use Rattle.deliberate.specs.Made.{Makes}
use Rattle.deliberate.proofs.Next.{kept_so}
use Rattle.layout.specs.PlaceParts.{configured}
use mathlib.Core.Path.{sym, subst}
use lib.ListN.{drop}
use Rattle.deliberate.proofs.made.make_move.Goals as goal

pub move_leaf-moved-requires : goal.move_leaf-moved-requires
move_leaf-moved-requires c =
    let a = c.args in
    let (j, g) = c.requires.judged in
    let (r, h) = c.requires.remains in
    let f = c.reach-reached.ensures.all_sets a.beliefs.now a.goals.now j in record {
      judged = (j, f.action);
      good_program = (a.program.now, (g, f.leaf));
    }

pub returns : goal.returns
returns c =
    let a = c.args in
    let p = a.program.now in
    let b = a.card.now.bytes.now in
    let d = configured a.beliefs.now a.goals.now a.at.standing a.plan.now in
    let (j, g) = c.requires.judged in
    let (r, h) = c.requires.remains in
    let q = c.reach-reached in
    let f = q.ensures.all_sets a.beliefs.now a.goals.now j in
    let (rising, behind) = q.ensures.top_le_top in
    let k = c.move_leaf-moved in
    let down = q.new.stack in
    let after = configured k.new.beliefs k.new.goals k.result.standing k.new.plan in
    let left = k.new.stack in
    kept_so a.card.now.layout b p d a.stack.now a.at.top r h down q.result.leaf.top f.leaf.stacked.room rising behind k.result after left _
    (subst (λ (o : MoveResult). Makes a.card.now.layout b d (drop q.result.leaf.top down) o k.result after left) (sym f.same) (k.ensures p g f.leaf)) _ c.put_back.ensures
