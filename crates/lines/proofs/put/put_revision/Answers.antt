use Rattle.lines.proofs.Sections.{put_none, put_some, revision_full, revision_added}
use Rattle.lines.proofs.Stepping.{count_le}
use Rattle.lines.specs.Lines.{revision}
use Rattle.notation.specs.Making.{revision_in}
use Rattle.std.specs.Prelude.{IfSome}
use Rattle.std.proofs.Common.{◌≡◌, ◌≤◌, length, refl, sym, arith}
use mathlib.Core.Path.{subst}
use Rattle.lines.proofs.put.put_revision.Goals as goal

pub put-requires : goal.put-requires
put-requires c =
    let a = c.args in
    let r = c.requires.room in
    (omega arith, subst (λ k. IfSome k (λ n. n ≤ 256)) (sym c.count_in.ensures) (count_le a.m a.m.revisions 256 c.requires.bounded.revisions))

pub returns-in-None : goal.returns-in-None
unfolding revision_in
returns-in-None c =
    let a = c.args in
    let l : length (revision a.node a.head a.h a.body a.b) ≡ 12 = refl in
    rw c.too_large.ensures
    (put_none (revision_in (revision a.node a.head a.h a.body a.b)) a.m a.card.now c.requires 12864 12 a.m.revisions c.count_in.result c.count_in.ensures (revision a.node a.head a.h a.body a.b) c.revision_bytes-e.result c.revision_bytes-e.ensures c.put.new.card refl
    (revision_full (revision a.node a.head a.h a.body a.b) a.m a.card.now c.requires l) c.in-None.ensures)

pub returns-in-Some : goal.returns-in-Some
returns-in-Some c =
    let a = c.args in
    let m = a.m in
    let l : length (revision a.node a.head a.h a.body a.b) ≡ 12 = refl in
    put_some (revision_in (revision a.node a.head a.h a.body a.b)) m a.card.now c.requires 12864 12 m.revisions c.count_in.result c.count_in.ensures (revision a.node a.head a.h a.body a.b) c.revision_bytes-e.result c.revision_bytes-e.ensures c.put.new.card
    (λ k. record { large = m.large; atoms = m.atoms; weights = m.weights; nodes = m.nodes; specifications = m.specifications; selections = m.selections; revisions = k; pool = m.pool; start = m.start; len = m.len })
    l (revision_added (revision a.node a.head a.h a.body a.b) m a.card.now c.requires l) c.in-Some.revisions c.in-Some.ensures
