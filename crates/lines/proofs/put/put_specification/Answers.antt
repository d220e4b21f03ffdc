use Rattle.lines.proofs.Sections.{put_none, put_some, specification_full, specification_added}
use Rattle.lines.proofs.Entries.{specification_length}
use Rattle.lines.proofs.Stepping.{count_le}
use Rattle.lines.specs.Lines.{specification}
use Rattle.notation.specs.Making.{specification_in}
use Rattle.std.specs.Prelude.{IfSome}
use Rattle.std.proofs.Common.{◌≡◌, ◌≤◌, length, refl, sym, arith, rules}
use mathlib.Core.Path.{subst}
use Rattle.lines.proofs.put.put_specification.Goals as goal

pub put-requires : goal.put-requires
put-requires c =
    let a = c.args in
    let r = c.requires.room in
    (omega arith, subst (λ k. IfSome k (λ n. n ≤ 256)) (sym c.count_in.ensures) (count_le a.m a.m.specifications 256 c.requires.bounded.specifications))

pub returns-in-None : goal.returns-in-None
unfolding specification_in
returns-in-None c =
    let a = c.args in
    let l : length (specification a.action a.node a.add a.del) ≡ 36 = specification_length a.action a.node a.add a.del (search rules) (search rules) in
    rw c.too_large.ensures
    (put_none (specification_in (specification a.action a.node a.add a.del)) a.m a.card.now c.requires 1600 36 a.m.specifications c.count_in.result c.count_in.ensures (specification a.action a.node a.add a.del) c.specification_bytes-e.result c.specification_bytes-e.ensures c.put.new.card refl
    (specification_full (specification a.action a.node a.add a.del) a.m a.card.now c.requires l) c.in-None.ensures)

pub returns-in-Some : goal.returns-in-Some
returns-in-Some c =
    let a = c.args in
    let m = a.m in
    let l : length (specification a.action a.node a.add a.del) ≡ 36 = specification_length a.action a.node a.add a.del (search rules) (search rules) in
    put_some (specification_in (specification a.action a.node a.add a.del)) m a.card.now c.requires 1600 36 m.specifications c.count_in.result c.count_in.ensures (specification a.action a.node a.add a.del) c.specification_bytes-e.result c.specification_bytes-e.ensures c.put.new.card
    (λ k. record { large = m.large; atoms = m.atoms; weights = m.weights; nodes = m.nodes; specifications = k; selections = m.selections; revisions = m.revisions; pool = m.pool; start = m.start; len = m.len })
    l (specification_added (specification a.action a.node a.add a.del) m a.card.now c.requires l) c.in-Some.specifications c.in-Some.ensures
