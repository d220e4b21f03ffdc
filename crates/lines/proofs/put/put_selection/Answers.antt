use Rattle.lines.proofs.Sections.{put_none, put_some, selection_full, selection_added}
use Rattle.lines.proofs.Stepping.{count_le}
use Rattle.lines.specs.Lines.{selection}
use Rattle.notation.specs.Making.{selection_in}
use Rattle.std.specs.Prelude.{IfSome}
use Rattle.std.proofs.Common.{◌≡◌, ◌≤◌, length, refl, sym, arith}
use mathlib.Core.Path.{subst}
use Rattle.lines.proofs.put.put_selection.Goals as goal

pub put-requires : goal.put-requires
put-requires c =
    let a = c.args in
    let r = c.requires.room in
    (omega arith, subst (λ k. IfSome k (λ n. n ≤ 256)) (sym c.count_in.ensures) (count_le a.m a.m.selections 256 c.requires.bounded.selections))

pub returns-in-None : goal.returns-in-None
unfolding selection_in
returns-in-None c =
    let a = c.args in
    let l : length (selection a.belief a.goal a.start a.len) ≡ 8 = refl in
    rw c.too_large.ensures
    (put_none (selection_in (selection a.belief a.goal a.start a.len)) a.m a.card.now c.requires 10816 8 a.m.selections c.count_in.result c.count_in.ensures (selection a.belief a.goal a.start a.len) c.selection_bytes-e.result c.selection_bytes-e.ensures c.put.new.card refl
    (selection_full (selection a.belief a.goal a.start a.len) a.m a.card.now c.requires l) c.in-None.ensures)

pub returns-in-Some : goal.returns-in-Some
returns-in-Some c =
    let a = c.args in
    let m = a.m in
    let l : length (selection a.belief a.goal a.start a.len) ≡ 8 = refl in
    put_some (selection_in (selection a.belief a.goal a.start a.len)) m a.card.now c.requires 10816 8 m.selections c.count_in.result c.count_in.ensures (selection a.belief a.goal a.start a.len) c.selection_bytes-e.result c.selection_bytes-e.ensures c.put.new.card
    (λ k. record { large = m.large; atoms = m.atoms; weights = m.weights; nodes = m.nodes; specifications = m.specifications; selections = k; revisions = m.revisions; pool = m.pool; start = m.start; len = m.len })
    l (selection_added (selection a.belief a.goal a.start a.len) m a.card.now c.requires l) c.in-Some.selections c.in-Some.ensures
