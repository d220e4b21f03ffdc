use Rattle.lines.proofs.Sections.{put_none, put_some, weight_full, weight_added}
use Rattle.lines.proofs.Stepping.{count_le}
use Rattle.meaning.specs.Place.{two_bytes}
use Rattle.notation.specs.Making.{weight_in}
use Rattle.std.specs.Prelude.{IfSome}
use Rattle.std.proofs.Common.{◌≡◌, ◌≤◌, length, refl, sym, arith}
use mathlib.Core.Path.{subst}
use Rattle.lines.proofs.put.put_weight.Goals as goal

pub put-requires : goal.put-requires
put-requires c =
    let a = c.args in
    let r = c.requires.room in
    (omega arith, subst (λ k. IfSome k (λ n. n ≤ 256)) (sym c.count_in.ensures) (count_le a.m a.m.weights 256 c.requires.bounded.weights))

pub returns-in-None : goal.returns-in-None
unfolding weight_in
returns-in-None c =
    let a = c.args in
    let l : length (two_bytes a.w) ≡ 2 = refl in
    let q : c.edition_1_header.result ≡ 64 = c.edition_1_header.ensures in
    rw c.too_large.ensures
    (put_none (weight_in (two_bytes a.w)) a.m a.card.now c.requires 64 2 a.m.weights c.count_in.result c.count_in.ensures (two_bytes a.w) c.two_bytes-e.result c.two_bytes-e.ensures c.put.new.card refl
    (weight_full (two_bytes a.w) a.m a.card.now c.requires l) (rw q at c.in-None.ensures))

pub returns-in-Some : goal.returns-in-Some
returns-in-Some c =
    let a = c.args in
    let m = a.m in
    let l : length (two_bytes a.w) ≡ 2 = refl in
    let q : c.edition_1_header.result ≡ 64 = c.edition_1_header.ensures in
    put_some (weight_in (two_bytes a.w)) m a.card.now c.requires 64 2 m.weights c.count_in.result c.count_in.ensures (two_bytes a.w) c.two_bytes-e.result c.two_bytes-e.ensures c.put.new.card
    (λ k. record { large = m.large; atoms = m.atoms; weights = k; nodes = m.nodes; specifications = m.specifications; selections = m.selections; revisions = m.revisions; pool = m.pool; start = m.start; len = m.len })
    l (weight_added (two_bytes a.w) m a.card.now c.requires l) c.in-Some.weights (rw q at c.in-Some.ensures)
