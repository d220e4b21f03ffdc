use Rattle.lines.proofs.Whole.{left_start, left_turn, left_nested, left_over, nothing_held, nothing_so}
use Rattle.lines.proofs.Saying.{line_at}
use Rattle.notation.specs.Values.{line_by}
use Rattle.notation.specs.Making.{items_in}
use mathlib.Core.Path.{sym, ◌∙◌}
use Prim.Native.Nat.{◌+◌}
use native.Mathlib.Omega.{arith}
use lib.ListN.{get_or, drop}
use Rattle.lines.proofs.lines.read_lines.Goals as goal

pub loop-n-init : goal.loop-n-init
loop-n-init c =
    let m = nothing_so c.default-m.result c.default-m.ensures in
    (omega arith, nothing_held c.default-m.result c.args.card.now m c.requires, left_start c.args.text.now c.default-m.result c.args.card.now m c.requires)

pub read_line-requires : goal.read_line-requires
read_line-requires c =
    (c.loop-n-test.true, c.loop-n.invariant.1)

pub returns-in_err-line : goal.returns-in_err-line
returns-in_err-line c =
    left_nested c.args.text.now c.loop-n.n c.loop-n.m c.loop-n.card c.read_line.new.card c.loop-n-test.true c.loop-n.invariant.2 c.in_err-line.ensures c.from_residual.result c.from_residual.ensures.0

pub loop-n-smaller : goal.loop-n-smaller
loop-n-smaller c =
    let r = line_at items_in c.args.text.now (c.loop-n.n + 1) (line_by (get_or c.args.text.now c.loop-n.n 0) (drop c.loop-n.n c.args.text.now)) c.loop-n.m c.loop-n.card c.in_ok-line.line.next c.in_ok-line.line.made c.read_line.new.card c.in_ok-line.ensures in let h = c.loop-n-test.true in let a = r.0 in let b = r.1 in omega arith

pub loop-n-preserved : goal.loop-n-preserved
loop-n-preserved c =
    let r = line_at items_in c.args.text.now (c.loop-n.n + 1) (line_by (get_or c.args.text.now c.loop-n.n 0) (drop c.loop-n.n c.args.text.now)) c.loop-n.m c.loop-n.card c.in_ok-line.line.next c.in_ok-line.line.made c.read_line.new.card c.in_ok-line.ensures in
    (r.0, r.2, left_turn c.args.text.now c.loop-n.n c.in_ok-line.line.next c.loop-n.m c.in_ok-line.line.made c.loop-n.card c.read_line.new.card c.loop-n-test.true c.loop-n.invariant.2 c.in_ok-line.ensures r.1)

pub shape_of-card : goal.shape_of-card
shape_of-card c =
    c.loop-n.invariant.1.room ∙ sym c.requires.room

pub returns : goal.returns
returns c =
    left_over c.args.text.now c.loop-n.n c.loop-n.m c.loop-n.card c.loop-n-test.false c.loop-n.invariant.1 c.loop-n.invariant.2
