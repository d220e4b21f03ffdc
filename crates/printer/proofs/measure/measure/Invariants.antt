use Rattle.printer.specs.Measures.{MeasuredTo}
use Prim.Native.Nat.{◌≤◌, ◌<◌}
use Rattle.printer.proofs.measure.measure.Given as goal

abbrev pub invariant-loop-i : goal.invariant-loop-i
invariant-loop-i l = (l.i ≤ l.node) × (l.node < 256) × MeasuredTo l.card.layout l.card.bytes.now l.sizes l.depths l.lengths l.i
