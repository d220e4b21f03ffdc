use Rattle.lines.proofs.Whole.{LinesLeft}
use Rattle.lines.specs.Lines.{Held}
use Rattle.lines.specs.InPlace.{made_in}
use Prim.Native.Nat.{◌-◌, ◌≤◌}
use lib.ListN.{length}
use Rattle.lines.proofs.lines.read_lines.Given as goal

abbrev pub invariant-loop-n : goal.invariant-loop-n
invariant-loop-n l = (l.n ≤ length l.text) × Held l.m l.card × LinesLeft l.text l.n (made_in l.m l.card)

abbrev pub decreases-loop-n : goal.decreases-loop-n
decreases-loop-n l = length l.text - l.n
