use Rattle.notation.specs.Values.{behind_line}
use mathlib.Core.Path.{◌≡◌}
use Prim.Native.Nat.{◌≤◌}
use lib.ListN.{length, drop}
use Rattle.lines.proofs.lists.behind_line.Given as goal

abbrev pub invariant-loop-n : goal.invariant-loop-n
invariant-loop-n l = (l.at ≤ l.n) × (l.n ≤ length l.text) × (behind_line (drop l.n l.text) ≡ behind_line (drop l.at l.text))
