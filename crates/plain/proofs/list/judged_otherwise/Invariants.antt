use mathlib.Core.Path.{◌≡◌}
use Prim.Native.Nat.{◌≤◌}
use Rattle.listing.specs.Looking.{sum_of}
use Rattle.plain.specs.Asking.{judged_by}
use Rattle.plain.proofs.list.judged_otherwise.Given as goal

abbrev pub invariant-loop-i : goal.invariant-loop-i
invariant-loop-i l = (l.count ≡ sum_of (judged_by l.answers) l.i) × (l.count ≤ l.i)
