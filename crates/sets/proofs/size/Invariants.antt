use mathlib.Core.Path.{◌≡◌}
use Prim.Native.Nat.{◌*◌, ◌≤◌}
use lib.ListN.{take}
use Rattle.sets.specs.Ones.{ones_of}
use Rattle.sets.proofs.size.Given as goal

abbrev pub invariant-loop-word : goal.invariant-loop-word
invariant-loop-word l = (l.n ≡ ones_of (take (8 * l.word) l.s)) × (l.n ≤ 64 * l.word)
