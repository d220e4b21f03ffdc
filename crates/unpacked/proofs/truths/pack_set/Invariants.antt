use mathlib.Core.Path.{◌≡◌}
use mathlib.Core.Bool.{false}
use lib.ListN.{length, get_or}
use Rattle.paper.specs.Theorems.{AreBytes}
use Rattle.sets.specs.Sets.{Passing}
use Rattle.unpacked.proofs.truths.pack_set.Given as goal

abbrev pub invariant-loop-k : goal.invariant-loop-k
invariant-loop-k l = (length l.s ≡ 32) × AreBytes l.s × Passing (λ j. get_or l.truths j false) l.k l.s
