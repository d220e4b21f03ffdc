use Rattle.deliberation.specs.Entries.{numbers_good}
use mathlib.Core.Path.{◌≡◌}
use lib.ListN.{drop}
use Rattle.deliberate.proofs.call.numbers_good.Given as goal

abbrev pub invariant-loop-i : goal.invariant-loop-i
invariant-loop-i l = (numbers_good l.entries (drop l.i l.given) ≡ numbers_good l.entries l.given)
