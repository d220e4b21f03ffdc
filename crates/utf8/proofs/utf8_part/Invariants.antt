use Rattle.utf8.specs.Reading.{nothing}
use Rattle.utf8.proofs.Steps.{ends}
use Rattle.std.proofs.Common.{◌≡◌, drop}
use Rattle.utf8.proofs.utf8_part.Given as goal

abbrev pub invariant-loop-x : goal.invariant-loop-x
invariant-loop-x l = ends l.a (drop l.x-index l.x-items) ≡ ends nothing l.x-items
