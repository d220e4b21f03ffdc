use Prim.Native.Nat.{◌*◌}
use Rattle.listing.specs.Listed.{codes_in}
use Rattle.listing.proofs.Writing.{Wrote}
use Rattle.listing.proofs.list.write.Given as goal

abbrev pub invariant-loop-t : goal.invariant-loop-t
invariant-loop-t l = Wrote 0 (codes_in l.codes 0 (256 * l.t)) l.initial.out l.at l.out
