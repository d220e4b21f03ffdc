use Prim.Native.Nat.{◌*◌}
use Rattle.listing.specs.Listed.{codes_in}
use Rattle.listing.proofs.Writing.{Wrote}
use Rattle.listing.proofs.list.write_byte.Given as goal

abbrev pub invariant-loop-i : goal.invariant-loop-i
invariant-loop-i l = Wrote l.at (codes_in l.codes (8 * l.b) l.i) l.initial.out l.j l.out
