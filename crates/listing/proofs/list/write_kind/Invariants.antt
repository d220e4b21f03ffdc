use Rattle.listing.specs.Listed.{codes_in}
use Rattle.listing.proofs.Writing.{Wrote}
use Prim.Native.Nat.{◌-◌, ◌*◌}
use Rattle.runs.specs.Kinds.{kind_number}
use Rattle.listing.proofs.list.write_kind.Given as goal

abbrev pub invariant-loop-b : goal.invariant-loop-b
invariant-loop-b l = Wrote l.at (codes_in l.codes (256 * kind_number l.fn.kind) (8 * (l.b - 32 * kind_number l.fn.kind))) l.initial.out l.j l.out
