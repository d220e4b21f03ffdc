use mathlib.Core.Path.{◌≡◌}
use Prim.Native.Nat.{◌*◌, ◌≤◌}
use lib.ListN.{get_or}
use Rattle.paper.specs.Next.{if}
use Rattle.unpacked.specs.Tables.{no_selection}
use Rattle.listing.specs.Looking.{sum_of}
use Rattle.plain.specs.Judging.{judgement_at}
use Rattle.plain.proofs.list.judged_selecting.Given as goal

abbrev pub invariant-loop-i : goal.invariant-loop-i
invariant-loop-i l = (l.count ≡ sum_of (λ k. if (judgement_at l.judged (get_or l.t.selections k no_selection).belief).0 2 1) l.i) × (l.count ≤ 2 * l.i)
