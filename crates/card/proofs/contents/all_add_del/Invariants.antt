use Rattle.std.proofs.Common.{◌≡◌, length}
use Rattle.card.proofs.AddDel.{Joined}
use Rattle.card.proofs.contents.all_add_del.Given as goal

abbrev pub invariant-loop-i : goal.invariant-loop-i
invariant-loop-i g l = (length l.all ≡ g.row.N) × Joined l.card.layout l.card.bytes.now l.all l.i
