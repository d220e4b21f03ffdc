use Rattle.runs.specs.Kinds.{kind_number}
use Rattle.plain.proofs.Listing.{Added}
use Rattle.plain.proofs.list.add_kind.Given as goal

abbrev pub invariant-loop-number : goal.invariant-loop-number
invariant-loop-number l = Added l.answers (kind_number l.kind) l.initial.count l.initial.codes l.number l.codes l.count
