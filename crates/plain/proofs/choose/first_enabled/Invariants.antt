use mathlib.Core.Path.{◌≡◌}
use Rattle.runs.specs.Kinds.{kind_number}
use Rattle.meaning.specs.declared.Layout.{Layout}
use Rattle.meaning.specs.declared.Configuration.{Configuration}
use Rattle.meaning.specs.Card.{Bytes}
use Rattle.meaning.specs.Configurations.{state_of}
use Rattle.layout.specs.Entries.{count_of}
use Rattle.door.proofs.First.{LeftOf}
use Rattle.plain.specs.Asking.{AsksKind}
use Rattle.plain.proofs.choose.first_enabled.Given as goal

abbrev pub invariant-loop-number : goal.invariant-loop-number
invariant-loop-number l = ((y : Layout) (b : Bytes) (c : Configuration) → l.n ≡ count_of y (kind_number l.kind) → AsksKind y b c (kind_number l.kind) l.answers → LeftOf y b (state_of c).mental l.kind l.number)
