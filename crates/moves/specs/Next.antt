-- What comes next, as the code tells it.
use Rattle.std.specs.Prelude.{Bool, true, false}
use Rattle.runs.specs.Step.{Reached, nothing, full, to}
use Rattle.meaning.specs.declared.Configuration.{Configuration}
use Rattle.meaning.specs.declared.Next.{Next}
use Rattle.moves.specs.declared.next.NextInPlace.{NextInPlace}

-- whether a transition "would leave more than 1,024 actions" (01, "A configuration and its transitions")
abbrev pub is_full : Reached → Bool
is_full nothing = false
is_full full = true
is_full (to k s) = false

-- of next, with the configuration as it came in
abbrev pub next_with : NextInPlace → Configuration → Next
next_with r c = record { answer = r.answer; coming = r.coming; configuration = c }
