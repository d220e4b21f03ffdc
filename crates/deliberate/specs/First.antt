-- Which entries of a program have a first move: what the call marks.
use Rattle.std.specs.Prelude.{Bool, true, ◌||◌, ℕ}
use Rattle.paper.specs.Atoms.{Atoms}
use Rattle.paper.specs.Language.{Agent, Config}
use Rattle.paper.specs.Transitions.{Choice}
use Rattle.paper.specs.Next.{is_some, enabled}
use Rattle.meaning.specs.declared.Layout.{Layout}
use Rattle.meaning.specs.declared.Configuration.{Configuration}
use Rattle.meaning.specs.Card.{Bytes}
use Rattle.meaning.specs.Configurations.{state_of}
use Rattle.sets.specs.Sets.{Passing}
use Rattle.deliberation.specs.Kinds.{EntryKind, Execute, Apply, Select, WhilePlan, WhileBelief, Then, Or}
use Rattle.deliberation.specs.FirstMove.{lowest_action}
use Rattle.deliberation.specs.Entries.{move_at}

-- whether an entry has a first move, by whether its parts have one (move_of)
abbrev pub movable_of : Agent → Config → EntryKind → ℕ → ℕ → (ℕ → Bool) → Bool
movable_of A s Execute a b movable = is_some (lowest_action A s)
movable_of A s Apply a b movable = enabled A s (Choice.revise a)
movable_of A s Select a b movable = enabled A s (Choice.select a)
movable_of A s WhilePlan a b movable = true
movable_of A s WhileBelief a b movable = true
movable_of A s Then a b movable = movable a
movable_of A s Or a b movable = movable a || movable b

-- the set of the entries below n that have a first move
abbrev pub Movable : Layout → Bytes → Bytes → Configuration → ℕ → Atoms → Type 0
Movable l b p c n movable = Passing (λ j. is_some (move_at l b p (state_of c).mental j)) n movable
