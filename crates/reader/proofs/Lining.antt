-- The lines of a text, read into a blank card, and what they make.
use mathlib.Core.Path.{refl}
use Prim.Native.Nat.{ℕ}
use lib.ListN.{replicate, length-replicate}
use Rattle.meaning.specs.Card.{part}
use Rattle.lines.specs.Lines.{Blank}

pub blank_card : Blank (replicate 24128 0)
unfolding part
blank_card = record { room = length-replicate {A = ℕ} 24128 0; sets = refl }
