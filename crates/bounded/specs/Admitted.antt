-- The door of the two calls for bounded cards: rows 1 to 9, then row 13, then row 22.
use Rattle.std.specs.Prelude.{◌≡◌, Result, Ok, Err}
use Rattle.meaning.specs.declared.Refusal.{Refusal}
use Rattle.meaning.specs.Answers.{Checked}
use Rattle.meaning.specs.declared.Configuration.{Configuration}
use Rattle.meaning.specs.Card.{Bytes, layout}
use Rattle.meaning.specs.BoundedCalls.{bounded_answer}
use Rattle.layout.specs.declared.card.Card.{Card}
use Rattle.card.specs.Rows.{checked_by}
use Rattle.door.specs.Ready.{Ready}

-- a card's layout, where nothing is refused, or the refusal
abbrev pub bounded_admitted : Bytes → Configuration → Checked
bounded_admitted b c = checked_by (bounded_answer b c) (layout b)

-- a card that is let in with a configuration: it is of these bytes
pub record BoundedCard (b : Bytes) (c : Configuration) (k : Card) : Type 0 where
  pub same : k.bytes.now ≡ b
  pub value : bounded_admitted k.bytes.now c ≡ Ok k.layout
  pub ready : Ready k.layout k.bytes.now c

-- the card, where nothing is refused, or the refusal
abbrev pub BoundedAdmitted : Bytes → Configuration → Result Card Refusal → Type 0
BoundedAdmitted b c (Ok k) = BoundedCard b c k
BoundedAdmitted b c (Err r) = bounded_admitted b c ≡ Err r
