-- The door of a call: rows 1 to 9, then row 13.
use Rattle.std.specs.Prelude.{◌≡◌, Result, Ok, Err}
use Rattle.meaning.specs.declared.Refusal.{Refusal}
use Rattle.meaning.specs.Answers.{Checked}
use Rattle.meaning.specs.declared.Configuration.{Configuration}
use Rattle.meaning.specs.Card.{Bytes, layout}
use Rattle.meaning.specs.Refusals.{configuration_answer}
use Rattle.layout.specs.declared.card.Card.{Card}
use Rattle.card.specs.Rows.{checked_by}
use Rattle.door.specs.Ready.{Ready}

-- a card's layout, where the card and the configuration handed in are accepted, or the refusal
abbrev pub admitted : Bytes → Configuration → Checked
admitted b c = checked_by (configuration_answer b c) (layout b)

-- a card that is let in with a configuration: it is of these bytes
pub record AdmittedCard (b : Bytes) (c : Configuration) (k : Card) : Type 0 where
  pub same : k.bytes.now ≡ b
  pub value : admitted k.bytes.now c ≡ Ok k.layout
  pub ready : Ready k.layout k.bytes.now c

-- the card, where it and the configuration are accepted, or the refusal
abbrev pub Admitted : Bytes → Configuration → Result Card Refusal → Type 0
Admitted b c (Ok k) = AdmittedCard b c k
Admitted b c (Err r) = admitted b c ≡ Err r
