-- What accepting a card's bytes comes to.
use Rattle.std.specs.Prelude.{◌≡◌, Result, Ok, Err}
use Rattle.meaning.specs.declared.Refusal.{Refusal}
use Rattle.meaning.specs.Card.{Bytes}
use Rattle.meaning.specs.Calls.{checks}
use Rattle.layout.specs.declared.card.Card.{Card}
use Rattle.card.specs.GoodCard.{GoodCard}

-- a card that is accepted: it is of these bytes, and keeps the laws
pub record AcceptedCard (b : Bytes) (c : Card) : Type 0 where
  pub same : c.bytes.now ≡ b
  pub checked : checks c.bytes.now ≡ Ok c.layout
  pub good : GoodCard c.layout c.bytes.now

-- the card, or the refusal
abbrev pub Accepted : Bytes → Result Card Refusal → Type 0
Accepted b (Ok c) = AcceptedCard b c
Accepted b (Err r) = checks b ≡ Err r
