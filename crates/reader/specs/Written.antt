-- What is answered, how many bytes are told, and what the lent buffer holds, once a part of the reading is done.
use Rattle.std.specs.Prelude.{◌≡◌, List, [], length, Ok, Err}
use Rattle.std.proofs.Math.Option.{Option, none, some}
use Rattle.meaning.specs.declared.Refusal.{Refusal}
use Rattle.meaning.specs.Answers.{Answer}
use Rattle.meaning.specs.Card.{Bytes}
use Rattle.meaning.specs.Refusals.{and_then, card_answer}
use Rattle.meaning.specs.Calls.{over, room_for}
use Rattle.notation.specs.Values.{Item, Read, nested, got}
use Rattle.notation.specs.Making as Making
use Rattle.door.specs.declared.in_place.WrittenInPlace.{WrittenInPlace}

-- an answer, with bytes b written if it is done: 01, "Numbers the guide may answer": "Any count in a refusal is 0. No lent buffer
-- is written."
abbrev pub Wrote : Answer → Bytes → Bytes → WrittenInPlace → Bytes → Type 0
Wrote (Ok _) b out r out' = (r.answer ≡ Ok tt) × (r.count ≡ length b) × (out' ≡ over b out)
Wrote (Err q) b out r out' = (r.answer ≡ Err q) × (r.count ≡ 0) × (out' ≡ out)

-- a card: 02, Wish 2: "then 3 and 5 to 9 as for the card it would build; 12."
abbrev pub WroteCard : Bytes → Bytes → WrittenInPlace → Bytes → Type 0
WroteCard b out r out' = Wrote (and_then (card_answer b) (room_for b out)) b out r out'

-- what was made of the lines, if nothing was too large: 02, Wish 2: "25 a number too large for its field, or more entries or pool
-- bytes than edition 1 allows"
abbrev pub WroteMade : Option Making.Sections → Bytes → WrittenInPlace → Bytes → Type 0
WroteMade none out r out' = Wrote (Err Refusal.Large) [] out r out'
WroteMade (some m) out r out' = WroteCard (Making.card_of m) out r out'

-- the lines that were read: 02, Wish 2: "18 nested too deep"
abbrev pub WroteLines : Read (List Item) → Bytes → WrittenInPlace → Bytes → Type 0
WroteLines nested out r out' = Wrote (Err Refusal.Nested) [] out r out'
WroteLines (got is rest) out r out' = WroteMade (Making.items_in is (some Making.nothing_made)) out r out'
