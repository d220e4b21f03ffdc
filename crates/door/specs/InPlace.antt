-- What a call answers where sets and plan are lent, together with what these hold, as one answer.
use Rattle.std.specs.Prelude.{Result, ℕ, Ok, Err}
use Rattle.meaning.specs.declared.Refusal.{Refusal}
use Rattle.meaning.specs.declared.Configuration.{Configuration}
use Rattle.meaning.specs.declared.Reply.{Reply}
use Rattle.meaning.specs.declared.Written.{Written}
use Rattle.meaning.specs.declared.Ran.{Ran}
use Rattle.meaning.specs.Card.{Bytes}
use Rattle.meaning.specs.Calls.{reply, written}
use Rattle.layout.specs.PlaceParts.{configured}
use Rattle.door.specs.declared.in_place.ReplyInPlace.{ReplyInPlace}
use Rattle.door.specs.declared.in_place.WrittenInPlace.{WrittenInPlace}
use Rattle.door.specs.declared.in_place.RanInPlace.{RanInPlace}

-- of load, take and restore, with the beliefs, the goals and the plan afterwards
abbrev pub reply_with : ReplyInPlace → Bytes → Bytes → Bytes → Reply
reply_with r b g p = reply r.answer (configured b g r.standing p)

-- of list and save, with the configuration as it came in
abbrev pub written_with : WrittenInPlace → Configuration → Written
written_with r c = written r.answer r.count c

-- of so many bytes that were written, or of a refusal: "Any count in a refusal is 0."
abbrev pub written_by : Result ℕ Refusal → WrittenInPlace
written_by (Ok n) = record { answer = Ok tt; count = n }
written_by (Err q) = record { answer = Err q; count = 0 }

-- of run, with the beliefs, the goals and the plan afterwards
abbrev pub ran_with : RanInPlace → Bytes → Bytes → Bytes → Ran
ran_with r b g p = record { answer = r.answer; count = r.count; ending = r.ending; configuration = configured b g r.standing p }
