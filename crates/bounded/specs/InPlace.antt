-- What the two calls for bounded cards answer where sets and plan are lent, together with what these hold, as one answer.
use Rattle.meaning.specs.declared.BoundedReply.{BoundedReply}
use Rattle.meaning.specs.declared.BoundedRan.{BoundedRan}
use Rattle.meaning.specs.Card.{Bytes}
use Rattle.layout.specs.PlaceParts.{configured}
use Rattle.bounded.specs.declared.in_place.BoundedReplyInPlace.{BoundedReplyInPlace}
use Rattle.bounded.specs.declared.in_place.BoundedRanInPlace.{BoundedRanInPlace}

-- of the chosen move, with the beliefs, the goals and the plan afterwards
abbrev pub bounded_reply_with : BoundedReplyInPlace → Bytes → Bytes → Bytes → BoundedReply
bounded_reply_with r b g p = record { answer = r.answer; configuration = configured b g r.standing p }

-- of the run, with the beliefs, the goals and the plan afterwards
abbrev pub bounded_ran_with : BoundedRanInPlace → Bytes → Bytes → Bytes → BoundedRan
bounded_ran_with r b g p = record { answer = r.answer; count = r.count; ending = r.ending; configuration = configured b g r.standing p }
