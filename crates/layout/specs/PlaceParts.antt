-- The parts of a place by name, and a configuration whose sets and plan are lent.
use Rattle.meaning.specs.declared.Standing.{Standing}
use Rattle.meaning.specs.declared.Configuration.{Configuration}
use Rattle.meaning.specs.declared.Layout.{Layout}
use Rattle.meaning.specs.Sizes.{set_bytes, place_goals_at}
use Rattle.meaning.specs.Card.{Bytes, number_at, set_at}
use Rattle.layout.specs.declared.place.PlaceParts.{PlaceParts}

-- all of a place but its mark and its plan
abbrev pub place_parts : Layout → Bytes → PlaceParts
place_parts l p = record {
  length = number_at p 4;
  offset = number_at p 6;
  phase = number_at p 8;
  finished = number_at p 10;
  beliefs = set_at l p 12;
  goals = set_at l p (place_goals_at (set_bytes l));
}

-- beliefs, goals and a plan's bytes that are lent, and the rest, as one configuration
abbrev pub configured : Bytes → Bytes → Standing → Bytes → Configuration
configured b g m p = record {
  mind = record { beliefs = b; goals = g; length = m.length; phase = m.phase; finished = m.finished };
  plan = p;
}
