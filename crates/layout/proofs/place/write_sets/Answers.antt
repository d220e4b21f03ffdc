use mathlib.Core.Path.{◌∙◌}
use Rattle.layout.proofs.place.write_sets.Goals as goal

pub returns : goal.returns
returns c = c.copy-2.ensures ∙ rw (c.copy.ensures, c.place_goals_at.ensures.0, c.set_bytes-s.ensures.0)
