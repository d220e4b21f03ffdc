use Rattle.place.proofs.judge.place_mark_good.Goals as goal

pub returns : goal.returns
returns c = rw (c.mark_good.ensures, c.two_bytes_at-edition.ensures.0)
