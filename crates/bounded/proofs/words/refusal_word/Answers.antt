use Rattle.bounded.proofs.Wording.{has_none}
use Rattle.bounded.proofs.words.refusal_word.Goals as goal

pub returns-in_default : goal.returns-in_default
returns-in_default c = absurd (has_none c.args.r c.requires c.in_default.in_default-own.keys15)
