use mathlib.Core.Bool.{false}
use lib.ListN.{get_or-replicate}
use Rattle.unpacked.proofs.truths.none_true.Goals as goal

pub returns : goal.returns
returns c = λ i h. get_or-replicate 256 i false false h
