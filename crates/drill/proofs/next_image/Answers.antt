use Rattle.meaning.proofs.Widening.{set_most}
use native.Mathlib.Omega.{arith}
use Rattle.drill.proofs.next_image.Goals as goal

pub set_at-beliefs-requires : goal.set_at-beliefs-requires
set_at-beliefs-requires c = let most = set_most 2 in omega arith

pub set_at-goals-requires : goal.set_at-goals-requires
set_at-goals-requires c = let most = set_most 2 in omega arith
