use Rattle.layout.proofs.Within.{entry_within}
use native.Mathlib.Omega.{arith}
use mathlib.Core.Path.{refl}
use Rattle.layout.proofs.entries.entry_at.Goals as goal

pub overflow_mul-result : goal.overflow_mul-result
overflow_mul-result c = omega (arith, entry_within c.args.size c.args.s c.args.i c.requires.0, c.requires.1)

pub overflow_add-result : goal.overflow_add-result
overflow_add-result c =
    omega (arith, entry_within c.args.size c.args.s c.args.i c.requires.0, c.requires.1)

pub returns : goal.returns
returns c = (refl, entry_within c.args.size c.args.s c.args.i c.requires.0)
