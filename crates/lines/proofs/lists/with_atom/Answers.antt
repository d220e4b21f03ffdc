use Rattle.lines.proofs.Filling.{with_single}
use mathlib.Core.Path.{◌∙◌}
use native.Mathlib.Omega.{arith}
use Rattle.lines.proofs.lists.with_atom.Goals as goal

pub returns : goal.returns
returns c = λ h. c.add_member.ensures ∙ (let a = c.args in with_single a.v a.set h (omega arith))
