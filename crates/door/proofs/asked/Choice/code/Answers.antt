use mathlib.Core.Path.{ap, ◌∙◌}
use Prim.Native.Nat.{ℕ, ◌+◌, ◌*◌}
use Rattle.door.proofs.Told.{code_at}
use Rattle.door.proofs.asked.Choice.code.Goals as goal

pub returns : goal.returns
returns c =
    let a = c.args.self in
    ap (λ (k : ℕ). 256 * k + a.number) c.number_of.ensures.0 ∙ code_at a.kind a.number
