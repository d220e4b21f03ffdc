use mathlib.Core.Path.{◌∙◌}
use native.Mathlib.Omega.{arith}
use Rattle.plain.proofs.Asking.{read_inside}
use Rattle.plain.proofs.take.ask_choice.Goals as goal

pub returns : goal.returns
returns c =
    let a = c.args in
    read_inside c.ask_kind.result a.choice.number _ _ (omega arith) ∙ c.ask_kind.ensures a.choice.number (omega arith)
