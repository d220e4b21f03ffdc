use mathlib.Core.Path.{◌≡◌, ap, ◌∙◌}
use Prim.Native.Nat.{ℕ, ◌+◌, ◌-◌}
use native.Mathlib.Omega.{arith}
use lib.ListN.{take, drop}
use Rattle.paper.specs.Next.{is_prefix}
use Rattle.meaning.specs.Card.{part, plan}
use Rattle.plain.proofs.Heads.{begins}
use Rattle.plain.proofs.ask.is_head.Goals as goal

pub returns : goal.returns
unfolding plan part
returns c =
    let a = c.args in
    let at = c.pool_at-at in
    let n : at.result + a.head.length - at.result ≡ a.head.length = omega arith in
    let front = take a.len a.plan.now in
    c.starts_with.ensures.value
    ∙ begins _ front
    ∙ ap (λ (k : ℕ). is_prefix (take k (drop at.result a.card.now.bytes.now)) front) n
    ∙ ap (λ (k : ℕ). is_prefix (take a.head.length (drop k a.card.now.bytes.now)) front) at.ensures
