use Rattle.plain.proofs.Acting.{unpacked_is, struck_by_lem}
use Rattle.plain.proofs.Loading.{first_made}
use Rattle.paper.specs.Transitions.{struck_by}
use mir.Syntax.{w8}
use mir.Val.{Fits}
use mathlib.Core.Path.{◌≡◌, ap₂, ◌∙◌}
use Prim.Native.Nat.{ℕ}
use borrow.Author.Rules.{rules}
use lib.ListN.{length, get_or}
use Rattle.plain.proofs.load.first.Goals as goal

pub returns : goal.returns
returns c =
    let β = c.unpack_set-beliefs.result in
    let γ = c.unpack_set-goals.result in
    let σ = c.initial_beliefs.result in
    let g = c.initial_goals.result in
    let σ-long : length σ ≡ 32 = search rules in
    let σ-bytes : (i : ℕ) → Fits w8 (get_or σ i 0) = λ i. search rules in
    let g-long : length g ≡ 32 = search rules in
    let g-bytes : (i : ℕ) → Fits w8 (get_or g i 0) = λ i. search rules in
    let is-σ = unpacked_is 32 σ β σ-long c.unpack_set-beliefs.ensures (λ i. (σ-bytes i).fits) ∙ c.initial_beliefs.ensures in
    let is-γ =
    struck_by_lem 32 γ β c.strike.result g σ (search rules) g-long (λ i. (g-bytes i).fits) c.unpack_set-goals.ensures
    σ-long (λ i. (σ-bytes i).fits) c.unpack_set-beliefs.ensures c.strike.ensures
    ∙ ap₂ struck_by c.initial_beliefs.ensures c.initial_goals.ensures in
    first_made c.args.card.now.layout c.args.card.now.bytes.now c.requires β c.strike.result is-σ is-γ c.pool_at.result c.pool_at.ensures
    c.copy_plan-plan.result c.copy_plan-plan.ensures c.at_first.result c.at_first.ensures
