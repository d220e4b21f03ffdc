use mir.Syntax.{w8}
use mir.Val.{Fits}
use mathlib.Core.Path.{ap₂, ◌∙◌}
use Prim.Native.Nat.{ℕ}
use borrow.Author.Rules.{rules}
use lib.ListN.{get_or}
use Rattle.paper.specs.Atoms.{Atoms}
use Rattle.meaning.specs.declared.Configuration.{Configuration}
use Rattle.layout.specs.PlaceParts.{configured}
use Rattle.unpacked.specs.Truths.{packed}
use Rattle.unpacked.proofs.Values.{packed_values}
use Rattle.unpacked.proofs.configuration.unpack.Goals as goal

pub returns : goal.returns
returns c =
    let g = c.well_formed in
    let d = c.args.c in
    let m = d.mind in
    let beliefs : (i : ℕ) → Fits w8 (get_or m.beliefs i 0) = λ i. search rules in
    let goals : (i : ℕ) → Fits w8 (get_or m.goals i 0) = λ i. search rules in
    let made : Atoms → Atoms → Configuration = λ b g. configured b g (record { length = m.length; phase = m.phase; finished = m.finished }) d.plan in
    ap₂ (λ b g. made (packed 32 b) (packed 32 g)) c.unpack_set.ensures c.unpack_set-2.ensures
    ∙ ap₂ made (packed_values 32 m.beliefs (search rules) (λ i. (beliefs i).fits)) (packed_values 32 m.goals (search rules) (λ i. (goals i).fits))
