use Rattle.meaning.specs.Sizes.{set_bytes, plan_at}
use Rattle.layout.specs.declared.place.PlaceParts.{PlaceParts}
use Rattle.meaning.specs.Configurations.{padded, configuration_of}
use Rattle.meaning.specs.Place.{placed}
use Rattle.meaning.specs.Card.{number_at, part}
use lib.Seq.{take_all}
use lib.ListN.{length-drop, length, drop}
use mathlib.Core.Path.{◌≡◌, sym, ap, ◌∙◌}
use native.Mathlib.Omega.{arith}
use borrow.Author.Rules.{rules}
use Rattle.place.proofs.restore.read.Goals as goal

pub overflow_cast-phase : goal.overflow_cast-phase
overflow_cast-phase c =
    let e = ap (λ (h : PlaceParts). h.phase) c.read_parts-h.ensures.0 in
    search (rules, e)

pub fill-requires : goal.fill-requires
fill-requires c =
    let e = ap (λ (h : PlaceParts). h.length) c.read_parts-h.ensures.0 in
    search (rules, e)

pub returns : goal.returns
unfolding configuration_of placed part
returns c =
    let b = c.args.p.now in
    let t = c.requires.0.ends in
    let h = c.read_parts-h.ensures.0 in
    let n = c.read_parts-h.result.length in
    let e : n ≡ number_at b 4 = ap (λ (x : PlaceParts). x.length) h in
    let at = plan_at (set_bytes c.args.l) in
    let l : length (drop at b) ≡ n = length-drop at b ∙ omega arith in
    let π : part b at n ≡ drop at b = take_all n (drop at b) (omega arith) in
    let q = c.fill.ensures ∙ (λ i. padded (part b (c.plan_at.ensures.0 i) n)) ∙ ap padded π in
    λ i. record { mind = record { beliefs = (h i).beliefs; goals = (h i).goals; length = sym l i; phase = (h i).phase; finished = (h i).finished }; plan = q i }
