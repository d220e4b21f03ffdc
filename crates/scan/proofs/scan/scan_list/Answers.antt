use Rattle.scan.proofs.Scanning.{goes_here, list_stops, list_on, list_end_on, list_to_over}
use Rattle.notation.specs.Scanning.{list, list_end}
use mathlib.Core.List.{◌∷◌}
use Rattle.std.proofs.Common.{refl, sym, ◌∙◌, arith, rules}
use Rattle.scan.proofs.scan.scan_list.Goals as goal

pub loop-n-init : goal.loop-n-init
loop-n-init c = (omega arith, c.requires, (λ x w k. refl), λ k. refl)

pub scan_digits-n-requires : goal.scan_digits-n-requires
scan_digits-n-requires c = let h = goes_here c.args.text.now c.loop-n.n (sym c.goes_on.ensures ∙ c.loop-n-test.true) in let l = h.0 in omega arith

pub overflow_add-n : goal.overflow_add-n
overflow_add-n c = let h = goes_here c.args.text.now c.loop-n.n (sym c.goes_on.ensures ∙ c.loop-n-test.true) in let l = h.0 in search rules

pub loop-n-smaller : goal.loop-n-smaller
loop-n-smaller c =
    let h = goes_here c.args.text.now c.loop-n.n (sym c.goes_on.ensures ∙ c.loop-n-test.true) in
    let l = h.0 in
    let d = c.scan_digits-n.ensures.0 in
    omega arith

pub loop-n-preserved : goal.loop-n-preserved
loop-n-preserved c =
    let h = goes_here c.args.text.now c.loop-n.n (sym c.goes_on.ensures ∙ c.loop-n-test.true) in
    let t = h.0 in
    let d = c.scan_digits-n.ensures in
    let i = c.loop-n.invariant in
    let l = i.0 in
    let m = d.0 in (
      omega arith,
      d.1,
      (λ x w k. i.2 x w k ∙ list_on c.args.text.now c.loop-n.n (omega arith) h.1 t h.2 x w k ∙ d.2 (list (x ∷ w) k)),
      λ k. i.3 k ∙ list_end_on c.args.text.now c.loop-n.n (omega arith) h.1 t h.2 k ∙ d.2 (list_end k),
    )

pub returns : goal.returns
returns c =
    list_to_over c.args.text.now c.args.at c.loop-n.n c.loop-n.n c.loop-n.invariant
    (list_stops c.args.text.now c.loop-n.n c.loop-n.invariant.1 (sym c.goes_on.ensures ∙ c.loop-n-test.false))
