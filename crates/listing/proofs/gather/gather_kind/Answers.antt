use Rattle.listing.proofs.Gathering.{gathered_yes, gathered_no, gathered_past, enabled_at, none_enabled}
use Rattle.listing.proofs.Looking.{judged_next, judged_few}
use Rattle.listing.specs.declared.gather.Look.{Look}
use Rattle.listing.specs.Listed.{enabled_code, Gathered}
use Rattle.listing.specs.Looking.{judged_in}
use Rattle.layout.proofs.GoodLayout.{at_most_256}
use Rattle.layout.specs.Entries.{count_of}
use Rattle.layout.specs.PlaceParts.{configured}
use mathlib.Core.Path.{◌≡◌, sym, ap, ◌∙◌, subst}
use Prim.Native.Nat.{◌+◌, ◌-◌, ◌*◌}
use native.Mathlib.Omega.{arith}
use Rattle.runs.specs.Kinds.{kind_number}
use Rattle.door.proofs.Told.{kind_lt, code_at}
use lib.ListN.{length, length-set}
use Rattle.listing.proofs.gather.gather_kind.Goals as goal
use Rattle.listing.proofs.gather.gather_kind.Goals.{then-look, else-look}

pub overflow_add-judged : goal.overflow_add-judged
overflow_add-judged c =
    let a = c.args in
    let p = c.requires in
    let s = p.some_sets.0 in
    let h = at_most_256 a.card.now.layout a.card.now.bytes.now s.judged.ready.card.layout (kind_number a.kind) in
    let l = c.loop-number in
    let d = configured s.beliefs s.goals a.m a.plan.now in
    let n = judged_next a.card.now.layout a.card.now.bytes.now d (kind_number a.kind) l.number in
    let f = judged_few a.card.now.layout a.card.now.bytes.now d (kind_number a.kind) (l.number + 1) in
    let j = ap (λ (v : Look). v.judged) (c.look_at-look.ensures s.beliefs s.goals s.judged) in
    let b = p.enabled_bound.1 in
    let o = l.invariant.3 s.beliefs s.goals s.judged in
    record { fits = omega (arith, n, f, j, b, o, h) }

pub add_member-requires : goal.add_member-requires
add_member-requires c =
    let a = c.args in
    let h = at_most_256 a.card.now.layout a.card.now.bytes.now c.requires.some_sets.0.judged.ready.card.layout (kind_number a.kind) in
    let l = c.loop-number in
    let k = c.code.ensures ∙ sym (code_at a.kind l.number) in
    let t = kind_lt a.kind in
    omega arith

pub loop-number-preserved : goal.loop-number-preserved
loop-number-preserved c =
    let a = c.args in
    let h = at_most_256 a.card.now.layout a.card.now.bytes.now c.requires.some_sets.0.judged.ready.card.layout (kind_number a.kind) in
    let l = c.loop-number in
    let x : 256 * (kind_number a.kind) + (l.number + 1) ≡ 256 * (kind_number a.kind) + l.number + 1 = omega arith in
    let look = c.look_at-look.ensures in
    let r = l.invariant.0 in
    let f = l.invariant.1 in
    elim c.if-look.branch [
      | then-look w ↦ (let k = w.code.ensures ∙ sym (code_at a.kind l.number) in
          let q = rw k at (w.codes-is ∙ w.add_member.ensures) in
          let t = kind_lt a.kind in (
            ap length q ∙ length-set l.codes _ _ ∙ r,
            rw w.enabled-is (omega arith),
            λ σ γ j g.
                (let d = configured σ γ a.m a.plan.now in
                let e = enabled_at a.card.now.layout a.card.now.bytes.now d (kind_number a.kind) l.number (omega arith) ∙ sym (ap (λ (v : Look). v.enabled) (look σ γ j)) in
                rw (x, q, w.enabled-is) (gathered_yes (enabled_code a.card.now.layout a.card.now.bytes.now d) (256 * (kind_number a.kind) + l.number) l.codes l.enabled (l.invariant.2 σ γ j g) (e ∙ w.if-look.true) (omega arith))),
            λ σ γ j.
                (let n = judged_next a.card.now.layout a.card.now.bytes.now (configured σ γ a.m a.plan.now) (kind_number a.kind) l.number in
                let e = ap (λ (v : Look). v.judged) (look σ γ j) in
                let o = l.invariant.3 σ γ j in
                omega (arith, n, e, o)),
          ))
      | else-look w ↦ (
        ap length w.codes-is ∙ r,
        rw w.enabled-is (omega arith),
        λ σ γ j g.
            (let d = configured σ γ a.m a.plan.now in
            let e = enabled_at a.card.now.layout a.card.now.bytes.now d (kind_number a.kind) l.number (omega arith) ∙ sym (ap (λ (v : Look). v.enabled) (look σ γ j)) in
            rw (x, w.codes-is, w.enabled-is) (gathered_no (enabled_code a.card.now.layout a.card.now.bytes.now d) (256 * (kind_number a.kind) + l.number) l.codes l.enabled (l.invariant.2 σ γ j g) (e ∙ w.if-look.false))),
        λ σ γ j.
            (let n = judged_next a.card.now.layout a.card.now.bytes.now (configured σ γ a.m a.plan.now) (kind_number a.kind) l.number in
            let e = ap (λ (v : Look). v.judged) (look σ γ j) in
            let o = l.invariant.3 σ γ j in
            omega (arith, n, e, o)),
      )
    ]

pub returns : goal.returns
returns c =
    let a = c.args in
    let h = at_most_256 a.card.now.layout a.card.now.bytes.now c.requires.some_sets.0.judged.ready.card.layout (kind_number a.kind) in
    let l = c.loop-number in
    let n = count_of a.card.now.layout (kind_number a.kind) in
    let f = l.invariant.1 in
    let e : 256 * (kind_number a.kind) + l.number + (256 - l.number) ≡ 256 * (kind_number a.kind) + 256 = omega arith in
    let m : l.number ≡ n = omega arith in record {
      all_sets = λ σ γ j g.
          (let d = configured σ γ a.m a.plan.now in
          subst (λ x. Gathered (enabled_code a.card.now.layout a.card.now.bytes.now d) x l.codes l.enabled) e
          (gathered_past (enabled_code a.card.now.layout a.card.now.bytes.now d) (256 * (kind_number a.kind) + l.number) l.codes l.enabled (l.invariant.2 σ γ j g) (256 - l.number)
          (λ i g. (let q : 256 * (kind_number a.kind) + l.number + i ≡ 256 * (kind_number a.kind) + (l.number + i) = omega arith in ap (enabled_code a.card.now.layout a.card.now.bytes.now d) q ∙ none_enabled a.card.now.layout a.card.now.bytes.now d (kind_number a.kind) (l.number + i) (omega arith) (omega arith)))));
      all_sets_2 = λ σ γ j. (l.invariant.3 σ γ j ∙ ap (λ k. a.before.judged + judged_in a.card.now.layout a.card.now.bytes.now (configured σ γ a.m a.plan.now) (kind_number a.kind) k) m);
      codes_len = (l.invariant.0, omega arith);
    }
