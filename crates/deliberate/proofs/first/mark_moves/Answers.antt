use Rattle.paper.specs.Atoms.{Atoms, ◌∈◌}
use Rattle.paper.specs.Next.{is_some}
use Rattle.sets.proofs.Members.{passing_none, passing_yes, passing_no}
use Rattle.deliberation.specs.FirstMove.{lowest_action}
use Rattle.deliberation.specs.Kinds.{entry_kind}
use Rattle.deliberation.specs.Entries.{entry_count, move_at}
use Rattle.meaning.specs.Configurations.{state_of}
use Rattle.meaning.specs.Card.{agent_for}
use Rattle.meaning.specs.declared.Node.{Node}
use Rattle.deliberate.specs.First.{movable_of, Movable}
use Rattle.deliberate.proofs.Marking.{movable_next}
use Rattle.layout.specs.PlaceParts.{configured}
use Rattle.choices.specs.Judged.{Judged}
use mathlib.Core.Bool.{Bool}
use mathlib.Core.Path.{◌≡◌, sym, ap, ◌∙◌, subst}
use Prim.Native.Nat.{ℕ, ◌<◌}
use native.Mathlib.Omega.{arith}
use lib.ListN.{length, length-set, length-replicate}
use Rattle.deliberate.proofs.first.mark_moves.Goals as goal
use Rattle.deliberate.proofs.first.mark_moves.Goals.{then-has_move, else-has_move}

pub loop-i-init : goal.loop-i-init
loop-i-init c = (length-replicate {A = ℕ} 16 0, λ σ γ j e. passing_none _ 16)

pub loop-i-preserved : goal.loop-i-preserved
loop-i-preserved c =
    let a = c.args in
    let g = c.requires.1 in
    let most = g.most in
    let l = c.loop-i in
    let t = c.loop-i-test.true in
    let n = c.requires.2 in
    let k : l.i < entry_count a.program.now = omega arith in
    let s = l.invariant.0 in
    let A = agent_for a.card.now.layout a.card.now.bytes.now in
    let b = a.card.now.bytes.now in
    let p = a.program.now in
    let marked : (σ γ : Atoms) → (j : Judged a.card.now.layout b (configured σ γ a.m a.plan.now) a.marks.now)
    → a.acts ≡ is_some (lowest_action A (state_of (configured σ γ a.m a.plan.now)).mental)
    → c.has_move.result ≡ is_some (move_at a.card.now.layout b p (state_of (configured σ γ a.m a.plan.now)).mental l.i) =
    λ σ γ j q.
    (let d = configured σ γ a.m a.plan.now in
    c.has_move.ensures σ γ j q ∙ ap (λ (x : Node). movable_of A (state_of d).mental (entry_kind x.kind) x.a x.b (λ j. j ∈ l.movable)) c.read_entry-e.ensures
    ∙ movable_next a.card.now.layout b p d l.i l.movable (l.invariant.1 σ γ j q) g k) in
    elim c.if-has_move.branch [
      | then-has_move w ↦ (let q = w.movable-is ∙ w.add_member.ensures in (
        ap length q ∙ length-set l.movable _ _ ∙ s,
        λ σ γ j e.
            (let has : ℕ → Bool = λ i. is_some (move_at a.card.now.layout b p (state_of (configured σ γ a.m a.plan.now)).mental i) in
            rw q (passing_yes has l.i l.movable (l.invariant.1 σ γ j e) (sym (marked σ γ j e) ∙ w.if-has_move.true) (omega arith))),
      ))
      | else-has_move w ↦ (
        ap length w.movable-is ∙ s,
        λ σ γ j e.
            (let has : ℕ → Bool = λ i. is_some (move_at a.card.now.layout b p (state_of (configured σ γ a.m a.plan.now)).mental i) in
            rw w.movable-is (passing_no has l.i l.movable (l.invariant.1 σ γ j e) (sym (marked σ γ j e) ∙ w.if-has_move.false))),
      )
    ]

pub returns : goal.returns
returns c = λ σ γ j e.
    let a = c.args in
    let l = c.loop-i in
    let d = configured σ γ a.m a.plan.now in
    let n : l.i ≡ a.n = omega arith in
    subst (λ n. Movable a.card.now.layout a.card.now.bytes.now a.program.now d n l.movable) n (l.invariant.1 σ γ j e)
