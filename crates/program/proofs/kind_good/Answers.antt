use mathlib.Core.Bool.{Bool, false, ◌&&◌}
use lib.Dec.{ltb}
use Rattle.deliberation.specs.Kinds.{entry_kind}
use Rattle.deliberation.specs.Entries.{kind_good}
use mathlib.Core.Path.{ap₂, ◌≡◌, sym, ap, ◌∙◌}
use mathlib.Core.Logic.{⊎_elim}
use Rattle.card.proofs.Laws.{either_of}
use Rattle.meaning.specs.Refusals.{condition_good, containing}
use Prim.Native.Nat.{ℕ, ◌<◌}
use native.Mathlib.Omega.{arith}
use borrow.Author.Tests.{le-ltb}
use Rattle.program.proofs.kind_good.Goals as goal

pub returns-in-0 : goal.returns-in-0
returns-in-0 c = λ b m. rw c.in-0.is

pub returns-in-1 : goal.returns-in-1
returns-in-1 c = λ b m. rw (c.in-1.is, c.byte_below.ensures)

pub returns-in-2 : goal.returns-in-2
returns-in-2 c = λ b m. rw (c.in-2.is, c.byte_below-in-2.ensures)

pub returns-in-3 : goal.returns-in-3
returns-in-3 c = λ b m. rw (c.in-3.is, c.byte_below-in-3.ensures)

pub returns-in-4 : goal.returns-in-4
returns-in-4 c = λ b m.
    let a = c.args in
    let h : a.e.a < 256 = omega arith in
    let k : c.free_of.result ≡ condition_good a.l (containing 2 a.l b) a.e.a = c.free_of.ensures ∙ m a.e.a h in
    rw (c.in-4.is, k, c.byte_below-in-4.ensures)

pub returns-in-5-to-6 : goal.returns-in-5-to-6
returns-in-5-to-6 c = λ b m.
    let a = c.args in
    let s = ap₂ ◌&&◌ c.byte_below-in-5-to-6.ensures c.byte_below-in-5-to-6-2.ensures in
    let kept : ℕ → Bool = λ k. ltb k 7 && kind_good (containing 2 a.l b) a.l a.i (entry_kind k) a.e.a a.e.b in
    ⊎_elim (λ e. s ∙ ap kept (sym e)) (λ e. s ∙ ap kept (sym e)) (either_of 5 a.e.kind (omega arith) (omega arith))

pub returns-in_default : goal.returns-in_default
returns-in_default c = λ b m.
    let k = c.args.e.kind in
    let e : ltb k 7 ≡ false = le-ltb k 7 (omega arith) in
    rw e
