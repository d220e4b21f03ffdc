use mathlib.Core.Bool.{Bool}
use Rattle.deliberation.specs.Entries.{entry_of, entry_good}
use Rattle.meaning.specs.Refusals.{containing}
use Rattle.sets.proofs.Loops.{kept_start, kept_turn, kept_all}
use Prim.Native.Nat.{ℕ}
use native.Mathlib.Omega.{arith}
use Rattle.program.proofs.entries_good.Goals as goal

pub loop-i-init : goal.loop-i-init
loop-i-init c = λ b m. kept_start _ _

pub loop-i-preserved : goal.loop-i-preserved
loop-i-preserved c = λ b m.
    let a = c.args in
    let l = c.loop-i in
    let t : ℕ → Bool = λ i. entry_good (containing 2 a.l b) a.l i (entry_of a.program.now i) in
    rw (c.kind_good.ensures b m, c.read_entry-e.ensures) (kept_turn t a.n l.good l.i (omega arith) (l.invariant b m))

pub returns : goal.returns
returns c = λ b m.
    let a = c.args in
    let l = c.loop-i in
    kept_all (λ i. entry_good (containing 2 a.l b) a.l i (entry_of a.program.now i)) a.n l.good l.i (omega arith) (l.invariant b m)
