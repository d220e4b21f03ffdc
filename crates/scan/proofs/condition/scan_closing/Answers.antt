use lib.ListN.{length}
use Rattle.std.proofs.Common.{ap}
use Rattle.scan.proofs.Conditions.{after_close}
use Rattle.scan.specs.Scans.{scan_from}
use Rattle.notation.specs.Scanning.{ScanState, after}
use Rattle.meaning.specs.Card.{Bytes}
use mathlib.Core.Path.{◌≡◌, ◌∙◌}
use Prim.Native.Nat.{ℕ, suc, ◌-◌}
use native.Mathlib.Omega.{arith}
use Rattle.scan.proofs.condition.scan_closing.Goals as goal

-- one bracket less

one_less : (t : Bytes) (n i : ℕ) (w : Bytes) (k : ScanState) → (i ≡ 0 → ⊥) → scan_from t n (after i w k) ≡ scan_from t n (after (suc (i - 1)) w k)
one_less t n i w k h = let e : i ≡ suc (i - 1) = omega arith in λ j. scan_from t n (after (e j) w k)

pub returns-then-inside-eq0 : goal.returns-then-inside-eq0
returns-then-inside-eq0 c = let i = c.loop-n.invariant in (i.0, i.1, i.2, (λ h e. c.if-inside-eq0.true), i.3)

pub returns-then-text-n-ne41 : goal.returns-then-text-n-ne41
returns-then-text-n-ne41 c = let i = c.loop-n.invariant in (i.0, i.1, i.2, (λ h e. absurd (c.if-text-n-ne41.true e)), i.3)

pub overflow_sub-inside : goal.overflow_sub-inside
overflow_sub-inside c = let e = c.if-inside-eq0.false in omega arith

pub loop-n-preserved : goal.loop-n-preserved
loop-n-preserved c =
    let i = c.loop-n.invariant in
    let a = i.0 in
    let b = i.2 in
    let t = c.loop-n-test.true in
    let m = c.loop-n.inside in
    let T = c.args.text.now in
    (omega arith, omega arith, omega arith, λ w k. i.3 w k ∙ one_less T c.loop-n.n m w k c.if-inside-eq0.false ∙ after_close T c.loop-n.n w k t c.if-text-n-ne41.false (m - 1))

pub returns : goal.returns
returns c =
    let i = c.loop-n.invariant in
    let a = i.0 in
    let b = i.1 in
    let t = c.loop-n-test.false in
    let e : c.loop-n.n ≡ length c.args.text.now = omega arith in
    (omega arith, omega arith, i.2, (λ h f. absurd (omega arith)), λ w k. i.3 w k ∙ ap (λ m. scan_from c.args.text.now m (after c.loop-n.inside w k)) e)
