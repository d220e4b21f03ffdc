use Rattle.std.proofs.Common.{◌≡◌, ℕ, ◌≤◌, ◌<◌, get_or}
use Rattle.sets.proofs.put_together.Given as goal

abbrev pub invariant-loop-i : goal.invariant-loop-i
invariant-loop-i g l = record {
  done : (k : ℕ) → k < l.i → goal.F-post g l.f (get_or l.fn.s k 0) (get_or l.t k 0) (get_or l.s k 0);
  behind : (k : ℕ) → l.i ≤ k → get_or l.s k 0 ≡ get_or l.fn.s k 0;
}
