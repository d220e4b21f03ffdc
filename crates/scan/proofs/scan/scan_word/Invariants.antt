use Rattle.scan.specs.Scans.{scan_from}
use Rattle.notation.specs.Scanning.{ScanState, rest}
use mathlib.Core.Path.{◌≡◌}
use Prim.Native.Nat.{◌≤◌}
use lib.ListN.{length, drop}
use Rattle.scan.proofs.scan.scan_word.Given as goal

abbrev pub invariant-loop-x : goal.invariant-loop-x
invariant-loop-x l = (l.at ≤ l.n) × (l.n ≤ length l.text) × ((k : ScanState) → scan_from l.text l.at (rest l.word k) ≡ scan_from l.text l.n (rest (drop l.x-index l.word) k))
