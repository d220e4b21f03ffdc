use Rattle.scan.specs.Scans.{scan_from}
use Rattle.notation.specs.Scanning.{ScanState, digits}
use mathlib.Core.Path.{◌≡◌}
use Prim.Native.Nat.{◌≤◌}
use lib.ListN.{length}
use Rattle.scan.proofs.scan.scan_digits.Given as goal

abbrev pub invariant-loop-n : goal.invariant-loop-n
invariant-loop-n l = (l.at ≤ l.n) × (l.n ≤ length l.text) × ((k : ScanState) → scan_from l.text l.at (digits k) ≡ scan_from l.text l.n (digits k))
