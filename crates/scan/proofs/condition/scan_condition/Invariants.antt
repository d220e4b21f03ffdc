use Rattle.scan.specs.Scans.{scan_from}
use Rattle.notation.specs.Scanning.{ScanState, unit}
use Rattle.meaning.specs.Card.{Bytes}
use mathlib.Core.Path.{◌≡◌}
use Prim.Native.Nat.{◌-◌, ◌≤◌}
use lib.ListN.{length}
use Rattle.scan.proofs.condition.scan_condition.Given as goal

abbrev pub invariant-loop-unit : goal.invariant-loop-unit
invariant-loop-unit l =
    (l.at ≤ l.n) × (l.n ≤ length l.text) × (l.brackets ≤ l.n) × ((w : Bytes) (k : ScanState) → scan_from l.text l.at (unit 0 w k) ≡ scan_from l.text l.n (unit l.brackets w k))

abbrev pub decreases-loop-unit : goal.decreases-loop-unit
decreases-loop-unit l = length l.text - l.n
