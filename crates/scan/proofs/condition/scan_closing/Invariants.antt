use Rattle.scan.specs.Scans.{scan_from}
use Rattle.notation.specs.Scanning.{ScanState, after}
use Rattle.meaning.specs.Card.{Bytes}
use mathlib.Core.Path.{◌≡◌}
use Prim.Native.Nat.{◌≤◌}
use lib.ListN.{length}
use Rattle.scan.proofs.condition.scan_closing.Given as goal

abbrev pub invariant-loop-n : goal.invariant-loop-n
invariant-loop-n l =
    (l.at ≤ l.n) × (l.n ≤ length l.text) × (l.inside ≤ l.brackets) × ((w : Bytes) (k : ScanState) → scan_from l.text l.at (after l.brackets w k) ≡ scan_from l.text l.n (after l.inside w k))
