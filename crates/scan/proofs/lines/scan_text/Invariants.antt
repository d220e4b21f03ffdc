use Rattle.scan.specs.Scans.{scan_from, start_of}
use Rattle.notation.specs.Scanning.{first, lines}
use Rattle.std.proofs.Common.{◌≡◌, ◌-◌, ◌≤◌, length}
use Rattle.scan.proofs.lines.scan_text.Given as goal

abbrev pub invariant-loop-n : goal.invariant-loop-n
invariant-loop-n l = (l.n ≤ length l.text) × (scan_from l.text 0 (lines first) ≡ scan_from l.text l.n (lines (start_of l.stage)))

abbrev pub decreases-loop-n : goal.decreases-loop-n
decreases-loop-n l = length l.text - l.n
