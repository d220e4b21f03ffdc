use Rattle.choices.specs.Judged.{AllSets}
use Rattle.listing.specs.Listed.{enabled_code, Gathered}
use Rattle.listing.specs.Looking.{judged_in}
use mathlib.Core.Path.{◌≡◌}
use Prim.Native.Nat.{◌+◌, ◌*◌, ◌≤◌}
use Rattle.runs.specs.Kinds.{kind_number}
use lib.ListN.{length}
use Rattle.listing.proofs.gather.gather_kind.Given as goal

abbrev pub invariant-loop-number : goal.invariant-loop-number
invariant-loop-number l =
    (length l.codes ≡ 96) × (l.enabled ≤ l.initial.enabled + l.number)
    × AllSets l.card.layout l.card.bytes.now l.m l.plan l.marks (λ c. Gathered (enabled_code l.card.layout l.card.bytes.now c) (256 * (kind_number l.kind)) l.initial.codes l.initial.enabled → Gathered (enabled_code l.card.layout l.card.bytes.now c) (256 * (kind_number l.kind) + l.number) l.codes l.enabled)
    × AllSets l.card.layout l.card.bytes.now l.m l.plan l.marks (λ c. l.judged ≡ l.initial.judged + judged_in l.card.layout l.card.bytes.now c (kind_number l.kind) l.number)
