use Rattle.meaning.specs.Refusals.{containing, every}
use mathlib.Core.Bool.{◌&&◌, true}
use Rattle.deliberation.specs.Entries.{entry_of, entry_count, entry_good, length_good, program_good}
use mathlib.Core.Path.{◌≡◌, sym, ap, ◌∙◌}
use lib.ListN.{length}
use Rattle.program.proofs.program_good.Goals as goal

pub returns-then-not-length_good : goal.returns-then-not-length_good
unfolding program_good
returns-then-not-length_good c =
    let a = c.args in
    let p = a.program.now in
    let e = sym c.length_good.ensures ∙ c.if-not-length_good.true in
    sym (ap (λ t. t && every (entry_count p) (λ i. entry_good (containing 2 a.card.now.layout a.card.now.bytes.now) a.card.now.layout i (entry_of p i))) e)

pub returns : goal.returns
unfolding program_good
returns c =
    let a = c.args in
    let p = a.program.now in
    let e : length_good (length p) ≡ true = sym c.length_good.ensures ∙ c.if-not-length_good.false in
    c.entries_good.ensures a.card.now.bytes.now c.mark_nodes.ensures.1
    ∙ sym (ap (λ t. t && every (entry_count p) (λ i. entry_good (containing 2 a.card.now.layout a.card.now.bytes.now) a.card.now.layout i (entry_of p i))) e)
