use Rattle.meaning.specs.Card.{layout}
use Rattle.meaning.specs.Sizes.{edition_set, header_bytes}
use Rattle.meaning.specs.Refusals.{card_long_enough}
use Rattle.meaning.proofs.Widening.{set_least}
use borrow.Author.Tests.{leb-true}
use mathlib.Core.Path.{ap, ◌∙◌}
use Prim.Native.Nat.{◌≤◌}
use native.Mathlib.Omega.{arith}
use lib.Dec.{leb}
use lib.ListN.{length}
use Rattle.card.proofs.check.long_enough.Goals as goal

pub returns : goal.returns
unfolding card_long_enough layout
returns c =
    let b = c.args.card.now in
    let e = c.two_bytes_at.ensures.0 in
    let h = c.edition_header.ensures.0 in
    let same = h ∙ ap (λ k. header_bytes (edition_set k)) e in
    let least = set_least c.two_bytes_at.result in
    (ap (λ k. leb k (length b)) same, λ t. (let n : c.edition_header.result ≤ length b = leb-true _ _ t in omega (arith, n, h, least)))
