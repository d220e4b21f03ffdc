use Rattle.meaning.specs.Card.{byte, number_at, span, selection_at}
use Prim.Native.Nat.{◌+◌}
use mathlib.Core.Path.{ap, ◌∙◌}
use Rattle.layout.proofs.card.Card.selection.Goals as goal

pub returns : goal.returns
unfolding selection_at
returns c =
    let b = c.args.self.now.bytes.now in
    let e = c.entry_at-at.ensures.0 in
    let s = c.read_span.ensures in
    let z = c.two_bytes_at.ensures.0 ∙ ap (λ x. number_at b (x + 6)) e in
    (λ i. record { belief = byte b (e i); goal = byte b (e i + 1); plan = (s.0 ∙ ap (λ x. span b (x + 2)) e) i; zero = z i }, s.1)
