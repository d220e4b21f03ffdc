use Rattle.meaning.specs.Card.{byte, number_at, span, revision_at}
use Prim.Native.Nat.{◌+◌}
use mathlib.Core.Path.{ap, ◌∙◌}
use Rattle.layout.proofs.card.Card.revision.Goals as goal

pub returns : goal.returns
unfolding revision_at
returns c =
    let b = c.args.self.now.bytes.now in
    let e = c.entry_at-at.ensures.0 in
    let h = c.read_span.ensures in
    let d = c.read_span-2.ensures in
    let z = c.two_bytes_at.ensures.0 ∙ ap (λ x. number_at b (x + 10)) e in (
      λ i. record { node = byte b (e i); plain = byte b (e i + 1); head = (h.0 ∙ ap (λ x. span b (x + 2)) e) i; body = (d.0 ∙ ap (λ x. span b (x + 6)) e) i; zero = z i },
      h.1,
      d.1,
    )
