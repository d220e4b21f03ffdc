use Rattle.meaning.specs.Card.{layout}
use Rattle.layout.proofs.header.read_layout.Goals as goal

pub returns : goal.returns
unfolding layout
returns c =
    let z = c.two_bytes_at.ensures in
    let a = c.two_bytes_at-2.ensures in
    let b = c.two_bytes_at-3.ensures in
    let d = c.read_section.ensures in
    let e = c.read_section-2.ensures in
    let f = c.read_section-3.ensures in
    let g = c.read_section-4.ensures in
    let h = c.read_section-5.ensures in
    let k = c.read_span.ensures in (
      λ i. record { edition = z.0 i; atoms = a.0 i; actions = b.0 i; nodes = d.0 i; specifications = e.0 i; selections = f.0 i; revisions = g.0 i; pool = h.0 i; initial = k.0 i },
      record { edition = z.1; atoms = a.1; actions = b.1; nodes = d.1; specifications = e.1; selections = f.1; revisions = g.1; pool = h.1; initial = k.1 },
    )
