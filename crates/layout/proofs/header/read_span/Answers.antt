use Rattle.layout.proofs.header.read_span.Goals as goal

pub returns : goal.returns
returns c =
    let n = c.two_bytes_at.ensures in
    let m = c.two_bytes_at-2.ensures in
    (λ i. record { start = n.0 i; length = m.0 i }, record { start = n.1; length = m.1 })
