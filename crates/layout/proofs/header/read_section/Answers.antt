use Rattle.layout.proofs.header.read_section.Goals as goal

pub returns : goal.returns
returns c =
    let n = c.two_bytes_at.ensures in
    let m = c.two_bytes_at-2.ensures in
    (λ i. record { count = n.0 i; offset = m.0 i }, record { count = n.1; offset = m.1 })
