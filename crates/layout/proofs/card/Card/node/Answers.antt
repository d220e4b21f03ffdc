use Rattle.meaning.specs.Card.{byte, node_at}
use Prim.Native.Nat.{◌+◌}
use Rattle.layout.proofs.card.Card.node.Goals as goal

pub returns : goal.returns
unfolding node_at
returns c =
    let b = c.args.self.now.bytes.now in
    let e = c.entry_at-at.ensures.0 in
    λ i. record { kind = byte b (e i); a = byte b (e i + 1); b = byte b (e i + 2); zero = byte b (e i + 3) }
