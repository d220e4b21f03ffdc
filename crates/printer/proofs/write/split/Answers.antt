use mathlib.Core.Path.{subst, sym, ◌∙◌}
use Rattle.printer.specs.Tasks.{Splits}
use Rattle.printer.proofs.Tasks.{split_number, node_known, node_kind_lem, split_lower, split_node}
use mathlib.Core.List.{[], ◌∷◌}
use Prim.Native.Nat.{ℕ}
use Rattle.printer.proofs.write.split.Goals as goal

pub returns-then-kind-ge4 : goal.returns-then-kind-ge4
returns-then-kind-ge4 c =
    let a = c.args in
    subst (Splits a.card.now.layout a.card.now.bytes.now a.t) (sym c.number_parts.ensures) (split_number a.card.now.layout a.card.now.bytes.now a.t c.if-kind-ge4.true)

pub node-x-requires : goal.node-x-requires
node-x-requires c =
    let a = c.args in
    let p = c.requires in
    let g = c.if-kind-ge4.false in
    node_known a.card.now.layout a.card.now.bytes.now p.0 a.t p.1 g p.2

pub returns-then-is_lower : goal.returns-then-is_lower
returns-then-is_lower c =
    let a = c.args in
    let p = c.requires in
    let g = c.if-kind-ge4.false in
    let x = c.node-x in
    let s = split_lower a.card.now.layout a.card.now.bytes.now p.0 a.t p.1 g p.2 x.result x.ensures (sym c.is_lower.ensures ∙ c.if-is_lower.true) in
    subst (λ (y : ℕ). Splits a.card.now.layout a.card.now.bytes.now a.t (40 ∷ (y ∷ (41 ∷ [])))) (sym c.task.ensures) s

pub node_parts-requires : goal.node_parts-requires
node_parts-requires c =
    let a = c.args in
    let p = c.requires in
    let g = c.if-kind-ge4.false in
    let x = c.node-x in
    node_kind_lem a.card.now.layout a.card.now.bytes.now p.0 a.t p.1 g p.2 x.result x.ensures

pub returns : goal.returns
returns c =
    let a = c.args in
    let p = c.requires in
    let g = c.if-kind-ge4.false in
    let x = c.node-x in
    let s = split_node a.card.now.layout a.card.now.bytes.now p.0 a.t p.1 g p.2 x.result x.ensures (sym c.is_lower.ensures ∙ c.if-is_lower.false) in
    subst (Splits a.card.now.layout a.card.now.bytes.now a.t) (sym c.node_parts.ensures) s
