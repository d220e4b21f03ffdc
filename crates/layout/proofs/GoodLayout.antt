-- Where everything lies, once the counts and the offsets are good.
use mathlib.Core.Path.{◌≡◌}
use mathlib.Core.Bool.{true}
use Prim.Native.Nat.{ℕ, zero, suc, ◌*◌, ◌≤◌}
use native.Mathlib.Nat.{mul-le-mul_right}
use native.Mathlib.Omega.{arith}
use lib.ListN.{length}
use Rattle.meaning.specs.declared.Layout.{Layout}
use Rattle.meaning.specs.Sizes.{set_bytes, specification_bytes}
use Rattle.meaning.specs.Card.{Bytes, layout}
use Rattle.meaning.specs.Refusals.{counts_good, offsets_good}
use Rattle.meaning.proofs.Widening.{set_least, set_most}
use Rattle.meaning.proofs.Accepted.{counts, offsets}
use Rattle.layout.specs.GoodLayout.{Counted, GoodLayout}
use Rattle.layout.specs.Entries.{count_of}

pub good_layout : (l : Layout) (b : Bytes) → l ≡ layout b → counts_good l ≡ true → offsets_good l (length b) ≡ true → GoodLayout l b
good_layout l b says c e =
    let k = counts l c in
    let o = offsets l (length b) e in
    record {
      says = says;
      set_least = set_least l.edition;
      set_most = set_most l.edition;
      some_atoms = k.some_atoms;
      atoms = k.atoms;
      some_actions = k.some_actions;
      actions = k.actions;
      nodes = k.nodes;
      specifications = k.specifications;
      selections = k.selections;
      revisions = k.revisions;
      pool = k.pool;
      nodes_at = o.nodes;
      specifications_at = o.specifications;
      selections_at = o.selections;
      revisions_at = o.revisions;
      pool_at = o.pool;
      ends = o.ends;
    }

-- a card has at most 256 choices of a kind
pub at_most_256 : (l : Layout) (b : Bytes) → GoodLayout l b → (k : ℕ) → count_of l k ≤ 256
at_most_256 l b d zero = d.selections
at_most_256 l b d (suc zero) = d.specifications
at_most_256 l b d (suc (suc k)) = d.revisions

pub counted : (l : Layout) (b : Bytes) → GoodLayout l b → Counted l
counted l b g = record { most = omega (arith, g.set_most); atoms = g.atoms; some_actions = g.some_actions; actions = g.actions }

-- 02, Wish 9: "An edition 2 card is at most 32,352 bytes"; and before its last section
pub card_most : (l : Layout) (b : Bytes) → GoodLayout l b → (l.pool.offset ≤ 24160) × (length b ≤ 32352)
card_most l b g =
    let size : specification_bytes (set_bytes l) ≤ 68 = omega (arith, g.set_most) in
    let all : specification_bytes (set_bytes l) * l.specifications.count ≤ 68 * l.specifications.count = mul-le-mul_right l.specifications.count size in
    let a = g.nodes_at in
    let c = g.specifications_at in
    let d = g.selections_at in
    let e = g.revisions_at in
    let f = g.pool_at in
    let h = g.ends in
    (omega arith, omega arith)
