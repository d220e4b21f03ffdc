-- The pass that measures: what stands in the three arrays below a node's number.
use mathlib.Core.Path.{◌≡◌, sym, ap, ◌∙◌}
use mathlib.Core.Bool.{true}
use mathlib.Core.List.{List}
use Prim.Native.Nat.{ℕ, min, ◌+◌, ◌-◌, ◌*◌, ◌≤◌, ◌<◌}
use native.Mathlib.Omega.{arith}
use lib.ListN.{length, get_or, set, replicate, length-set, length-replicate}
use Rattle.meaning.specs.declared.Layout.{Layout}
use Rattle.meaning.specs.declared.Node.{Node}
use Rattle.meaning.specs.Kinds.{node_kind}
use Rattle.meaning.specs.Trees.{tree_of}
use Rattle.meaning.specs.Card.{Bytes, node_at, tree_at}
use Rattle.meaning.specs.Refusals.{nodes_good}
use Rattle.meaning.proofs.NodeKinds.{Known, known_kind}
use Rattle.meaning.proofs.Nodes.{node_rule, tree_at_lem}
use Rattle.sets.proofs.Loops.{below_turn}
use Rattle.notation.specs.Built.{size}
use Rattle.notation.specs.Printing.{text_as, depth_as, text_of, depth_of}
use Rattle.printer.specs.Measures.{around, size_by, depth_by, length_by, Right, MeasuredTo}
use Rattle.printer.proofs.Trees.{some_node, depth_around, length_around, size_capped, depth_capped, length_capped}

pub measured_none : (l : Layout) (b : Bytes) (sizes depths lengths : List ℕ) → sizes ≡ replicate 256 0 → depths ≡ replicate 256 0 → lengths ≡ replicate 256 0 → MeasuredTo l b sizes depths lengths 0
measured_none l b sizes depths lengths e f g =
    record {
      sizes_room = ap length e ∙ length-replicate {A = ℕ} 256 0;
      depths_room = ap length f ∙ length-replicate {A = ℕ} 256 0;
      lengths_room = ap length g ∙ length-replicate {A = ℕ} 256 0;
      right = λ j h. absurd (omega arith);
    }

module _ (l : Layout) (b : Bytes) (good : nodes_good l b ≡ true) where
  -- brackets around the text of a node
  module _ (j : ℕ) (h : j < l.nodes.count) (w : ℕ) where
    abbrev y : Node
    y = node_at l b j

    node_depth : depth_as w (tree_at l b j) ≡ depth_as 0 (tree_at l b j) + around (node_kind y.kind) w
    node_depth = rw (tree_at_lem l b good j h) (depth_around y.a y.b (tree_at l b) w (node_kind y.kind))

    node_length : length (text_as w (tree_at l b j)) ≡ length (text_as 0 (tree_at l b j)) + 2 * around (node_kind y.kind) w
    node_length = rw (tree_at_lem l b good j h) (length_around y.a y.b (tree_at l b) w (node_kind y.kind))

  module _ (i : ℕ) (h : i < l.nodes.count) (x : Node) (so : x ≡ node_at l b i) (p q : ℕ)
      (kp : x.a < l.nodes.count → p ≡ (node_at l b x.a).kind) (kq : x.b < l.nodes.count → q ≡ (node_at l b x.b).kind)
      (sizes depths lengths : List ℕ) (m : MeasuredTo l b sizes depths lengths i) where
    known : Known x.kind (node_kind x.kind)
    known = known_kind x.kind (rw so (node_rule l b good i h).kinds)

    first : 3 ≤ x.kind → x.a < i
    first = rw so (node_rule l b good i h).first

    second : 4 ≤ x.kind → x.b < i
    second = rw so (node_rule l b good i h).second

    here : tree_of (node_kind x.kind) x.a x.b (tree_at l b) ≡ tree_at l b i
    here = rw so (sym (tree_at_lem l b good i h))

    pub measured_here : (s d n : ℕ)
        → s ≡ min (size_by (node_kind x.kind) (get_or sizes x.a 0 + 1) (get_or sizes x.b 0 + 1)) 257
        → d ≡ min (depth_by (node_kind x.kind) (around (node_kind p)) (around (node_kind q)) (get_or depths x.a 0) (get_or depths x.b 0)) 33
        → n ≡ min (length_by (node_kind x.kind) x.a (around (node_kind p)) (around (node_kind q)) (get_or lengths x.a 0) (get_or lengths x.b 0)) 1025
        → Right 257 (tree_at l b i) s d n
    measured_here s d n es ed en =
        let pa : 3 ≤ x.kind → (w : ℕ) → depth_as w (tree_at l b x.a) ≡ depth_as 0 (tree_at l b x.a) + around (node_kind p) w =
        λ t w. (let lt = first t in node_depth x.a (omega arith) w ∙ ap (λ (z : ℕ). depth_as 0 (tree_at l b x.a) + around (node_kind z) w) (sym (kp (omega arith)))) in
        let pb : 4 ≤ x.kind → (w : ℕ) → depth_as w (tree_at l b x.b) ≡ depth_as 0 (tree_at l b x.b) + around (node_kind q) w =
        λ t w. (let lt = second t in node_depth x.b (omega arith) w ∙ ap (λ (z : ℕ). depth_as 0 (tree_at l b x.b) + around (node_kind z) w) (sym (kq (omega arith)))) in
        let la : 3 ≤ x.kind → (w : ℕ) → length (text_as w (tree_at l b x.a)) ≡ length (text_as 0 (tree_at l b x.a)) + 2 * around (node_kind p) w =
        λ t w. (let lt = first t in node_length x.a (omega arith) w ∙ ap (λ (z : ℕ). length (text_as 0 (tree_at l b x.a)) + 2 * around (node_kind z) w) (sym (kp (omega arith)))) in
        let lb : 4 ≤ x.kind → (w : ℕ) → length (text_as w (tree_at l b x.b)) ≡ length (text_as 0 (tree_at l b x.b)) + 2 * around (node_kind q) w =
        λ t w. (let lt = second t in node_length x.b (omega arith) w ∙ ap (λ (z : ℕ). length (text_as 0 (tree_at l b x.b)) + 2 * around (node_kind z) w) (sym (kq (omega arith)))) in
        let gs = size_capped x.a x.b (tree_at l b) (get_or sizes x.a 0 + 1) (get_or sizes x.b 0 + 1) known
        (λ t. (m.right x.a (first t)).size) (λ t. (m.right x.b (second t)).size) in
        let gd = depth_capped x.a x.b (tree_at l b) (get_or depths x.a 0) (get_or depths x.b 0) (around (node_kind p)) (around (node_kind q)) known
        (λ t. (m.right x.a (first t)).depth) (λ t. (m.right x.b (second t)).depth) pa pb in
        let gn = length_capped x.a x.b (tree_at l b) (get_or lengths x.a 0) (get_or lengths x.b 0) (around (node_kind p)) (around (node_kind q)) known
        (λ t. (m.right x.a (first t)).length) (λ t. (m.right x.b (second t)).length) la lb in
        record {
          size = es ∙ gs ∙ ap (λ t. min (size t) 257) here;
          depth = ed ∙ gd ∙ ap (λ t. min (depth_of t) 33) here;
          length = en ∙ gn ∙ ap (λ t. min (length (text_of t)) 1025) here;
        }

-- a turn of the pass
module _ (l : Layout) (b : Bytes) (sizes depths lengths : List ℕ) (i : ℕ) (m : MeasuredTo l b sizes depths lengths i) where
  pub measured_turn : (s o d n : ℕ) → i < 256 → Right 257 (tree_at l b i) s d n → o + 1 ≡ min s 256
      → MeasuredTo l b (set sizes i o) (set depths i d) (set lengths i n) (i + 1)
  measured_turn s o d n k r e =
      let rs = m.sizes_room in
      let rd = m.depths_room in
      let rn = m.lengths_room in
      record {
        sizes_room = length-set sizes i o ∙ rs;
        depths_room = length-set depths i d ∙ rd;
        lengths_room = length-set lengths i n ∙ rn;
        right = λ j h. record {
          size =
              let at : get_or (set sizes i o) j 0 ≡ min (size (tree_at l b j)) 256 - 1 =
              below_turn (λ j. min (size (tree_at l b j)) 256 - 1) sizes i o 0 (omega arith)
              (λ j h. let q = (m.right j h).size in omega arith) (let q = r.size in omega arith) j h in
              let p = some_node (tree_at l b j) in
              omega arith;
          depth = below_turn (λ j. min (depth_of (tree_at l b j)) 33) depths i d 0 (omega arith) (λ j h. (m.right j h).depth) r.depth j h;
          length = below_turn (λ j. min (length (text_of (tree_at l b j))) 1025) lengths i n 0 (omega arith) (λ j h. (m.right j h).length) r.length j h;
        };
      }
