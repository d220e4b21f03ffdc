-- Nodes and actions that are added to a section of the card in the making, which is lent by itself.
use mathlib.Core.Path.{◌≡◌, refl, ap, sym, ◌∙◌}
use mathlib.Core.Bool.{Bool}
use mathlib.Core.List.{List, [], ◌∷◌, ◌++◌, append_assoc}
use mathlib.Core.Option.{none, some}
use Prim.Native.Nat.{ℕ, ◌+◌, ◌*◌, ◌≤◌}
use native.Mathlib.Omega.{arith}
use lib.Dec.{leb}
use lib.ListN.{length, take, drop}
use lib.Seq.{paste, length-paste, take_all, take-take, drop-drop}
use Rattle.paper.specs.Next.{if}
use Rattle.meaning.specs.Trees.{Tree, true, believes, goal, not, and, or}
use Rattle.meaning.specs.Trees as Trees
use Rattle.meaning.specs.Card.{Bytes, part}
use Rattle.notation.specs.Built.{node}
use Rattle.notation.specs.Making.{bind, when, added_to, last_node, with_tree, with_plan, tree_in, plan_in, put_nodes, put_pool}
use Rattle.std.proofs.Common.{Some, None}
use Rattle.std.specs.Prelude.{IfSome}
use Rattle.conditions.specs.Reads.{Count, nodes_of}
use Rattle.lines.specs.declared.made.Made.{Made}
use Rattle.lines.specs.InPlace.{sections_in, made_in}
use Rattle.lines.specs.Lines.{Held, Puts, pool_of, nodes_before, nodes_are, with_nodes, pool_before, pool_is, with_pool}
use Rattle.lines.proofs.Pasting.{part_before, part_behind, part_inside}
use Rattle.lines.proofs.Sections.{made_large, made_some}

-- ---- options

pub if_yes : {X : Type 0} (b : Bool) (x y : X) → b ≡ Bool.true → if b x y ≡ x
if_yes b x y e = ap (λ c. if c x y) e

pub if_no : {X : Type 0} (b : Bool) (x y : X) → b ≡ Bool.false → if b x y ≡ y
if_no b x y e = ap (λ c. if c x y) e

when_none : {X : Type 0} (b : Bool) → when {X = X} b none ≡ none
when_none Bool.true = refl
when_none Bool.false = refl

pub plan_none : (ns : List ℕ) → with_plan ns none ≡ none
unfolding with_plan
plan_none [] = refl
plan_none (n ∷ ns) = ap (with_plan ns) (when_none (leb n 255)) ∙ plan_none ns

pub tree_none : (t : Tree) → with_tree t none ≡ none
unfolding with_tree
tree_none Tree.true = refl
tree_none (believes n) = when_none (leb n 255)
tree_none (goal n) = when_none (leb n 255)
tree_none (Trees.not t) = ap (λ o. added_to 1024 (node 3 (last_node o) 0) o) (tree_none t)
tree_none (and l r) =
    ap (λ o. added_to 1024 (node 4 (last_node o) (last_node (with_tree r o))) (with_tree r o)) (tree_none l)
    ∙ ap (λ o. added_to 1024 (node 4 0 (last_node o)) o) (tree_none r)
tree_none (or l r) =
    ap (λ o. added_to 1024 (node 5 (last_node o) (last_node (with_tree r o))) (with_tree r o)) (tree_none l)
    ∙ ap (λ o. added_to 1024 (node 5 0 (last_node o)) o) (tree_none r)

-- ---- a part of the card that was lent, and is back

pub back : (d y : Bytes) (a k : ℕ) → length y ≡ k → take a d ++ (y ++ drop k (drop a d)) ≡ paste d a y k
back d y a k l =
    sym (append_assoc (take a d) y (drop k (drop a d)))
    ∙ (λ i. (take a d ++ sym (take_all k y (omega arith)) i) ++ drop-drop k a d i)

pub back_length : (d y : Bytes) (a k : ℕ) → a + k ≤ length d → length y ≡ k → length (take a d ++ (y ++ drop k (drop a d))) ≡ length d
back_length d y a k h l = ap length (back d y a k l) ∙ length-paste d a y k h (omega arith)

-- what a lent part holds
pub lent_part : (d : Bytes) (a n k : ℕ) → k ≤ n → take k (take n (drop a d)) ≡ part d a k
unfolding part
lent_part d a n k h = take-take k n (drop a d) h

-- ---- the pool

module _ (m : Made) (d : Bytes) (h : Held m d) (ns : List ℕ) (k : Count) (y d' : Bytes) (long : length y ≡ 8192)
    (w : pool_of k y ≡ with_plan ns (pool_of (pool_before m) (take 8192 (drop 15936 d)))) (e : d' ≡ take 15936 d ++ (y ++ drop 8192 (drop 15936 d))) where
  pool_back : d' ≡ paste d 15936 y 8192
  pool_back = e ∙ back d y 15936 8192 long

  pool_room : length d' ≡ 24128
  pool_room = let r = h.room in ap length pool_back ∙ length-paste d 15936 y 8192 (omega arith) (omega arith) ∙ r

  pool_large : m.large ≡ Bool.true → pool_of k y ≡ none
  pool_large q = w ∙ ap (λ b. with_plan ns (pool_of (if b None (Some m.pool)) (take 8192 (drop 15936 d)))) q ∙ plan_none ns

  pool_some : m.large ≡ Bool.false → pool_of k y ≡ with_plan ns (some (part d 15936 m.pool))
  pool_some q =
      let few = h.bounded.pool in
      w
      ∙ ap (λ b. with_plan ns (pool_of (if b None (Some m.pool)) (take 8192 (drop 15936 d)))) q
      ∙ ap (λ (x : Bytes). with_plan ns (some x)) (lent_part d 15936 8192 m.pool (omega arith))

  pool_spilt : k ≡ None → (b : Bool) → m.large ≡ b → none ≡ plan_in ns (made_in m d)
  unfolding plan_in
  pool_spilt many Bool.true q = sym (ap (plan_in ns) (made_large m d q))
  pool_spilt many Bool.false q =
      sym (
      ap (plan_in ns) (made_some m d q)
      ∙ ap (λ o. bind o (λ s. some (put_pool (sections_in m d) s))) (sym (pool_some q) ∙ ap (λ j. pool_of j y) many))

  pool_fits : (n : ℕ) → k ≡ Some n → n ≤ 8192 → (b : Bool) → m.large ≡ b → Puts (plan_in ns) m d (pool_is m n) d'
  unfolding plan_in
  pool_fits n f l Bool.true q =
      let one : pool_of k y ≡ some (take n y) = ap (λ j. pool_of j y) f in
      let two = pool_large q in
      absurd (let z : ◌≡◌ {A = ℕ} 0 1 = cc in omega arith)
  pool_fits n f l Bool.false q =
      let b = h.bounded in
      let r = h.room in
      let inside : 15936 + 8192 ≤ length d = omega arith in
      let enough : 8192 ≤ length y = omega arith in
      let b-weights = b.weights in
      let b-nodes = b.nodes in
      let b-specifications = b.specifications in
      let b-selections = b.selections in
      let b-revisions = b.revisions in
      record {
        held = record { bounded = record { atoms = b.atoms; weights = b.weights; nodes = b.nodes; specifications = b.specifications; selections = b.selections; revisions = b.revisions; pool = l; start = b.start }; room = pool_room };
        made =
            made_some (pool_is m n) d' q
            ∙ ap (λ x. some (sections_in (pool_is m n) x)) pool_back
            ∙ (λ i. some (record { atoms = m.atoms; weights = part_before d y 15936 8192 inside enough 64 (2 * m.weights) (omega arith) i; nodes = part_before d y 15936 8192 inside enough 576 (4 * m.nodes) (omega arith) i; specifications = part_before d y 15936 8192 inside enough 1600 (36 * m.specifications) (omega arith) i; selections = part_before d y 15936 8192 inside enough 10816 (8 * m.selections) (omega arith) i; revisions = part_before d y 15936 8192 inside enough 12864 (12 * m.revisions) (omega arith) i; pool = part_inside d y 15936 8192 inside enough n (omega arith) i; sets = part_before d y 15936 8192 inside enough 32 32 (omega arith) i; start = m.start; len = m.len }))
            ∙ sym (
            ap (plan_in ns) (made_some m d q)
            ∙ ap (λ o. bind o (λ s. some (put_pool (sections_in m d) s))) (
            sym (pool_some q) ∙ ap (λ j. pool_of j y) f));
      }

  pub plan_put : IfSome k (λ n. n ≤ 8192) → Puts (plan_in ns) m d (with_pool m k) d'
  plan_put = go k refl
    where
      go : (j : Count) → k ≡ j → IfSome j (λ n. n ≤ 8192) → Puts (plan_in ns) m d (with_pool m j) d'
      go None f l =
          let b = h.bounded in
          record { held = record { bounded = record { atoms = b.atoms; weights = b.weights; nodes = b.nodes; specifications = b.specifications; selections = b.selections; revisions = b.revisions; pool = b.pool; start = b.start }; room = pool_room }; made = pool_spilt f m.large refl }
      go (Some n) f l = pool_fits n f l m.large refl

-- ---- nodes

module _ (m : Made) (d : Bytes) (h : Held m d) (t : Tree) (k : Count) (y d' : Bytes) (long : length y ≡ 1024)
    (w : nodes_of k y ≡ with_tree t (nodes_of (nodes_before m) (take 1024 (drop 576 d)))) (e : d' ≡ take 576 d ++ (y ++ drop 1024 (drop 576 d))) where
  nodes_back : d' ≡ paste d 576 y 1024
  nodes_back = e ∙ back d y 576 1024 long

  nodes_room : length d' ≡ 24128
  nodes_room = let r = h.room in ap length nodes_back ∙ length-paste d 576 y 1024 (omega arith) (omega arith) ∙ r

  nodes_large : m.large ≡ Bool.true → nodes_of k y ≡ none
  nodes_large q = w ∙ ap (λ b. with_tree t (nodes_of (if b None (Some m.nodes)) (take 1024 (drop 576 d)))) q ∙ tree_none t

  nodes_some : m.large ≡ Bool.false → nodes_of k y ≡ with_tree t (some (part d 576 (4 * m.nodes)))
  nodes_some q =
      let few = h.bounded.nodes in
      w
      ∙ ap (λ b. with_tree t (nodes_of (if b None (Some m.nodes)) (take 1024 (drop 576 d)))) q
      ∙ ap (λ (x : Bytes). with_tree t (some x)) (lent_part d 576 1024 (4 * m.nodes) (omega arith))

  nodes_spilt : k ≡ None → (b : Bool) → m.large ≡ b → none ≡ tree_in t (made_in m d)
  unfolding tree_in
  nodes_spilt many Bool.true q = sym (ap (tree_in t) (made_large m d q))
  nodes_spilt many Bool.false q =
      sym (
      ap (tree_in t) (made_some m d q)
      ∙ ap (λ o. bind o (λ s. some (put_nodes (sections_in m d) s))) (sym (nodes_some q) ∙ ap (λ j. nodes_of j y) many))

  nodes_fits : (n : ℕ) → k ≡ Some n → n ≤ 256 → (b : Bool) → m.large ≡ b → Puts (tree_in t) m d (nodes_are m n) d'
  unfolding tree_in
  nodes_fits n f l Bool.true q =
      let one : nodes_of k y ≡ some (take (4 * n) y) = ap (λ j. nodes_of j y) f in
      let two = nodes_large q in
      absurd (let z : ◌≡◌ {A = ℕ} 0 1 = cc in omega arith)
  nodes_fits n f l Bool.false q =
      let b = h.bounded in
      let r = h.room in
      let inside : 576 + 1024 ≤ length d = omega arith in
      let enough : 1024 ≤ length y = omega arith in
      let b-weights = b.weights in
      let b-nodes = b.nodes in
      let b-specifications = b.specifications in
      let b-selections = b.selections in
      let b-revisions = b.revisions in
      record {
        held = record { bounded = record { atoms = b.atoms; weights = b.weights; nodes = l; specifications = b.specifications; selections = b.selections; revisions = b.revisions; pool = b.pool; start = b.start }; room = nodes_room };
        made =
            made_some (nodes_are m n) d' q
            ∙ ap (λ x. some (sections_in (nodes_are m n) x)) nodes_back
            ∙ (λ i. some (record { atoms = m.atoms; weights = part_before d y 576 1024 inside enough 64 (2 * m.weights) (omega arith) i; nodes = part_inside d y 576 1024 inside enough (4 * n) (omega arith) i; specifications = part_behind d y 576 1024 inside enough 1600 (36 * m.specifications) (omega arith) i; selections = part_behind d y 576 1024 inside enough 10816 (8 * m.selections) (omega arith) i; revisions = part_behind d y 576 1024 inside enough 12864 (12 * m.revisions) (omega arith) i; pool = part_behind d y 576 1024 inside enough 15936 m.pool (omega arith) i; sets = part_before d y 576 1024 inside enough 32 32 (omega arith) i; start = m.start; len = m.len }))
            ∙ sym (
            ap (tree_in t) (made_some m d q)
            ∙ ap (λ o. bind o (λ s. some (put_nodes (sections_in m d) s))) (
            sym (nodes_some q) ∙ ap (λ j. nodes_of j y) f));
      }

  pub tree_put : IfSome k (λ n. n ≤ 256) → Puts (tree_in t) m d (with_nodes m k) d'
  tree_put = go k refl
    where
      go : (j : Count) → k ≡ j → IfSome j (λ n. n ≤ 256) → Puts (tree_in t) m d (with_nodes m j) d'
      go None f l =
          let b = h.bounded in
          record { held = record { bounded = record { atoms = b.atoms; weights = b.weights; nodes = b.nodes; specifications = b.specifications; selections = b.selections; revisions = b.revisions; pool = b.pool; start = b.start }; room = nodes_room }; made = nodes_spilt f m.large refl }
      go (Some n) f l = nodes_fits n f l m.large refl
