-- The tree of a node, by the trees of its children, and the measures of its text.
use mathlib.Core.Path.{◌≡◌, refl, ap, ◌∙◌}
use mathlib.Core.Bool.{Bool}
use mathlib.Core.List.{◌++◌}
use Prim.Native.Nat.{ℕ, min, ◌+◌, ◌*◌, ◌≤◌}
use native.Mathlib.Omega.{arith}
use lib.Dec.{ltb}
use lib.ListN.{length, length-append}
use Rattle.meaning.specs.Kinds.{NodeKind, True, Believes, HasGoal, Not, And, Or, Unknown}
use Rattle.meaning.specs.Trees.{Tree, believes, goal, and, or, tree_of}
use Rattle.meaning.specs.Trees as Trees
use Rattle.meaning.specs.Card.{Bytes}
use Rattle.meaning.proofs.NodeKinds.{is_true, is_belief, is_goal, is_not, is_and, is_or, Known, leaf, inner}
use Rattle.notation.specs.Words.{word}
use Rattle.notation.specs.Built.{size}
use Rattle.notation.specs.Printing.{brackets_if, text_as, deeper_if, depth_as}
use Rattle.printer.specs.Measures.{lower, pairs, around, size_by, depth_by, length_by}

-- ---- the tree of a node

pub some_node : (t : Tree) → 1 ≤ size t
unfolding size
some_node Trees.true = omega arith
some_node (believes n) = omega arith
some_node (goal n) = omega arith
some_node (Trees.not t) = omega arith
some_node (and l r) = omega arith
some_node (or l r) = omega arith

-- ---- what brackets add, where a node's text is lower than what is wanted

length_brackets : (t : Bool) (u : Bytes) → length (brackets_if t u) ≡ length u + 2 * pairs t
length_brackets Bool.true u = let e = length-append u (word ")") in omega arith
length_brackets Bool.false u = omega arith

depth_brackets : (t : Bool) (n : ℕ) → deeper_if t n ≡ n + pairs t
depth_brackets Bool.true n = omega arith
depth_brackets Bool.false n = omega arith

module _ (a b : ℕ) (q : ℕ → Tree) (w : ℕ) where
  pub depth_around : (κ : NodeKind) → depth_as w (tree_of κ a b q) ≡ depth_as 0 (tree_of κ a b q) + around κ w
  unfolding depth_as
  depth_around True = omega arith
  depth_around Believes = omega arith
  depth_around HasGoal = omega arith
  depth_around Not = omega arith
  depth_around And = depth_brackets (ltb 1 w) _
  depth_around Or = depth_brackets (ltb 0 w) _
  depth_around Unknown = omega arith

  pub text_around : (κ : NodeKind) → text_as w (tree_of κ a b q) ≡ brackets_if (lower w κ) (text_as 0 (tree_of κ a b q))
  unfolding text_as
  text_around True = refl
  text_around Believes = refl
  text_around HasGoal = refl
  text_around Not = refl
  text_around And = refl
  text_around Or = refl
  text_around Unknown = refl

  pub length_around : (κ : NodeKind) → length (text_as w (tree_of κ a b q)) ≡ length (text_as 0 (tree_of κ a b q)) + 2 * around κ w
  length_around κ = ap length (text_around κ) ∙ length_brackets (lower w κ) (text_as 0 (tree_of κ a b q))

-- ---- the measures of a node, by those of its children: the cap of a sum of capped numbers is the cap of the sum

module _ (a b : ℕ) (q : ℕ → Tree) (m n : ℕ) where
  pub size_capped : {k : ℕ} {κ : NodeKind} → Known k κ → (3 ≤ k → m ≡ min (size (q a)) 256) → (4 ≤ k → n ≡ min (size (q b)) 256) → min (size_by κ m n) 257 ≡ min (size (tree_of κ a b q)) 257
  unfolding size
  size_capped (leaf is_true) f s = refl
  size_capped (leaf is_belief) f s = refl
  size_capped (leaf is_goal) f s = refl
  size_capped (inner is_not) f s = let e = f (omega arith) in omega arith
  size_capped (inner is_and) f s = let e = f (omega arith) in let g = s (omega arith) in omega arith
  size_capped (inner is_or) f s = let e = f (omega arith) in let g = s (omega arith) in omega arith

  module _ (p r : ℕ → ℕ) where
    pub depth_capped : {k : ℕ} {κ : NodeKind} → Known k κ → (3 ≤ k → m ≡ min (depth_as 0 (q a)) 33) → (4 ≤ k → n ≡ min (depth_as 0 (q b)) 33)
        → (3 ≤ k → (w : ℕ) → depth_as w (q a) ≡ depth_as 0 (q a) + p w) → (4 ≤ k → (w : ℕ) → depth_as w (q b) ≡ depth_as 0 (q b) + r w)
        → min (depth_by κ p r m n) 33 ≡ min (depth_as 0 (tree_of κ a b q)) 33
    unfolding depth_as
    depth_capped (leaf is_true) f s x y = refl
    depth_capped (leaf is_belief) f s x y = refl
    depth_capped (leaf is_goal) f s x y = refl
    depth_capped (inner is_not) f s x y = let e = f (omega arith) in let i = x (omega arith) 2 in omega arith
    depth_capped (inner is_and) f s x y = omega (arith, f (omega arith), s (omega arith), x (omega arith) 1, y (omega arith) 2)
    depth_capped (inner is_or) f s x y = omega (arith, f (omega arith), s (omega arith), x (omega arith) 0, y (omega arith) 1)

    pub length_capped : {k : ℕ} {κ : NodeKind} → Known k κ → (3 ≤ k → m ≡ min (length (text_as 0 (q a))) 1025) → (4 ≤ k → n ≡ min (length (text_as 0 (q b))) 1025)
        → (3 ≤ k → (w : ℕ) → length (text_as w (q a)) ≡ length (text_as 0 (q a)) + 2 * p w) → (4 ≤ k → (w : ℕ) → length (text_as w (q b)) ≡ length (text_as 0 (q b)) + 2 * r w)
        → min (length_by κ a p r m n) 1025 ≡ min (length (text_as 0 (tree_of κ a b q))) 1025
    unfolding text_as
    length_capped (leaf is_true) f s x y = refl
    length_capped (leaf is_belief) f s x y = omega arith
    length_capped (leaf is_goal) f s x y = omega arith
    length_capped (inner is_not) f s x y = let e = f (omega arith) in let i = x (omega arith) 2 in omega arith
    length_capped (inner is_and) f s x y = omega (arith, f (omega arith), s (omega arith), x (omega arith) 1, y (omega arith) 2, length-append (text_as 1 (q a)) (word "&" ++ text_as 2 (q b)))
    length_capped (inner is_or) f s x y = omega (arith, f (omega arith), s (omega arith), x (omega arith) 0, y (omega arith) 1, length-append (text_as 0 (q a)) (word "|" ++ text_as 1 (q b)))
