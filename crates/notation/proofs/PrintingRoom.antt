-- How long a printed text is at most.
use mathlib.Core.Path.{◌≡◌, refl}
use mathlib.Core.Bool.{Bool}
use mathlib.Core.List.{[], ◌∷◌, ◌++◌}
use Prim.Native.Nat.{ℕ, zero, suc, ◌+◌, ◌*◌, ◌/◌, ◌%◌, ◌≤◌, ◌<◌}
use Prim.Native.Char.{code}
use native.Mathlib.Nat.{not-suc-le-zero}
use native.Mathlib.Omega.{arith}
use native.Mathlib.Decide.{dec_le}
use lib.Dec.{ltb}
use lib.ListN.{length, length-append}
use Rattle.meaning.specs.declared.Layout.{Layout}
use Rattle.meaning.specs.Kinds.{NodeKind}
use Rattle.meaning.specs.Trees.{Tree, true, believes, goal, not, and, or, tree_of}
use Rattle.meaning.specs.Card.{Bytes, layout, node_at, tree_at}
use Rattle.meaning.specs.Refusals.{nodes_good}
use Rattle.meaning.proofs.Widening.{set_most}
use Rattle.meaning.proofs.Accepted.{accepted, counts}
use Rattle.meaning.proofs.NodeKinds.{is_true, is_belief, is_goal, is_not, is_and, is_or, Known, leaf, inner, known_kind}
use Rattle.meaning.proofs.Nodes.{Rule, node_rule, tree_at_lem}
use Rattle.notation.specs.Words.{word}
use Rattle.notation.specs.Built.{size}
use Rattle.notation.specs.Printing.{decimal, brackets_if, text_as, printed}
use Rattle.notation.specs.Theorems.{PrintRoom}
use Rattle.notation.proofs.Decimals.{decimal_one, decimal_more}

-- ---- a number below 1,000 has three digits at most

decimal_grown : (n m : ℕ) → length (decimal (n / 10)) ≤ m → length (decimal n) ≤ m + 1
decimal_grown n m h = elim (dec_le 10 n) [
  | yes g ↦ rw (decimal_more n g, length-append (decimal (n / 10)) ((code "0" + n % 10) ∷ [])) (omega arith)
  | no g ↦ rw (decimal_one n (omega arith)) (omega arith)
]

three_digits : (n : ℕ) → n < 1000 → length (decimal n) ≤ 3
three_digits n h =
    let one : length (decimal (n / 10 / 10)) ≤ 1 = rw (decimal_one (n / 10 / 10) (omega arith)) (omega arith) in
    decimal_grown n 2 (decimal_grown (n / 10) 1 one)

-- ---- the text of a tree whose atoms are below 1,000

abbrev Low : Tree → Type 0
Low true = Unit {0}
Low (believes p) = p < 1000
Low (goal p) = p < 1000
Low (not t) = Low t
Low (and l r) = Low l × Low r
Low (or l r) = Low l × Low r

-- how many leaves and how many `!` a tree has, and what they come to
record Long (t : Tree) (u : Bytes) : Type 0 where
  leaves : ℕ
  nots : ℕ
  counted : size t + 1 ≡ 2 * leaves + nots
  long : length u + 3 ≤ 7 * leaves + nots

bracketed_length : (b : Bool) (u : Bytes) → length (brackets_if b u) ≤ length u + 2
bracketed_length Bool.true u = rw (length-append u (word ")")) (omega arith)
bracketed_length Bool.false u = omega arith

long_operator : (b : Bool) (op : Tree → Tree → Tree) (l r : Tree) (x : ℕ) (u v : Bytes) → size (op l r) ≡ size l + size r + 1
    → Long l u → Long r v → Long (op l r) (brackets_if b (u ++ (x ∷ v)))
long_operator b op l r x u v count p q =
    let e = bracketed_length b (u ++ (x ∷ v)) in
    let f = length-append u (x ∷ v) in
    record {
      leaves = p.leaves + q.leaves;
      nots = p.nots + q.nots;
      counted = omega (arith, p.counted, q.counted);
      long = omega (arith, p.long, q.long);
    }

long : (w : ℕ) (t : Tree) → Low t → Long t (text_as w t)
unfolding text_as size
long w true h = record { leaves = 1; nots = 0; counted = refl; long = omega arith }
long w (believes p) h = let e = three_digits p h in record { leaves = 1; nots = 0; counted = refl; long = omega arith }
long w (goal p) h = let e = three_digits p h in record { leaves = 1; nots = 0; counted = refl; long = omega arith }
long w (not t) h =
    let p = long 2 t h in
    record { leaves = p.leaves; nots = p.nots + 1; counted = omega (arith, p.counted); long = omega (arith, p.long) }
long w (and l r) h = long_operator (ltb 1 w) and l r (code "&") (text_as 1 l) (text_as 2 r) refl (long 1 l h.0) (long 2 r h.1)
long w (or l r) h = long_operator (ltb 0 w) or l r (code "|") (text_as 0 l) (text_as 1 r) refl (long 0 l h.0) (long 1 r h.1)

-- ---- the atoms of an accepted card

low_node : (n i : ℕ) {k : ℕ} {κ : NodeKind} → Known k κ → (a b : ℕ) (q : ℕ → Tree) → n ≤ 256 → Rule n i k a b
    → ((j : ℕ) → j < i → Low (q j)) → Low (tree_of κ a b q)
low_node n i (leaf is_true) a b q h r below = tt
low_node n i (leaf is_belief) a b q h r below = let p = r.atom (omega arith) (omega arith) in omega arith
low_node n i (leaf is_goal) a b q h r below = let p = r.atom (omega arith) (omega arith) in omega arith
low_node n i (inner is_not) a b q h r below = below a (r.first (omega arith))
low_node n i (inner is_and) a b q h r below = (below a (r.first (omega arith)), below b (r.second (omega arith)))
low_node n i (inner is_or) a b q h r below = (below a (r.first (omega arith)), below b (r.second (omega arith)))

module _ (l : Layout) (b : Bytes) (good : nodes_good l b ≡ Bool.true) (few : l.atoms ≤ 256) where
  low_below : (m i : ℕ) → i < m → i < l.nodes.count → Low (tree_at l b i)
  low_below zero i g h = absurd (not-suc-le-zero g)
  low_below (suc m) i g h =
      let r = node_rule l b good i h in
      rw (tree_at_lem l b good i h)
      (low_node l.atoms i (known_kind (node_at l b i).kind r.kinds) (node_at l b i).a (node_at l b i).b (tree_at l b) few r
      (λ j lower. low_below m j (omega arith) (omega arith)))

pub print_room : PrintRoom
unfolding printed
print_room b n (card, h) few =
    let a = accepted b card in
    let c = counts (layout b) a.counts in
    let most = set_most (layout b).edition in
    let few_atoms : (layout b).atoms ≤ 256 = omega (arith, c.atoms) in
    let p = long 0 (tree_at (layout b) b n) (low_below (layout b) b a.nodes few_atoms (suc n) n (omega arith) h) in
    omega (arith, p.counted, p.long)
