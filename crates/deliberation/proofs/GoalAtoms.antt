-- A condition that contains an atom of a kind has such a node: one without goal atoms is a good belief condition.
use mathlib.Core.Path.{◌≡◌, refl, sym, ◌∙◌}
use mathlib.Core.Bool.{Bool, true, false, not, ◌||◌}
use Prim.Native.Nat.{ℕ, suc, ◌≤◌, ◌<◌}
use native.Mathlib.Omega.{arith}
use borrow.Author.Tests.{eqb-true, lt-ltb}
use lib.Dec.{ltb}
use lib.ListN.{get_or}
use Rattle.paper.proofs.Relation.{false≢true}
use Rattle.std.specs.Prelude.{Ok}
use Rattle.meaning.specs.declared.Layout.{Layout}
use Rattle.meaning.specs.Kinds.{NodeKind}
use Rattle.meaning.specs.Card.{Bytes, layout, node_at}
use Rattle.meaning.specs.Refusals.{nodes_good, contains_of, containing, condition_good, card_answer}
use Rattle.meaning.specs.Theorems.{StandsIn, is_it, in_first, in_second, Without}
use Rattle.meaning.proofs.Accepted.{accepted}
use Rattle.meaning.proofs.Every.{both_true}
use Rattle.meaning.proofs.NodeKinds.{is_true, is_belief, is_goal, is_not, is_and, is_or, Known, leaf, inner, known_kind}
use Rattle.meaning.proofs.Nodes.{node_rule, contains_at}
use Rattle.deliberation.proofs.Good.{from_lower}

module _ (l : Layout) (b : Bytes) (kind : ℕ) where
  abbrev contains : ℕ → Bool
  contains i = get_or (containing kind l b) i false

  -- a node of the kind stands in the condition of node i
  abbrev Found : ℕ → Type 0
  Found i = (j : ℕ) × (StandsIn l b j i × ((node_at l b j).kind ≡ kind))

  module _ (i : ℕ) where
    first : 3 ≤ (node_at l b i).kind → Found (node_at l b i).a → Found i
    first h (j, (s, e)) = (j, (in_first h s, e))

    second : 4 ≤ (node_at l b i).kind → Found (node_at l b i).b → Found i
    second h (j, (s, e)) = (j, (in_second h s, e))

    either_child : (x y : Bool) → x || y ≡ true → (x ≡ true → Found i) → (y ≡ true → Found i) → Found i
    either_child true y e f g = f refl
    either_child false y e f g = g e

    here : {k : ℕ} {κ : NodeKind} → Known k κ → (node_at l b i).kind ≡ k
        → contains_of kind κ (node_at l b i).a (node_at l b i).b contains ≡ true
        → (3 ≤ k → contains (node_at l b i).a ≡ true → Found (node_at l b i).a)
        → (4 ≤ k → contains (node_at l b i).b ≡ true → Found (node_at l b i).b) → Found i
    here (leaf is_true) e c f g = absurd (false≢true c)
    here (leaf is_belief) e c f g = (i, (is_it, e ∙ sym (eqb-true kind 1 c)))
    here (leaf is_goal) e c f g = (i, (is_it, e ∙ sym (eqb-true kind 2 c)))
    here (inner is_not) e c f g = first (omega arith) (f (omega arith) c)
    here (inner is_and) e c f g =
        either_child (contains (node_at l b i).a) (contains (node_at l b i).b) c (λ h. first (omega arith) (f (omega arith) h)) (λ h. second (omega arith) (g (omega arith) h))
    here (inner is_or) e c f g =
        either_child (contains (node_at l b i).a) (contains (node_at l b i).b) c (λ h. first (omega arith) (f (omega arith) h)) (λ h. second (omega arith) (g (omega arith) h))

  found : nodes_good l b ≡ true → (i : ℕ) → i < l.nodes.count → contains i ≡ true → Found i
  found good i =
      from_lower (λ i. i < l.nodes.count → contains i ≡ true → Found i)
      (λ i below h c.
      let x = node_at l b i in
      let r = node_rule l b good i h in
      here i (known_kind x.kind r.kinds) refl (sym (contains_at l b good i h kind) ∙ c)
      (λ k. (let z = r.first k in below x.a z (omega arith))) (λ k. (let z = r.second k in below x.b z (omega arith))))
      (suc i) i (omega arith)

pub belief_condition : (b : Bytes) → card_answer b ≡ Ok tt → (n : ℕ) → n < (layout b).nodes.count → Without b 2 n
    → condition_good (layout b) (containing 2 (layout b) b) n ≡ true
belief_condition b card n h none_there =
    both_true (ltb n (layout b).nodes.count) (not (contains (layout b) b 2 n)) (lt-ltb n (layout b).nodes.count h) (go (contains (layout b) b 2 n) refl)
  where
    go : (t : Bool) → contains (layout b) b 2 n ≡ t → not t ≡ true
    go true e = absurd (let (j, (s, k)) = found (layout b) b 2 (accepted b card).nodes n h e in none_there j s k)
    go false e = refl
