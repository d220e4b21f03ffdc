-- In a condition that is asked for the right kind, no node is of the other.
use mathlib.Core.Path.{◌≡◌, refl, sym, ◌∙◌}
use mathlib.Core.Bool.{Bool, true, false, ◌||◌}
use Prim.Native.Nat.{ℕ, ◌≤◌, ◌<◌}
use native.Mathlib.Omega.{arith}
use borrow.Author.Tests.{not-true, ltb-true}
use lib.Dec.{ltb}
use lib.ListN.{get_or}
use Rattle.paper.proofs.Relation.{both, false≢true}
use Rattle.std.specs.Prelude.{Ok}
use Rattle.meaning.specs.declared.Layout.{Layout}
use Rattle.meaning.specs.Kinds.{NodeKind, node_kind}
use Rattle.meaning.specs.Card.{Bytes, layout, node_at, specification_at, selection_at, revision_at}
use Rattle.meaning.specs.Refusals.{nodes_good, contains_of, containing, condition_good, specification_good, selection_good, revision_good, card_answer}
use Rattle.meaning.specs.Theorems.{StandsIn, is_it, in_first, in_second, Without, KindLaw}
use Rattle.meaning.proofs.Accepted.{accepted}
use Rattle.meaning.proofs.Entries.{good_entries}
use Rattle.meaning.proofs.NodeKinds.{Inner, is_not, is_and, is_or, inner_kind}
use Rattle.meaning.proofs.Nodes.{node_rule, contains_at}

pub or-none : (x y : Bool) → x || y ≡ false → (x ≡ false) × (y ≡ false)
or-none true y e = absurd (false≢true (sym e))
or-none false y e = (refl, e)

-- ---- one node

-- the kinds of atoms
data AtomKind : ℕ → Type 0 where
  belief : AtomKind 1
  goal : AtomKind 2

own : {kind : ℕ} → AtomKind kind → (a b : ℕ) (f : ℕ → Bool) → contains_of kind (node_kind kind) a b f ≡ true
own belief a b f = refl
own goal a b f = refl

pub first_free : (kind : ℕ) {k : ℕ} {κ : NodeKind} → Inner k κ → (a b : ℕ) (f : ℕ → Bool) → contains_of kind κ a b f ≡ false → f a ≡ false
first_free kind is_not a b f e = e
first_free kind is_and a b f e = (or-none (f a) (f b) e).0
first_free kind is_or a b f e = (or-none (f a) (f b) e).0

pub second_free : (kind : ℕ) {k : ℕ} {κ : NodeKind} → Inner k κ → (a b : ℕ) (f : ℕ → Bool) → 4 ≤ k → contains_of kind κ a b f ≡ false → f b ≡ false
second_free kind is_not a b f h e = absurd (omega arith)
second_free kind is_and a b f h e = (or-none (f a) (f b) e).1
second_free kind is_or a b f h e = (or-none (f a) (f b) e).1

-- ---- a condition

module _ (l : Layout) (b : Bytes) (good : nodes_good l b ≡ true) {kind : ℕ} (is : AtomKind kind) where
  abbrev free : ℕ → Type 0
  free i = get_or (containing kind l b) i false ≡ false

  without : {j i : ℕ} → i < l.nodes.count → free i → StandsIn l b j i → (node_at l b j).kind ≡ kind → ⊥
  without {i} h f is_it e =
      let x = node_at l b i in
      let c : contains_of kind (node_kind x.kind) x.a x.b (λ j. get_or (containing kind l b) j false) ≡ false = sym (contains_at l b good i h kind) ∙ f in
      false≢true (sym (rw e at c) ∙ own is x.a x.b (λ j. get_or (containing kind l b) j false))
  without {i} h f (in_first k s) e =
      let x = node_at l b i in
      let r = node_rule l b good i h in
      let lower = r.first k in
      without (omega arith) (first_free kind (inner_kind x.kind k r.kinds) x.a x.b (λ j. get_or (containing kind l b) j false) (sym (contains_at l b good i h kind) ∙ f)) s e
  without {i} h f (in_second k s) e =
      let x = node_at l b i in
      let r = node_rule l b good i h in
      let lower = r.second k in
      without (omega arith) (second_free kind (inner_kind x.kind (omega arith) r.kinds) x.a x.b (λ j. get_or (containing kind l b) j false) k (sym (contains_at l b good i h kind) ∙ f)) s e

  asked : (i : ℕ) → condition_good l (containing kind l b) i ≡ true → (j : ℕ) → StandsIn l b j i → (node_at l b j).kind ≡ kind → ⊥
  asked i e j = let (known, free) = both (ltb i l.nodes.count) _ e in without (ltb-true _ _ known) (not-true _ free)

-- what is asked for as a belief condition contains no goal atom
pub no_goal_atom : (b : Bytes) → card_answer b ≡ Ok tt → (n : ℕ) → condition_good (layout b) (containing 2 (layout b) b) n ≡ true → Without b 2 n
no_goal_atom b card n e = asked (layout b) b (accepted b card).nodes goal n e

pub kind_law : KindLaw
unfolding specification_good selection_good revision_good
kind_law b card =
    let a = accepted b card in
    let l = layout b in
    let g = good_entries l b a.rules in
    record {
      specification = λ i h.
          let x = specification_at l b i in
          asked l b a.nodes goal x.node (both (condition_good l (containing 2 l b) x.node) _ (both (ltb x.action l.actions) _ (g.specification i h)).1).0;
      revision = λ i h. (let x = revision_at l b i in asked l b a.nodes goal x.node (both (condition_good l (containing 2 l b) x.node) _ (g.revision i h)).0);
      selection_belief = λ i h. (let x = selection_at l b i in asked l b a.nodes goal x.belief (both (condition_good l (containing 2 l b) x.belief) _ (g.selection i h)).0);
      selection_goal = λ i h.
          let x = selection_at l b i in
          asked l b a.nodes belief x.goal (both (condition_good l (containing 1 l b) x.goal) _ (both (condition_good l (containing 2 l b) x.belief) _ (g.selection i h)).1).0;
    }
