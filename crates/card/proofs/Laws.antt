-- Laws that the card's functions share.
use mathlib.Core.Path.{◌≡◌, refl, sym, ap, ◌∙◌}
use mathlib.Core.Bool.{true, false, ◌||◌}
use mathlib.Core.List.{List, [], ◌∷◌}
use mathlib.Core.Logic.{◌⊎◌, inl, inr}
use Prim.Native.Nat.{ℕ, ◌+◌, ◌-◌, ◌≤◌, ◌<◌}
use native.Mathlib.Decide.{dec_le, dec_lt}
use native.Mathlib.Omega.{arith}
use borrow.Author.Count.{below_more}
use borrow.Author.Tests.{lt-ltb, le-ltb, le-leb, lt-leb}
use lib.Bits.{bit_or}
use lib.Dec.{leb, ltb}
use lib.ListN.{length, get_or, set, replicate, length-set, length-replicate, get_or-replicate}
use lib.Seq.{get_or-set_same, get_or-set_other}
use Rattle.paper.specs.Atoms.{bit, ◌∈◌, ◌∪◌}
use Rattle.paper.proofs.Sets.{∈-∪}
use Rattle.meaning.specs.declared.Layout.{Layout}
use Rattle.meaning.specs.Kinds.{NodeKind, node_kind}
use Rattle.meaning.specs.Card.{Bytes, node_at}
use Rattle.meaning.specs.Refusals.{nodes_good, contains_of, containing}
use Rattle.meaning.proofs.NodeKinds.{is_true, is_belief, is_goal, is_not, is_and, is_or, Known, leaf, inner}
use Rattle.meaning.proofs.Nodes.{made_from, contains_children}
use Rattle.card.specs.Marks.{tells, mark_of, Marks}

-- one of two neighbours
pub either_of : (m n : ℕ) → m ≤ n → n ≤ m + 1 → (n ≡ m) ⊎ (n ≡ m + 1)
either_of m n h k = elim (dec_le n m) [ yes e ↦ inl (omega arith) | no e ↦ inr (omega arith) ]

-- what is found at node i by what the marks of the lower nodes tell
contains_next : (l : Layout) (b : Bytes) → nodes_good l b ≡ true → (kind i : ℕ) → i < l.nodes.count → (marks : List ℕ)
    → ((j : ℕ) → j < i → tells kind (get_or marks j 0) ≡ get_or (containing kind l b) j false)
    → contains_of kind (node_kind (node_at l b i).kind) (node_at l b i).a (node_at l b i).b (λ j. tells kind (get_or marks j 0)) ≡ get_or (containing kind l b) i false
unfolding containing
contains_next l b good kind i h marks same = made_from l b good i h (λ i. contains_of kind) false (λ i k κ. contains_children kind) (λ j. tells kind (get_or marks j 0)) same

-- the last action and the number of actions tell the same
pub known_by_last : (x actions : ℕ) → 1 ≤ actions → leb x (actions - 1) ≡ ltb x actions
known_by_last x actions h = elim (dec_lt x actions) [
  | yes e ↦ le-leb x (actions - 1) (omega arith) ∙ sym (lt-ltb x actions e)
  | no e ↦ lt-leb x (actions - 1) (omega arith) ∙ sym (le-ltb x actions (omega arith))
]

-- two marks in one tell what one of them tells: a mark is a set of one byte
tells_or : (x y : ℕ) → (tells 1 (bit_or x y) ≡ tells 1 x || tells 1 y) × (tells 2 (bit_or x y) ≡ tells 2 x || tells 2 y)
unfolding bit ◌∈◌ ◌∪◌
tells_or x y = (∈-∪ 0 (x ∷ []) (y ∷ []), ∈-∪ 1 (x ∷ []) (y ∷ []))

-- what a node's mark tells of a kind, by what the marks m tell
abbrev Tells : ℕ → NodeKind → ℕ → ℕ → (ℕ → ℕ) → Type 0
Tells kind κ a b m = tells kind (mark_of κ (m a) (m b)) ≡ contains_of kind κ a b (λ j. tells kind (m j))

pub tells_mark : {k : ℕ} {κ : NodeKind} → Known k κ → (a b : ℕ) (m : ℕ → ℕ) → Tells 1 κ a b m × Tells 2 κ a b m
tells_mark (leaf is_true) a b m = (refl, refl)
tells_mark (leaf is_belief) a b m = (refl, refl)
tells_mark (leaf is_goal) a b m = (refl, refl)
tells_mark (inner is_not) a b m = (refl, refl)
tells_mark (inner is_and) a b m = tells_or (m a) (m b)
tells_mark (inner is_or) a b m = tells_or (m a) (m b)

-- the marks after i nodes: those of the nodes below i tell what their conditions contain, and all others are set
abbrev pub MarkedTo : ℕ → Layout → Bytes → List ℕ → ℕ → Type 0
MarkedTo kind l b marks i =
    (length marks ≡ 256)
    × ((j : ℕ) → j < i → tells kind (get_or marks j 0) ≡ get_or (containing kind l b) j false)
    × ((j : ℕ) → i ≤ j → j < 256 → tells kind (get_or marks j 0) ≡ true)

pub marked_start : (kind : ℕ) (l : Layout) (b : Bytes) (marks : List ℕ) → tells kind 3 ≡ true → marks ≡ replicate 256 3 → MarkedTo kind l b marks 0
marked_start kind l b marks both e = (ap length e ∙ length-replicate {A = ℕ} 256 3, λ j h. absurd (omega arith), λ j h k. ap (λ m. tells kind (get_or m j 0)) e ∙ ap (tells kind) (get_or-replicate 256 j 3 0 k) ∙ both)

pub marked_turn : (kind : ℕ) (l : Layout) (b : Bytes) → nodes_good l b ≡ true → (marks : List ℕ) (i mark : ℕ) → i < l.nodes.count → i < 256
    → tells kind mark ≡ contains_of kind (node_kind (node_at l b i).kind) (node_at l b i).a (node_at l b i).b (λ j. tells kind (get_or marks j 0))
    → MarkedTo kind l b marks i → MarkedTo kind l b (set marks i mark) (i + 1)
marked_turn kind l b good marks i mark h k e m = (
  simp length-set m.0,
  below_more (λ (j : ℕ). tells kind (get_or (set marks i mark) j 0) ≡ get_or (containing kind l b) j false) i
      (λ j p. ap (tells kind) (get_or-set_other marks i j mark 0 (omega arith)) ∙ m.1 j p)
      (ap (tells kind) (get_or-set_same marks i mark 0 (let r = m.0 in omega arith)) ∙ e ∙ contains_next l b good kind i h marks m.1),
  λ j p q. ap (tells kind) (get_or-set_other marks i j mark 0 (omega arith)) ∙ m.2 j (omega arith) q,
)

pub marked_all : (kind : ℕ) (l : Layout) (b : Bytes) (marks : List ℕ) → MarkedTo kind l b marks l.nodes.count → Marks kind l b marks
marked_all kind l b marks m i h = elim (dec_lt i l.nodes.count) [
  | yes k ↦ rw (m.1 i k, lt-ltb i l.nodes.count k)
  | no k ↦ rw (m.2 i (omega arith) h, le-ltb i l.nodes.count (omega arith))
]
