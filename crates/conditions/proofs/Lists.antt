-- "unit { "&" unit }" and "and-list { "|" and-list }", from a place of a text on.
use mathlib.Core.Path.{◌≡◌, refl, ap, sym, ◌∙◌}
use mathlib.Core.Bool.{Bool, true, false, true≢false}
use mathlib.Core.Logic.{⊎_elim}
use mathlib.Core.List.{[], ◌∷◌}
use mathlib.Core.Option.{Option, none, some}
use Prim.Native.Nat.{ℕ, zero, suc, ◌+◌, ◌-◌, ◌≤◌, ◌<◌}
use native.Mathlib.Omega.{arith}
use borrow.Author.Tests.{eq-eqb, eqb-true}
use lib.ListN.{length, drop, get_or, length-drop}
use Rattle.paper.specs.Next.{if}
use Rattle.meaning.specs.Trees.{Tree, and, or}
use Rattle.meaning.specs.Card.{Bytes}
use Rattle.notation.specs.Built.{node}
use Rattle.notation.specs.Conditions.{Condition, joined}
use Rattle.notation.specs.Values.{Read, nested, got, then, more, several, unit_of, and_list_of}
use Rattle.notation.specs.Making.{added_to, with_tree, last_node}
use Rattle.conditions.specs.declared.read.Nested.{Nested}
use Rattle.conditions.specs.declared.read.TreeRead.{TreeRead}
use Rattle.std.proofs.Common.{Result, Ok}
use Rattle.std.specs.Prelude.{IfSome, IsErr}
use Rattle.conditions.specs.Reads.{Count, nodes_of, joined_nodes, begins, ReadsCondition}
use Rattle.conditions.proofs.Numbers.{drop-cons, drop_none}
use Rattle.conditions.proofs.Stored.{either, last-of}
use Rattle.conditions.proofs.Told.{Told, at_told, nested_told}

-- A list by its operator, with the byte and the kind of node that stand for it, and by how one of its members is read.
pub record Kind : Type 0 where
  pub byte : ℕ
  pub kind : ℕ
  pub op : Tree → Tree → Tree
  pub one : Bytes → Read Condition
  pub joins : (a b : Tree) (o : Option Bytes)
      → with_tree (op a b) o ≡ added_to 1024 (node kind (last_node (with_tree a o)) (last_node (with_tree b (with_tree a o)))) (with_tree b (with_tree a o))

-- "{ "&" unit }" and "{ "|" and-list }"
abbrev pub more_of : Kind → ℕ → Condition → Bytes → Read Condition
more_of K f c t = more K.byte K.op K.one f c t

abbrev pub several_of : Kind → Bytes → Read Condition
several_of K t = several K.byte K.op K.one t

-- ---- the next byte

module _ (t : Bytes) (n x : ℕ) where
  pub begins_over : n ≡ length t → false ≡ begins x (drop n t)
  begins_over e = sym (ap (begins x) (drop_none t n e))

  pub begins_here : n < length t → begins x (drop n t) ≡ begins x (get_or t n 0 ∷ drop (n + 1) t)
  begins_here h = ap (begins x) (drop-cons t n h)

  module _ (w : n ≤ length t) (e : begins x (drop n t) ≡ true) where
    pub begins_within : n < length t
    begins_within = ⊎_elim (λ l. absurd (true≢false (sym e ∙ sym (begins_over (omega arith))))) (λ l. l) (either (length t) n)

    begins_with : drop n t ≡ x ∷ drop (n + 1) t
    begins_with = drop-cons t n begins_within ∙ ap (λ y. y ∷ drop (n + 1) t) (eqb-true (get_or t n 0) x (sym (begins_here begins_within) ∙ e))

-- ---- the next member

module _ (K : Kind) (c : Condition) where
  -- no operator comes
  more_stop : (f : ℕ) (s : Bytes) → begins K.byte s ≡ false → more_of K f c s ≡ got c s
  unfolding more
  more_stop zero s e = refl
  more_stop (suc f) [] e = refl
  more_stop (suc f) (y ∷ s) e = ap (λ b. if b (then (K.one s) (λ d r. more_of K f (joined K.op c d) r)) (got c (y ∷ s))) e

  -- the operator comes
  more_on : (f : ℕ) (s : Bytes) → more_of K (suc f) c (K.byte ∷ s) ≡ then (K.one s) (λ d r. more_of K f (joined K.op c d) r)
  unfolding more
  more_on f s = ap (λ b. if b (then (K.one s) (λ d r. more_of K f (joined K.op c d) r)) (got c (K.byte ∷ s))) (eq-eqb K.byte K.byte refl)

-- ---- before and behind a member

-- what a member stands behind: nothing, where it is the first, or the condition of the members before; with the nodes of that, and
-- the condition that both are
abbrev is_first : Option Condition → Bool
is_first none = true
is_first (some c) = false

abbrev nodes_before : Option Condition → Option Bytes → Option Bytes
nodes_before none o = o
nodes_before (some c) o = with_tree c.tree o

abbrev joined_by : Kind → Option Condition → Condition → Condition
joined_by K none d = d
joined_by K (some c) d = joined K.op c d

-- a list from at on, behind the k₀ nodes of d₀: the next member is at n, behind the k nodes of d
pub record Before (K : Kind) (t : Bytes) (at : ℕ) (k₀ : Count) (d₀ : Bytes) (first : Bool) (n : ℕ) (k : Count) (d : Bytes) : Type 0 where
  pub so_far : Option Condition
  pub flag : first ≡ is_first so_far
  pub behind : at ≤ n
  pub within : n ≤ length t
  pub small : IfSome k (λ n. n ≤ 256)
  pub room : length d ≡ 1024
  pub nodes : nodes_of k d ≡ nodes_before so_far (nodes_of k₀ d₀)
  pub fuel : Bytes → ℕ
  pub enough : (p : ℕ) → n ≤ p → length t ≤ p + fuel (drop p t)
  pub whole : several_of K (drop at t) ≡ then (K.one (drop n t)) (λ c s. more_of K (fuel s) (joined_by K so_far c) s)

-- the members up to n are one condition, whose nodes are the last of the k of d
pub record BehindMember (K : Kind) (t : Bytes) (at : ℕ) (k₀ : Count) (d₀ : Bytes) (n : ℕ) (k : Count) (d : Bytes) : Type 0 where
  pub cond : Condition
  pub behind : at ≤ n
  pub within : n ≤ length t
  pub small : IfSome k (λ n. n ≤ 256)
  pub room : length d ≡ 1024
  pub nodes : nodes_of k d ≡ with_tree cond.tree (nodes_of k₀ d₀)
  pub fuel : ℕ
  pub enough : length t ≤ n + fuel
  pub whole : several_of K (drop at t) ≡ more_of K fuel cond (drop n t)

module _ (K : Kind) (t : Bytes) (at : ℕ) (k₀ : Count) (d₀ : Bytes) where
  pub list_starts : at ≤ length t → IfSome k₀ (λ n. n ≤ 256) → length d₀ ≡ 1024 → Before K t at k₀ d₀ true at k₀ d₀
  list_starts within small room = record {
    so_far = none;
    flag = refl;
    behind = omega arith;
    within = within;
    small = small;
    room = room;
    nodes = refl;
    fuel = length;
    enough = λ p h. omega (arith, length-drop p t);
    whole = refl;
  }

  -- a member is read
  module _ (first : Bool) (n : ℕ) (k : Count) (d : Bytes) (b : Before K t at k₀ d₀ first n k d) where
    pub list_joined : (p : ℕ) (j m : Count) (d' d'' : Bytes) → Told t n d k (K.one (drop n t)) p j d'
        → IfSome m (λ n. n ≤ 256) → length d'' ≡ 1024 → nodes_of m d'' ≡ joined_nodes first K.kind k j d' → BehindMember K t at k₀ d₀ p m d''
    list_joined p j m d' d'' r small room put =
        let far = b.behind in
        let on = r.behind in
        record {
          cond = joined_by K b.so_far r.cond;
          behind = omega arith;
          within = r.within;
          small = small;
          room = room;
          nodes = put ∙ (ap (λ f. joined_nodes f K.kind k j d') b.flag ∙ by b.so_far b.nodes);
          fuel = b.fuel (drop p t);
          enough = b.enough p on;
          whole = b.whole ∙ ap (λ (R : Read Condition). then R (λ c s. more_of K (b.fuel s) (joined_by K b.so_far c) s)) r.reads;
        }
      where
        by : (so_far : Option Condition) → nodes_of k d ≡ nodes_before so_far (nodes_of k₀ d₀)
            → joined_nodes (is_first so_far) K.kind k j d' ≡ with_tree (joined_by K so_far r.cond).tree (nodes_of k₀ d₀)
        by none e = r.nodes ∙ ap (with_tree r.cond.tree) e
        by (some c) e =
            (λ i. added_to 1024 (node K.kind (last-of d b.room k b.small i) (last-of d' (r.room ∙ b.room) j r.small i)) (nodes_of j d'))
            ∙ (ap (λ q. added_to 1024 (node K.kind (last_node (nodes_of k d)) (last_node q)) q) r.nodes
            ∙ (ap (λ q. added_to 1024 (node K.kind (last_node q) (last_node (with_tree r.cond.tree q))) (with_tree r.cond.tree q)) e
            ∙ sym (K.joins c.tree r.cond.tree (nodes_of k₀ d₀))))

    -- it nests too deep
    pub list_nested : length d₀ ≡ 1024 → (d' : Bytes) (r : Result TreeRead Nested) → IsErr r → K.one (drop n t) ≡ nested → length d' ≡ length d
        → ReadsCondition t at d₀ k₀ (several_of K (drop at t)) r d'
    list_nested sized d' r f e room =
        nested_told t at d₀ k₀ d' (several_of K (drop at t)) r f
        (b.whole ∙ ap (λ (R : Read Condition). then R (λ c s. more_of K (b.fuel s) (joined_by K b.so_far c) s)) e)
        (room ∙ (b.room ∙ sym sized))

  module _ (n : ℕ) (k : Count) (d : Bytes) (l : BehindMember K t at k₀ d₀ n k d) where
    -- the operator comes, and the next member
    pub list_on : begins K.byte (drop n t) ≡ true → Before K t at k₀ d₀ false (n + 1) k d
    list_on e =
        let far = l.behind in
        let h = begins_within t n K.byte l.within e in
        let much = l.enough in
        let one_less : l.fuel ≡ suc (l.fuel - 1) = omega arith in
        record {
          so_far = some l.cond;
          flag = refl;
          behind = omega arith;
          within = omega arith;
          small = l.small;
          room = l.room;
          nodes = l.nodes;
          fuel = λ s. l.fuel - 1;
          enough = λ p q. omega arith;
          whole =
              l.whole
              ∙ ((λ i. more_of K (one_less i) l.cond (begins_with t n K.byte l.within e i)) ∙ more_on K l.cond (l.fuel - 1) (drop (n + 1) t));
        }

    -- no operator comes
    pub list_stops : length d₀ ≡ 1024 → begins K.byte (drop n t) ≡ false
        → ReadsCondition t at d₀ k₀ (several_of K (drop at t)) (Ok (record { next = n; count = k })) d
    list_stops sized e =
        at_told t at d₀ k₀ d (several_of K (drop at t)) (record { next = n; count = k })
        (record {
          cond = l.cond;
          reads = l.whole ∙ more_stop K l.cond l.fuel (drop n t) e;
          within = l.within;
          behind = l.behind;
          small = l.small;
          room = l.room ∙ sym sized;
          nodes = l.nodes;
        })

-- ---- and-lists and or-lists

pub and_joins : (a b : Tree) (o : Option Bytes)
    → with_tree (and a b) o ≡ added_to 1024 (node 4 (last_node (with_tree a o)) (last_node (with_tree b (with_tree a o)))) (with_tree b (with_tree a o))
unfolding with_tree
and_joins a b o = refl

pub or_joins : (a b : Tree) (o : Option Bytes)
    → with_tree (or a b) o ≡ added_to 1024 (node 5 (last_node (with_tree a o)) (last_node (with_tree b (with_tree a o)))) (with_tree b (with_tree a o))
unfolding with_tree
or_joins a b o = refl

abbrev pub and_kind : ℕ → Kind
and_kind left = record { byte = 38; kind = 4; op = and; one = unit_of left; joins = and_joins }

abbrev pub or_kind : ℕ → Kind
or_kind left = record { byte = 124; kind = 5; op = or; one = and_list_of left; joins = or_joins }
