-- A unit, by its first byte.
use mathlib.Core.Path.{◌≡◌, refl, ap, sym, ◌∙◌}
use mathlib.Core.Bool.{Bool, true, false, ◌||◌, true≢false}
use mathlib.Core.List.{[], ◌∷◌}
use mathlib.Core.Option.{Option}
use Prim.Native.Nat.{ℕ, zero, suc, ◌+◌, ◌-◌, ◌≤◌, ◌<◌}
use Prim.Native.Char.{code}
use native.Mathlib.Omega.{arith}
use borrow.Author.Tests.{ne_eqb, eqb-true}
use lib.Dec.{eqb, leb}
use lib.ListN.{length, drop, get_or}
use Rattle.paper.specs.Next.{if}
use Rattle.meaning.specs.Trees.{true, believes, goal}
use Rattle.meaning.specs.Card.{Bytes}
use Rattle.notation.specs.Built.{node}
use Rattle.notation.specs.Conditions.{Condition, plain, negated, bracketed}
use Rattle.notation.specs.Values.{Read, nested, got, then, number_value, digits_rest, in_not, in_brackets, or_list_of, unit_by, unit_of}
use Rattle.notation.specs.Making.{when, added_to, with_tree, last_node}
use Rattle.conditions.specs.declared.read.TreeRead.{TreeRead}
use Rattle.std.proofs.Common.{Ok}
use Rattle.std.specs.Prelude.{IfSome}
use Rattle.conditions.specs.Reads.{Count, leaf, nodes_of, last_of, TextAt, ReadsAtom, ReadsCondition}
use Rattle.conditions.proofs.Numbers.{drop-cons, drop_none}
use Rattle.conditions.proofs.Stored.{last-of}
use Rattle.conditions.proofs.Told.{Told, at_told}

-- ---- by the first byte

none_of : (a b c e : Bool) (T B G N P : Read Condition) → ((a || b) || c) ≡ false → if a T (if b B (if c G (if e N P))) ≡ if e N P
none_of true b c e T B G N P h = absurd (true≢false h)
none_of false true c e T B G N P h = absurd (true≢false h)
none_of false false true e T B G N P h = absurd (true≢false h)
none_of false false false e T B G N P h = refl

module _ (N P : Read Condition) (x : ℕ) (s : Bytes) where
  by_other : leaf x ≡ false → unit_by N P x s ≡ if (eqb x (code "!")) N P
  by_other h =
      none_of (eqb x (code "T")) (eqb x (code "B")) (eqb x (code "G")) (eqb x (code "!"))
      (got (plain true) s) (got (plain (believes (number_value s))) (digits_rest s)) (got (plain (goal (number_value s))) (digits_rest s)) N P h

same : (b : Bool) (R : Read Condition) → if b R R ≡ R
same true R = refl
same false R = refl

-- a unit that nothing is nested in is the same whatever may still nest
module _ (x : ℕ) (s : Bytes) (R : Read Condition) (by : (N P : Read Condition) → unit_by N P x s ≡ R) where
  whatever : (left : ℕ) → unit_of left (x ∷ s) ≡ R
  unfolding unit_of
  whatever zero = by nested nested
  whatever (suc left) = by (in_not (unit_of left) s) (in_brackets (unit_of left) s)

module _ (t : Bytes) (at left : ℕ) where
  pub unit_over : at ≡ length t → unit_of left (drop at t) ≡ nested
  unfolding unit_of
  unit_over e = ap (unit_of left) (drop_none t at e) ∙ none_there left
    where
      none_there : (left : ℕ) → unit_of left [] ≡ nested
      none_there zero = refl
      none_there (suc left) = refl

  module _ (h : at < length t) where
    abbrev x : ℕ
    x = get_or t at 0

    abbrev s : Bytes
    s = drop (at + 1) t

    unit_T : x ≡ 84 → unit_of left (drop at t) ≡ got (plain true) s
    unit_T e = ap (unit_of left) (drop-cons t at h) ∙ whatever x s (got (plain true) s) (λ N P. ap (λ y. unit_by N P y s) e) left

    unit_B : x ≡ 66 → unit_of left (drop at t) ≡ got (plain (believes (number_value s))) (digits_rest s)
    unit_B e =
        ap (unit_of left) (drop-cons t at h)
        ∙ whatever x s (got (plain (believes (number_value s))) (digits_rest s)) (λ N P. ap (λ y. unit_by N P y s) e) left

    unit_G : x ≡ 71 → unit_of left (drop at t) ≡ got (plain (goal (number_value s))) (digits_rest s)
    unit_G e =
        ap (unit_of left) (drop-cons t at h)
        ∙ whatever x s (got (plain (goal (number_value s))) (digits_rest s)) (λ N P. ap (λ y. unit_by N P y s) e) left

    -- nothing more may nest
    pub unit_deep : leaf x ≡ false → left ≡ 0 → unit_of left (drop at t) ≡ nested
    unfolding unit_of
    unit_deep e z =
        ap (λ l. unit_of l (drop at t)) z
        ∙ (ap (unit_of 0) (drop-cons t at h) ∙ (by_other nested nested x s e ∙ same (eqb x (code "!")) nested))

    module _ (some_left : left ≡ 0 → ⊥) where
      one_less : left ≡ suc (left - 1)
      one_less = omega arith

      pub unit_not : x ≡ 33 → unit_of left (drop at t) ≡ in_not (unit_of (left - 1)) s
      unfolding unit_of
      unit_not e =
          ap (λ l. unit_of l (drop at t)) one_less
          ∙ (ap (unit_of (suc (left - 1))) (drop-cons t at h) ∙ ap (λ y. unit_by (in_not (unit_of (left - 1)) s) (in_brackets (unit_of (left - 1)) s) y s) e)

      pub unit_brackets : leaf x ≡ false → (x ≡ 33 → ⊥) → unit_of left (drop at t) ≡ in_brackets (unit_of (left - 1)) s
      unfolding unit_of
      unit_brackets e f =
          ap (λ l. unit_of l (drop at t)) one_less
          ∙ (ap (unit_of (suc (left - 1))) (drop-cons t at h)
          ∙ (by_other (in_not (unit_of (left - 1)) s) (in_brackets (unit_of (left - 1)) s) x s e
          ∙ ap (λ b. if b (in_not (unit_of (left - 1)) s) (in_brackets (unit_of (left - 1)) s)) (ne_eqb x 33 f)))

-- ---- what the readers of a unit's parts tell

-- behind the next byte
pub byte_on : (t : Bytes) (n : ℕ) → n < length t → drop (n + 1) t ≡ drop 1 (drop n t)
byte_on t n h = sym (ap (drop 1) (drop-cons t n h))

only_G : (x : ℕ) → leaf x ≡ true → (x ≡ 84 → ⊥) → (x ≡ 66 → ⊥) → x ≡ 71
only_G x l e f = eqb-true x 71 (sym ((λ j. (ne_eqb x 84 e j || ne_eqb x 66 f j) || eqb x 71)) ∙ l)

module _ (t : Bytes) (at left : ℕ) (h : at < length t) (d : Bytes) (k : Count) (d' : Bytes) where
  pub read_T : (m : Count) → get_or t at 0 ≡ 84 → IfSome m (λ n. n ≤ 256) → length d' ≡ length d → nodes_of m d' ≡ added_to 1024 (node 0 0 0) (nodes_of k d)
      → ReadsCondition t at d k (unit_of left (drop at t)) (Ok (record { next = at + 1; count = m })) d'
  unfolding with_tree
  read_T m e small room put =
      at_told t at d k d' (unit_of left (drop at t)) (record { next = at + 1; count = m })
      (record { cond = plain true; reads = unit_T t at left h e; within = omega arith; behind = omega arith; small = small; room = room; nodes = put })

  module _ (r : TreeRead) where
    atom_told : (kind : ℕ) (c : Condition)
        → ((o : Option Bytes) → with_tree c.tree o ≡ when (leb (number_value (drop (at + 1) t)) 255) (added_to 1024 (node kind (number_value (drop (at + 1) t)) 0) o))
        → unit_of left (drop at t) ≡ got c (digits_rest (drop (at + 1) t))
        → ReadsAtom t (at + 1) kind d k r d'
        → ReadsCondition t at d k (unit_of left (drop at t)) (Ok r) d'
    atom_told kind c made reads g =
        at_told t at d k d' (unit_of left (drop at t)) r
        (record {
          cond = c;
          reads = reads ∙ ap (got c) (sym g.0.1);
          within = g.0.0;
          behind = (let b = g.1 in omega arith);
          small = g.2;
          room = g.3;
          nodes = g.4 ∙ sym (made (nodes_of k d));
        })

    pub read_B : get_or t at 0 ≡ 66 → ReadsAtom t (at + 1) 1 d k r d' → ReadsCondition t at d k (unit_of left (drop at t)) (Ok r) d'
    unfolding with_tree
    read_B e g = atom_told 1 (plain (believes (number_value (drop (at + 1) t)))) (λ o. refl) (unit_B t at left h e) g

    pub read_G : leaf (get_or t at 0) ≡ true → (get_or t at 0 ≡ 84 → ⊥) → (get_or t at 0 ≡ 66 → ⊥) → ReadsAtom t (at + 1) 2 d k r d'
        → ReadsCondition t at d k (unit_of left (drop at t)) (Ok r) d'
    unfolding with_tree
    read_G l e f g = atom_told 2 (plain (goal (number_value (drop (at + 1) t)))) (λ o. refl) (unit_G t at left h (only_G (get_or t at 0) l e f)) g

-- ---- "!" and brackets

module _ (t : Bytes) (at left : ℕ) (h : at < length t) (some_left : left ≡ 0 → ⊥) (d : Bytes) (k : Count) where
  module _ (e : get_or t at 0 ≡ 33) where
    pub not_nested : unit_of (left - 1) (drop (at + 1) t) ≡ nested → unit_of left (drop at t) ≡ nested
    not_nested f = unit_not t at left h some_left e ∙ ap (λ (R : Read Condition). then R (λ c r. got (negated c) r)) f

    pub read_not : (d' d'' : Bytes) (n : ℕ) (m m' : Count) → length d ≡ 1024 → Told t (at + 1) d k (unit_of (left - 1) (drop (at + 1) t)) n m d'
        → IfSome m' (λ n. n ≤ 256) → length d'' ≡ 1024 → nodes_of m' d'' ≡ added_to 1024 (node 3 (last_of m) 0) (nodes_of m d')
        → ReadsCondition t at d k (unit_of left (drop at t)) (Ok (record { next = n; count = m' })) d''
    unfolding with_tree
    read_not d' d'' n m m' sized r small room put =
        at_told t at d k d'' (unit_of left (drop at t)) (record { next = n; count = m' })
        (record {
          cond = negated r.cond;
          reads = unit_not t at left h some_left e ∙ ap (λ (R : Read Condition). then R (λ c r. got (negated c) r)) r.reads;
          within = r.within;
          behind = (let b = r.behind in omega arith);
          small = small;
          room = room ∙ sym sized;
          nodes =
              put
              ∙ (ap (λ z. added_to 1024 (node 3 z 0) (nodes_of m d')) (last-of d' (r.room ∙ sized) m r.small)
              ∙ ap (λ o. added_to 1024 (node 3 (last_node o) 0) o) r.nodes);
        })

  module _ (l : leaf (get_or t at 0) ≡ false) (e : get_or t at 0 ≡ 33 → ⊥) where
    pub brackets_nested : or_list_of (left - 1) (drop (at + 1) t) ≡ nested → unit_of left (drop at t) ≡ nested
    brackets_nested f = unit_brackets t at left h some_left l e ∙ ap (λ (R : Read Condition). then R (λ c r. got (bracketed c) (drop 1 r))) f

    pub read_brackets : (d' : Bytes) (n : ℕ) (m : Count) (n' : ℕ) → Told t (at + 1) d k (or_list_of (left - 1) (drop (at + 1) t)) n m d'
        → (n ≤ n') × TextAt t n' (drop 1 (drop n t)) → ReadsCondition t at d k (unit_of left (drop at t)) (Ok (record { next = n'; count = m })) d'
    read_brackets d' n m n' r b =
        at_told t at d k d' (unit_of left (drop at t)) (record { next = n'; count = m })
        (record {
          cond = bracketed r.cond;
          reads =
              unit_brackets t at left h some_left l e
              ∙ (ap (λ (R : Read Condition). then R (λ c r. got (bracketed c) (drop 1 r))) r.reads ∙ ap (got (bracketed r.cond)) (sym b.1.1));
          within = b.1.0;
          behind = (let x = r.behind in let y = b.0 in omega arith);
          small = r.small;
          room = r.room;
          nodes = r.nodes;
        })
