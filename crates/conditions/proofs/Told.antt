-- What a reader told, taken apart: it nests too deep, or a condition was read.
use mathlib.Core.Path.{◌≡◌, refl, ap, sym, subst}
use Prim.Native.Nat.{ℕ, ◌≤◌}
use lib.ListN.{length, drop}
use Rattle.meaning.specs.Card.{Bytes}
use Rattle.notation.specs.Conditions.{Condition}
use Rattle.notation.specs.Values.{Read, nested, got}
use Rattle.notation.specs.Making.{with_tree}
use Rattle.conditions.specs.declared.read.TreeRead.{TreeRead}
use Rattle.conditions.specs.declared.read.Nested.{Nested}
use Rattle.std.proofs.Common.{Result, Ok, Err}
use Rattle.std.specs.Prelude.{IfSome, IsErr}
use Rattle.paper.proofs.Relation.{false≢true}
use Rattle.conditions.specs.Reads.{Count, nodes_of, ReadsCondition}

-- a condition was read from at on, as far as n, and its nodes stand behind the k of d: d' has m
pub record Told (t : Bytes) (at : ℕ) (d : Bytes) (k : Count) (R : Read Condition) (n : ℕ) (m : Count) (d' : Bytes) : Type 0 where
  pub cond : Condition
  pub reads : R ≡ got cond (drop n t)
  pub within : n ≤ length t
  pub behind : at ≤ n
  pub small : IfSome m (λ n. n ≤ 256)
  pub room : length d' ≡ length d
  pub nodes : nodes_of m d' ≡ with_tree cond.tree (nodes_of k d)

module _ (t : Bytes) (at : ℕ) (d : Bytes) (k : Count) (d' : Bytes) where
  pub at_told : (R : Read Condition) (r : TreeRead) → Told t at d k R r.next r.count d' → ReadsCondition t at d k R (Ok r) d'
  at_told R r w =
      subst (λ (S : Read Condition). ReadsCondition t at d k S (Ok r) d') (sym w.reads)
      ((w.within, refl), w.behind, w.small, w.room, w.nodes)

  pub nested_told : (R : Read Condition) (r : Result TreeRead Nested) → IsErr r → R ≡ nested → length d' ≡ length d → ReadsCondition t at d k R r d'
  nested_told R (Ok x) f q l = absurd (false≢true f)
  nested_told R (Err e) f q l = subst (λ (S : Read Condition). ReadsCondition t at d k S (Err e) d') (sym q) l

  pub told_at : (R : Read Condition) (r : TreeRead) → ReadsCondition t at d k R (Ok r) d' → Told t at d k R r.next r.count d'
  told_at nested r h = absurd h
  told_at (got c rest) r g =
      record { cond = c; reads = ap (got c) (sym g.0.1); within = g.0.0; behind = g.1; small = g.2; room = g.3; nodes = g.4 }

  pub told_nested : (R : Read Condition) (e : Nested) → ReadsCondition t at d k R (Err e) d' → (R ≡ nested) × (length d' ≡ length d)
  told_nested nested e h = (refl, h)
  told_nested (got c rest) e h = absurd h
