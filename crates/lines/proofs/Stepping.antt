-- A condition and a plan that were read, in the card in the making.
use mathlib.Core.Path.{◌≡◌, ap, sym, ◌∙◌, subst}
use mathlib.Core.Bool.{Bool, true, false}
use mathlib.Core.List.{◌++◌}
use Prim.Native.Nat.{ℕ, ◌+◌, ◌≤◌}
use native.Mathlib.Omega.{arith}
use lib.ListN.{length, take, drop, length-take, length-drop}
use Rattle.paper.specs.Next.{if}
use Rattle.meaning.specs.Card.{Bytes}
use Rattle.notation.specs.Conditions.{Condition}
use Rattle.notation.specs.Values.{Read, nested, got, list_of, behind_list}
use Rattle.notation.specs.Making.{plan_in}
use Rattle.conditions.specs.Reads.{Count, ReadsCondition}
use Rattle.conditions.specs.declared.read.TreeRead.{TreeRead}
use Rattle.conditions.specs.declared.read.Nested.{Nested}
use Rattle.std.proofs.Common.{Some, None, Result, Ok, Err}
use Rattle.std.specs.Prelude.{IfSome, IsErr}
use Rattle.paper.proofs.Relation.{false≢true}
use Rattle.lines.specs.declared.made.Made.{Made}
use Rattle.lines.specs.declared.lists.PlanRead.{PlanRead}
use Rattle.lines.specs.declared.parts.Placed.{Placed}
use Rattle.lines.specs.Lines.{Held, Puts, StepsOver, ReadsPart, ReadsPlan, count_in, nodes_before, with_nodes, pool_before, with_pool, condition_in}
use Rattle.lines.proofs.Placing.{back_length, plan_put, tree_put}

pub lent_length : (d : Bytes) (a n : ℕ) → a + n ≤ length d → length (take n (drop a d)) ≡ n
lent_length d a n h = simp (length-take, length-drop) (omega arith)

pub count_le : (m : Made) (n room : ℕ) → n ≤ room → IfSome (count_in m n) (λ k. k ≤ room)
count_le m n room h = go m.large
  where
    go : (b : Bool) → IfSome (if b None (Some n)) (λ k. k ≤ room)
    go true = tt
    go false = h

module _ (t : Bytes) (at : ℕ) (m : Made) (d : Bytes) (h : Held m d) (k : Count) (y d' : Bytes) where
  pub plan_steps : k ≡ pool_before m → (r : PlanRead) → ReadsPlan t at (take 8192 (drop 15936 d)) k r y → (m' : Made) → m' ≡ with_pool m r.count
      → d' ≡ take 15936 d ++ (y ++ drop 8192 (drop 15936 d)) → StepsOver t at (behind_list (drop at t)) (plan_in (list_of (drop at t))) m d r.next m' d'
  plan_steps e r q m' f g =
      let w = subst (λ j. ReadsPlan t at (take 8192 (drop 15936 d)) j r y) e q in
      record {
        place = q.1;
        on = q.0;
        puts = subst (λ x. Puts (plan_in (list_of (drop at t))) m d x d') (sym f) (plan_put m d h (list_of (drop at t)) r.count y d' q.3 w.4 g q.2);
      }

  module _ (e : k ≡ nodes_before m) (g : d' ≡ take 576 d ++ (y ++ drop 1024 (drop 576 d))) where
    configured : length (take 1024 (drop 576 d)) ≡ 1024
    configured = let r = h.room in lent_length d 576 1024 (omega arith)

    pub tree_nested : (read : Read Condition) → ReadsCondition t at (take 1024 (drop 576 d)) k read (Err (record {})) y
        → (r : Result Placed Nested) → IsErr r → ReadsPart condition_in t at read m d r d'
    tree_nested nested q (Ok p) f = absurd (false≢true f)
    tree_nested nested q (Err x) f = let room = h.room in ap length g ∙ back_length d y 576 1024 (omega arith) (q ∙ configured) ∙ room
    tree_nested (got c rest) q r f = absurd q

    pub tree_steps : (read : Read Condition) (r : TreeRead) → ReadsCondition t at (take 1024 (drop 576 d)) k read (Ok r) y → (m' : Made) → m' ≡ with_nodes m r.count
        → ReadsPart condition_in t at read m d (Ok (record { next = r.next; made = m' })) d'
    tree_steps nested r q m' f = absurd q
    tree_steps (got c rest) r q m' f =
        let w = subst (λ i. ReadsCondition t at (take 1024 (drop 576 d)) i (got c rest) (Ok r) y) e q in
        record {
          place = q.0;
          on = q.1;
          puts = subst (λ x. Puts (condition_in c) m d x d') (sym f) (tree_put m d h c.tree r.count y d' (q.3 ∙ configured) w.4 g q.2);
        }
