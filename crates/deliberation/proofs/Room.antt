-- Never more than 128 numbers remain: each number, with those that stand behind it, is below the number of entries.
use mathlib.Core.Path.{◌≡◌, refl, ap, ◌∙◌, sym, subst}
use mathlib.Core.Logic.{⊎_elim}
use mathlib.Core.Bool.{Bool, true, false}
use mathlib.Core.List.Memᴰ
use mathlib.Core.List.{List, [], ◌∷◌, ◌++◌, Memᴰ}
use mathlib.Core.Option.{Option, none, some}
use Prim.Native.Nat.{ℕ, suc, ◌+◌, ◌≤◌, ◌<◌}
use native.Mathlib.Omega.{arith}
use lib.Dec.{ltb}
use lib.ListN.{length, length-append}
use borrow.Author.Tests.{ltb-true, lt-ltb}
use Rattle.paper.specs.Language.{𝐁, Query, Agent, Config}
use Rattle.paper.specs.Transitions.{Choice}
use Rattle.paper.proofs.Relation.{both, some_inj}
use Rattle.meaning.specs.declared.Layout.{Layout}
use Rattle.meaning.specs.Card.{Bytes, condition}
use Rattle.meaning.proofs.Every.{both_true}
use Rattle.deliberation.specs.Programs.{not_empty_plan, holds, 𝒲}
use Rattle.deliberation.specs.Kinds.{EntryKind}
use Rattle.deliberation.specs.FirstMove.{Move, by_choice, lowest_action, if_enabled, idles, followed_by, left_else_right}
use Rattle.deliberation.specs.Entries.{entry_count, entries_of, program_good, numbers_good, move_of, first_move_of}
use Rattle.deliberation.specs.Theorems.{NumbersExactly, EntryLaws, executes, applies, selects, while_plan, while_belief, does_both, does_one}
use Rattle.deliberation.specs.Stacked.{Stacked, nothing, put}
use Rattle.deliberation.proofs.Moves.{takes_some, idles_holds, idles_fails, followed_some, either_left}
use Rattle.deliberation.proofs.Good.{from_lower, entry_rule, move_at_lem}

pub stacked_length : {k : ℕ} {ns : List ℕ} → Stacked k ns → length ns ≤ k
stacked_length nothing = omega arith
stacked_length (put n ns h s) = omega arith

pub stacked_known : {k : ℕ} {ns : List ℕ} → Stacked k ns → (n : ℕ) → Memᴰ n ns → n < k
stacked_known nothing n i = absurd (Memᴰ.not-nil i)
stacked_known (put x xs h s) n i = ⊎_elim (λ e. (omega arith)) (stacked_known s n) (Memᴰ.cases_cons i)

pub stacked_append : {j k : ℕ} {ns rs : List ℕ} → Stacked j ns → j + length rs ≤ k → Stacked k rs → Stacked k (ns ++ rs)
stacked_append nothing h t = t
stacked_append {rs = rs} (put n ns l s) h t = put n (ns ++ rs) (rw (length-append ns rs) (omega arith)) (stacked_append s h t)

-- good numbers are stacked
pub good_stacked : (k : ℕ) (ns : List ℕ) → numbers_good k ns ≡ true → Stacked k ns
good_stacked k [] e = nothing
good_stacked k (n ∷ ns) e = let (h, t) = both (ltb (n + length ns) k) (numbers_good k ns) e in put n ns (ltb-true (n + length ns) k h) (good_stacked k ns t)

-- and stacked numbers are good
pub stacked_good : {k : ℕ} {ns : List ℕ} → Stacked k ns → numbers_good k ns ≡ true
stacked_good nothing = refl
stacked_good {k} (put n ns h s) = both_true (ltb (n + length ns) k) (numbers_good k ns) (lt-ltb (n + length ns) k h) (stacked_good s)

good_behind : (k : ℕ) (before : List ℕ) (n : ℕ) (behind : List ℕ) → numbers_good k (before ++ (n ∷ behind)) ≡ true → n + length behind < k
good_behind k [] n behind e = ltb-true (n + length behind) k (both (ltb (n + length behind) k) _ e).0
good_behind k (m ∷ before) n behind e = good_behind k before n behind (both (ltb (m + length (before ++ (n ∷ behind))) k) _ e).1

behind_good : (k : ℕ) (ns : List ℕ) → ((before : List ℕ) (n : ℕ) (behind : List ℕ) → ns ≡ before ++ (n ∷ behind) → n + length behind < k)
    → numbers_good k ns ≡ true
behind_good k [] f = refl
behind_good k (n ∷ ns) f =
    both_true (ltb (n + length ns) k) (numbers_good k ns) (lt-ltb (n + length ns) k (f [] n ns refl))
    (behind_good k ns (λ before m behind e. f (n ∷ before) m behind (ap (λ ms. n ∷ ms) e)))

pub numbers_exactly : NumbersExactly
numbers_exactly k ns = (λ good before n behind e. good_behind k before n behind (subst (λ ms. numbers_good k ms ≡ true) e good), behind_good k ns)

-- ---- what remains of an entry

-- a move, if there is one, leaves numbers that are stacked within k: each, and how many stand behind it, come to at most k
abbrev Within : ℕ → Option (Move (List ℕ)) → Type 0
Within k o = (m : Move (List ℕ)) → o ≡ some m → Stacked (suc k) m.remaining

takes_within : (k : ℕ) (o : Option Choice) → Within k (by_choice o [])
takes_within k o m e =
    let (c, (f, q)) = takes_some o [] m e in
    subst (λ (x : Move (List ℕ)). Stacked (suc k) x.remaining) q nothing

idles_within : (k : ℕ) (t : Bool) (ns : List ℕ) → Stacked (suc k) ns → Within k (idles t ns [])
idles_within k true ns s m e = subst (λ (x : Move (List ℕ)). Stacked (suc k) x.remaining) (some_inj (sym (idles_holds ns []) ∙ e)) s
idles_within k false ns s m e = subst (λ (x : Move (List ℕ)). Stacked (suc k) x.remaining) (some_inj (sym (idles_fails ns []) ∙ e)) nothing

followed_within : (j k b : ℕ) (o : Option (Move (List ℕ))) → j < k → b < k → Within j o → Within k (followed_by (λ ns. ns ++ (b ∷ [])) o)
followed_within j k b o h l w m e =
    let (n, (f, q)) = followed_some (λ ns. ns ++ (b ∷ [])) o m e in
    subst (λ (x : Move (List ℕ)). Stacked (suc k) x.remaining) q (stacked_append (w n f) (omega arith) (put b [] (omega arith) nothing))

weaker : {j k : ℕ} {ns : List ℕ} → j ≤ k → Stacked j ns → Stacked k ns
weaker h nothing = nothing
weaker h (put n ns l s) = put n ns (omega arith) (weaker h s)

either_within : (i j k : ℕ) (o u : Option (Move (List ℕ))) → i < k → j < k → Within i o → Within j u → Within k (left_else_right o u)
either_within i j k none u h l v w m e = weaker (omega arith) (w m e)
either_within i j k (some n) u h l v w m e = weaker (omega arith) (v m (sym (either_left n u) ∙ e))

module _ (A : Agent) (βs : List (Query 𝐁)) (s : Config) where
  of_kind_lem : {n m : ℕ} {C : ℕ → Type 0} {i a b : ℕ} {κ : EntryKind} (q : ℕ → Option (Move (List ℕ))) → EntryLaws n m C i a b κ
      → ((j : ℕ) → j < i → Within j (q j)) → Within i (move_of A βs s i κ a b q)
  of_kind_lem {i = i} q executes h = takes_within i (lowest_action A s)
  of_kind_lem {i = i} {a = a} q (applies _) h = takes_within i (if_enabled A s (Choice.revise a))
  of_kind_lem {i = i} {a = a} q (selects _) h = takes_within i (if_enabled A s (Choice.select a))
  of_kind_lem {i = i} {b = b} q (while_plan l) h = idles_within i (𝒲 not_empty_plan s) (b ∷ i ∷ []) (put b (i ∷ []) (omega arith) (put i [] (omega arith) nothing))
  of_kind_lem {i = i} {a = a} {b = b} q (while_belief _ l) h =
      idles_within i (𝒲 (holds (condition βs a)) s) (b ∷ i ∷ []) (put b (i ∷ []) (omega arith) (put i [] (omega arith) nothing))
  of_kind_lem {i = i} {a = a} {b = b} q (does_both j l) h = followed_within a i b (q a) j l (h a j)
  of_kind_lem {i = i} {a = a} {b = b} q (does_one j l) h = either_within a b i (q a) (q b) j l (h a j) (h b l)

  module _ (gs : List Bool) (l : Layout) (p : Bytes) (good : program_good gs l p ≡ true) where
    -- what remains of entry n, and the numbers behind it, are stacked as it was
    pub entry_within : (i : ℕ) → i < entry_count p → Within i (first_move_of A βs s (entries_of p) i)
    entry_within i h =
        from_lower (λ i. i < entry_count p → Within i (first_move_of A βs s (entries_of p) i))
        (λ i lower h. rw (move_at_lem gs l p good i h A βs s) (of_kind_lem _ (entry_rule gs l p good i h) (λ j k. lower j k (omega arith))))
        (suc i) i (omega arith) h

    pub move_within : (k n : ℕ) (ns : List ℕ) (m : Move (List ℕ)) → k ≤ entry_count p → Stacked k (n ∷ ns)
        → first_move_of A βs s (entries_of p) n ≡ some m → Stacked k (m.remaining ++ ns)
    move_within k n ns m h (put _ _ l t) e = stacked_append (entry_within n (omega arith) m e) (omega arith) t
