-- The guide takes the first transition in its order, and rests exactly when no transition exists.
use mathlib.Core.Path.{◌≡◌, refl, ap, ◌∙◌, sym, subst}
use mathlib.Core.Logic.{◌↔◌, ⊎_elim}
use mathlib.Core.List.Memᴰ
use mathlib.Core.List.{List, [], ◌∷◌, ◌++◌, map, Memᴰ}
use mathlib.Core.Bool.{Bool, true, false}
use mathlib.Core.Option.{none, some}
use Prim.Native.Nat.{ℕ, zero, suc, ◌+◌, ◌%◌, ◌<◌, suc-le-suc, zero-le}
use native.Mathlib.Nat.{le_of_suc-le-suc, not-suc-le-zero, add-zero, zero-add}
use native.Mathlib.Decide.{ℕ_discrete}
use native.Mathlib.Omega.{arith}
use lib.ListN.{length}
use Rattle.paper.specs.Language.{Agent, Config}
use Rattle.paper.specs.Transitions.{Choice, select, act, revise, Entry, Step, execute, apply_PS, apply_PR}
use Rattle.paper.specs.Next.{enabled}
use Rattle.paper.proofs.Relation.{none≢some, some_inj, false≢true, enabled_exactly}
use Rattle.runs.specs.Order.{State, kind, numbers, of_kind, in_turn, first, guide}
use Rattle.runs.specs.Theorems.{AtRest, GuideTakes, OrderLaw}
use Rattle.runs.proofs.Step.{phase_after}

-- ---- by cases of a choice's kind

pub each_kind : (P : ℕ → Type 0) → P 0 → P 1 → P 2 → (k : ℕ) → k < 3 → P k
each_kind P selection action revision zero h = selection
each_kind P selection action revision (suc zero) h = action
each_kind P selection action revision (suc (suc zero)) h = revision
each_kind P selection action revision (suc (suc (suc k))) h = absurd (omega arith)

-- ---- every choice that has a transition is tried

pub mem-map : {X Y : Type 0} (f : X → Y) {x : X} {xs : List X} → Memᴰ x xs → Memᴰ (f x) (map f xs)
mem-map f (Memᴰ.head e) = Memᴰ.head (ap f e)
mem-map f (Memᴰ.tail h) = Memᴰ.tail (mem-map f h)

mem_numbers : (k m i : ℕ) → i < m → Memᴰ (k + i) (numbers k m)
unfolding numbers
mem_numbers k zero i h = absurd (not-suc-le-zero h)
mem_numbers k (suc m) zero h = Memᴰ.head (add-zero k)
mem_numbers k (suc m) (suc i) h =
    let e : suc k + i ≡ k + suc i = omega arith in
    Memᴰ.tail (rw e at (mem_numbers (suc k) m i (le_of_suc-le-suc h)))

numbered : (f : ℕ → Choice) (m i : ℕ) → i < m → Memᴰ (f i) (map f (numbers 0 m))
numbered f m i h = mem-map f (rw (zero-add i) at (mem_numbers 0 m i h))

pub entry_lt : {R : Type 0} (rs : List R) (n : ℕ) {r : R} → Entry rs n r → n < length rs
entry_lt [] n e = absurd (none≢some e)
entry_lt (x ∷ rs) zero e = suc-le-suc zero-le
entry_lt (x ∷ rs) (suc n) e = suc-le-suc (entry_lt rs n e)

of_its_kind : (A : Agent) {c c' : Config} {k : Choice} → Step A c k c' → Memᴰ k (of_kind A (kind k))
unfolding of_kind kind
of_its_kind A (execute {n = n} e p) = numbered act (length A.AS) n (entry_lt A.AS n e)
of_its_kind A (apply_PS {n = n} e p q) = numbered select (length A.PS) n (entry_lt A.PS n e)
of_its_kind A (apply_PR π {n = n} e p) = numbered revise (length A.PR) n (entry_lt A.PR n e)

pub kind_lt : (k : Choice) → kind k < 3
unfolding kind
kind_lt (select n) = omega arith
kind_lt (act n) = omega arith
kind_lt (revise n) = omega arith

-- the three kinds in turn are all three
in_turn_lem : (A : Agent) (p j : ℕ) (k : Choice) → j < 3 → Memᴰ k (of_kind A j) → Memᴰ k (in_turn A p)
unfolding in_turn
in_turn_lem A p j k h m =
    let at : (i : ℕ) → i ≡ j → Memᴰ k (of_kind A i) = λ i e. rw e m in
    elim (ℕ_discrete (p % 3) j) [
      | yes e ↦ Memᴰ.append_left (of_kind A ((p + 1) % 3) ++ of_kind A ((p + 2) % 3)) (at (p % 3) e)
      | no n ↦ Memᴰ.append_right (of_kind A (p % 3)) (elim (ℕ_discrete ((p + 1) % 3) j) [
        | yes e ↦ Memᴰ.append_left (of_kind A ((p + 2) % 3)) (at ((p + 1) % 3) e)
        | no n' ↦ Memᴰ.append_right (of_kind A ((p + 1) % 3)) (at ((p + 2) % 3) (omega arith))
      ])
    ]

pub tried : (A : Agent) (p : ℕ) {c c' : Config} {k : Choice} → Step A c k c' → Memᴰ k (in_turn A p)
tried A p {k = k} s = in_turn_lem A p (kind k) k (kind_lt k) (of_its_kind A s)

-- ---- the first of a list that passes a test

module _ {X : Type 0} (t : X → Bool) where
  pub first_yes : (x : X) (xs : List X) → t x ≡ true → first t (x ∷ xs) ≡ some x
  first_yes x xs e = rw (e, first)

  pub first_no : (x : X) (xs : List X) → t x ≡ false → first t (x ∷ xs) ≡ first t xs
  first_no x xs e = rw (e, first)

  record Found (xs : List X) (x : X) : Type 0 where
    before : List X
    behind : List X
    split : xs ≡ before ++ (x ∷ behind)
    failing : (y : X) → Memᴰ y before → t y ≡ false
    passes : t x ≡ true

  found : (xs : List X) (x : X) → first t xs ≡ some x → Found xs x
  found [] x e = absurd (none≢some e)
  found (y ∷ ys) x e = go (t y) refl (found ys x)
    where
      go : (b : Bool) → t y ≡ b → (first t ys ≡ some x → Found ys x) → Found (y ∷ ys) x
      go false h ih =
          let f = ih (sym (first_no y ys h) ∙ e) in
          record {
            before = y ∷ f.before;
            behind = f.behind;
            split = ap (λ zs. y ∷ zs) f.split;
            failing = λ z i. ⊎_elim (λ q. rw q h) (f.failing z) (Memᴰ.cases_cons i);
            passes = f.passes;
          }
      go true h ih =
          subst (Found (y ∷ ys)) (some_inj (sym (first_yes y ys h) ∙ e))
          (record { before = []; behind = ys; split = refl; failing = λ z i. absurd (Memᴰ.not-nil i); passes = h })

  none_found : (xs : List X) → first t xs ≡ none → (x : X) → Memᴰ x xs → t x ≡ false
  none_found [] e x i = absurd (Memᴰ.not-nil i)
  none_found (y ∷ ys) e x i = go (t y) refl (none_found ys)
    where
      go : (b : Bool) → t y ≡ b → (first t ys ≡ none → (x : X) → Memᴰ x ys → t x ≡ false) → t x ≡ false
      go false h ih = ⊎_elim (λ q. rw q h) (ih (sym (first_no y ys h) ∙ e) x) (Memᴰ.cases_cons i)
      go true h ih = absurd (none≢some (sym e ∙ first_yes y ys h))

  all_failing : (xs : List X) → ((x : X) → t x ≡ false) → first t xs ≡ none
  all_failing [] h = refl
  all_failing (x ∷ xs) h = first_no x xs (h x) ∙ all_failing xs h

-- ---- the guide

no_step : (A : Agent) {c c' : Config} {k : Choice} → enabled A c k ≡ false → Step A c k c' → ⊥
no_step A {c} {c'} {k} h s = false≢true (sym h ∙ (enabled_exactly A c k).1 (c', s))

pub guide_takes : (A : Agent) (s : State) (k : Choice) → guide A s ≡ some k → GuideTakes A s k
unfolding guide
guide_takes A s k e =
    let f = found (enabled A s.mental) (in_turn A s.phase) k e in
    record {
      leads = (enabled_exactly A s.mental k).0 f.passes;
      before = f.before;
      behind = f.behind;
      tried = f.split;
      passed = λ j i c x. no_step A (f.failing j i) x;
      phase = λ s'. phase_after A s s' k;
    }

pub rests : (A : Agent) (s : State) → (guide A s ≡ none) ↔ AtRest A s.mental
unfolding guide
rests A s = (
  λ e k c x. no_step A (none_found (enabled A s.mental) (in_turn A s.phase) e k (tried A s.phase x)) x,
  λ r. all_failing (enabled A s.mental) (in_turn A s.phase) (λ k. closed r k (enabled A s.mental k) refl),
)
  where
    closed : AtRest A s.mental → (k : Choice) (b : Bool) → enabled A s.mental k ≡ b → enabled A s.mental k ≡ false
    closed r k false h = h
    closed r k true h = let (c, x) = (enabled_exactly A s.mental k).0 h in absurd (r k c x)

pub order_laws : OrderLaw
order_laws A s = record { takes = guide_takes A s; rests = rests A s }
