-- The list of enabled choices has exactly the codes of the choices that have a transition, rising, each once.
use mathlib.Core.Path.{◌≡◌, refl, ap, ◌∙◌, sym}
use mathlib.Core.Logic.{◌⊎◌, inl, inr, ⊎_elim}
use mathlib.Core.Bool.{Bool, true, false}
use mathlib.Core.List.Memᴰ
use mathlib.Core.List.{List, [], ◌∷◌, ◌++◌, map, append-nil, Memᴰ}
use Prim.Native.Nat.{ℕ, zero, suc, ◌+◌, ◌≤◌}
use native.Mathlib.Omega.{arith}
use lib.ListN.{length}
use Rattle.paper.specs.Language.{Agent}
use Rattle.paper.specs.Transitions.{Choice, select, act, revise}
use Rattle.paper.specs.Next.{enabled}
use Rattle.paper.proofs.Relation.{enabled_exactly}
use Rattle.runs.specs.Order.{kind, number, code, numbers, of_kind, in_turn, keep, enabled_codes}
use Rattle.runs.specs.Theorems.{Rising, no_number, one_number, more_numbers, Numbered, ListLaw}
use Rattle.runs.proofs.Order.{mem-map, tried}

-- ---- members

module _ {X : Type 0} (t : X → Bool) where
  pub keep_yes : (x : X) (xs : List X) → t x ≡ true → keep t (x ∷ xs) ≡ x ∷ keep t xs
  keep_yes x xs e = rw (e, keep)

  pub keep_no : (x : X) (xs : List X) → t x ≡ false → keep t (x ∷ xs) ≡ keep t xs
  keep_no x xs e = rw (e, keep)

  pub keep_append : (xs ys : List X) → keep t (xs ++ ys) ≡ keep t xs ++ keep t ys
  keep_append [] ys = refl
  keep_append (x ∷ xs) ys = go (t x) refl (keep_append xs ys)
    where
      go : (b : Bool) → t x ≡ b → keep t (xs ++ ys) ≡ keep t xs ++ keep t ys → keep t (x ∷ (xs ++ ys)) ≡ keep t (x ∷ xs) ++ keep t ys
      go true e ih = keep_yes x (xs ++ ys) e ∙ ap (λ (r : List X). x ∷ r) ih ∙ ap (λ (r : List X). r ++ keep t ys) (sym (keep_yes x xs e))
      go false e ih = keep_no x (xs ++ ys) e ∙ ih ∙ ap (λ (r : List X). r ++ keep t ys) (sym (keep_no x xs e))

  kept : {x : X} (xs : List X) → Memᴰ x xs → t x ≡ true → Memᴰ x (keep t xs)
  kept [] i e = absurd (Memᴰ.not-nil i)
  kept {x} (y ∷ xs) i e = go (t y) refl (λ j. kept xs j e)
    where
      go : (b : Bool) → t y ≡ b → (Memᴰ x xs → Memᴰ x (keep t xs)) → Memᴰ x (keep t (y ∷ xs))
      go true h ih = rw (keep_yes y xs h) (⊎_elim Memᴰ.head (λ j. Memᴰ.tail (ih j)) (Memᴰ.cases_cons i))
      go false h ih = rw (keep_no y xs h) (⊎_elim (λ q. absurd (no_other q)) ih (Memᴰ.cases_cons i))
        where
          no_other : x ≡ y → ⊥
          no_other q = let z : ◌≡◌ {A = Bool} true false = sym e ∙ ap t q ∙ h in let w : ◌≡◌ {A = ℕ} 0 1 = cc in omega arith

  passes : {x : X} (xs : List X) → Memᴰ x (keep t xs) → t x ≡ true
  passes [] i = absurd (Memᴰ.not-nil i)
  passes {x} (y ∷ xs) i = go (t y) refl (passes xs)
    where
      go : (b : Bool) → t y ≡ b → (Memᴰ x (keep t xs) → t x ≡ true) → t x ≡ true
      go true h ih = ⊎_elim (λ q. ap t q ∙ h) ih (Memᴰ.cases_cons (rw (keep_yes y xs h) at i))
      go false h ih = ih (rw (keep_no y xs h) at i)

mapped : {X Y : Type 0} (f : X → Y) {y : Y} (xs : List X) → Memᴰ y (map f xs) → (x : X) × (f x ≡ y) × Memᴰ x xs
mapped f [] i = absurd (Memᴰ.not-nil i)
mapped f {y} (x ∷ xs) i = go (mapped f xs) (Memᴰ.cases_cons i)
  where
    go : (Memᴰ y (map f xs) → (z : _) × (f z ≡ y) × Memᴰ z xs) → (y ≡ f x) ⊎ Memᴰ y (map f xs) → (z : _) × (f z ≡ y) × Memᴰ z (x ∷ xs)
    go ih (inl e) = (x, sym e, Memᴰ.head refl)
    go ih (inr j) = let (z, q, m) = ih j in (z, q, Memᴰ.tail m)

-- ---- rising

-- rising, from a number on
data Up : ℕ → List ℕ → Type 0 where
  stop : {low : ℕ} → Up low []
  up : {low n : ℕ} {ns : List ℕ} → low ≤ n → Up (suc n) ns → Up low (n ∷ ns)

weaken : (low high : ℕ) {ns : List ℕ} → low ≤ high → Up high ns → Up low ns
weaken low high h stop = stop
weaken low high h (up {n = n} l u) = let g : low ≤ n = omega arith in up g u

rising : {low : ℕ} {ns : List ℕ} → Up low ns → Rising ns
rising stop = no_number
rising (up {n = n} l u) = go n u
  where
    go : (m : ℕ) {ns : List ℕ} → Up (suc m) ns → Rising (m ∷ ns)
    go m stop = one_number
    go m (up {n = n} l u) = more_numbers l (go n u)

module _ (t : Choice → Bool) (f : ℕ → Choice) (low : ℕ) (codes : (i : ℕ) → code (f i) ≡ low + i) where
  up_kind : (k m : ℕ) (ks : List Choice) → Up (low + (k + m)) (map code (keep t ks)) → Up (low + k) (map code (keep t (map f (numbers k m) ++ ks)))
  unfolding numbers
  up_kind k zero ks u = weaken (low + k) (low + (k + 0)) (omega arith) u
  up_kind k (suc m) ks u = go (t (f k)) refl (up_kind (suc k) m ks (weaken (low + (suc k + m)) (low + (k + suc m)) (omega arith) u))
    where
      go : (b : Bool) → t (f k) ≡ b → Up (low + suc k) (map code (keep t (map f (numbers (suc k) m) ++ ks)))
          → Up (low + k) (map code (keep t (f k ∷ (map f (numbers (suc k) m) ++ ks))))
      go true h ih =
          let e : code (f k) ≡ low + k = codes k in
          let g : low + k ≤ code (f k) = omega arith in
          rw (keep_yes t (f k) (map f (numbers (suc k) m) ++ ks) h) (up g (weaken (suc (code (f k))) (low + suc k) (omega arith) ih))
      go false h ih = rw (keep_no t (f k) (map f (numbers (suc k) m) ++ ks) h) (weaken (low + k) (low + suc k) (omega arith) ih)

codes_up : (A : Agent) (t : Choice → Bool) → Numbered A → Up 0 (map code (keep t (in_turn A 0)))
unfolding in_turn of_kind code kind number
codes_up A t h =
    let S = length A.PS in
    let N = length A.AS in
    let revisions = map revise (numbers 0 (length A.PR)) in
    let r : Up (512 + 0) (map code (keep t revisions)) = rw append-nil at (up_kind t revise 512 (λ i. refl) 0 (length A.PR) [] stop) in
    let r' : Up (256 + (0 + N)) (map code (keep t revisions)) = weaken (256 + (0 + N)) (512 + 0) (let g = h.specifications in omega arith) r in
    let a = up_kind t act 256 (λ i. refl) 0 N revisions r' in
    let a' = weaken (0 + (0 + S)) (256 + 0) (let g = h.selections in omega arith) a in
    up_kind t select 0 (λ i. refl) 0 S (map act (numbers 0 N) ++ revisions) a'

-- ---- the list

pub list_laws : ListLaw
unfolding enabled_codes
list_laws A c =
    record {
      has = λ k c' s. mem-map code (kept (enabled A c) (in_turn A 0) (tried A 0 s) ((enabled_exactly A c k).1 (c', s)));
      only = λ n i. (let (k, e, m) = mapped code (keep (enabled A c) (in_turn A 0)) i in (k, e, (enabled_exactly A c k).0 (passes (enabled A c) (in_turn A 0) m)));
      rising = λ h. rising (codes_up A (enabled A c) h);
    }
