-- How much the list looks at: the bound, what a selection rule more adds, and that with a plan no condition settles the number.
use mathlib.Core.Path.{◌≡◌, refl, ap, ◌∙◌, sym}
use mathlib.Core.Bool.{Bool, true, false}
use mathlib.Core.List.{List, [], ◌∷◌, map}
use Prim.Native.Nat.{ℕ, zero, suc, ◌+◌, ◌≤◌}
use native.Mathlib.Nat.{add-zero, add-le-add}
use native.Mathlib.Omega.{arith}
use lib.ListN.{length, length-append}
use Rattle.paper.specs.Language.{Selection, Agent, Config}
use Rattle.paper.specs.Transitions.{◌⊨◌}
use Rattle.paper.specs.Next.{if, is_empty}
use Rattle.runs.specs.Order.{numbers, keep}
use Rattle.runs.proofs.Listing.{keep_yes, keep_no, keep_append}
use Rattle.runs.proofs.Numbers.{numbers_both}
use Rattle.meaning.specs.Looking.{how_many, judged_selecting, judged_otherwise, conditions_judged, goals_open, LookingLaws}

module _ {X : Type 0} (t : X → Bool) where
  pub many_yes : (x : X) (xs : List X) → t x ≡ true → how_many t (x ∷ xs) ≡ 1 + how_many t xs
  many_yes x xs e = ap length (keep_yes t x xs e) ∙ (let z : length (x ∷ keep t xs) ≡ 1 + length (keep t xs) = omega arith in z)

  pub many_no : (x : X) (xs : List X) → t x ≡ false → how_many t (x ∷ xs) ≡ how_many t xs
  many_no x xs e = ap length (keep_no t x xs e)

  pub many_most : (xs : List X) → how_many t xs ≤ length xs
  many_most [] = omega arith
  many_most (x ∷ xs) = go (t x) refl (many_most xs)
    where
      go : (b : Bool) → t x ≡ b → how_many t xs ≤ length xs → how_many t (x ∷ xs) ≤ length (x ∷ xs)
      go true e h = let m = many_yes x xs e in omega arith
      go false e h = let m = many_no x xs e in omega arith

-- what a list is made from passes as it does
pub many_made : {X Y : Type 0} (f : X → Y) (t : Y → Bool) (xs : List X) → how_many t (map f xs) ≡ how_many (λ x. t (f x)) xs
many_made f t [] = refl
many_made f t (x ∷ xs) = go (t (f x)) refl (many_made f t xs)
  where
    go : (b : Bool) → t (f x) ≡ b → how_many t (map f xs) ≡ how_many (λ x. t (f x)) xs → how_many t (map f (x ∷ xs)) ≡ how_many (λ x. t (f x)) (x ∷ xs)
    go true e h = many_yes t (f x) (map f xs) e ∙ ap (λ n. 1 + n) h ∙ sym (many_yes (λ x. t (f x)) x xs e)
    go false e h = many_no t (f x) (map f xs) e ∙ h ∙ sym (many_no (λ x. t (f x)) x xs e)

-- ---- how many of the numbers from one on pass a test

pub many_both : (t : ℕ → Bool) (k m n : ℕ) → how_many t (numbers k (m + n)) ≡ how_many t (numbers k m) + how_many t (numbers (k + m) n)
many_both t k m n =
    ap (how_many t) (numbers_both k m n) ∙ ap length (keep_append t (numbers k m) (numbers (k + m) n)) ∙ length-append (keep t (numbers k m)) (keep t (numbers (k + m) n))

pub many_same : (t u : ℕ → Bool) (k j n : ℕ) → ((i : ℕ) → t (k + i) ≡ u (j + i)) → how_many t (numbers k n) ≡ how_many u (numbers j n)
unfolding numbers
many_same t u k j zero h = refl
many_same t u k j (suc n) h = go (u j) refl (many_same t u (suc k) (suc j) n (λ i. (let a : suc k + i ≡ k + suc i = omega arith in let b : suc j + i ≡ j + suc i = omega arith in ap t a ∙ h (suc i) ∙ ap u (sym b))))
  where
    first : t k ≡ u j
    first = ap t (sym (add-zero k)) ∙ h 0 ∙ ap u (add-zero j)

    go : (b : Bool) → u j ≡ b → how_many t (numbers (suc k) n) ≡ how_many u (numbers (suc j) n) → how_many t (numbers k (suc n)) ≡ how_many u (numbers j (suc n))
    go true e ih = many_yes t k (numbers (suc k) n) (first ∙ e) ∙ ap (λ x. 1 + x) ih ∙ sym (many_yes u j (numbers (suc j) n) e)
    go false e ih = many_no t k (numbers (suc k) n) (first ∙ e) ∙ ih ∙ sym (many_no u j (numbers (suc j) n) e)

-- ---- the two numbers

module _ (A : Agent) (c : Config) where
  pub judged_selecting_lem : is_empty c.π ≡ true → conditions_judged A c ≡ judged_selecting A c
  unfolding conditions_judged
  judged_selecting_lem e = ap (λ b. if b (judged_selecting A c) (judged_otherwise A c)) e

  pub judged_otherwise_lem : is_empty c.π ≡ false → conditions_judged A c ≡ judged_otherwise A c
  unfolding conditions_judged
  judged_otherwise_lem e = ap (λ b. if b (judged_selecting A c) (judged_otherwise A c)) e

  pub most : length A.PS ≤ 256 → length A.AS ≤ 256 → length A.PR ≤ 256 → conditions_judged A c ≤ 512
  most s a r = go (is_empty c.π) refl
    where
      go : (b : Bool) → is_empty c.π ≡ b → conditions_judged A c ≤ 512
      go true e = let j = judged_selecting_lem e in let h = many_most (λ (x : Selection). c ⊨ x.β) A.PS in omega arith
      go false e =
          let j = judged_otherwise_lem e in
          let h : judged_otherwise A c ≤ length A.AS + length A.PR = add-le-add (many_most _ A.AS) (many_most _ A.PR) in
          omega arith

selection_more : (A : Agent) (r : Selection) (c : Config) → c.π ≡ []
    → conditions_judged (record { PS = r ∷ A.PS; PR = A.PR; AS = A.AS }) c ≡ if (c ⊨ r.β) 2 1 + conditions_judged A c
selection_more A r c e =
    let B : Agent = record { PS = r ∷ A.PS; PR = A.PR; AS = A.AS } in
    judged_selecting_lem B c (ap is_empty e) ∙ go (c ⊨ r.β) refl ∙ ap (λ n. if (c ⊨ r.β) 2 1 + n) (sym (judged_selecting_lem A c (ap is_empty e)))
  where
    t : Selection → Bool
    t x = c ⊨ x.β

    go : (b : Bool) → t r ≡ b → length (r ∷ A.PS) + how_many t (r ∷ A.PS) ≡ if b 2 1 + (length A.PS + how_many t A.PS)
    go true h = let m = many_yes t r A.PS h in omega arith
    go false h = let m = many_no t r A.PS h in omega arith

pub looking_laws : LookingLaws
unfolding conditions_judged goals_open
looking_laws = record {
  most = most;
  selection_more = selection_more;
  plan_alone = λ A σ σ'' γ γ'' a π. refl;
  goals_alone = λ σ σ'' γ π π''. refl;
}
