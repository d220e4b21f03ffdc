-- Laws of loops, each over any list or number: a loop that fills an array, and one that asks a question of every entry.
use mathlib.Core.Path.{◌≡◌, refl, sym, ap, ◌∙◌}
use mathlib.Core.Bool.{Bool, true, ◌&&◌, and-true, and_assoc}
use mathlib.Core.List.{List, ◌++◌, append-nil}
use Prim.Native.Nat.{ℕ, zero, suc, ◌+◌, ◌-◌, ◌≤◌, ◌<◌}
use native.Mathlib.Nat.{sub-zero}
use native.Mathlib.Numerals.{add-one}
use native.Mathlib.Omega.{arith}
use borrow.Author.Count.{below_more}
use lib.ListN.{length, get_or, set, take, drop, drop_of_length-le}
use lib.Seq.{take-suc, drop-cons, set_at, append_snoc, length-take-le, take_all, get_or-set_same, get_or-set_other}
use Rattle.runs.specs.Order.{numbers}
use Rattle.meaning.specs.Refusals.{all, every}

-- ---- an array filled from the front: after i turns, the first i elements of what it is to be, X, and what it was, d, behind

abbrev pub filled : {A : Type 0} → List A → List A → ℕ → List A
filled X d i = take i X ++ drop i d

module _ {A : Type 0} (X d : List A) where
  pub filled_turn : (i : ℕ) (z v : A) → i < length X → i < length d → v ≡ get_or X i z → set (filled X d i) i v ≡ filled X d (i + 1)
  filled_turn i z v g h e =
      rw (e, add-one, drop-cons d i z h, set_at (take i X) (get_or d i z) (drop (suc i) d) (get_or X i z) i (length-take-le i X (omega arith)), take-suc X i z g)
      (sym (append_snoc (take i X) (get_or X i z) (drop (suc i) d)))

  pub filled_all : (i : ℕ) → length X ≤ i → length d ≤ i → filled X d i ≡ X
  filled_all i g h = rw (take_all i X g, drop_of_length-le d h) (append-nil X)

-- ---- an array of which what stands below i is known

module _ {A : Type 0} (f : ℕ → A) (l : List A) (i : ℕ) (v z : A) where
  pub below_turn : i < length l → ((j : ℕ) → j < i → get_or l j z ≡ f j) → v ≡ f i → (j : ℕ) → j < i + 1 → get_or (set l i v) j z ≡ f j
  below_turn h low e =
      below_more (λ (j : ℕ). get_or (set l i v) j z ≡ f j) i
      (λ j hj. get_or-set_other l i j v z (omega arith) ∙ low j hj)
      (get_or-set_same l i v z h ∙ e)

-- ---- a question asked of every element of a list from the n-th on: what was found up to the i-th, and what is left to ask

module _ {A : Type 0} (t : A → Bool) (xs : List A) (n : ℕ) where
  abbrev pub Found : Bool → ℕ → Type 0
  Found ok i = ok && all t (drop i xs) ≡ all t (drop n xs)

  pub found_turn : (ok : Bool) (i : ℕ) (z : A) → i < length xs → Found ok i → Found (ok && t (get_or xs i z)) (i + 1)
  found_turn ok i z h e =
      let s : all t (drop i xs) ≡ t (get_or xs i z) && all t (drop (i + 1) xs) = rw (add-one, drop-cons xs i z h) in
      and_assoc ok (t (get_or xs i z)) (all t (drop (i + 1) xs)) ∙ ap (λ b. ok && b) (sym s) ∙ e

  -- what is true of all elements below the i-th need not be asked
  pub found_below : (z : A) (i : ℕ) → i ≤ length xs → ((j : ℕ) → j < i → t (get_or xs j z) ≡ true) → all t xs ≡ all t (drop n xs) → Found true i
  found_below z zero h low e = e
  found_below z (suc i) h low e =
      let f = found_turn true i z (omega arith) (found_below z i (omega arith) (λ j l. low j (omega arith)) e) in
      rw (low i (omega arith), add-one i) at f

  pub found_all : (ok : Bool) (i : ℕ) → length xs ≤ i → Found ok i → ok ≡ all t (drop n xs)
  found_all ok i h e =
      let s : all t (drop i xs) ≡ true = rw (drop_of_length-le xs h) in
      sym (ap (λ b. ok && b) s ∙ and-true ok) ∙ e

-- ---- the same, of every number below n

module _ (t : ℕ → Bool) (n : ℕ) where
  -- one turn: with what is found at i, what is left after i tells as much as what was left from i on
  pub all_turn : (a b : Bool) (i : ℕ) → i < n → b ≡ t i → (a && b) && all t (numbers (i + 1) (n - (i + 1))) ≡ a && all t (numbers i (n - i))
  unfolding numbers
  all_turn a b i h e =
      let k : n - i ≡ suc (n - (i + 1)) = omega arith in
      let s : all t (numbers i (n - i)) ≡ t i && all t (numbers (i + 1) (n - (i + 1))) = rw (k, add-one i) in
      and_assoc a b _ ∙ ap (λ x. a && x) (ap (λ x. x && all t (numbers (i + 1) (n - (i + 1)))) e ∙ sym s)

  abbrev pub Kept : Bool → ℕ → Type 0
  Kept ok i = ok && all t (numbers i (n - i)) ≡ every n t

  pub kept_start : Kept true 0
  kept_start = rw sub-zero

  pub kept_turn : (ok : Bool) (i : ℕ) → i < n → Kept ok i → Kept (ok && t i) (i + 1)
  kept_turn ok i h e = all_turn ok (t i) i h refl ∙ e

  pub kept_all : (ok : Bool) (i : ℕ) → n ≤ i → Kept ok i → ok ≡ every n t
  unfolding numbers
  kept_all ok i h e =
      let k : n - i ≡ 0 = omega arith in
      let s : all t (numbers i (n - i)) ≡ true = rw k in
      sym (ap (λ b. ok && b) s ∙ and-true ok) ∙ e
