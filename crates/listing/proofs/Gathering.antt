-- The codes of the enabled choices, gathered one after another into a set of codes.
use mathlib.Core.Path.{◌≡◌, refl, ap, ap₂, ◌∙◌, sym}
use mathlib.Core.Bool.{Bool, true, false, ◌&&◌, and-false}
use mathlib.Core.List.{List, [], ◌∷◌, ◌++◌, map, append-nil, map-append}
use Prim.Native.Nat.{ℕ, zero, suc, ◌+◌, ◌-◌, ◌*◌, ◌/◌, ◌%◌, ◌≤◌, ◌<◌}
use native.Mathlib.Nat.{add-zero, zero-add}
use native.Mathlib.Decide.{dec_lt}
use native.Mathlib.Omega.{arith}
use borrow.Author.Tests.{lt-ltb, le-ltb}
use lib.Dec.{ltb}
use lib.ListN.{length, replicate, length-append}
use Rattle.paper.specs.Transitions.{Choice}
use Rattle.paper.specs.Next.{enabled}
use Rattle.paper.specs.Atoms.{Atoms, ◌∈◌}
use Rattle.runs.specs.Order.{kind, number, code, numbers, of_kind, in_turn, keep, enabled_codes}
use Rattle.runs.proofs.Order.{each_kind}
use Rattle.runs.proofs.Listing.{keep_yes, keep_no, keep_append}
use Rattle.runs.proofs.Numbers.{numbers_both}
use Rattle.meaning.specs.declared.Layout.{Layout}
use Rattle.meaning.specs.declared.Configuration.{Configuration}
use Rattle.meaning.specs.Card.{Bytes, agent_for}
use Rattle.meaning.specs.Configurations.{state_of}
use Rattle.layout.specs.Entries.{count_of}
use Rattle.door.specs.Asking.{choice_at}
use Rattle.door.proofs.Asking.{past_last}
use Rattle.door.proofs.First.{of_kind_lem}
use Rattle.sets.specs.Sets.{with_member}
use Rattle.sets.proofs.Members.{passing_none, passing_yes}
use Rattle.listing.specs.Listed.{enabled_code, codes_of, codes_in, Gathered, CardCodes}

-- ---- the codes that pass a test, of any numbers

module _ (t : ℕ → Bool) where
  here : (k n : ℕ) → t k ≡ true → codes_of t k (suc n) ≡ k ∷ codes_of t (suc k) n
  unfolding codes_of numbers
  here k n e = keep_yes t k (numbers (suc k) n) e

  passed : (k n : ℕ) → t k ≡ false → codes_of t k (suc n) ≡ codes_of t (suc k) n
  unfolding codes_of numbers
  passed k n e = keep_no t k (numbers (suc k) n) e

  pub codes_append : (k m n : ℕ) → codes_of t k (m + n) ≡ codes_of t k m ++ codes_of t (k + m) n
  unfolding codes_of
  codes_append k m n = ap (keep t) (numbers_both k m n) ∙ keep_append t (numbers k m) (numbers (k + m) n)

  pub codes_none : (k n : ℕ) → ((i : ℕ) → i < n → t (k + i) ≡ false) → codes_of t k n ≡ []
  unfolding codes_of numbers
  codes_none k zero h = refl
  codes_none k (suc n) h =
      passed k n (ap t (sym (add-zero k)) ∙ h 0 (omega arith))
      ∙ codes_none (suc k) n (λ i l. (let e : suc k + i ≡ k + suc i = omega arith in ap t e ∙ h (suc i) (omega arith)))

  -- one code more
  pub codes_yes : (k n : ℕ) → t (k + n) ≡ true → codes_of t k (n + 1) ≡ codes_of t k n ++ ((k + n) ∷ [])
  unfolding codes_of numbers
  codes_yes k n e = codes_append k n 1 ∙ ap (λ (xs : List ℕ). codes_of t k n ++ xs) (here (k + n) 0 e)

  -- more codes, none of which passes
  pub codes_no : (k m n : ℕ) → ((i : ℕ) → i < n → t (k + m + i) ≡ false) → codes_of t k (m + n) ≡ codes_of t k m
  codes_no k m n h = codes_append k m n ∙ ap (λ (xs : List ℕ). codes_of t k m ++ xs) (codes_none (k + m) n h) ∙ append-nil (codes_of t k m)

  pub codes_few : (k n : ℕ) → length (codes_of t k n) ≤ n
  unfolding codes_of numbers
  codes_few k zero = omega arith
  codes_few k (suc n) = go (t k) refl (codes_few (suc k) n)
    where
      go : (b : Bool) → t k ≡ b → length (codes_of t (suc k) n) ≤ n → length (codes_of t k (suc n)) ≤ suc n
      go true h ih = rw (here k n h) (omega arith)
      go false h ih = rw (passed k n h) (omega arith)

pub codes_same : (t u : ℕ → Bool) (k n : ℕ) → ((i : ℕ) → i < n → t (k + i) ≡ u (k + i)) → codes_of t k n ≡ codes_of u k n
unfolding codes_of numbers
codes_same t u k zero h = refl
codes_same t u k (suc n) h =
    go (u k) refl (codes_same t u (suc k) n (λ i l. (let e : suc k + i ≡ k + suc i = omega arith in ap t e ∙ h (suc i) (omega arith) ∙ ap u (sym e))))
  where
    first : t k ≡ u k
    first = let e = add-zero k in ap t (sym e) ∙ h 0 (omega arith) ∙ ap u e

    go : (b : Bool) → u k ≡ b → codes_of t (suc k) n ≡ codes_of u (suc k) n → codes_of t k (suc n) ≡ codes_of u k (suc n)
    go true e ih = here t k n (first ∙ e) ∙ ap (λ (xs : List ℕ). k ∷ xs) ih ∙ sym (here u k n e)
    go false e ih = passed t k n (first ∙ e) ∙ ih ∙ sym (passed u k n e)

-- ---- a set of the codes below a number that pass a test

module _ (t : ℕ → Bool) where
  pub gathered_none : (n : ℕ) → Gathered t 0 (replicate n 0) 0
  unfolding codes_of numbers
  gathered_none n = record { each = passing_none t n; many = refl }

  module _ (x : ℕ) (s : Atoms) (n : ℕ) (g : Gathered t x s n) where
    pub gathered_yes : t x ≡ true → x / 8 < length s → Gathered t (x + 1) (with_member x s) (n + 1)
    gathered_yes e h = record {
      each = passing_yes t x s g.each e h;
      many =
          let m = g.many in
          let l = length-append (codes_of t 0 x) ((0 + x) ∷ []) in
          let c = ap length (codes_yes t 0 x (ap t (zero-add x) ∙ e)) in
          omega arith;
    }

    pub gathered_past : (m : ℕ) → ((i : ℕ) → i < m → t (x + i) ≡ false) → Gathered t (x + m) s n
    gathered_past m h = record {
      each = λ k. (g.each k ∙ more k);
      many = g.many ∙ ap length (sym (codes_no t 0 x m (λ i l. (let e : 0 + x + i ≡ x + i = omega arith in ap t e ∙ h i l))));
    }
      where
        more : (k : ℕ) → (ltb k x && t k) ≡ (ltb k (x + m) && t k)
        more k = elim (dec_lt k x) [
          | yes l ↦ rw (lt-ltb k x l, lt-ltb k (x + m) (omega arith))
          | no l ↦ elim (dec_lt k (x + m)) [
            | yes r ↦
                let e : k ≡ x + (k - x) = omega arith in
                rw (le-ltb k x (omega arith), lt-ltb k (x + m) r) (sym (ap t e ∙ h (k - x) (omega arith)))
            | no r ↦ rw (le-ltb k x (omega arith), le-ltb k (x + m) (omega arith))
          ]
        ]

    pub gathered_all : codes_in s 0 x ≡ codes_of t 0 x
    gathered_all = codes_same (λ k. k ∈ s) t 0 x (λ i l. g.each (0 + i) ∙ ap (λ b. b && t (0 + i)) (lt-ltb (0 + i) x (omega arith)))

    pub gathered_many : n ≡ length (codes_in s 0 x)
    gathered_many = g.many ∙ ap length (sym gathered_all)

    pub gathered_few : n ≤ x
    gathered_few = let m = g.many in let f = codes_few t 0 x in omega arith

    pub gathered_no : t x ≡ false → Gathered t (x + 1) s n
    gathered_no e = gathered_past 1 (λ i l. (let z : x + i ≡ x = omega arith in ap t z ∙ e))

-- ---- the enabled choices

-- "256 times the kind … plus the number"
code_at : (k i : ℕ) → k < 3 → code (choice_at k i) ≡ 256 * k + i
unfolding code kind number
code_at k i = each_kind (λ k. code (choice_at k i) ≡ 256 * k + i) refl refl refl k

module _ (l : Layout) (b : Bytes) (c : Configuration) (kind : ℕ) where
  -- the choice of a code
  pub enabled_at : (i : ℕ) → i < 256 → enabled_code l b c (256 * kind + i) ≡ enabled (agent_for l b) (state_of c).mental (choice_at kind i)
  enabled_at i h =
      let d : (256 * kind + i) / 256 ≡ kind = omega arith in
      let m : (256 * kind + i) % 256 ≡ i = omega arith in
      ap₂ (λ k n. enabled (agent_for l b) (state_of c).mental (choice_at k n)) d m

  -- no choice past a kind's last
  pub none_enabled : (i : ℕ) → count_of l kind ≤ i → i < 256 → enabled_code l b c (256 * kind + i) ≡ false
  none_enabled i h e = enabled_at i e ∙ past_last l b (state_of c).mental kind i h

  -- the codes of a kind from the i-th choice on
  codes_from : (i n : ℕ) → kind < 3 → i + n ≤ 256 → map code (keep (enabled (agent_for l b) (state_of c).mental) (map (choice_at kind) (numbers i n))) ≡ codes_of (enabled_code l b c) (256 * kind + i) n
  unfolding codes_of numbers
  codes_from i zero h e = refl
  codes_from i (suc n) h e = go (t (choice_at kind i)) refl (codes_from (suc i) n h (omega arith))
    where
      t : Choice → Bool
      t = enabled (agent_for l b) (state_of c).mental

      next : 256 * kind + suc i ≡ suc (256 * kind + i)
      next = omega arith

      go : (r : Bool) → t (choice_at kind i) ≡ r → map code (keep t (map (choice_at kind) (numbers (suc i) n))) ≡ codes_of (enabled_code l b c) (256 * kind + suc i) n
          → map code (keep t (choice_at kind i ∷ map (choice_at kind) (numbers (suc i) n))) ≡ codes_of (enabled_code l b c) (256 * kind + i) (suc n)
      go true q ih =
          ap (map code) (keep_yes t (choice_at kind i) (map (choice_at kind) (numbers (suc i) n)) q)
          ∙ ap₂ ◌∷◌ (code_at kind i h) (ih ∙ ap (λ x. codes_of (enabled_code l b c) x n) next)
          ∙ sym (here (enabled_code l b c) (256 * kind + i) n (enabled_at i (omega arith) ∙ q))
      go false q ih =
          ap (map code) (keep_no t (choice_at kind i) (map (choice_at kind) (numbers (suc i) n)) q)
          ∙ ih ∙ ap (λ x. codes_of (enabled_code l b c) x n) next
          ∙ sym (passed (enabled_code l b c) (256 * kind + i) n (enabled_at i (omega arith) ∙ q))

  -- all codes of a kind
  kind_codes : kind < 3 → count_of l kind ≤ 256 → map code (keep (enabled (agent_for l b) (state_of c).mental) (of_kind (agent_for l b) kind)) ≡ codes_of (enabled_code l b c) (256 * kind) 256
  kind_codes h e =
      let n = count_of l kind in
      let d : n + (256 - n) ≡ 256 = omega arith in
      ap (λ (ks : List Choice). map code (keep (enabled (agent_for l b) (state_of c).mental) ks)) (of_kind_lem l b kind)
      ∙ codes_from 0 n h (omega arith)
      ∙ ap (λ x. codes_of (enabled_code l b c) x n) (add-zero (256 * kind))
      ∙ sym (codes_no (enabled_code l b c) (256 * kind) n (256 - n) (λ i g. (let q : 256 * kind + n + i ≡ 256 * kind + (n + i) = omega arith in ap (enabled_code l b c) q ∙ none_enabled (n + i) (omega arith) (omega arith))))
      ∙ ap (codes_of (enabled_code l b c) (256 * kind)) d

codes_both : (t : Choice → Bool) (xs ys : List Choice) → map code (keep t (xs ++ ys)) ≡ map code (keep t xs) ++ map code (keep t ys)
codes_both t xs ys = ap (map code) (keep_append t xs ys) ∙ map-append code (keep t xs) (keep t ys)

-- the three kinds
module _ (l : Layout) (b : Bytes) (c : Configuration) (few : (kind : ℕ) → count_of l kind ≤ 256) where
  pub all_codes : codes_of (enabled_code l b c) 0 768 ≡ enabled_codes (agent_for l b) (state_of c).mental
  unfolding enabled_codes in_turn
  all_codes =
      let A = agent_for l b in
      let t = enabled A (state_of c).mental in
      let T = enabled_code l b c in
      codes_append T 0 256 512
      ∙ ap (λ (xs : List ℕ). codes_of T 0 256 ++ xs) (codes_append T 256 256 256)
      ∙ ap₂ ◌++◌ (sym (kind_codes l b c 0 (omega arith) (few 0))) (ap₂ ◌++◌ (sym (kind_codes l b c 1 (omega arith) (few 1))) (sym (kind_codes l b c 2 (omega arith) (few 2))))
      ∙ ap (λ (xs : List ℕ). map code (keep t (of_kind A 0)) ++ xs) (sym (codes_both t (of_kind A 1) (of_kind A 2)))
      ∙ sym (codes_both t (of_kind A 0) (of_kind A 1 ++ of_kind A 2))

  -- in a set of them there is no code past a kind's last
  pub card_codes : (s : Atoms) (n : ℕ) → Gathered (enabled_code l b c) 768 s n → length s ≡ 96 → CardCodes l s
  card_codes s n g h = record {
    few = few;
    none_behind = λ kind i k e f. (g.each (256 * kind + i) ∙ ap (λ r. ltb (256 * kind + i) 768 && r) (none_enabled l b c kind i e f) ∙ and-false (ltb (256 * kind + i) 768));
    long = h;
  }
