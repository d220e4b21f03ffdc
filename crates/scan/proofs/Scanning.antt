-- A scan from a place of a text on: over the next byte, where there is none, and over the parts of a line.
use mathlib.Core.Path.{◌≡◌, refl, ap, sym, ◌∙◌}
use mathlib.Core.Bool.{Bool, true, false, ◌&&◌, and-eq-true_iff}
use mathlib.Core.List.{[], ◌∷◌}
use mathlib.Core.Option.{Option, none, some}
use Prim.Native.Nat.{ℕ, zero, suc, ◌+◌, ◌≤◌, ◌<◌}
use native.Mathlib.Omega.{arith}
use borrow.Author.Tests.{ne_eqb, eq-eqb, eqb-true, eqb-false}
use native.Mathlib.Decide.{dec_le}
use Rattle.paper.proofs.Relation.{false≢true}
use Rattle.notation.specs.Values.{list_goes_on}
use Rattle.conditions.proofs.Numbers.{drop_none}
use lib.Dec.{eqb}
use lib.ListN.{length, drop, get_or}
use lib.Seq.{drop-cons}
use Rattle.meaning.specs.Card.{Bytes}
use Rattle.notation.specs.Scanning.{ScanState, rest, number, digits, list, spaced, list_end, spaced_end, end, remark, digit, when, step, accepts, later, at-end, next, judge}
use Rattle.scan.specs.declared.scan.Wrong.{Wrong}
use Rattle.std.proofs.Common.{Result, Ok, Err}
use Rattle.std.specs.Result.{IsErrAnd}
use Rattle.scan.specs.Scans.{from_there, scan_from, Scans, ListOver}

-- ---- the next byte

module _ (t : Bytes) (n : ℕ) (q : ScanState) where
  one_on : (o : Option ℕ) → from_there n (later o) ≡ from_there (suc n) o
  one_on none = refl
  one_on (some p) = ap some (let e : n + suc p ≡ suc n + p = omega arith in e)

  -- what the next byte comes to
  scan_byte : n < length t → scan_from t n q ≡ from_there n (next (step q (get_or t n 0)) (judge (drop (suc n) t)))
  unfolding judge
  scan_byte h = ap (λ s. from_there n (judge s q)) (drop-cons t n 0 h)

  pub scan_on : (q' : ScanState) → n < length t → step q (get_or t n 0) ≡ some q' → scan_from t n q ≡ scan_from t (suc n) q'
  scan_on q' h e = scan_byte h ∙ ap (λ o. from_there n (next o (judge (drop (suc n) t)))) e ∙ one_on (judge (drop (suc n) t) q')

  pub scan_wrong : n < length t → step q (get_or t n 0) ≡ none → scan_from t n q ≡ some n
  scan_wrong h e = scan_byte h ∙ ap (λ o. from_there n (next o (judge (drop (suc n) t)))) e ∙ ap some (let z : n + 0 ≡ n = omega arith in z)

  pub scan_short : n ≡ length t → accepts q ≡ false → scan_from t n q ≡ some n
  unfolding judge
  scan_short h e = ap (λ s. from_there n (judge s q)) (drop_none t n h) ∙ ap (λ b. from_there n (at-end b)) e ∙ ap some (let z : n + 0 ≡ n = omega arith in z)

-- ---- words

rest_none : (t : Bytes) (k : ScanState) → judge t (rest [] k) ≡ judge t k
unfolding judge accepts step
rest_none [] k = refl
rest_none (x ∷ t) k = refl

module _ (t w : Bytes) (n i : ℕ) (k : ScanState) where
  -- at the end of the word
  pub word_over : i ≡ length w → scan_from t n (rest (drop i w) k) ≡ scan_from t n k
  word_over e = ap (λ v. scan_from t n (rest v k)) (drop_none w i e) ∙ ap (from_there n) (rest_none (drop n t) k)

  module _ (more : i < length w) where
    -- at its next byte
    here : rest (drop i w) k ≡ rest (get_or w i 0 ∷ drop (suc i) w) k
    here = ap (λ v. rest v k) (drop-cons w i 0 more)

    pub word_short : n ≡ length t → scan_from t n (rest (drop i w) k) ≡ some n
    unfolding accepts
    word_short e = scan_short t n (rest (drop i w) k) e (ap accepts here)

    module _ (h : n < length t) where
      pub word_wrong : (get_or t n 0 ≡ get_or w i 0 → ⊥) → scan_from t n (rest (drop i w) k) ≡ some n
      unfolding step
      word_wrong x = scan_wrong t n (rest (drop i w) k) h (ap (λ q. step q (get_or t n 0)) here ∙ ap (λ b. when b (rest (drop (suc i) w) k) none) (ne_eqb _ _ x))

      pub word_on : get_or t n 0 ≡ get_or w i 0 → scan_from t n (rest (drop i w) k) ≡ scan_from t (n + 1) (rest (drop (i + 1) w) k)
      unfolding step
      word_on e =
          scan_on t n (rest (drop i w) k) (rest (drop (suc i) w) k) h
          (ap (λ q. step q (get_or t n 0)) here ∙ ap (λ b. when b (rest (drop (suc i) w) k) none) (eq-eqb _ _ e))
          ∙ (let p : suc n ≡ n + 1 = omega arith in let r : suc i ≡ i + 1 = omega arith in λ j. scan_from t (p j) (rest (drop (r j) w) k))

-- ---- numbers and remarks

module _ (t : Bytes) (n : ℕ) (k : ScanState) where
  pub digits-over : n ≡ length t → scan_from t n (digits k) ≡ scan_from t n k
  unfolding judge accepts
  digits-over e = ap (λ s. from_there n (judge s (digits k))) (drop_none t n e) ∙ sym (ap (λ s. from_there n (judge s k)) (drop_none t n e))

  pub number_short : n ≡ length t → scan_from t n (number k) ≡ some n
  unfolding accepts
  number_short e = scan_short t n (number k) e refl

  pub remark_short : n ≡ length t → scan_from t n (remark k) ≡ some n
  unfolding accepts
  remark_short e = scan_short t n (remark k) e refl

  module _ (h : n < length t) where
    abbrev x : ℕ
    x = get_or t n 0

    pub up : (q : ScanState) → scan_from t (suc n) q ≡ scan_from t (n + 1) q
    up q = let p : suc n ≡ n + 1 = omega arith in λ j. scan_from t (p j) q

    pub digits-stop : digit x ≡ false → scan_from t n (digits k) ≡ scan_from t n k
    unfolding step
    digits-stop e = scan_byte t n (digits k) h ∙ ap (λ b. from_there n (next (when b (digits k) (step k x)) (judge (drop (suc n) t)))) e ∙ sym (scan_byte t n k h)

    pub digits_on : digit x ≡ true → scan_from t n (digits k) ≡ scan_from t (n + 1) (digits k)
    unfolding step
    digits_on e = scan_on t n (digits k) (digits k) h (ap (λ b. when b (digits k) (step k x)) e) ∙ up (digits k)

    pub number_wrong : digit x ≡ false → scan_from t n (number k) ≡ some n
    unfolding step
    number_wrong e = scan_wrong t n (number k) h (ap (λ b. when b (digits k) none) e)

    pub number_on : digit x ≡ true → scan_from t n (number k) ≡ scan_from t (n + 1) (digits k)
    unfolding step
    number_on e = scan_on t n (number k) (digits k) h (ap (λ b. when b (digits k) none) e) ∙ up (digits k)

    pub remark_over : x ≡ 10 → scan_from t n (remark k) ≡ scan_from t (n + 1) k
    unfolding step
    remark_over e = scan_on t n (remark k) k h (ap (λ b. when b k (some (remark k))) (eq-eqb x 10 e)) ∙ up k

    pub remark_on : (x ≡ 10 → ⊥) → scan_from t n (remark k) ≡ scan_from t (n + 1) (remark k)
    unfolding step
    remark_on e = scan_on t n (remark k) (remark k) h (ap (λ b. when b k (some (remark k))) (ne_eqb x 10 e)) ∙ up (remark k)

-- ---- the end of a line, and lists

-- two states that the next byte leads to the same, and where no byte comes neither accepts
pub alike : (t : Bytes) (n : ℕ) (p q : ScanState) → n < length t → step p (get_or t n 0) ≡ step q (get_or t n 0) → scan_from t n p ≡ scan_from t n q
alike t n p q h e = scan_byte t n p h ∙ ap (λ o. from_there n (next o (judge (drop (suc n) t)))) e ∙ sym (scan_byte t n q h)

pub short_alike : (t : Bytes) (n : ℕ) (p q : ScanState) → n ≡ length t → accepts p ≡ false → accepts q ≡ false → scan_from t n p ≡ scan_from t n q
short_alike t n p q h e f = scan_short t n p h e ∙ sym (scan_short t n q h f)

module _ (t : Bytes) (n : ℕ) (k : ScanState) where
  abbrev hashed : ScanState
  hashed = rest (32 ∷ (35 ∷ [])) (remark k)

  pub end_short : n ≡ length t → scan_from t n (end k) ≡ some n
  unfolding accepts
  end_short e = scan_short t n (end k) e refl

  pub end_over : n < length t → get_or t n 0 ≡ 10 → scan_from t n (end k) ≡ scan_from t (n + 1) k
  unfolding step
  end_over h e = scan_on t n (end k) k h (ap (λ b. when b k (when (eqb (get_or t n 0) 32) (rest (35 ∷ []) (remark k)) none)) (eq-eqb _ _ e)) ∙ up t n k h k

  pub end_hash : n < length t → (get_or t n 0 ≡ 10 → ⊥) → scan_from t n (end k) ≡ scan_from t n hashed
  unfolding step
  end_hash h e = alike t n (end k) hashed h (ap (λ b. when b k (when (eqb (get_or t n 0) 32) (rest (35 ∷ []) (remark k)) none)) (ne_eqb _ _ e))

-- ---- it went wrong in a part

pub failed : (t : Bytes) (n : ℕ) (A h : ScanState → ScanState) (r : Result ℕ Wrong) (e : Wrong) → IsErrAnd r (λ y. y ≡ e) → ((k : ScanState) → scan_from t n (A k) ≡ some e.at) → Scans t n A h r
failed t n A h (Ok m) e q f = absurd q
failed t n A h (Err y) e q f = λ k. f k ∙ ap (λ (x : Wrong). some x.at) (sym q)

-- ---- parts one behind the other: B is scanned from m on, and A from n on comes to it

module _ (t : Bytes) (B g : ScanState → ScanState) (m : ℕ) (n : ℕ) (A h f : ScanState → ScanState) (a : (k : ScanState) → scan_from t n (A k) ≡ scan_from t m (B (f k))) where
  pub chained : (r : Result ℕ Wrong) → Scans t m B g r → n ≤ m → ((k : ScanState) → g (f k) ≡ h k) → Scans t n A h r
  chained (Ok i) b p q = (let z = b.0 in omega arith, b.1, λ k. a k ∙ b.2 (f k) ∙ ap (scan_from t i) (q k))
  chained (Err e) b p q = λ k. a k ∙ b (f k)

-- ---- lists

module _ (t : Bytes) (n : ℕ) where
  pub list_over : n ≡ length t → ListOver t n n
  unfolding accepts
  list_over e = (omega arith, omega arith, (λ c w k. short_alike t n (list (c ∷ w) k) (rest (32 ∷ (c ∷ w)) k) e refl refl), λ k. short_alike t n (list_end k) (end k) e refl refl)

  module _ (h : n < length t) where
    abbrev y : ℕ
    y = get_or t n 0

    -- no space
    pub list_none : (y ≡ 32 → ⊥) → ListOver t n n
    unfolding step
    list_none e =
        let f = ne_eqb y 32 e in (
          omega arith,
          omega arith,
          (λ c w k. alike t n (list (c ∷ w) k) (rest (32 ∷ (c ∷ w)) k) h ((λ i. when (f i) (spaced (c ∷ w) k) none) ∙ sym (λ i. when (f i) (rest (c ∷ w) k) none))),
          λ k. alike t n (list_end k) (end k) h ((λ i. when (eqb y 10) k (when (f i) (spaced_end k) none)) ∙ sym (λ i. when (eqb y 10) k (when (f i) (rest (35 ∷ []) (remark k)) none))),
        )

    -- a space
    module _ (e : y ≡ 32) where
      abbrev f : eqb y 32 ≡ true
      f = eq-eqb y 32 e

      no_LF : eqb y 10 ≡ false
      no_LF = ap (λ z. eqb z 10) e

      list_spaced : (w : Bytes) (k : ScanState) → scan_from t n (list w k) ≡ scan_from t (suc n) (spaced w k)
      unfolding step
      list_spaced w k = scan_on t n (list w k) (spaced w k) h (λ i. when (f i) (spaced w k) none)

      rest_spaced : (w : Bytes) (k : ScanState) → scan_from t n (rest (32 ∷ w) k) ≡ scan_from t (suc n) (rest w k)
      unfolding step
      rest_spaced w k = scan_on t n (rest (32 ∷ w) k) (rest w k) h (λ i. when (f i) (rest w k) none)

      ends_spaced : (k : ScanState) → scan_from t n (list_end k) ≡ scan_from t (suc n) (spaced_end k)
      unfolding step
      ends_spaced k = scan_on t n (list_end k) (spaced_end k) h ((λ i. when (no_LF i) k (when (eqb y 32) (spaced_end k) none)) ∙ (λ i. when (f i) (spaced_end k) none))

      end_spaced : (k : ScanState) → scan_from t n (end k) ≡ scan_from t (suc n) (rest (35 ∷ []) (remark k))
      unfolding step
      end_spaced k = scan_on t n (end k) (rest (35 ∷ []) (remark k)) h ((λ i. when (no_LF i) k (when (eqb y 32) (rest (35 ∷ []) (remark k)) none)) ∙ (λ i. when (f i) (rest (35 ∷ []) (remark k)) none))

      -- and the text ends
      pub list_last : suc n ≡ length t → ListOver t n n
      unfolding accepts
      list_last l = (
        omega arith,
        omega arith,
        (λ c w k. list_spaced (c ∷ w) k ∙ short_alike t (suc n) (spaced (c ∷ w) k) (rest (c ∷ w) k) l refl refl ∙ sym (rest_spaced (c ∷ w) k)),
        λ k. ends_spaced k ∙ short_alike t (suc n) (spaced_end k) (rest (35 ∷ []) (remark k)) l refl refl ∙ sym (end_spaced k),
      )

      module _ (l : suc n < length t) where
        abbrev z : ℕ
        z = get_or t (suc n) 0

        hash_alike : (k : ScanState) → digit z ≡ false → scan_from t (suc n) (spaced_end k) ≡ scan_from t (suc n) (rest (35 ∷ []) (remark k))
        unfolding step
        hash_alike k d = go (eqb z 35) refl
          where
            go : (b : Bool) → eqb z 35 ≡ b → scan_from t (suc n) (spaced_end k) ≡ scan_from t (suc n) (rest (35 ∷ []) (remark k))
            go true q =
                scan_on t (suc n) (spaced_end k) (remark k) l ((λ i. when (d i) (digits (list_end k)) (when (eqb z 35) (remark k) none)) ∙ (λ i. when (q i) (remark k) none))
                ∙ sym (ap (from_there (suc (suc n))) (rest_none (drop (suc (suc n)) t) (remark k)))
                ∙ sym (scan_on t (suc n) (rest (35 ∷ []) (remark k)) (rest [] (remark k)) l (λ i. when (q i) (rest [] (remark k)) none))
            go false q =
                scan_wrong t (suc n) (spaced_end k) l ((λ i. when (d i) (digits (list_end k)) (when (eqb z 35) (remark k) none)) ∙ (λ i. when (q i) (remark k) none))
                ∙ sym (scan_wrong t (suc n) (rest (35 ∷ []) (remark k)) l (λ i. when (q i) (rest [] (remark k)) none))

        -- and no digit
        pub list_word : digit z ≡ false → ListOver t n n
        unfolding step
        list_word d = (
          omega arith,
          omega arith,
          (λ c w k.
              list_spaced (c ∷ w) k
              ∙ alike t (suc n) (spaced (c ∷ w) k) (rest (c ∷ w) k) l (λ i. when (d i) (digits (list (c ∷ w) k)) (when (eqb z c) (rest w k) none))
              ∙ sym (rest_spaced (c ∷ w) k)),
          λ k. ends_spaced k ∙ hash_alike k d ∙ sym (end_spaced k),
        )

        -- and a digit
        pub list_on : digit z ≡ true → (c : ℕ) (w : Bytes) (k : ScanState) → scan_from t n (list (c ∷ w) k) ≡ scan_from t (n + 2) (digits (list (c ∷ w) k))
        unfolding step
        list_on d c w k =
            list_spaced (c ∷ w) k
            ∙ scan_on t (suc n) (spaced (c ∷ w) k) (digits (list (c ∷ w) k)) l (λ i. when (d i) (digits (list (c ∷ w) k)) (when (eqb z c) (rest w k) none))
            ∙ (let p : suc (suc n) ≡ n + 2 = omega arith in λ j. scan_from t (p j) (digits (list (c ∷ w) k)))

        pub list_end_on : digit z ≡ true → (k : ScanState) → scan_from t n (list_end k) ≡ scan_from t (n + 2) (digits (list_end k))
        unfolding step
        list_end_on d k =
            ends_spaced k
            ∙ scan_on t (suc n) (spaced_end k) (digits (list_end k)) l (λ i. when (d i) (digits (list_end k)) (when (eqb z 35) (remark k) none))
            ∙ (let p : suc (suc n) ≡ n + 2 = omega arith in λ j. scan_from t (p j) (digits (list_end k)))

-- whether a space and a digit come
pub goes_here : (t : Bytes) (n : ℕ) → list_goes_on (drop n t) ≡ true → (suc n < length t) × (get_or t n 0 ≡ 32) × (digit (get_or t (suc n) 0) ≡ true)
goes_here [] zero e = absurd (false≢true e)
goes_here [] (suc n) e = absurd (false≢true e)
goes_here (x ∷ []) zero e = absurd (false≢true e)
goes_here (x ∷ (y ∷ t)) zero e =
    let both = (and-eq-true_iff (eqb x 32) (digit y)).0 e in
    (omega arith, eqb-true x 32 both.0, both.1)
goes_here (x ∷ t) (suc n) e = let r = goes_here t n e in let l = r.0 in (omega arith, r.1, r.2)

goes_not : (t : Bytes) (n : ℕ) → list_goes_on (drop n t) ≡ false → suc n < length t → get_or t n 0 ≡ 32 → digit (get_or t (suc n) 0) ≡ false
goes_not [] n e l s = absurd (omega arith)
goes_not (x ∷ []) n e l s = absurd (omega arith)
goes_not (x ∷ (y ∷ t)) zero e l s = sym (ap (λ b. b && digit y) (eq-eqb x 32 s)) ∙ e
goes_not (x ∷ (y ∷ t)) (suc n) e l s = goes_not (y ∷ t) n e (omega arith) s

pub list_stops : (t : Bytes) (n : ℕ) → n ≤ length t → list_goes_on (drop n t) ≡ false → ListOver t n n
list_stops t n h e = elim (dec_le (length t) n) [
  | yes l ↦ list_over t n (omega arith)
  | no l ↦ within (omega arith)
]
  where
    within : n < length t → ListOver t n n
    within m = by (eqb (get_or t n 0) 32) refl
      where
        by : (b : Bool) → eqb (get_or t n 0) 32 ≡ b → ListOver t n n
        by false f = list_none t n m (eqb-false _ _ f)
        by true f =
            let s = eqb-true (get_or t n 0) 32 f in
            elim (dec_le (length t) (suc n)) [
              | yes l ↦ list_last t n m s (omega arith)
              | no l ↦ list_word t n m s (omega arith) (goes_not t n e (omega arith) s)
            ]

-- a list that was scanned up to n
abbrev pub ListTo : Bytes → ℕ → ℕ → Type 0
ListTo t at n =
    (at ≤ n)
    × (n ≤ length t)
    × ((c : ℕ) (w : Bytes) (k : ScanState) → scan_from t at (list (c ∷ w) k) ≡ scan_from t n (list (c ∷ w) k))
    × ((k : ScanState) → scan_from t at (list_end k) ≡ scan_from t n (list_end k))

pub list_to_over : (t : Bytes) (at n m : ℕ) → ListTo t at n → ListOver t n m → ListOver t at m
list_to_over t at n m a b = (let p = a.0 in let q = b.0 in omega arith, b.1, (λ c w k. a.2 c w k ∙ b.2 c w k), λ k. a.3 k ∙ b.3 k)
