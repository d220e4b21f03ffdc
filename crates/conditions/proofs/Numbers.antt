-- A number of any length, 65,536 where it is greater: digit by digit.
use mathlib.Core.Path.{◌≡◌, refl, ap, sym, ◌∙◌, subst}
use mathlib.Core.Bool.{Bool, true, false}
use mathlib.Core.List.{[], ◌∷◌}
use Prim.Native.Nat.{ℕ, zero, suc, ◌+◌, ◌-◌, ◌*◌, ◌≤◌, ◌<◌}
use Prim.Native.Char.{code}
use native.Mathlib.Omega.{arith}
use lib.ListN.{length, drop, get_or, drop_of_length-le}
use lib.Seq as Seq
use Rattle.paper.specs.Next.{if}
use Rattle.meaning.specs.Card.{Bytes}
use Rattle.notation.specs.Scanning.{digit}
use Rattle.notation.specs.Values.{list_goes_on, digits_value, digits_rest, number_value}
use Rattle.conditions.specs.Reads.{capped, ReadsNumber}

-- ---- bytes

pub drop-cons : (t : Bytes) (n : ℕ) → n < length t → drop n t ≡ get_or t n 0 ∷ drop (n + 1) t
drop-cons t n h = let e : suc n ≡ n + 1 = omega arith in Seq.drop-cons t n 0 h ∙ (λ j. get_or t n 0 ∷ drop (e j) t)

pub drop_none : (t : Bytes) (n : ℕ) → n ≡ length t → drop n t ≡ []
drop_none t n e = drop_of_length-le t {i = n} (omega arith)

-- ---- digits

-- from digits on that have the same value, or values that are both too great
pub digits_alike : (t : Bytes) (m n : ℕ) → capped m ≡ capped n → capped (digits_value m t) ≡ capped (digits_value n t)
unfolding digits_value
digits_alike [] m n e = e
digits_alike (x ∷ t) m n e =
    go (digit x) (digits_alike t (10 * m + (x - code "0")) (10 * n + (x - code "0")) (omega arith))
  where
    go : (b : Bool) → capped (digits_value (10 * m + (x - code "0")) t) ≡ capped (digits_value (10 * n + (x - code "0")) t)
        → capped (if b (digits_value (10 * m + (x - code "0")) t) m) ≡ capped (if b (digits_value (10 * n + (x - code "0")) t) n)
    go true h = h
    go false h = e

module _ (t : Bytes) (n : ℕ) where
  -- at the text's end
  module _ (e : n ≡ length t) where
    pub digits-over : (v : ℕ) → digits_value v (drop n t) ≡ v
    unfolding digits_value
    digits-over v = ap (digits_value v) (drop_none t n e)

    pub rest_over : digits_rest (drop n t) ≡ drop n t
    unfolding digits_rest
    rest_over = ap digits_rest (drop_none t n e) ∙ sym (drop_none t n e)

  module _ (h : n < length t) where
    -- at a byte that is no digit
    module _ (e : digit (get_or t n 0) ≡ false) where
      pub digits-stop : (v : ℕ) → digits_value v (drop n t) ≡ v
      unfolding digits_value
      digits-stop v = ap (digits_value v) (drop-cons t n h) ∙ ap (λ b. if b (digits_value (10 * v + (get_or t n 0 - code "0")) (drop (n + 1) t)) v) e

      pub rest_stop : digits_rest (drop n t) ≡ drop n t
      unfolding digits_rest
      rest_stop = ap digits_rest (drop-cons t n h) ∙ ap (λ b. if b (digits_rest (drop (n + 1) t)) (get_or t n 0 ∷ drop (n + 1) t)) e ∙ sym (drop-cons t n h)

    -- at a digit
    module _ (e : digit (get_or t n 0) ≡ true) where
      pub digits_on : (v w : ℕ) → w ≡ capped (10 * v + (get_or t n 0 - 48)) → capped (digits_value v (drop n t)) ≡ capped (digits_value w (drop (n + 1) t))
      unfolding digits_value
      digits_on v w f =
          ap capped (ap (digits_value v) (drop-cons t n h) ∙ ap (λ b. if b (digits_value (10 * v + (get_or t n 0 - code "0")) (drop (n + 1) t)) v) e)
          ∙ digits_alike (drop (n + 1) t) (10 * v + (get_or t n 0 - 48)) w (omega arith)

      pub rest_on : digits_rest (drop n t) ≡ digits_rest (drop (n + 1) t)
      unfolding digits_rest
      rest_on = ap digits_rest (drop-cons t n h) ∙ ap (λ b. if b (digits_rest (drop (n + 1) t)) (get_or t n 0 ∷ drop (n + 1) t)) e

-- ---- a number, read from a place on as far as the digits before n, which have the value v

abbrev pub DigitsPassed : Bytes → ℕ → ℕ → ℕ → Type 0
DigitsPassed t at v n =
    (at ≤ n)
    × (n ≤ length t)
    × (v ≤ 65536)
    × (capped (digits_value v (drop n t)) ≡ capped (number_value (drop at t)))
    × (digits_rest (drop n t) ≡ digits_rest (drop at t))

module _ (t : Bytes) (at v n : ℕ) (d : DigitsPassed t at v n) where
  read_at : digits_value v (drop n t) ≡ v → digits_rest (drop n t) ≡ drop n t → ReadsNumber t at (record { value = v; next = n })
  read_at e f =
      let small = d.2 in
      let z : v ≡ capped v = omega arith in
      (z ∙ (ap capped (sym e) ∙ d.3), d.0, (d.1, sym f ∙ d.4))

  pub read_over : length t ≤ n → ReadsNumber t at (record { value = v; next = length t })
  read_over l =
      let a = d.1 in
      let e : n ≡ length t = omega arith in
      subst (λ (m : ℕ). ReadsNumber t at (record { value = v; next = m })) e (read_at (digits-over t n e v) (rest_over t n e))

  module _ (h : n < length t) where
    pub read_stop : digit (get_or t n 0) ≡ false → ReadsNumber t at (record { value = v; next = n })
    read_stop e = read_at (digits-stop t n h e v) (rest_stop t n h e)

    pub read_on : (w : ℕ) → digit (get_or t n 0) ≡ true → w ≡ capped (10 * v + (get_or t n 0 - 48)) → DigitsPassed t at w (n + 1)
    read_on w e f =
        let a = d.0 in
        (omega arith, omega arith, omega arith, sym (digits_on t n h e v w f) ∙ d.3, sym (rest_on t n h e) ∙ d.4)

-- ---- whether a space and a digit come

pub goes_short : (t : Bytes) (n : ℕ) → length t - n < 2 → false ≡ list_goes_on (drop n t)
goes_short [] zero h = refl
goes_short [] (suc n) h = refl
goes_short (x ∷ []) zero h = refl
goes_short (x ∷ (y ∷ t)) zero h = absurd (omega arith)
goes_short (x ∷ t) (suc n) h = goes_short t n (omega arith)
