-- The digits of a number: what they are derived as, and how many.
use mathlib.Core.Path.{◌≡◌, refl, ap, ◌∙◌, sym, subst}
use mathlib.Core.Bool.{Bool}
use mathlib.Core.List.{[], ◌∷◌, ◌++◌}
use Prim.Native.Nat.{ℕ, zero, suc, ◌+◌, ◌*◌, ◌/◌, ◌%◌, ◌≤◌, ◌<◌}
use Prim.Native.Char.{code}
use native.Mathlib.Omega.{arith}
use native.Mathlib.Nat.{not-suc-le-zero}
use lib.Dec.{ltb}
use borrow.Author.Tests.{lt-ltb, le-ltb, ltb-true, ltb-false}
use Rattle.meaning.specs.Card.{Bytes}
use Rattle.notation.specs.Words.{Digits, Number, digits}
use Rattle.notation.specs.Words as Words
use Rattle.notation.specs.Printing.{decimal_in, decimal}

-- ---- one digit more

digits_more : {u : Bytes} {n m : ℕ} (d : ℕ) → d ≤ 9 → Digits u n m → Digits (u ++ ((code "0" + d) ∷ [])) n (10 * m + d)
digits_more d h Words.none = Words.more d h Words.none
digits_more d h (Words.more e k r) = Words.more e k (digits_more d h r)

number_more : {u : Bytes} {m : ℕ} (d : ℕ) → d ≤ 9 → Number u m → Number (u ++ ((code "0" + d) ∷ [])) (10 * m + d)
number_more d h (digits e k r) = digits e k (digits_more d h r)

-- ---- a number's digits

module _ (k n : ℕ) where
  pub in_one : n < 10 → decimal_in (suc k) n ≡ (code "0" + n) ∷ []
  unfolding decimal_in
  in_one h = rw (lt-ltb n 10 h, decimal_in)

  pub in_more : 10 ≤ n → decimal_in (suc k) n ≡ decimal_in k (n / 10) ++ ((code "0" + n % 10) ∷ [])
  unfolding decimal_in
  in_more h = rw (le-ltb n 10 h, decimal_in)

-- more room changes nothing
room : (j k n : ℕ) → n < j → n < k → decimal_in j n ≡ decimal_in k n
room zero k n h g = absurd (not-suc-le-zero h)
room (suc j) zero n h g = absurd (not-suc-le-zero g)
room (suc j) (suc k) n h g = go (ltb n 10) refl (room j k (n / 10))
  where
    go : (b : Bool) → ltb n 10 ≡ b → (n / 10 < j → n / 10 < k → decimal_in j (n / 10) ≡ decimal_in k (n / 10)) → decimal_in (suc j) n ≡ decimal_in (suc k) n
    go Bool.true e ih =
        let s = ltb-true n 10 e in
        in_one j n s ∙ sym (in_one k n s)
    go Bool.false e ih =
        let s = ltb-false n 10 e in
        in_more j n s ∙ ap (λ u. u ++ ((code "0" + n % 10) ∷ [])) (ih (omega arith) (omega arith)) ∙ sym (in_more k n s)

pub decimal_one : (n : ℕ) → n < 10 → decimal n ≡ (code "0" + n) ∷ []
unfolding decimal
decimal_one n h = in_one n n h

pub decimal_more : (n : ℕ) → 10 ≤ n → decimal n ≡ decimal (n / 10) ++ ((code "0" + n % 10) ∷ [])
unfolding decimal
decimal_more n h = in_more n n h ∙ ap (λ u. u ++ ((code "0" + n % 10) ∷ [])) (room n (suc (n / 10)) (n / 10) (omega arith) (omega arith))

-- ---- they are a number

number_in : (k n : ℕ) → n < k → Number (decimal_in k n) n
number_in zero n h = absurd (not-suc-le-zero h)
number_in (suc k) n h = go (ltb n 10) refl (number_in k (n / 10))
  where
    go : (b : Bool) → ltb n 10 ≡ b → (n / 10 < k → Number (decimal_in k (n / 10)) (n / 10)) → Number (decimal_in (suc k) n) n
    go Bool.true e ih =
        let s = ltb-true n 10 e in
        rw (in_one k n s) (digits n (omega arith) Words.none)
    go Bool.false e ih =
        let s = ltb-false n 10 e in
        let m : 10 * (n / 10) + n % 10 ≡ n = omega arith in
        rw (in_more k n s) (subst (λ (x : ℕ). Number (decimal_in k (n / 10) ++ ((code "0" + n % 10) ∷ [])) x) m (number_more (n % 10) (omega arith) (ih (omega arith))))

pub number_decimal : (n : ℕ) → Number (decimal n) n
unfolding decimal
number_decimal n = number_in (suc n) n (omega arith)
