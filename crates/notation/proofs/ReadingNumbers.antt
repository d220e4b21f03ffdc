-- The reader as a function reads the digits and the number that the grammar derives.
use mathlib.Core.Path.{◌≡◌, refl, ap, ◌∙◌}
use mathlib.Core.List.{[], ◌∷◌, ◌++◌}
use Prim.Native.Nat.{ℕ, ◌+◌, ◌-◌, ◌*◌}
use native.Mathlib.Omega.{arith}
use Rattle.meaning.specs.Card.{Bytes}
use Rattle.notation.specs.Words.{Digits, Number}
use Rattle.notation.specs.Words as Words
use Rattle.notation.proofs.Following.{Stops}
use Rattle.notation.proofs.Deriving.{is_digit}
use Rattle.notation.specs.Values.{digits_value, digits_rest, number_value}
use Rattle.notation.proofs.ReadingTests.{if_yes, if_no}

-- ---- no digit comes

value_stops : (n : ℕ) (v : Bytes) → Stops v → digits_value n v ≡ n
unfolding digits_value
value_stops n [] s = refl
value_stops n (x ∷ v) s = if_no _ _ s

rest_stops : (v : Bytes) → Stops v → digits_rest v ≡ v
unfolding digits_rest
rest_stops [] s = refl
rest_stops (x ∷ v) s = if_no _ _ s

-- ---- digits

pub digits_read : {u : Bytes} {n m : ℕ} (v : Bytes) → Digits u n m → Stops v → digits_value n (u ++ v) ≡ m
unfolding digits_value
digits_read {n = n} v Words.none s = value_stops n v s
digits_read {n = n} v (Words.more {u = u} d h r) s =
    let e : 48 + d - 48 ≡ d = omega arith in
    if_yes _ _ (is_digit d h) ∙ ap (λ k. digits_value (10 * n + k) (u ++ v)) e ∙ digits_read v r s

pub digits_left : {u : Bytes} {n m : ℕ} (v : Bytes) → Digits u n m → Stops v → digits_rest (u ++ v) ≡ v
unfolding digits_rest
digits_left v Words.none s = rest_stops v s
digits_left v (Words.more d h r) s = if_yes _ _ (is_digit d h) ∙ digits_left v r s

-- ---- a number

pub number_read : {u : Bytes} {n : ℕ} (v : Bytes) → Number u n → Stops v → number_value (u ++ v) ≡ n
unfolding digits_value
number_read v (Words.digits {u = u} d h r) s =
    let e : 10 * 0 + (48 + d - 48) ≡ d = omega arith in
    if_yes _ _ (is_digit d h) ∙ ap (λ k. digits_value k (u ++ v)) e ∙ digits_read v r s

pub number_left : {u : Bytes} {n : ℕ} (v : Bytes) → Number u n → Stops v → digits_rest (u ++ v) ≡ v
unfolding digits_rest
number_left v (Words.digits d h r) s = if_yes _ _ (is_digit d h) ∙ digits_left v r s
