-- The reader as a function reads the list of numbers that the grammar derives.
use mathlib.Core.Path.{◌≡◌, refl, ap, ◌∙◌}
use mathlib.Core.Bool.{true, false}
use mathlib.Core.List.{List, [], ◌∷◌, ◌++◌, append_assoc}
use Prim.Native.Nat.{ℕ, zero, suc, ◌+◌, ◌≤◌}
use native.Mathlib.Nat.{not-suc-le-zero, le_refl}
use native.Mathlib.Omega.{arith}
use lib.ListN.{length, length-append}
use Rattle.meaning.specs.Card.{Bytes}
use Rattle.notation.specs.Words.{Number, Numbers}
use Rattle.notation.specs.Words as Words
use Rattle.notation.proofs.Following.{Stops}
use Rattle.notation.proofs.Deriving.{is_digit}
use Rattle.notation.specs.Values.{digits_rest, list_goes_on, list_values, list_rest, list_of, behind_list}
use Rattle.notation.proofs.ReadingTests.{if_yes, if_no}
use Rattle.notation.proofs.ReadingNumbers.{number_read, number_left}

-- ---- what comes

-- a text that does not go on with a list, nor with a number
pub record ListStops (v : Bytes) : Type 0 where
  pub no_number : list_goes_on v ≡ false
  pub no_digit : Stops v

number_comes : {u : Bytes} {n : ℕ} (v : Bytes) → Number u n → list_goes_on (32 ∷ (u ++ v)) ≡ true
number_comes v (Words.digits d h r) = is_digit d h

-- a list does not begin with a digit
pub list_stops : {u : Bytes} {ns : List ℕ} (v : Bytes) → Numbers u ns → Stops v → Stops (u ++ v)
list_stops v Words.none s = s
list_stops v (Words.more h r) s = refl

-- ---- no number comes

values_stop : (f : ℕ) (v : Bytes) → list_goes_on v ≡ false → list_values f v ≡ []
unfolding list_values
values_stop zero v s = refl
values_stop (suc f) v s = if_no _ _ s

rest_stop : (f : ℕ) (v : Bytes) → list_goes_on v ≡ false → list_rest f v ≡ v
unfolding list_rest
rest_stop zero v s = refl
rest_stop (suc f) v s = if_no _ _ s

-- ---- a number comes

module _ {u : Bytes} {n : ℕ} (w : Bytes) (h : Number u n) (s : Stops w) (f : ℕ) where
  values_more : list_values (suc f) (32 ∷ (u ++ w)) ≡ n ∷ list_values f w
  unfolding list_values
  values_more = if_yes _ _ (number_comes w h) ∙ ap (λ k. k ∷ list_values f (digits_rest (u ++ w))) (number_read w h s) ∙ ap (λ t. n ∷ list_values f t) (number_left w h s)

  rest_more : list_rest (suc f) (32 ∷ (u ++ w)) ≡ list_rest f w
  unfolding list_rest
  rest_more = if_yes _ _ (number_comes w h) ∙ ap (list_rest f) (number_left w h s)

-- ---- a list

-- what is left behind a byte and a part u is shorter, and so within what is left of the fuel
pub shorter : (u w v : Bytes) (f : ℕ) → suc (length ((u ++ w) ++ v)) ≤ suc f → length (w ++ v) ≤ f
shorter u w v f l =
    let a : length ((u ++ w) ++ v) ≡ length u + length (w ++ v) = ap length (append_assoc u w v) ∙ length-append u (w ++ v) in
    omega arith

module _ (v : Bytes) (s : ListStops v) where
  pub values_read : {u : Bytes} {ns : List ℕ} → Numbers u ns → (f : ℕ) → length (u ++ v) ≤ f → list_values f (u ++ v) ≡ ns
  values_read Words.none f l = values_stop f v s.no_number
  values_read (Words.more h r) zero l = absurd (not-suc-le-zero l)
  values_read (Words.more {u = u} {v = w} {n = n} h r) (suc f) l =
      ap (λ t. list_values (suc f) (32 ∷ t)) (append_assoc u w v) ∙ values_more (w ++ v) h (list_stops v r s.no_digit) f
      ∙ ap (λ ns. n ∷ ns) (values_read r f (shorter u w v f l))

  pub values_left : {u : Bytes} {ns : List ℕ} → Numbers u ns → (f : ℕ) → length (u ++ v) ≤ f → list_rest f (u ++ v) ≡ v
  values_left Words.none f l = rest_stop f v s.no_number
  values_left (Words.more h r) zero l = absurd (not-suc-le-zero l)
  values_left (Words.more {u = u} {v = w} h r) (suc f) l =
      ap (λ t. list_rest (suc f) (32 ∷ t)) (append_assoc u w v) ∙ rest_more (w ++ v) h (list_stops v r s.no_digit) f
      ∙ values_left r f (shorter u w v f l)

  pub list_read : {u : Bytes} {ns : List ℕ} → Numbers u ns → list_of (u ++ v) ≡ ns
  list_read {u} r = values_read r (length (u ++ v)) (le_refl _)

  pub list_left : {u : Bytes} {ns : List ℕ} → Numbers u ns → behind_list (u ++ v) ≡ v
  list_left {u} r = values_left r (length (u ++ v)) (le_refl _)
