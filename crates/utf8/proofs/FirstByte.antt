-- What is awaited behind a character's first byte, range by range.
use mathlib.Core.Path.{◌≡◌, ap, ◌∙◌}
use mathlib.Core.Bool.{true}
use Prim.Native.Nat.{ℕ, ◌≤◌, ◌<◌}
use native.Mathlib.Omega.{arith}
use borrow.Author.Tests.{le-leb, lt-leb, eq-eqb, ne_eqb}
use lib.Dec.{eqb}
use Rattle.paper.specs.Next.{if}
use Rattle.utf8.specs.Grammar.{From}
use Rattle.utf8.specs.Reading.{awaited, never, begins, tails_of, low_of, high_of, behind_first}

-- a bound by the first byte: one for each of two bytes, and one for every other
module _ (x k a m b o : ℕ) where
  pub bound_one : x ≡ k → if (eqb x k) a (if (eqb x m) b o) ≡ a
  bound_one h = rw (eq-eqb x k h)

  pub bound_two : (x ≡ k → ⊥) → x ≡ m → if (eqb x k) a (if (eqb x m) b o) ≡ b
  bound_two h e = rw (ne_eqb x k h, eq-eqb x m e)

  pub bound_other : (x ≡ k → ⊥) → (x ≡ m → ⊥) → if (eqb x k) a (if (eqb x m) b o) ≡ o
  bound_other h e = rw (ne_eqb x k h, ne_eqb x m e)

module _ (x : ℕ) where
  pub tails_none : x ≤ 0x7F → tails_of x ≡ 0
  tails_none h = rw (le-leb x 0x7F h)

  pub tails_one : 0x7F < x → x ≤ 0xDF → tails_of x ≡ 1
  tails_one h k = rw (lt-leb x 0x7F h, le-leb x 0xDF k)

  pub tails_two : 0xDF < x → x ≤ 0xEF → tails_of x ≡ 2
  tails_two h k = rw (lt-leb x 0x7F (omega arith), lt-leb x 0xDF h, le-leb x 0xEF k)

  pub tails_three : 0xEF < x → tails_of x ≡ 3
  tails_three h = rw (lt-leb x 0x7F (omega arith), lt-leb x 0xDF (omega arith), lt-leb x 0xEF h)

  begins_low : x ≤ 0x7F → begins x ≡ true
  begins_low h = rw (le-leb x 0x7F h)

  begins_high : 0xC2 ≤ x → x ≤ 0xF4 → begins x ≡ true
  begins_high h k = rw (lt-leb x 0x7F (omega arith), le-leb 0xC2 x h, le-leb x 0xF4 k)

  behind_begun : (n low high : ℕ) → begins x ≡ true → tails_of x ≡ n → low_of x ≡ low → high_of x ≡ high → behind_first x ≡ awaited n low high
  unfolding behind_first
  behind_begun n low high b t l h =
      ap (λ z. if z (awaited (tails_of x) (low_of x) (high_of x)) never) b ∙ (λ j. awaited (t j) (l j) (h j))

  begun : {least most n low high : ℕ} → 0xC2 ≤ least → most ≤ 0xF4 → From least most x
      → (least ≤ x → x ≤ most → (tails_of x ≡ n) × (low_of x ≡ low) × (high_of x ≡ high)) → behind_first x ≡ awaited n low high
  begun {least} {most} {n} {low} {high} h k r f =
      let l = r.least in
      let m = r.most in
      let g = f l m in
      behind_begun n low high (begins_high (omega arith) (omega arith)) g.0 g.1 g.2

  else_low : (x ≡ 0xE0 → ⊥) → (x ≡ 0xF0 → ⊥) → low_of x ≡ 0x80
  else_low = bound_other x 0xE0 0xA0 0xF0 0x90 0x80

  else_high : (x ≡ 0xED → ⊥) → (x ≡ 0xF4 → ⊥) → high_of x ≡ 0xBF
  else_high = bound_other x 0xED 0x9F 0xF4 0x8F 0xBF

  -- ---- the ranges, in the grammar's order

  pub first_plain : From 0 0x7F x → behind_first x ≡ awaited 0 0x80 0xBF
  first_plain r =
      let m = r.most in
      behind_begun 0 0x80 0xBF (begins_low m) (tails_none m) (else_low (λ e. omega arith) (λ e. omega arith)) (else_high (λ e. omega arith) (λ e. omega arith))

  pub first_c2 : From 0xC2 0xDF x → behind_first x ≡ awaited 1 0x80 0xBF
  first_c2 r = begun (omega arith) (omega arith) r (λ l m. (tails_one (omega arith) (omega arith), else_low (λ e. omega arith) (λ e. omega arith), else_high (λ e. omega arith) (λ e. omega arith)))

  pub first_e0 : From 0xE0 0xE0 x → behind_first x ≡ awaited 2 0xA0 0xBF
  first_e0 r = begun (omega arith) (omega arith) r (λ l m. (tails_two (omega arith) (omega arith), bound_one x 0xE0 0xA0 0xF0 0x90 0x80 (omega arith), else_high (λ e. omega arith) (λ e. omega arith)))

  pub first_e1 : From 0xE1 0xEC x → behind_first x ≡ awaited 2 0x80 0xBF
  first_e1 r = begun (omega arith) (omega arith) r (λ l m. (tails_two (omega arith) (omega arith), else_low (λ e. omega arith) (λ e. omega arith), else_high (λ e. omega arith) (λ e. omega arith)))

  pub first_ed : From 0xED 0xED x → behind_first x ≡ awaited 2 0x80 0x9F
  first_ed r = begun (omega arith) (omega arith) r (λ l m. (tails_two (omega arith) (omega arith), else_low (λ e. omega arith) (λ e. omega arith), bound_one x 0xED 0x9F 0xF4 0x8F 0xBF (omega arith)))

  pub first_ee : From 0xEE 0xEF x → behind_first x ≡ awaited 2 0x80 0xBF
  first_ee r = begun (omega arith) (omega arith) r (λ l m. (tails_two (omega arith) (omega arith), else_low (λ e. omega arith) (λ e. omega arith), else_high (λ e. omega arith) (λ e. omega arith)))

  pub first_f0 : From 0xF0 0xF0 x → behind_first x ≡ awaited 3 0x90 0xBF
  first_f0 r = begun (omega arith) (omega arith) r (λ l m. (tails_three (omega arith), bound_two x 0xE0 0xA0 0xF0 0x90 0x80 (λ e. omega arith) (omega arith), else_high (λ e. omega arith) (λ e. omega arith)))

  pub first_f1 : From 0xF1 0xF3 x → behind_first x ≡ awaited 3 0x80 0xBF
  first_f1 r = begun (omega arith) (omega arith) r (λ l m. (tails_three (omega arith), else_low (λ e. omega arith) (λ e. omega arith), else_high (λ e. omega arith) (λ e. omega arith)))

  pub first_f4 : From 0xF4 0xF4 x → behind_first x ≡ awaited 3 0x80 0x8F
  first_f4 r = begun (omega arith) (omega arith) r (λ l m. (tails_three (omega arith), else_low (λ e. omega arith) (λ e. omega arith), bound_two x 0xED 0x9F 0xF4 0x8F 0xBF (λ e. omega arith) (omega arith)))

  -- a character begins with no tail, and with neither C0 nor C1
  pub first_tail : 0x7F < x → x < 0xC2 → behind_first x ≡ never
  unfolding behind_first
  first_tail h k = rw (lt-leb x 0x7F h, lt-leb 0xC2 x k)

  -- nor with a byte above F4
  pub first_above : 0xF4 < x → behind_first x ≡ never
  unfolding behind_first
  first_above h = rw (lt-leb x 0x7F (omega arith), le-leb 0xC2 x (omega arith), lt-leb x 0xF4 h)
