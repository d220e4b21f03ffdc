-- Bytes that are all zero, by the bits of all of them.
use mathlib.Core.Path.{◌≡◌, ap₂, ◌∙◌}
use mathlib.Core.Bool.{true, ◌&&◌}
use Prim.Native.Nat.{ℕ}
use native.Mathlib.Omega.{arith}
use borrow.Author.Tests.{eqb-true, eq-eqb}
use lib.Bits.{bit_or, or_add_and, and_le_l, and_le_r, or_zero_l}
use lib.Dec.{eqb}
use Rattle.paper.proofs.Relation.{both}
use Rattle.meaning.proofs.Every.{both_true, same_truth}

-- no bit is in either of two numbers whose bits together are none
pub or-zero : (a b : ℕ) → bit_or a b ≡ 0 → (a ≡ 0) × (b ≡ 0)
or-zero a b e =
    let s = or_add_and a b in
    let l = and_le_l a b in
    let r = and_le_r a b in
    (omega arith, omega arith)

-- the bits of two numbers are none exactly if each has none
pub none_more : (a b : ℕ) → eqb (bit_or a b) 0 ≡ eqb a 0 && eqb b 0
none_more a b = same_truth _ _ there back
  where
    there : eqb (bit_or a b) 0 ≡ true → eqb a 0 && eqb b 0 ≡ true
    there e = let z = or-zero a b (eqb-true _ 0 e) in both_true _ _ (eq-eqb a 0 z.0) (eq-eqb b 0 z.1)

    back : eqb a 0 && eqb b 0 ≡ true → eqb (bit_or a b) 0 ≡ true
    back e = let z = both (eqb a 0) (eqb b 0) e in eq-eqb _ 0 (ap₂ bit_or (eqb-true a 0 z.0) (eqb-true b 0 z.1) ∙ or_zero_l 0)
