-- A set of atoms of numbers to 127 has 16 bytes.
use mathlib.Core.Path.{◌≡◌, refl, ◌∙◌}
use mathlib.Core.Bool.{true}
use mathlib.Core.List.{List, [], ◌∷◌}
use Prim.Native.Nat.{ℕ, ◌-◌, ◌/◌, ◌≤◌}
use native.Mathlib.Omega.{arith}
use borrow.Author.Tests.{leb-true}
use lib.Dec.{leb}
use lib.ListN.{length, length-append, length-replicate}
use Rattle.paper.proofs.Relation.{both}
use Rattle.paper.proofs.Sets.{length-∪}
use Rattle.notation.specs.Built.{single, set_of}
use Rattle.notation.specs.Making.{set_fits}

single_length : (n : ℕ) → n ≤ 127 → length (single n) ≡ 16
single_length n h =
    rw length-append
    (omega (arith, length-replicate {A = ℕ} (n / 8) 0, length-replicate {A = ℕ} (15 - n / 8) 0))

pub set_length : (ns : List ℕ) → set_fits ns ≡ true → length (set_of ns) ≡ 16
unfolding set_of
set_length [] e = refl
set_length (n ∷ ns) e =
    let ab : (leb n 127 ≡ true) × (set_fits ns ≡ true) = both (leb n 127) (set_fits ns) e in
    let one : length (single n) ≡ 16 = single_length n (leb-true n 127 ab.0) in
    length-∪ (single n) (set_of ns) (omega (arith, one, set_length ns ab.1)) ∙ one
