-- A node behind others, and the number of the last one.
use mathlib.Core.Path.{◌≡◌, refl}
use mathlib.Core.Bool.{Bool, true, false}
use mathlib.Core.Logic.{◌⊎◌, inl, inr}
use Prim.Native.Nat.{ℕ, ◌*◌, ◌≤◌, ◌<◌}
use native.Mathlib.Omega.{arith}
use borrow.Author.Tests.{leb-true, leb-false}
use lib.Dec.{leb}
use Rattle.std.proofs.Common.{Some, None}
use Rattle.std.specs.Prelude.{IfSome}
use lib.ListN.{length, take}
use lib.Seq.{length-take-le}
use Rattle.meaning.specs.Card.{Bytes}
use Rattle.notation.specs.Making.{last_node}
use Rattle.conditions.specs.Reads.{Count, nodes_of, last_of}

pub either : (a b : ℕ) → (a ≤ b) ⊎ (b < a)
either a b = go (leb a b) refl
  where
    go : (c : Bool) → leb a b ≡ c → (a ≤ b) ⊎ (b < a)
    go true e = inl (leb-true a b e)
    go false e = inr (leb-false a b e)

-- ---- with room for 256 nodes

module _ (d : Bytes) (room : length d ≡ 1024) where
  pub last-of : (k : Count) → IfSome k (λ n. n ≤ 256) → last_of k ≡ last_node (nodes_of k d)
  last-of None h = refl
  last-of (Some k) h =
      let sized : length (take (4 * k) d) ≡ 4 * k = length-take-le (4 * k) d (omega arith) in
      omega arith
