-- What starts_with says of bytes is whether they begin with a head.
use mathlib.Core.Path.{◌≡◌, refl, ap}
use mathlib.Core.Bool.{◌&&◌}
use mathlib.Core.List.{List, [], ◌∷◌}
use Prim.Native.Nat.{ℕ}
use lib.Dec.{eqb}
use lib.ListN.{length, take}
use lib.Pointwise.{pointwise}
use Rattle.paper.specs.Next.{is_prefix}

pub begins : (h p : List ℕ) → pointwise eqb h (take (length h) p) ≡ is_prefix h p
begins [] p = refl
begins (a ∷ h) [] = refl
begins (a ∷ h) (b ∷ p) = ap (λ v. eqb a b && v) (begins h p)
