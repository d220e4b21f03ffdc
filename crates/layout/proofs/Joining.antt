-- No byte joins a set.
use mathlib.Core.Path.{◌≡◌, refl}
use mathlib.Core.List.{[], ◌∷◌}
use Rattle.paper.specs.Atoms.{Atoms, ◌∪◌}

pub ∪-none : (s : Atoms) → s ∪ [] ≡ s
unfolding ◌∪◌
∪-none [] = refl
∪-none (x ∷ s) = refl
