-- The finished count, by the length of the plan that a transition leaves.
use mathlib.Core.Path.{◌≡◌, ap}
use mathlib.Core.List.{List, [], ◌∷◌}
use Prim.Native.Nat.{ℕ}
use lib.ListN.{length}
use Rattle.runs.specs.Step.{finished_with}
use Rattle.moves.specs.Steps.{finished_at}

pub finished_at_lem : (f n : ℕ) (π : List ℕ) → n ≡ length π → finished_at f n ≡ finished_with f π
unfolding finished_with
finished_at_lem f n [] e = ap (finished_at f) e
finished_at_lem f n (a ∷ π) e = ap (finished_at f) e
