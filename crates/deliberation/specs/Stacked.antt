-- Numbers that remain, as the calls inside `deliberate` keep them. Tells.room and Tells.known say what follows of an answer.
use Rattle.std.specs.Prelude.{List, [], ◌∷◌, ℕ, ◌+◌, ◌<◌, length}

-- each number, and how many stand behind it, come to less than k: numbers_good
pub data Stacked (k : ℕ) : List ℕ → Type 0 where
  nothing : Stacked k []
  put : (n : ℕ) (ns : List ℕ) → n + length ns < k → Stacked k ns → Stacked k (n ∷ ns)
