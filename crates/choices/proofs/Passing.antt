-- A turn of the pass.
use mathlib.Core.Path.{◌≡◌, ap, ◌∙◌}
use mathlib.Core.Bool.{Bool}
use mathlib.Core.List.{List}
use Prim.Native.Nat.{ℕ, ◌+◌, ◌<◌}
use native.Mathlib.Omega.{arith}
use borrow.Author.Count.{below_more}
use lib.ListN.{length, get_or, set}
use lib.Seq.{get_or-set_same, get_or-set_other}

-- what the marks below i tell stays, and mark i tells what is due
pub told_turn : {A : Type 0} (tell : A → Bool × ℕ) (z : A) (f : ℕ → Bool × ℕ) (l : List A) (i : ℕ) (v : A) → i < length l
    → ((j : ℕ) → j < i → tell (get_or l j z) ≡ f j) → tell v ≡ f i → (j : ℕ) → j < i + 1 → tell (get_or (set l i v) j z) ≡ f j
told_turn tell z f l i v h low e =
    below_more (λ (j : ℕ). tell (get_or (set l i v) j z) ≡ f j) i
    (λ j hj. ap tell (get_or-set_other l i j v z (omega arith)) ∙ low j hj)
    (ap tell (get_or-set_same l i v z h) ∙ e)
