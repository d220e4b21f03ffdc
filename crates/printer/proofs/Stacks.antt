-- Tasks put on a stack.
use mathlib.Core.Path.{◌≡◌, refl, sym, ap, ◌∙◌}
use mathlib.Core.List.{List, ◌∷◌, ◌++◌}
use Prim.Native.Nat.{ℕ, zero, suc, ◌+◌, ◌-◌, ◌≤◌, ◌<◌}
use native.Mathlib.Omega.{arith}
use native.Mathlib.Numerals.{add-one}
use lib.ListN.{length, get_or, set, length-set}
use lib.Seq.{get_or-set_same, get_or-set_other}
use Rattle.printer.specs.declared.write.Parts.{Parts}
use Rattle.printer.specs.Tasks.{listed, tasks}

pub length_tasks : (s : List ℕ) (k : ℕ) → length (tasks s k) ≡ k
length_tasks s zero = refl
length_tasks s (suc k) = ap suc (length_tasks s k)

pub tasks_top : (s : List ℕ) (k : ℕ) → 0 < k → tasks s k ≡ get_or s (k - 1) 0 ∷ tasks s (k - 1)
tasks_top s zero h = absurd (omega arith)
tasks_top s (suc k) h = let e : suc k - 1 ≡ k = omega arith in rw e

below : (s : List ℕ) (k x j : ℕ) → j ≤ k → tasks (set s k x) j ≡ tasks s j
below s k x zero h = refl
below s k x (suc j) h = (λ i. get_or-set_other s k j x 0 (omega arith) i ∷ below s k x j (omega arith) i)

pub push : (s : List ℕ) (k x : ℕ) → k < length s → tasks (set s k x) (k + 1) ≡ x ∷ tasks s k
push s k x h = rw (add-one k) (λ i. get_or-set_same s k x 0 h i ∷ below s k x k (omega arith) i)

push_two : (s : List ℕ) (k x y : ℕ) → k + 1 < length s → tasks (set (set s k y) (k + 1) x) (k + 2) ≡ x ∷ (y ∷ tasks s k)
push_two s k x y h =
    let n : k + 2 ≡ k + 1 + 1 = omega arith in
    let m : k + 1 < length (set s k y) = rw (length-set s k y) h in
    rw n (push (set s k y) (k + 1) x m ∙ ap (λ ts. x ∷ ts) (push s k y (omega arith)))

push_three : (s : List ℕ) (k x y z : ℕ) → k + 2 < length s → tasks (set (set (set s k z) (k + 1) y) (k + 2) x) (k + 3) ≡ x ∷ (y ∷ (z ∷ tasks s k))
push_three s k x y z h =
    let n : k + 3 ≡ k + 2 + 1 = omega arith in
    let m : k + 2 < length (set (set s k z) (k + 1) y) = rw (length-set (set s k z) (k + 1) y, length-set s k z) h in
    rw n (push (set (set s k z) (k + 1) y) (k + 2) x m ∙ ap (λ ts. x ∷ ts) (push_two s k y z (omega arith)))

-- ---- of the parts of a task

module _ (s : List ℕ) (k : ℕ) (p : Parts) (room : length s ≡ 291) (fits : k + length (listed p) ≤ 291) where
  abbrev Put : ℕ → List ℕ → Type 0
  Put r s' = ((r ≡ k + length (listed p)) × (length s' ≡ 291)) × (tasks s' r ≡ listed p ++ tasks s k)

  module _ (x : ℕ) (e : p ≡ Parts.One x) where
    n1 : length (listed p) ≡ 1
    n1 = ap (λ p. length (listed p)) e

    pub put_one : Put (k + 1) (set s k x)
    put_one =
        let n = n1 in
        ((omega arith, length-set s k x ∙ room), push s k x (omega arith) ∙ ap (λ p. listed p ++ tasks s k) (sym e))

  module _ (x y : ℕ) (e : p ≡ Parts.Two x y) where
    n2 : length (listed p) ≡ 2
    n2 = ap (λ p. length (listed p)) e

    pub put_two : Put (k + 2) (set (set s k y) (k + 1) x)
    put_two =
        let n = n2 in
        ((omega arith, length-set (set s k y) (k + 1) x ∙ length-set s k y ∙ room), push_two s k x y (omega arith) ∙ ap (λ p. listed p ++ tasks s k) (sym e))

  module _ (x y z : ℕ) (e : p ≡ Parts.Three x y z) where
    n3 : length (listed p) ≡ 3
    n3 = ap (λ p. length (listed p)) e

    pub put_three : Put (k + 3) (set (set (set s k z) (k + 1) y) (k + 2) x)
    put_three =
        let n = n3 in (
          (omega arith, length-set (set (set s k z) (k + 1) y) (k + 2) x ∙ length-set (set s k z) (k + 1) y ∙ length-set s k z ∙ room),
          push_three s k x y z (omega arith) ∙ ap (λ p. listed p ++ tasks s k) (sym e),
        )
