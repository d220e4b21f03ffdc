-- Row 9's question by the members of a set: a set of any number of bytes has no atom at or above n. Of a union and of
-- a set in 32 bytes.
use mathlib.Core.Path.{◌≡◌, refl, ap, ◌∙◌, sym}
use mathlib.Core.Bool.{Bool, true, false, not, ◌&&◌, ◌||◌}
use Prim.Native.Nat.{ℕ, ◌+◌, ◌-◌, ◌*◌, ◌≤◌}
use native.Mathlib.Decide.{dec_lt}
use native.Mathlib.Omega.{arith}
use borrow.Author.Tests.{not-true}
use lib.ListN.{length}
use Rattle.paper.specs.Atoms.{Atoms, ◌∈◌, ◌∪◌}
use Rattle.paper.proofs.Sets.{past, ∈-∪}
use Rattle.paper.proofs.Relation.{both, false≢true}
use Rattle.meaning.specs.Card.{Bytes, widened}
use Rattle.meaning.specs.Refusals.{set_good}
use Rattle.meaning.proofs.Every.{both_true, same_truth, numbers_at, numbers_of}
use Rattle.meaning.proofs.Widening.{∈-widened}

pub unknown : (n : ℕ) (s : Atoms) → set_good n s ≡ true → (k : ℕ) → n ≤ k → k ∈ s ≡ false
unfolding set_good
unknown n s e k h = elim (dec_lt k (8 * length s)) [
  | yes l ↦ (let z : n + (k - n) ≡ k = omega arith in not-true (k ∈ s) (rw z at (numbers_at (λ k. not (k ∈ s)) n (8 * length s - n) (k - n) e (omega arith))))
  | no l ↦ past s k (omega arith)
]

pub all_unknown : (n : ℕ) (s : Atoms) → ((k : ℕ) → n ≤ k → k ∈ s ≡ false) → set_good n s ≡ true
unfolding set_good
all_unknown n s h = numbers_of (λ k. not (k ∈ s)) n (8 * length s - n) (λ i l. ap not (h (n + i) (omega arith)))

-- the same of sets of the same members
pub good_same : (n : ℕ) (s t : Atoms) → ((k : ℕ) → k ∈ s ≡ k ∈ t) → set_good n s ≡ set_good n t
good_same n s t h = same_truth (set_good n s) (set_good n t)
    (λ e. all_unknown n t (λ k g. sym (h k) ∙ unknown n s e k g))
    (λ e. all_unknown n s (λ k g. h k ∙ unknown n t e k g))

pub good_widened : (n : ℕ) (s : Bytes) → set_good n (widened s) ≡ set_good n s
good_widened n s = good_same n (widened s) s (λ k. ∈-widened k s)

neither : (a b : Bool) → a || b ≡ false → (a ≡ false) × (b ≡ false)
neither true b e = absurd (false≢true (sym e))
neither false b e = (refl, e)

-- a union has only known atoms exactly if each of its sets has
pub good-∪ : (n : ℕ) (s t : Atoms) → set_good n (s ∪ t) ≡ (set_good n s && set_good n t)
good-∪ n s t = same_truth (set_good n (s ∪ t)) (set_good n s && set_good n t)
    (λ e.
    let out : (k : ℕ) → n ≤ k → (k ∈ s ≡ false) × (k ∈ t ≡ false) = λ k g. neither (k ∈ s) (k ∈ t) (sym (∈-∪ k s t) ∙ unknown n (s ∪ t) e k g) in
    both_true (set_good n s) (set_good n t) (all_unknown n s (λ k g. (out k g).0)) (all_unknown n t (λ k g. (out k g).1)))
    (λ e. all_unknown n (s ∪ t) (λ k g. ∈-∪ k s t ∙ (λ i. unknown n s (both (set_good n s) _ e).0 k g i || unknown n t (both (set_good n s) _ e).1 k g i)))
