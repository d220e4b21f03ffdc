-- The first offender, found by asking one entry after the other.
use mathlib.Core.Path.{◌≡◌, ◌∙◌, sym}
use mathlib.Core.Bool.{Bool, true, false}
use mathlib.Core.List.{map}
use Prim.Native.Nat.{ℕ, ◌+◌, ◌-◌, ◌≤◌, ◌<◌}
use native.Mathlib.Nat.{sub-zero}
use native.Mathlib.Numerals.{add-one}
use native.Mathlib.Omega.{arith}
use borrow.Author.Tests.{le-leb, lt-leb}
use Rattle.runs.proofs.Numbers.{made_next}
use Rattle.runs.specs.declared.Offender.{Offender}
use Rattle.runs.specs.declared.Verdict.{Verdict}
use Rattle.runs.specs.Order.{numbers}
use Rattle.paper.specs.Language.{Plan, Agent}
use Rattle.runs.specs.Weight.{weigh, light, lowers, first_offender, verdict}

module _ {R : Type 0} (good : R → Bool) (name : ℕ → Offender) (f : ℕ → R) (n : ℕ) (otherwise : Verdict) where
  -- what is to be found, and what is left of the question from entry i on
  abbrev pub found : Verdict
  found = first_offender good name 0 (map f (numbers 0 n)) otherwise

  abbrev pub Left : ℕ → Type 0
  Left i = first_offender good name i (map f (numbers i (n - i))) otherwise ≡ found

  pub left_start : Left 0
  left_start = rw sub-zero

  pub left_turn : (i : ℕ) → i < n → good (f i) ≡ true → Left i → Left (i + 1)
  left_turn i h g e = sym (rw (made_next f i n h, g, first_offender, add-one i)) ∙ e

  pub left_bad : (i : ℕ) → i < n → good (f i) ≡ false → Left i → Verdict.Open (name i) ≡ found
  left_bad i h g e = sym (rw (made_next f i n h, g, first_offender)) ∙ e

  pub left_none : (i : ℕ) → n ≤ i → Left i → otherwise ≡ found
  unfolding numbers
  left_none i h e = let z : n - i ≡ 0 = omega arith in sym (rw z) ∙ e

-- ---- the initial plan first

module _ (w : ℕ → ℕ) (A : Agent) (initial : Plan) where
  pub verdict_light : weigh w initial ≤ 1024
      → verdict w A initial ≡ first_offender (λ r. light w r.π) Offender.Selection 0 A.PS (first_offender (lowers w) Offender.Revision 0 A.PR Verdict.Bounded)
  unfolding verdict
  verdict_light h = rw (le-leb (weigh w initial) 1024 h, verdict)

  pub verdict_heavy : 1024 < weigh w initial → verdict w A initial ≡ Verdict.Open Offender.InitialPlan
  unfolding verdict
  verdict_heavy h = rw (lt-leb (weigh w initial) 1024 h, verdict)
