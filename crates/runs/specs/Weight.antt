-- Weight and grading (01, "Weight and grading").
use Rattle.std.specs.Prelude.{Bool, true, false, List, [], ◌∷◌, ℕ, suc, ◌+◌, ◌≤◌, ◌<◌, leb, ltb}
use Rattle.paper.specs.Language.{Plan, Selection, Revision, Agent}
use Rattle.paper.specs.Transitions.{Choice, select, act, revise, Entry}
use Rattle.runs.specs.Limits.{heaviest_plan}
use Rattle.runs.specs.declared.Offender.{Offender}
use Rattle.runs.specs.declared.Verdict.{Verdict}

-- 01, "Weight and grading": "A plan weighs the sum of its actions, each occurrence counted." w gives each action's weight.
unfoldable pub weigh : (ℕ → ℕ) → Plan → ℕ
weigh w [] = 0
weigh w (a ∷ π) = w a + weigh w π

-- 01, "Weight and grading": "A card is bounded exactly if the initial plan and every selection plan weigh at most 1,024 and
-- every revision body weighs less than its head."
pub record Bounded (w : ℕ → ℕ) (A : Agent) (initial : Plan) : Type 0 where
  -- 01, "Weight and grading": "the initial plan … weigh at most 1,024"
  pub start : weigh w initial ≤ heaviest_plan
  -- 01, "Weight and grading": "every selection plan weigh at most 1,024"
  pub selections : (n : ℕ) (r : Selection) → Entry A.PS n r → weigh w r.π ≤ heaviest_plan
  -- 01, "Weight and grading": "every revision body weighs less than its head"
  pub revisions : (n : ℕ) (r : Revision) → Entry A.PR n r → weigh w r.πb < weigh w r.πₕ

-- 01, "Weight and grading": "the first offender": the first entry of a list, numbered from n on, that fails a test; without one
-- the verdict is another's. Serves verdict.
abbrev pub first_offender : {R : Type 0} → (R → Bool) → (ℕ → Offender) → ℕ → List R → Verdict → Verdict
first_offender good name n [] otherwise = otherwise
first_offender good name n (r ∷ rs) otherwise = elim (good r) [
  | true ↦ first_offender good name (suc n) rs otherwise
  | false ↦ Verdict.Open (name n)
]

-- 01, "Weight and grading": "weigh at most 1,024", as a test. Serves verdict.
abbrev pub light : (ℕ → ℕ) → Plan → Bool
light w π = leb (weigh w π) heaviest_plan

-- 01, "Weight and grading": "every revision body weighs less than its head", as a test of one revision. Serves verdict.
abbrev pub lowers : (ℕ → ℕ) → Revision → Bool
lowers w r = ltb (weigh w r.πb) (weigh w r.πₕ)

-- 01, "Weight and grading": "Otherwise it is open, and the verdict carries the first offender: the initial plan, then selection
-- rule n, then revision rule n, in that order."
unfoldable pub verdict : (ℕ → ℕ) → Agent → Plan → Verdict
verdict w A initial = elim (light w initial) [
  | true ↦
      first_offender (λ r. light w r.π) Offender.Selection 0 A.PS
      (first_offender (lowers w) Offender.Revision 0 A.PR Verdict.Bounded)
  | false ↦ Verdict.Open Offender.InitialPlan
]

-- 1 for a selection, else 0. Serves selections.
unfoldable pub is_selection : Choice → ℕ
is_selection (select n) = 1
is_selection (act n) = 0
is_selection (revise n) = 0

-- 00, demand 3: "a run with S selections": how many of its choices are selections.
unfoldable pub selections : List Choice → ℕ
selections [] = 0
selections (k ∷ ks) = is_selection k + selections ks
