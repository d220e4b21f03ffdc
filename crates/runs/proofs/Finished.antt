-- How many transitions have left the plan empty, along the guide's own chain.
use mathlib.Core.Path.{◌≡◌, refl, ap, ◌∙◌, sym}
use mathlib.Core.Bool.{true, false}
use mathlib.Core.List.{List, [], ◌∷◌}
use Prim.Native.Nat.{ℕ, suc, ◌+◌, ◌≤◌, ◌<◌}
use native.Mathlib.Decide.{dec_lt}
use native.Mathlib.Omega.{arith}
use borrow.Author.Tests.{le-leb, lt-leb}
use lib.ListN.{length}
use Rattle.paper.specs.Language.{Plan, Agent}
use Rattle.paper.specs.Transitions.{Choice}
use Rattle.paper.specs.Next.{is_empty}
use Rattle.runs.specs.Limits.{most_finished}
use Rattle.runs.specs.Order.{State}
use Rattle.runs.specs.Step.{up_to, finished_with, after}
use Rattle.runs.specs.Run.{Chain, stay, ◌then◌}
use Rattle.runs.specs.Theorems.{Guided, ends, goes, emptied}

-- ---- a number, or the most that there may be

pub up_to_lem : (most n : ℕ) → n ≤ most → up_to most n ≡ n
up_to_lem most n h = rw (le-leb n most h, up_to)

pub past_most : (most n : ℕ) → most < n → up_to most n ≡ most
past_most most n h = rw (lt-leb n most h, up_to)

up_to_most : (most n : ℕ) → up_to most n ≤ most
up_to_most most n = elim (dec_lt most n) [
  | yes h ↦ let e = past_most most n h in omega arith
  | no h ↦ let e = up_to_lem most n (omega arith) in omega arith
]

-- more, after a number that was stopped
more_up_to : (most n e : ℕ) → up_to most (up_to most n + e) ≡ up_to most (n + e)
more_up_to most n e = elim (dec_lt most n) [
  | yes h ↦ ap (λ k. up_to most (k + e)) (past_most most n h) ∙ stopped h
  | no h ↦ ap (λ k. up_to most (k + e)) (up_to_lem most n (omega arith))
]
  where
    stopped : most < n → up_to most (most + e) ≡ up_to most (n + e)
    stopped h = elim (dec_lt 0 e) [
      | yes l ↦ past_most most (most + e) (omega arith) ∙ sym (past_most most (n + e) (omega arith))
      | no l ↦ let z : most + e ≡ most = omega arith in ap (up_to most) z ∙ up_to_lem most most (omega arith) ∙ sym (past_most most (n + e) (omega arith))
    ]

-- ---- after a transition

pub finished_empty : (n : ℕ) (π : Plan) → length π ≡ 0 → finished_with n π ≡ up_to most_finished (suc n)
unfolding finished_with
finished_empty n [] h = refl
finished_empty n (a ∷ π) h = absurd (omega arith)

pub finished_kept : (n : ℕ) (π : Plan) → 0 < length π → finished_with n π ≡ n
unfolding finished_with
finished_kept n [] h = absurd (omega arith)
finished_kept n (a ∷ π) h = refl

pub finished_most : (n : ℕ) (π : Plan) → n ≤ most_finished → finished_with n π ≤ most_finished
unfolding finished_with
finished_most n [] h = up_to_most most_finished (suc n)
finished_most n (a ∷ π) h = h

-- one transition, and e that empty the plan behind it
with_more : (n e m : ℕ) (π : Plan) → m ≡ up_to most_finished (finished_with n π + e) → m ≡ up_to most_finished (n + elim (is_empty π) [ true ↦ suc e | false ↦ e ])
unfolding finished_with
with_more n e m [] h = let z : suc n + e ≡ n + suc e = omega arith in h ∙ more_up_to most_finished (suc n) e ∙ ap (up_to most_finished) z
with_more n e m (a ∷ π) h = h

-- ---- along the guide's own chain, which is a chain of the definition

unfoldable pub guided_chain : {A : Agent} {s s' : State} {ks : List Choice} → Guided A s ks s' → Chain A s.mental ks s'.mental
unfolding after
guided_chain ends = stay
guided_chain (goes e x l r) = ◌then◌ x (guided_chain r)

pub guided_finished : {A : Agent} {s s' : State} {ks : List Choice} (r : Guided A s ks s') → s.finished ≤ most_finished
    → s'.finished ≡ up_to most_finished (s.finished + emptied (guided_chain r))
unfolding after emptied guided_chain
guided_finished (ends {s}) h = let z : s.finished ≡ s.finished + 0 = omega arith in z ∙ sym (up_to_lem most_finished (s.finished + 0) (omega arith))
guided_finished (goes {s} {s''} {c = c} e x l r) h =
    with_more s.finished (emptied (guided_chain r)) s''.finished c.π (guided_finished r (finished_most s.finished c.π h))
