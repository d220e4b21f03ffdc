-- The laws of bytes that are written one part after another.
use mathlib.Core.Path.{◌≡◌, sym, ap, ap₂, ◌∙◌}
use mathlib.Core.List.{List, ◌++◌, append_assoc}
use Prim.Native.Nat.{ℕ, ◌+◌, ◌≤◌}
use native.Mathlib.Omega.{arith}
use lib.ListN.{length, take, drop, length-append}
use lib.Seq.{paste, take_at, drop_at, drop-drop, take_all, length-take-le}
use Rattle.meaning.specs.declared.Layout.{Layout}
use Rattle.meaning.specs.declared.Configuration.{Configuration}
use Rattle.meaning.specs.Sizes.{set_bytes, place_goals_at, plan_at}
use Rattle.meaning.specs.Place.{place_header, place}
use Rattle.meaning.specs.Configurations.{state_of}
use Rattle.meaning.proofs.Widening.{set_most}

-- p is written over d, and then m bytes of s
part_next : (p d s out : List ℕ) (n m : ℕ) → length p ≡ n → out ≡ p ++ drop n d → paste out n s m ≡ (p ++ take m s) ++ drop (n + m) d
part_next p d s out n m e q =
    rw (q, take_at p (drop n d) n e) (ap (λ (y : List ℕ). p ++ take m s ++ y) (sym (drop-drop m n (p ++ drop n d)) ∙ ap (drop m) (drop_at p (drop n d) n e) ∙ drop-drop m n d))

module _ (l : Layout) (c : Configuration) (p : ℕ) (ip : p ≡ plan_at (set_bytes l)) (d d₁ d₃ d₄ : List ℕ)
    (lb : length c.mind.beliefs ≡ 32) (lg : length c.mind.goals ≡ 32)
    (lp : length c.plan ≡ 1024) (fits : c.mind.length ≤ 1024)
    (h : List ℕ) (e₀ : h ≡ place_header l c.mind.length c.mind.phase c.mind.finished) (lh : length h ≡ 12) (e₁ : d₁ ≡ paste d 0 h 12)
    (e₃ : d₃ ≡ paste (paste d₁ 12 c.mind.beliefs (set_bytes l)) (place_goals_at (set_bytes l)) c.mind.goals (set_bytes l))
    (e₄ : d₄ ≡ paste d₃ p c.plan c.mind.length) where
  abbrev s : ℕ
  s = set_bytes l

  abbrev g : ℕ
  g = place_goals_at s

  h₂ : List ℕ
  h₂ = h ++ take s c.mind.beliefs

  h₃ : List ℕ
  h₃ = h₂ ++ take s c.mind.goals

  pub place_written : d₄ ≡ place l (state_of c) ++ drop (plan_at (set_bytes l) + c.mind.length) d
  unfolding place state_of h₂ h₃
  place_written =
      let a : take 12 h ≡ h = take_all 12 h (omega arith) in
      let σ = take s c.mind.beliefs in
      let γ = take s c.mind.goals in
      let most = set_most l.edition in
      let b : length σ ≡ s = length-take-le s c.mind.beliefs (omega arith) in
      let o : length γ ≡ s = length-take-le s c.mind.goals (omega arith) in
      let l₂ : length h₂ ≡ g = omega (arith, length-append h σ) in
      let l₃ : length h₃ ≡ p = omega (arith, length-append h₂ γ) in
      let u : g + s ≡ p = omega arith in
      let q₁ : d₁ ≡ h ++ drop 12 d = e₁ ∙ ap (λ (y : List ℕ). y ++ drop 12 d) a in
      let q₂ : paste d₁ 12 c.mind.beliefs s ≡ h₂ ++ drop g d = part_next h d c.mind.beliefs d₁ 12 s lh q₁ in
      let q₃ : d₃ ≡ h₃ ++ drop p d = e₃ ∙ part_next h₂ d c.mind.goals (paste d₁ 12 c.mind.beliefs s) g s l₂ q₂ ∙ ap (λ k. h₃ ++ drop k d) u in
      let t : List ℕ = take c.mind.length c.plan in
      let n : c.mind.length ≡ length (take c.mind.length c.plan) = sym (length-take-le c.mind.length c.plan (omega arith)) in
      let head : h ≡ place_header l (length (take c.mind.length c.plan)) c.mind.phase c.mind.finished = e₀ ∙ ap (λ k. place_header l k c.mind.phase c.mind.finished) n in
      e₄ ∙ part_next h₃ d c.plan d₃ p c.mind.length l₃ q₃
      ∙ ap₂ (λ (x : List ℕ) k. x ++ drop k d) (
      append_assoc (h ++ σ) γ t
      ∙ append_assoc h σ (γ ++ t)
      ∙ ap (λ (x : List ℕ). x ++ (σ ++ (γ ++ t))) head
      ) (ap (λ k. k + c.mind.length) ip)
