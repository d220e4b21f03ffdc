-- A configuration and its state stand for each other.
use mathlib.Core.Path.{◌≡◌, refl, ap, ap₂, ◌∙◌, sym}
use mathlib.Core.Bool.{true}
use mathlib.Core.List.{List, [], ◌∷◌, ◌++◌}
use Prim.Native.Nat.{ℕ, ◌-◌, ◌≤◌}
use native.Mathlib.Omega.{arith}
use lib.Dec.{leb, eqb}
use lib.ListN.{length, take, drop, replicate, length-drop, take-append-drop}
use lib.Seq.{take_at, length-take-le}
use borrow.Author.Tests.{leb-true, eqb-true}
use Rattle.paper.specs.Language.{⟨◌/◌/◌⟩}
use Rattle.paper.proofs.Relation.{both}
use Rattle.runs.specs.Order.{State}
use Rattle.meaning.specs.declared.Layout.{Layout}
use Rattle.meaning.specs.declared.Configuration.{Configuration}
use Rattle.meaning.specs.Configurations.{padded, state_of, configuration_of}
use Rattle.meaning.specs.Refusals.{all, actions_good, set_good, both_good, configuration_good}
use Rattle.meaning.specs.Theorems.{ConfigurationLaws}

-- the plan is what stands before the end
pub take_padded : (π : List ℕ) (n : ℕ) → length π ≡ n → take n (padded π) ≡ π
unfolding padded
take_padded π n e = take_at π (replicate (1024 - length π) 0) n e

all_zero : (xs : List ℕ) → all (λ x. eqb x 0) xs ≡ true → xs ≡ replicate (length xs) 0
all_zero [] e = refl
all_zero (x ∷ xs) e =
    let (h, t) = both (eqb x 0) _ e in
    ap₂ ◌∷◌ (eqb-true x 0 h) (all_zero xs t)

-- a plan's array with nothing but zeros after its end is the plan, padded
pub padded_take : (d : List ℕ) (n : ℕ) → length d ≡ 1024 → n ≤ 1024 → all (λ x. eqb x 0) (drop n d) ≡ true → padded (take n d) ≡ d
unfolding padded
padded_take d n l h e =
    let a : length (take n d) ≡ n = length-take-le n d (omega arith) in
    let z : drop n d ≡ replicate (1024 - n) 0 = all_zero (drop n d) e ∙ ap (λ k. replicate k 0) (length-drop n d ∙ ap (λ k. k - n) l) in
    ap (λ k. take n d ++ replicate (1024 - k) 0) a ∙ ap (λ r. take n d ++ r) (sym z) ∙ take-append-drop n d

-- what row 13 leaves of a configuration
pub record Good (l : Layout) (c : Configuration) : Type 0 where
  pub fits : c.mind.length ≤ 1024
  pub actions : actions_good l.actions (take c.mind.length c.plan) ≡ true
  pub beliefs : set_good l.atoms c.mind.beliefs ≡ true
  pub goals : set_good l.atoms c.mind.goals ≡ true
  pub phase : c.mind.phase ≤ 2
  pub zeros : all (λ x. eqb x 0) (drop c.mind.length c.plan) ≡ true

pub good : (l : Layout) (c : Configuration) → configuration_good l c ≡ true → Good l c
unfolding configuration_good
good l c e0 =
    let (h1, e1) = both (leb c.mind.length 1024) _ e0 in
    let (h2, e2) = both (actions_good l.actions (take c.mind.length c.plan)) _ e1 in
    let (h3, e3) = both (both_good l.atoms c.mind.beliefs c.mind.goals) _ e2 in
    let (b, g) = both (set_good l.atoms c.mind.beliefs) _ h3 in
    let (h4, e4) = both (leb c.mind.phase 2) _ e3 in
    record { fits = leb-true _ _ h1; actions = h2; beliefs = b; goals = g; phase = leb-true _ _ h4; zeros = e4 }

of_state : (s : State) → length s.mental.π ≤ 1024 → state_of (configuration_of s) ≡ s
unfolding state_of configuration_of
of_state s h = λ i. record { mental = ⟨ s.mental.σ / take_padded s.mental.π (length s.mental.π) refl i / s.mental.γ ⟩; phase = s.phase; finished = s.finished }

of_configuration : (l : Layout) (c : Configuration) → length c.plan ≡ 1024 → configuration_good l c ≡ true → configuration_of (state_of c) ≡ c
unfolding state_of configuration_of
of_configuration l c r e =
    let g = good l c e in
    let m = c.mind in
    let p : padded (take m.length c.plan) ≡ c.plan = padded_take c.plan m.length r g.fits g.zeros in
    let f = g.fits in
    let n : length (take m.length c.plan) ≡ m.length = length-take-le m.length c.plan (omega arith) in
    λ i. record { mind = record { beliefs = m.beliefs; goals = m.goals; length = n i; phase = m.phase; finished = m.finished }; plan = p i }

pub configuration_laws : ConfigurationLaws
configuration_laws = record { of_state = of_state; of_configuration = of_configuration }
