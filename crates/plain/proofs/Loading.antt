-- What loading answers: the configuration that an accepted card starts with, or the empty one.
use mathlib.Core.Path.{◌≡◌, ap, ◌∙◌, sym}
use mathlib.Core.Bool.{Bool}
use mathlib.Core.List.{List, [], ◌++◌, append-nil}
use Prim.Native.Nat.{ℕ, ◌+◌}
use native.Mathlib.Omega.{arith}
use lib.ListN.{length, replicate}
use Rattle.paper.specs.Transitions.{struck_by}
use Rattle.meaning.specs.Answers.{Answer}
use Rattle.std.specs.Prelude.{Ok, Err}
use Rattle.meaning.specs.declared.Configuration.{Configuration}
use Rattle.meaning.specs.declared.Layout.{Layout}
use Rattle.meaning.specs.declared.Refusal.{Refusal}
use Rattle.meaning.specs.declared.Standing.{Standing}
use Rattle.meaning.specs.Sizes.{edition2_set}
use Rattle.meaning.specs.Card.{Bytes, part, plan, initial_plan, initial_beliefs, initial_goals, start}
use Rattle.meaning.specs.Configurations.{padded, configuration_of, empty}
use Rattle.meaning.specs.Calls.{checks, reply, loads}
use Rattle.meaning.proofs.Calls.{good_judged, refused_judged, loads_good, loads_refused}
use Rattle.meaning.proofs.Parts.{length_part}
use Rattle.layout.specs.PlaceParts.{configured}
use Rattle.card.specs.GoodCard.{GoodCard}
use Rattle.unpacked.specs.Truths.{packed}

abbrev none_finished : ℕ → Standing
none_finished n = record { length = n; phase = 0; finished = 0 }

-- truth values that stand for the card's initial sets, and a copy of its initial plan
pub first_made : (l : Layout) (b : Bytes) → GoodCard l b → (β γ : List Bool) → packed edition2_set β ≡ initial_beliefs l b
    → packed edition2_set γ ≡ struck_by (initial_beliefs l b) (initial_goals l b)
    → (at : ℕ) → at ≡ l.pool.offset + l.initial.start → (p : Bytes) → p ≡ padded (part b at l.initial.length ++ [])
    → (m : Standing) → m ≡ none_finished l.initial.length
    → configured (packed edition2_set β) (packed edition2_set γ) m p ≡ configuration_of (start b)
unfolding configuration_of start plan initial_plan
first_made l b good β γ believed wanted at here p held m so =
    let x = good.initial.inside in
    let y = good.layout.ends in
    let s = good.layout.says in
    let π : part b at l.initial.length ≡ initial_plan b = ap (λ k. part b k l.initial.length) here ∙ ap (λ (x : Layout). plan x b x.initial) s in
    let n : l.initial.length ≡ length (initial_plan b) = sym (length_part b at l.initial.length (omega arith)) ∙ ap length π in
    let σ = believed ∙ ap (λ (x : Layout). initial_beliefs x b) s in
    let g = wanted ∙ ap (λ (x : Layout). struck_by (initial_beliefs x b) (initial_goals x b)) s in
    let q = held ∙ ap padded (append-nil (part b at l.initial.length) ∙ π) in
    λ i. configured (σ i) (g i) ((so ∙ ap none_finished n) i) (q i)

-- truth values none of which is true, and no action
pub empty_made : (β γ : List Bool) → packed edition2_set β ≡ replicate edition2_set 0 → packed edition2_set γ ≡ replicate edition2_set 0
    → (m : Standing) → m ≡ none_finished 0
    → configured (packed edition2_set β) (packed edition2_set γ) m (replicate 1024 0) ≡ empty
unfolding empty configuration_of padded
empty_made β γ believed wanted m so = λ i. configured (believed i) (wanted i) (so i) (replicate 1024 0)

module _ (b : Bytes) (c d : Configuration) (packs : d ≡ c) where
  pub load_refused : (r : Refusal) → checks b ≡ Err r → (a : Answer) → a ≡ Err r → c ≡ empty → reply a d ≡ loads b
  load_refused r told a so s = (λ i. reply (so i) ((packs ∙ s) i)) ∙ sym (loads_refused b r (refused_judged b r told))

  pub load_done : (l : Layout) → checks b ≡ Ok l → c ≡ configuration_of (start b) → reply (Ok tt) d ≡ loads b
  load_done l told s = ap (reply (Ok tt)) (packs ∙ s) ∙ sym (loads_good b (good_judged b l told).0)
