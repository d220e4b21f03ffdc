-- A chosen move and a run for bounded cards (02, Wish 10) on the stripe card, whose picks weigh 3 and whose winds weigh 1: on the
-- left what a call answers, on the right what the documents say.
use Rattle.std.specs.Prelude.{◌≡◌, List, [], ◌∷◌, ◌++◌, ℕ, replicate}
use Rattle.meaning.specs.BoundedCalls.{bounded_takes, bounded_runs}
use Rattle.meaning.specs.Cases.{shown_take, shown_run, configuration, loaded, resting}
use Rattle.meaning.specs.Stripe.{set, stripe, stripe_P10}

-- 341 picks and a wind weigh 1,024; with one wind more 1,025. Serves BoundedCases.
abbrev pub picks : List ℕ → List ℕ
picks more = replicate 341 3 ++ more

pub record BoundedCases : Type 0 where
  -- 01, "The stripe card": "rest 6"
  pub six_steps : shown_run (bounded_runs stripe loaded 1000) ≡ 0 ∷ 1 ∷ 6 ∷ resting
  -- 01, "The stripe card": "1 select 0 1 5"
  pub selected : shown_take (bounded_takes stripe loaded 0) ≡ 0 ∷ 0 ∷ (set 9 ++ (set 4 ++ (1 ∷ 4 ∷ [])))
  -- 02, Wish 10: "a plan weighing at most 1,024": revision 1 is taken
  pub just_light : shown_take (bounded_takes stripe (configuration (set 8) (set 4) 0 (picks (1 ∷ []))) 513)
      ≡ 0 ∷ 0 ∷ (set 8 ++ (set 4 ++ (0 ∷ 2 ∷ 0 ∷ (replicate 340 3 ++ (1 ∷ [])))))
  -- 02, Wish 10: "22 the card is open or the plan too heavy": 1,025
  pub too_heavy : shown_take (bounded_takes stripe (configuration (set 8) (set 4) 0 (picks (1 ∷ 1 ∷ []))) 513)
      ≡ 22 ∷ 0 ∷ (set 8 ++ (set 4 ++ (0 ∷ picks (1 ∷ 1 ∷ []))))
  pub too_heavy_to_run : shown_run (bounded_runs stripe (configuration (set 8) (set 4) 0 (picks (1 ∷ 1 ∷ []))) 0)
      ≡ 22 ∷ 0 ∷ 0 ∷ (set 8 ++ (set 4 ++ (0 ∷ picks (1 ∷ 1 ∷ []))))
  -- 01, P10: "open, revision 1", whatever is asked: there is no such code
  pub open_card : shown_take (bounded_takes stripe_P10 (configuration (set 8) (set 4) 0 []) 65535) ≡ 22 ∷ 0 ∷ (set 8 ++ (set 4 ++ (0 ∷ [])))
  -- 02, Wish 10: "22 …, after 13": a phase over 2
  pub configuration_first : shown_take (bounded_takes stripe_P10 (configuration (set 8) (set 4) 3 []) 0) ≡ 13 ∷ 0 ∷ (set 8 ++ (set 4 ++ (3 ∷ [])))
  -- 02, Wish 1: "15 the plan's front doesn't fit", as of take
  pub closed : shown_take (bounded_takes stripe loaded 256) ≡ 15 ∷ 0 ∷ (set 9 ++ (set 4 ++ (0 ∷ [])))
