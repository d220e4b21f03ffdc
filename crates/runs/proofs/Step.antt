-- A step is taken exactly if it is a transition and its plan fits.
use mathlib.Core.Path.{◌≡◌, refl, ap, ◌∙◌, sym}
use mathlib.Core.Bool.{Bool, true, false}
use mathlib.Core.Option.{Option, none, some}
use Prim.Native.Nat.{◌+◌, ◌%◌, ◌≤◌, ◌<◌}
use lib.ListN.{length}
use borrow.Author.Tests.{leb-true, leb-false, le-leb, lt-leb}
use Rattle.paper.specs.Language.{Agent, Config}
use Rattle.paper.specs.Transitions.{Choice, Step}
use Rattle.paper.specs.Next.{next}
use Rattle.paper.proofs.Relation.{none≢some, false≢true, sound, complete}
use Rattle.runs.specs.Order.{State, kind}
use Rattle.runs.specs.Step.{after, fits, Reached, nothing, full, to, step}

-- ---- a step, by its three equations

module _ (A : Agent) (s : State) (k : Choice) where
  pub step_nothing : next A s.mental k ≡ none → step A s k ≡ nothing
  unfolding step
  step_nothing e = rw (e, step)

  module _ (c : Config) (e : next A s.mental k ≡ some c) where
    pub step_full : 1024 < length c.π → step A s k ≡ full
    unfolding step fits
    step_full h = rw (e, step, lt-leb (length c.π) 1024 h)

    pub step_to : length c.π ≤ 1024 → step A s k ≡ to k (after s k c)
    unfolding step fits
    step_to h = rw (e, step, le-leb (length c.π) 1024 h)

-- what it comes to, in each case
pub data StepsTo (A : Agent) (s : State) (k : Choice) : Reached → Type 0 where
  none_there : ((c : Config) → Step A s.mental k c → ⊥) → StepsTo A s k nothing
  too_long : (c : Config) → Step A s.mental k c → 1024 < length c.π → StepsTo A s k full
  taken : (c : Config) → Step A s.mental k c → length c.π ≤ 1024 → StepsTo A s k (to k (after s k c))

pub steps_to : (A : Agent) (s : State) (k : Choice) → StepsTo A s k (step A s k)
unfolding fits
steps_to A s k = go (next A s.mental k) refl
  where
    fit : (c : Config) → next A s.mental k ≡ some c → (t : Bool) → fits c ≡ t → StepsTo A s k (step A s k)
    fit c e true f = rw (step_to A s k c e (leb-true _ _ f)) (taken c (complete A s.mental c k e) (leb-true _ _ f))
    fit c e false f = rw (step_full A s k c e (leb-false _ _ f)) (too_long c (complete A s.mental c k e) (leb-false _ _ f))

    go : (o : Option Config) → next A s.mental k ≡ o → StepsTo A s k (step A s k)
    go none e = rw (step_nothing A s k e) (none_there (λ c x. none≢some (sym e ∙ sound x)))
    go (some c) e = fit c e (fits c) refl

-- ---- the state that it leads to

abbrev to_state : State → Reached → State
to_state s nothing = s
to_state s full = s
to_state s (to k s') = s'

abbrev is_to : Reached → Bool
is_to nothing = false
is_to full = false
is_to (to k s) = true

pub phase_after : (A : Agent) (s s' : State) (k : Choice) → step A s k ≡ to k s' → s'.phase ≡ (kind k + 1) % 3
unfolding after
phase_after A s s' k e = go e (steps_to A s k)
  where
    go : {r : Reached} → r ≡ to k s' → StepsTo A s k r → s'.phase ≡ (kind k + 1) % 3
    go e (none_there h) = absurd (false≢true (ap is_to e))
    go e (too_long c x l) = absurd (false≢true (ap is_to e))
    go e (taken c x l) = sym (ap (λ r. (to_state s r).phase) e)
