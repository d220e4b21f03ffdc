-- What taking a choice answers.
use mathlib.Core.Path.{◌≡◌, refl, ap, ◌∙◌, sym}
use mathlib.Core.Bool.{Bool, true, false}
use mathlib.Core.Option.{Option, none, some}
use Prim.Native.Nat.{ℕ}
use Rattle.paper.specs.Language.{Agent, Config}
use Rattle.paper.specs.Transitions.{Choice, Step}
use Rattle.paper.specs.Next.{next, is_some, enabled}
use Rattle.paper.proofs.Relation.{false≢true, enabled_exactly}
use Rattle.runs.specs.Order.{State}
use Rattle.runs.specs.Step.{Reached, nothing, full, to, step, step_by}
use Rattle.runs.proofs.Step.{step_nothing, StepsTo, none_there, too_long, taken, steps_to}
use Rattle.std.specs.Prelude.{Ok, Err}
use Rattle.meaning.specs.declared.Refusal.{Refusal}
use Rattle.meaning.specs.declared.Layout.{Layout}
use Rattle.meaning.specs.declared.Configuration.{Configuration}
use Rattle.meaning.specs.declared.Reply.{Reply}
use Rattle.meaning.specs.Card.{Bytes, layout, agent_for, agent}
use Rattle.meaning.specs.Configurations.{state_of}
use Rattle.meaning.specs.Refusals.{configuration_answer}
use Rattle.meaning.specs.Why.{why_closed}
use Rattle.meaning.specs.Calls.{choice, reply, takes}
use Rattle.meaning.proofs.Calls.{takes_nothing, takes_full, takes_to}
use Rattle.door.specs.declared.asked.Asked.{Asked}
use Rattle.door.specs.Asking.{asked, answer_asked}
use Rattle.door.proofs.Asking.{is_enabled, asked_enabled}
use Rattle.door.proofs.Refusals.{why_asked}
use Rattle.meaning.proofs.Tables.{done≢refused}
use Rattle.moves.specs.Steps.{transition_of, answer_to, taken_by}

module _ (b : Bytes) (c : Configuration) (good : configuration_answer b c ≡ Ok tt) (code : ℕ) where
  abbrev q : Refusal
  q = why_closed (layout b) b (state_of c).mental (choice code)

  by_reached : (o : Reached) → step_by (agent b) (state_of c) (choice code) ≡ o → taken_by q o c ≡ takes b c code
  by_reached nothing e = sym (takes_nothing b c good code e)
  by_reached full e = sym (takes_full b c good code e)
  by_reached (to k s) e = sym (takes_to b c good code k s e)

  -- by the layout that was read
  pub takes_by : (l : Layout) → l ≡ layout b → taken_by (why_closed l b (state_of c).mental (choice code)) (step_by (agent_for l b) (state_of c) (choice code)) c ≡ takes b c code
  unfolding agent
  takes_by l s =
      ap (λ (x : Layout). taken_by (why_closed x b (state_of c).mental (choice code)) (step_by (agent_for x b) (state_of c) (choice code)) c) s
      ∙ by_reached _ refl

-- ---- what a transition comes to

is_nothing : Reached → Bool
is_nothing nothing = true
is_nothing full = false
is_nothing (to k s) = false

full≢nothing : full ≡ nothing → ⊥
unfolding is_nothing
full≢nothing e = false≢true (ap is_nothing e)

to≢nothing : {k : Choice} {s : State} → to k s ≡ nothing → ⊥
unfolding is_nothing
to≢nothing e = false≢true (ap is_nothing e)

-- ---- what is answered of a choice that was asked for

pub is_done : (x : Asked) → answer_asked x ≡ Ok tt → is_enabled x ≡ true
is_done Asked.Enabled e = refl
is_done Asked.NoRule e = absurd (done≢refused (sym e))
is_done Asked.Front e = absurd (done≢refused (sym e))
is_done (Asked.Condition n) e = absurd (done≢refused (sym e))

is_refused : (x : Asked) (r : Refusal) → answer_asked x ≡ Err r → is_enabled x ≡ false
is_refused Asked.Enabled r e = absurd (done≢refused e)
is_refused Asked.NoRule r e = refl
is_refused Asked.Front r e = refl
is_refused (Asked.Condition n) r e = refl

-- a choice for which done is answered is enabled
pub enabled_told : (l : Layout) (b : Bytes) (c : Config) (k : Choice) (x : Asked) → x ≡ asked l b c k → answer_asked x ≡ Ok tt → enabled (agent_for l b) c k ≡ true
enabled_told l b c k x e d = sym (ap is_enabled e ∙ asked_enabled l b c k) ∙ is_done x d

module _ (l : Layout) (b : Bytes) (c : Configuration) where
  -- a choice that is closed makes no transition
  closed_nothing : (k : Choice) → enabled (agent_for l b) (state_of c).mental k ≡ false → step (agent_for l b) (state_of c) k ≡ nothing
  unfolding enabled
  closed_nothing k shut = step_nothing (agent_for l b) (state_of c) k (go (next (agent_for l b) (state_of c).mental k) refl)
    where
      go : (o : Option Config) → next (agent_for l b) (state_of c).mental k ≡ o → next (agent_for l b) (state_of c).mental k ≡ none
      go none e = e
      go (some d) e = absurd (false≢true (sym shut ∙ ap is_some e))

  -- and is refused by why it is closed
  closed : (k : Choice) → is_enabled (asked l b (state_of c).mental k) ≡ false
      → (answer_asked (asked l b (state_of c).mental k) ≡ Err (why_closed l b (state_of c).mental (some k))) × (step (agent_for l b) (state_of c) k ≡ nothing)
  closed k e = (why_asked l b (state_of c).mental k e, closed_nothing k (sym (asked_enabled l b (state_of c).mental k) ∙ e))

  -- what is answered of a choice, if there is one
  abbrev Answered : Option Choice → Reply
  Answered o = taken_by (why_closed l b (state_of c).mental o) (step_by (agent_for l b) (state_of c) o) c

  pub refused_none : (o : Option Choice) → o ≡ none → reply (Err Refusal.NoRule) c ≡ Answered o
  refused_none o e = ap Answered (sym e)

  pub refused_so : (o : Option Choice) (k : Choice) → o ≡ some k → (x : Asked) (r : Refusal) → x ≡ asked l b (state_of c).mental k → answer_asked x ≡ Err r
      → reply (answer_asked x) c ≡ Answered o
  refused_so o k q x r a e =
      let (w, n) = closed k (sym (ap is_enabled a) ∙ is_refused x r e) in
      ap (λ y. reply y c) (ap answer_asked a ∙ w) ∙ ap (λ y. taken_by (why_closed l b (state_of c).mental (some k)) y c) (sym n) ∙ ap Answered (sym q)

-- ---- what is answered of a transition

-- where there is one, no refusal of a choice that has none is told
pub some_answer : (q q' : Refusal) (o : Reached) → (o ≡ nothing → ⊥) → answer_to q (transition_of o) ≡ answer_to q' (transition_of o)
some_answer q q' nothing n = absurd (n refl)
some_answer q q' full n = refl
some_answer q q' (to k s) n = refl

-- an open choice has a transition
pub enabled_something : (l : Layout) (b : Bytes) (c : Configuration) (k : Choice) → enabled (agent_for l b) (state_of c).mental k ≡ true → step (agent_for l b) (state_of c) k ≡ nothing → ⊥
enabled_something l b c k h e = go e (steps_to (agent_for l b) (state_of c) k)
  where
    A : Agent
    A = agent_for l b

    there : (d : Config) × Step A (state_of c).mental k d
    there = (enabled_exactly A (state_of c).mental k).0 h

    go : {o : Reached} → o ≡ nothing → StepsTo A (state_of c) k o → ⊥
    go e (none_there n) = n there.0 there.1
    go e (too_long d x f) = full≢nothing e
    go e (taken d x f) = to≢nothing e
