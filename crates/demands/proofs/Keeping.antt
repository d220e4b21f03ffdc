-- What a card starts with, and what a transition and a run reach, a place keeps.
use mathlib.Core.Path.{◌≡◌}
use mathlib.Core.List.{List}
use Prim.Native.Nat.{ℕ, ◌≤◌}
use native.Mathlib.Omega.{arith}
use lib.ListN.{length}
use Rattle.paper.specs.Atoms.{◌∪◌}
use Rattle.paper.specs.Language.{Agent, Config}
use Rattle.paper.specs.Transitions.{Choice, Step, execute, apply_PS, apply_PR, σ', γ'}
use Rattle.runs.specs.Order.{State}
use Rattle.runs.specs.Step.{after}
use Rattle.runs.specs.Run.{run}
use Rattle.runs.specs.Theorems.{Guided, ends, goes}
use Rattle.runs.proofs.Finished.{finished_most}
use Rattle.runs.proofs.Run.{run_law}
use Rattle.std.specs.Prelude.{Ok}
use Rattle.meaning.specs.declared.Layout.{Layout}
use Rattle.meaning.specs.declared.Configuration.{Configuration}
use Rattle.meaning.specs.declared.Reply.{Reply}
use Rattle.meaning.specs.declared.Ran.{Ran}
use Rattle.meaning.specs.Sizes.{set_bytes, goals_at}
use Rattle.meaning.specs.Card.{Bytes, layout, agent, initial_beliefs, initial_goals, start}
use Rattle.meaning.specs.Configurations.{state_of}
use Rattle.meaning.specs.Refusals.{card_answer}
use Rattle.meaning.specs.Theorems.{Holds}
use Rattle.meaning.proofs.Widening.{held_at, held-∪, held-∖}
use Rattle.demands.specs.Demands.{OnAccepted}
use Rattle.demands.proofs.Codes.{card_accepted}
use Rattle.demands.proofs.Known.{KnownAgent, known_agent, known_start, known_after}
use Rattle.demands.proofs.Saving.{Kept, Sized, handed_out}
use Rattle.demands.proofs.Ways.{Taking, Running, refused, is_closed, plan_full, done}

-- what a card starts with
pub kept_start : (b : Bytes) → card_answer b ≡ Ok tt → Kept (layout b) (start b)
unfolding start
kept_start b card =
    let l = layout b in
    record {
      beliefs = held_at l b 32;
      goals = held-∖ l (initial_goals l b) (initial_beliefs l b) (held_at l b (goals_at (set_bytes l)));
      finished = omega arith;
      known = known_start b card;
    }

-- ---- a transition keeps what a place needs

module _ {l : Layout} {A : Agent} (known : KnownAgent l A) where
  stepped : {c c' : Config} {k : Choice} → Step A c k c' → Holds l c.σ → Holds l c.γ → Holds l c'.σ × Holds l c'.γ
  unfolding σ' γ'
  stepped (execute {σ = σ} {γ = γ} {n = n} {s = t} e p) h g =
      (held-∖ l (σ ∪ t.Add) t.Del (held-∪ l σ t.Add h (known.held n t e)), held-∖ l γ (σ' σ t) g)
  stepped (apply_PS e p q) h g = (h, g)
  stepped (apply_PR π e p) h g = (h, g)

  pub kept_after : (s : State) {k : Choice} {c : Config} → Kept l s → Step A s.mental k c → length c.π ≤ 1024 → Kept l (after s k c)
  unfolding after
  kept_after s {k} {c} h x fits =
      let (σ, γ) = stepped x h.beliefs h.goals in
      record { beliefs = σ; goals = γ; finished = finished_most s.finished c.π h.finished; known = known_after known s h.known x fits }

  kept_guided : {s s' : State} {ks : List Choice} → Guided A s ks s' → Kept l s → Kept l s'
  kept_guided ends h = h
  kept_guided (goes {s} e x f r) h = kept_guided r (kept_after s h x f)

-- ---- and so do a chosen move and a run

pub taken_sized : (b : Bytes) (c : Configuration) (n : ℕ) (r : Reply) → Taking b c n r → Sized b c → Sized b r.configuration
taken_sized b c n r (refused e) h = h
taken_sized b c n r (is_closed on e w x) h = h
taken_sized b c n r (plan_full on k c' m l) h = h
taken_sized b c n r (done on k c' m l) h = handed_out b _ (kept_after (known_agent b (card_accepted b c on)) (state_of c) (h.keeps on) m.transition l)

pub ran_kept : (b : Bytes) (c : Configuration) → OnAccepted b c → Sized b c → (budget : ℕ) → Kept (layout b) (run (agent b) budget (state_of c)).state
ran_kept b c on h budget = kept_guided (known_agent b (card_accepted b c on)) (run_law (agent b) budget (state_of c)).guided (h.keeps on)

pub ran_sized : (b : Bytes) (c : Configuration) (budget : ℕ) (r : Ran) → Running b c budget r → Sized b c → Sized b r.configuration
ran_sized b c budget r (refused e) h = h
ran_sized b c budget r (done on) h = handed_out b _ (ran_kept b c on h budget)
