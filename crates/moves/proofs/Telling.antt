-- What comes next, over plain values: told of the choice that was found.
use mathlib.Core.Path.{◌≡◌, refl, ap, ◌∙◌, sym}
use mathlib.Core.Bool.{true, false}
use mathlib.Core.Logic.{◌⊎◌, ⊎_elim}
use Prim.Native.Nat.{ℕ, ◌+◌, ◌-◌, ◌<◌, ◌≤◌}
use native.Mathlib.Omega.{arith}
use native.Mathlib.Decide.{dec_lt}
use lib.Dec.{ltb}
use borrow.Author.Tests.{lt-ltb, le-ltb}
use Rattle.paper.specs.Language.{Agent}
use Rattle.paper.specs.Transitions.{Choice, revise}
use Rattle.paper.proofs.Relation.{enabled_exactly, false≢true}
use Rattle.runs.specs.declared.Kind.{Kind}
use Rattle.runs.specs.Kinds.{kind_number}
use Rattle.runs.specs.Order.{State, code, guide}
use Rattle.runs.specs.Step.{Reached, nothing, full, to, step}
use Rattle.runs.proofs.Step.{StepsTo, none_there, too_long, taken, steps_to}
use Rattle.std.specs.Prelude.{Ok, Some, None}
use Rattle.meaning.specs.declared.Coming.{Coming}
use Rattle.meaning.specs.declared.Layout.{Layout}
use Rattle.meaning.specs.declared.RevisionEntry.{RevisionEntry}
use Rattle.meaning.specs.declared.Configuration.{Configuration}
use Rattle.meaning.specs.Card.{Bytes, layout, revision_at, agent_for, agent}
use Rattle.meaning.specs.Configurations.{state_of}
use Rattle.meaning.specs.Refusals.{configuration_answer}
use Rattle.meaning.specs.Calls.{coming_by, coming_of, coming, nexts}
use Rattle.meaning.proofs.Calls.{nexts_good}
use Rattle.door.specs.declared.asked.Choice as Told
use Rattle.door.specs.Ready.{Ready}
use Rattle.door.specs.Asking.{chosen, choice_at, choice_of}
use Rattle.door.proofs.Told.{told_some, told_none}
use Rattle.moves.specs.Steps.{Enabled}
use Rattle.moves.specs.Next.{is_full}
use Rattle.moves.proofs.Stepping.{selection_known, specification_known, revision_known, selects_to, acts_to, revises_to, revises_full}

module _ (l : Layout) (b : Bytes) (c : Configuration) (ready : Ready l b c) where
  pub number_lt : (κ : Kind) (i : ℕ) → Enabled l b c (choice_at (kind_number κ) i) → i < 256
  number_lt Kind.Selection i e = let k = selection_known l b c ready i e in let m = ready.card.layout.selections in omega arith
  number_lt Kind.Action i e = let k = specification_known l b c ready i e in let m = ready.card.layout.specifications in omega arith
  number_lt Kind.Revision i e = let k = revision_known l b c ready i e in let m = ready.card.layout.revisions in omega arith

  -- ---- whether a plan is too long

  pub never_too_long : (κ : Kind) (i : ℕ) → (κ ≡ Kind.Selection) ⊎ (κ ≡ Kind.Action) → Enabled l b c (choice_at (kind_number κ) i)
      → false ≡ is_full (step (agent_for l b) (state_of c) (choice_at (kind_number κ) i))
  never_too_long Kind.Selection i h e = ap is_full (sym (selects_to l b c ready i e))
  never_too_long Kind.Action i h e = ap is_full (sym (acts_to l b c ready i e))
  never_too_long Kind.Revision i h e = absurd (⊎_elim (λ u. let z : ◌≡◌ {A = ℕ} 0 1 = cc in omega arith) (λ u. let z : ◌≡◌ {A = ℕ} 0 1 = cc in omega arith) h)

  pub revision_too_long : (i : ℕ) → Enabled l b c (revise i) → (r : RevisionEntry) → r ≡ revision_at l b i
      → (most n : ℕ) → most ≡ 1024 → n ≡ r.body.length + (c.mind.length - r.head.length)
      → ltb most n ≡ is_full (step (agent_for l b) (state_of c) (revise i))
  revision_too_long i e r g most n m h = elim (dec_lt most n) [
    | yes k ↦
        let q : 1024 < (revision_at l b i).body.length + (c.mind.length - (revision_at l b i).head.length) = rw g at (rw h at (rw m at k)) in
        lt-ltb most n k ∙ ap is_full (sym (revises_full l b c ready i e q))
    | no k ↦
        let q : (revision_at l b i).body.length + (c.mind.length - (revision_at l b i).head.length) ≤ 1024 = rw g at (let z : n ≤ 1024 = omega arith in rw h at z) in
        le-ltb most n (omega arith) ∙ ap is_full (sym (revises_to l b c ready i e q))
  ]

-- ---- what is told of an enabled choice

module _ (l : Layout) (b : Bytes) (c : Configuration) where
  abbrev A : Agent
  A = agent_for l b

  abbrev s : State
  s = state_of c

  told_full : (k : Choice) (o : Reached) → is_full o ≡ true → coming_by k o ≡ Coming.Full (code k)
  told_full k nothing h = absurd (false≢true h)
  told_full k full h = refl
  told_full k (to j x) h = absurd (false≢true h)

  told_move : (k : Choice) → Enabled l b c k → {o : Reached} → StepsTo A s k o → is_full o ≡ false → coming_by k o ≡ Coming.Move (code k)
  told_move k e (none_there n) h = let (c', x) = (enabled_exactly A s.mental k).0 e in absurd (n c' x)
  told_move k e (too_long c' x y) h = absurd (false≢true (sym h))
  told_move k e (taken c' x y) h = refl

  comes : (t : Told.Choice) → Some t ≡ chosen (guide A s) → coming A s ≡ coming_by (choice_of t) (step A s (choice_of t))
  unfolding coming
  comes t e = ap (coming_of A s) (told_some (guide A s) t e)

  module _ (t : Told.Choice) (e : Some t ≡ chosen (guide A s)) where
    pub comes_full : true ≡ is_full (step A s (choice_of t)) → coming A s ≡ Coming.Full (code (choice_of t))
    comes_full h = comes t e ∙ told_full (choice_of t) (step A s (choice_of t)) (sym h)

    pub comes_move : Enabled l b c (choice_of t) → false ≡ is_full (step A s (choice_of t)) → coming A s ≡ Coming.Move (code (choice_of t))
    comes_move k h = comes t e ∙ told_move (choice_of t) k (steps_to A s (choice_of t)) (sym h)

  pub comes_rest : None ≡ chosen (guide A s) → coming A s ≡ Coming.Rest
  unfolding coming
  comes_rest e = ap (coming_of A s) (told_none (guide A s) e)

-- ---- an accepted card and configuration

pub next_accepted : (b : Bytes) (c : Configuration) → configuration_answer b c ≡ Ok tt → (l : Layout) → l ≡ layout b
    → record { answer = Ok tt; coming = coming (agent_for l b) (state_of c); configuration = c } ≡ nexts b c
unfolding agent
next_accepted b c e l s = ap (λ x. record { answer = Ok tt; coming = coming (agent_for x b) (state_of c); configuration = c }) s ∙ sym (nexts_good b c e)
