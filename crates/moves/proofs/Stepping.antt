-- Where an open choice of a card's agent leads.
use mathlib.Core.Path.{◌≡◌, refl, ap, ap₂, ◌∙◌, sym}
use mathlib.Core.Bool.{Bool, true, false, not}
use mathlib.Core.List.{List, ◌++◌}
use mathlib.Core.Option.{some}
use Prim.Native.Nat.{ℕ, ◌+◌, ◌-◌, ◌≤◌, ◌<◌}
use native.Mathlib.Omega.{arith}
use borrow.Author.Tests.{eqb-true, eqb-false, not-true}
use lib.Dec.{eqb}
use lib.ListN.{length, take, drop, length-append, length-drop}
use lib.Seq.{length-take-le}
use Rattle.paper.specs.Language.{Config, ⟨◌/◌/◌⟩}
use Rattle.paper.specs.Transitions.{select, act, revise, σ', γ'}
use Rattle.paper.specs.Next.{is_empty, starts_with, is_prefix, can_select, selected, can_act, acted, can_revise, revised, outcome, next, is_some, enabled}
use Rattle.paper.proofs.Relation.{both, prefix_split, false≢true, outcome_yes, outcome_no}
use Rattle.runs.specs.Order.{State, kind}
use Rattle.runs.specs.Step.{finished_with, after, full, to, step}
use Rattle.runs.proofs.Step.{step_to, step_full}
use Rattle.meaning.specs.declared.Layout.{Layout}
use Rattle.meaning.specs.declared.Span.{Span}
use Rattle.meaning.specs.declared.Configuration.{Configuration}
use Rattle.meaning.specs.Card.{Bytes, plan, selection_at, revision_at, selection_of, revision_of, agent_for}
use Rattle.meaning.specs.Configurations.{state_of}
use Rattle.meaning.proofs.Parts.{length_part}
use Rattle.card.specs.GoodCard.{GoodSpan}
use Rattle.door.specs.Ready.{Ready}
use Rattle.meaning.proofs.AgentEntries.{selection_for, specification_for, revision_for, selection_entry, specification_entry, revision_entry}
use Rattle.door.proofs.Asking.{empty_exactly, first_exactly, known_number}
use Rattle.moves.specs.Steps.{Enabled}

-- what is enabled may be applied
module _ {R : Type 0} (can : Config → R → Bool) (done : Config → R → Config) (c : Config) (r : R) where
  opened : is_some (outcome can done c (some r)) ≡ true → can c r ≡ true
  opened e = go (can c r) refl
    where
      go : (t : Bool) → can c r ≡ t → can c r ≡ true
      go true h = h
      go false h = absurd (false≢true (sym (ap is_some (outcome_no can done c r h)) ∙ e))

module _ (l : Layout) (b : Bytes) (c : Configuration) (ready : Ready l b c) (i : ℕ) where
  abbrev s : State
  s = state_of c

  abbrev n : ℕ
  n = c.mind.length

  abbrev π : List ℕ
  π = take c.mind.length c.plan

  pub plan_length : (least : ℕ) (p : Span) → GoodSpan l least p → length (plan l b p) ≡ p.length
  unfolding plan
  plan_length least p g = length_part b (l.pool.offset + p.start) p.length (let x = g.inside in let y = ready.card.layout.ends in omega arith)

  front_length : length π ≡ n
  front_length = length-take-le n c.plan (let p = ready.fits in let q = ready.room in omega arith)

  -- ---- a selection

  module _ (e : Enabled l b c (select i)) where
    pub selection_known : i < l.selections.count
    selection_known = known_number l b s.mental 0 i e

    may_select : can_select s.mental (selection_for l b i) ≡ true
    unfolding enabled next
    may_select = opened can_select selected s.mental (selection_for l b i) (sym (ap (λ o. is_some (outcome can_select selected s.mental o)) (selection_entry l b i selection_known)) ∙ e)

    pub plan_empty : n ≡ 0
    unfolding can_select state_of
    plan_empty =
        let x = (both (is_empty π) _ may_select).0 in
        eqb-true n 0 (sym (empty_exactly c.plan n (let p = ready.fits in let q = ready.room in omega arith)) ∙ x)

    abbrev pub new_plan : List ℕ
    new_plan = plan l b (selection_at l b i).plan

    pub selects_to : step (agent_for l b) s (select i) ≡ to (select i) (record { mental = ⟨ c.mind.beliefs / new_plan / c.mind.goals ⟩; phase = 1; finished = finished_with c.mind.finished new_plan })
    unfolding next selected selection_of after kind state_of
    selects_to =
        let f : next (agent_for l b) s.mental (select i) ≡ some (selected s.mental (selection_for l b i)) =
        ap (outcome can_select selected s.mental) (selection_entry l b i selection_known) ∙ outcome_yes can_select selected s.mental (selection_for l b i) may_select in
        let g = (ready.card.selections i selection_known).plan in
        step_to (agent_for l b) s (select i) _ f (rw (plan_length 1 (selection_at l b i).plan g) g.fits)

  -- ---- an action

  module _ (e : Enabled l b c (act i)) where
    pub specification_known : i < l.specifications.count
    specification_known = known_number l b s.mental 1 i e

    may_act : can_act s.mental (specification_for l b i) ≡ true
    unfolding enabled next
    may_act = opened can_act acted s.mental (specification_for l b i) (sym (ap (λ o. is_some (outcome can_act acted s.mental o)) (specification_entry l b i specification_known)) ∙ e)

    pub plan_not_empty : 1 ≤ n
    unfolding can_act state_of
    plan_not_empty =
        let x = (both (starts_with _ π) _ may_act).0 in
        let y = (both (not (eqb n 0)) _ (sym (first_exactly _ c.plan n (let q = ready.room in omega arith)) ∙ x)).0 in
        let z = eqb-false n 0 (not-true _ y) in
        omega arith

    pub acted_length : length (drop 1 π) ≡ n - 1
    acted_length = length-drop 1 π ∙ ap (λ k. k - 1) front_length

    pub acts_to : step (agent_for l b) s (act i)
        ≡ to (act i) (record {
          mental = ⟨ σ' c.mind.beliefs (specification_for l b i) / drop 1 π / γ' c.mind.beliefs c.mind.goals (specification_for l b i) ⟩;
          phase = 2;
          finished = finished_with c.mind.finished (drop 1 π);
        })
    unfolding next acted after kind state_of
    acts_to =
        let f : next (agent_for l b) s.mental (act i) ≡ some (acted s.mental (specification_for l b i)) =
        ap (outcome can_act acted s.mental) (specification_entry l b i specification_known) ∙ outcome_yes can_act acted s.mental (specification_for l b i) may_act in
        step_to (agent_for l b) s (act i) _ f (let k = acted_length in let p = ready.fits in omega arith)

  -- ---- a revision

  module _ (e : Enabled l b c (revise i)) where
    pub revision_known : i < l.revisions.count
    revision_known = known_number l b s.mental 2 i e

    may_revise : can_revise s.mental (revision_for l b i) ≡ true
    unfolding enabled next
    may_revise = opened can_revise revised s.mental (revision_for l b i) (sym (ap (λ o. is_some (outcome can_revise revised s.mental o)) (revision_entry l b i revision_known)) ∙ e)

    abbrev pub head : Span
    head = (revision_at l b i).head

    abbrev pub body : Span
    body = (revision_at l b i).body

    head_length : length (plan l b head) ≡ head.length
    head_length = plan_length 1 head (ready.card.revisions i revision_known).head

    body_length : length (plan l b body) ≡ body.length
    body_length = plan_length 0 body (ready.card.revisions i revision_known).body

    pub head_fits : head.length ≤ n
    unfolding can_revise revision_of state_of
    head_fits =
        let x = (both (is_prefix (plan l b head) π) _ may_revise).0 in
        let h = plan l b head in
        let t : length π ≡ length h + length (drop (length h) π) = ap length (prefix_split h π x) ∙ length-append h (drop (length h) π) in
        let u = head_length in
        let v = front_length in
        omega arith

    -- the body and the rest of the plan
    abbrev pub revised_plan : List ℕ
    revised_plan = plan l b body ++ drop head.length π

    pub revised_length : length revised_plan ≡ body.length + (n - head.length)
    revised_length = length-append (plan l b body) (drop head.length π) ∙ ap₂ ◌+◌ body_length (length-drop head.length π ∙ ap (λ k. k - head.length) front_length)

    abbrev pub revised_state : State
    revised_state = record { mental = ⟨ c.mind.beliefs / revised_plan / c.mind.goals ⟩; phase = 0; finished = finished_with c.mind.finished revised_plan }

    leads : next (agent_for l b) s.mental (revise i) ≡ some revised_state.mental
    unfolding next revised revision_of state_of
    leads =
        ap (outcome can_revise revised s.mental) (revision_entry l b i revision_known)
        ∙ outcome_yes can_revise revised s.mental (revision_for l b i) may_revise
        ∙ ap (λ k. some ⟨ c.mind.beliefs / plan l b body ++ drop k π / c.mind.goals ⟩) head_length

    pub revises_to : body.length + (n - head.length) ≤ 1024 → step (agent_for l b) s (revise i) ≡ to (revise i) revised_state
    unfolding after kind state_of
    revises_to k = step_to (agent_for l b) s (revise i) _ leads (rw revised_length k)

    pub revises_full : 1024 < body.length + (n - head.length) → step (agent_for l b) s (revise i) ≡ full
    revises_full k = step_full (agent_for l b) s (revise i) _ leads (rw revised_length k)
