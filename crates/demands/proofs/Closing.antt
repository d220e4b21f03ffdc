-- 14, 15 and 16 are answered exactly when 02, Wish 1 has them.
use mathlib.Core.Path.{◌≡◌, refl, ap, sym, ◌∙◌}
use mathlib.Core.Bool.{Bool, true, false, ◌&&◌}
use mathlib.Core.List.{[], ◌∷◌, ◌++◌}
use mathlib.Core.Option.{Option, none, some}
use Prim.Native.Nat.{ℕ, ◌≤◌}
use native.Mathlib.Omega.{arith}
use borrow.Author.Tests.{ltb-true, ltb-false, eqb-true, eqb-false, eq-eqb}
use lib.Dec.{ltb}
use lib.ListN.{length, drop}
use Rattle.paper.specs.Language.{Plan, Letter, 𝐁, 𝐆, Agent, Config, Selection, Specification, Revision}
use Rattle.paper.specs.Transitions.{◌⊨◌, Choice, select, act, revise, Entry, Step}
use Rattle.paper.specs.Next.{is_empty, starts_with, is_prefix, can_select, selected, can_act, acted, can_revise, revised, outcome, next, is_some, enabled}
use Rattle.paper.proofs.Relation.{false≢true, none≢some, some_inj, prefix_split, outcome_yes, enabled_exactly}
use Rattle.runs.specs.Order.{code, number}
use Rattle.meaning.specs.declared.Refusal.{Refusal}
use Rattle.meaning.specs.declared.Layout.{Layout}
use Rattle.meaning.specs.declared.SelectionEntry.{SelectionEntry}
use Rattle.meaning.specs.declared.SpecificationEntry.{SpecificationEntry}
use Rattle.meaning.specs.declared.RevisionEntry.{RevisionEntry}
use Rattle.meaning.specs.declared.Configuration.{Configuration}
use Rattle.meaning.specs.Card.{Bytes, layout, conditions, plan, specification_at, selection_at, revision_at, specification_of, selection_of, revision_of, agent_of, agent_for, agent}
use Rattle.meaning.specs.Card as Card
use Rattle.meaning.specs.Configurations.{state_of}
use Rattle.meaning.specs.Why.{settler, false_of, front_first, rule_first, why, why_closed}
use Rattle.meaning.specs.Calls.{choice}
use Rattle.meaning.proofs.Accepted.{length-entries}
use Rattle.meaning.proofs.AgentEntries.{selection_for, specification_for, revision_for, selection_entry, specification_entry, revision_entry}
use Rattle.demands.specs.Demands.{OnAccepted, ChosenMove}
use Rattle.demands.specs.Shown.{ConditionOf, Shown}
use Rattle.demands.specs.Shown as Shown
use Rattle.demands.specs.Closed.{Has, UnfitFront, is_empty_lem, not_empty, other_first_action, other_head, FalseCondition, belief, goal, precondition, condition, FalseAt}
use Rattle.demands.proofs.Codes.{coded, rules, has_lt, has_read}

-- ---- fronts that do not fit, and fronts that do

module _ (A : Agent) (n : ℕ) where
  unfit_selection : (r : Selection) (π : Plan) → Entry A.PS n r → is_empty π ≡ false → UnfitFront A π (select n)
  unfit_selection r [] e f = absurd (false≢true (sym f))
  unfit_selection r (a ∷ π) e f = not_empty e

  unfit_specification : (s : Specification) (π : Plan) → Entry A.AS n s → starts_with s.a π ≡ false → UnfitFront A π (act n)
  unfit_specification s [] e f = is_empty_lem e
  unfit_specification s (a ∷ π) e f = other_first_action e (eqb-false s.a a f)

pub prefix_of : (h π : Plan) → is_prefix h (h ++ π) ≡ true
prefix_of [] π = refl
prefix_of (a ∷ h) π = rw (eq-eqb a a refl) (prefix_of h π)

unfit_revision : (A : Agent) (n : ℕ) (r : Revision) (π : Plan) → Entry A.PR n r → is_prefix r.πₕ π ≡ false → UnfitFront A π (revise n)
unfit_revision A n r π e f = other_head e (λ rest q. false≢true (sym f ∙ (ap (is_prefix r.πₕ) q ∙ prefix_of r.πₕ rest)))

empty_plan : (π : Plan) → is_empty π ≡ true → π ≡ []
empty_plan [] e = refl
empty_plan (a ∷ π) e = absurd (false≢true e)

first_action : (a : ℕ) (π : Plan) → starts_with a π ≡ true → π ≡ a ∷ drop 1 π
first_action a [] e = absurd (false≢true e)
first_action a (x ∷ π) e = let q : a ≡ x = eqb-true a x e in rw q

-- ---- a choice that has a rule whose front fits and whose conditions hold has a transition

module _ (A : Agent) (c : Config) (n : ℕ) where
  selects : (r : Selection) → Entry A.PS n r → can_select c r ≡ true → (c' : Config) × Step A c (select n) c'
  unfolding enabled next
  selects r e h = (enabled_exactly A c (select n)).0 (ap is_some (ap (outcome can_select selected c) e ∙ outcome_yes can_select selected c r h))

  acts : (s : Specification) → Entry A.AS n s → can_act c s ≡ true → (c' : Config) × Step A c (act n) c'
  unfolding enabled next
  acts s e h = (enabled_exactly A c (act n)).0 (ap is_some (ap (outcome can_act acted c) e ∙ outcome_yes can_act acted c s h))

  revises : (r : Revision) → Entry A.PR n r → can_revise c r ≡ true → (c' : Config) × Step A c (revise n) c'
  unfolding enabled next
  revises r e h = (enabled_exactly A c (revise n)).0 (ap is_some (ap (outcome can_revise revised c) e ∙ outcome_yes can_revise revised c r h))

-- ---- why a choice without a transition is closed

pub data Reason (b : Bytes) (c : Configuration) (n : ℕ) : Refusal → Type 0 where
  none_such : ((k : Choice) → code k ≡ n → Has (agent b) k → ⊥) → Reason b c n Refusal.NoRule
  unfit : (k : Choice) → code k ≡ n → UnfitFront (agent b) (state_of c).mental.π k → Reason b c n Refusal.Front
  is_false : {node : ℕ} → FalseAt b c n node → Reason b c n (Refusal.Condition node)

module _ (b : Bytes) (c : Configuration) (on : OnAccepted b c) (n : ℕ) where
  abbrev l : Layout
  l = layout b

  abbrev m : Config
  m = (state_of c).mental

  abbrev holds : Letter → ℕ → Bool
  holds L x = m ⊨ Card.condition (conditions L l b) x

  abbrev NoMove : Choice → Type 0
  NoMove k = (c' : Config) → Step (agent b) m k c' → ⊥

  -- the agent has none under the number of the code's choice
  absent : (k : Choice) → choice n ≡ some k → rules (agent b) k ≤ number k → Reason b c n Refusal.NoRule
  absent k h past =
      none_such (λ j e t.
      let same : k ≡ j = some_inj (sym h ∙ (rw e at (has_read b c on t))) in
      let lt = has_lt (rw (sym same) at t) in
      omega arith)

  shows : (k : Choice) → choice n ≡ some k → (L : Letter) → FalseCondition (agent b) m k L → (x : ℕ) → ConditionOf l b k L x
      → Reason b c n (Refusal.Condition (settler L l b m x))
  shows k h L f x o = is_false (record { chosen = k; coded = coded n k h; letter = L; is_false = f; root = x; condition_of = o; settled = refl })

  module _ (i : ℕ) where
    abbrev entry : SelectionEntry
    entry = selection_at l b i

    abbrev specified : SpecificationEntry
    specified = specification_at l b i

    abbrev revising : RevisionEntry
    revising = revision_at l b i

    of_selection : choice n ≡ some (select i) → NoMove (select i) → Reason b c n (why l b m (select i))
    unfolding why agent agent_for agent_of can_select selection_of number
    of_selection h none_there =
        go (ltb i l.selections.count) refl (is_empty m.π) refl (holds 𝐁 entry.belief) refl (holds 𝐆 entry.goal) refl
      where
        there : ltb i l.selections.count ≡ true → Entry (agent b).PS i (selection_for l b i)
        there t = selection_entry l b i (ltb-true _ _ t)

        go : (t : Bool) → ltb i l.selections.count ≡ t → (f : Bool) → is_empty m.π ≡ f → (u : Bool) → holds 𝐁 entry.belief ≡ u → (v : Bool) → holds 𝐆 entry.goal ≡ v
            → Reason b c n (rule_first t (front_first f (false_of u (settler 𝐁 l b m entry.belief) (settler 𝐆 l b m entry.goal))))
        go false et f ef u eu v ev = absent (select i) h (rw (length-entries _ l.selections) (ltb-false _ _ et))
        go true et false ef u eu v ev = unfit (select i) (coded n (select i) h) (unfit_selection (agent b) i (selection_for l b i) m.π (there et) ef)
        go true et true ef false eu v ev = shows (select i) h 𝐁 (belief (there et) (empty_plan m.π ef) eu) entry.belief Shown.belief
        go true et true ef true eu false ev = shows (select i) h 𝐆 (goal (there et) (empty_plan m.π ef) eu ev) entry.goal Shown.goal
        go true et true ef true eu true ev =
            let (c', s) = selects (agent b) m i (selection_for l b i) (there et) (λ j. ef j && (eu j && ev j)) in absurd (none_there c' s)

    of_specification : choice n ≡ some (act i) → NoMove (act i) → Reason b c n (why l b m (act i))
    unfolding why agent agent_for agent_of can_act specification_of number
    of_specification h none_there =
        go (ltb i l.specifications.count) refl (starts_with specified.action m.π) refl (holds 𝐁 specified.node) refl
      where
        there : ltb i l.specifications.count ≡ true → Entry (agent b).AS i (specification_for l b i)
        there t = specification_entry l b i (ltb-true _ _ t)

        go : (t : Bool) → ltb i l.specifications.count ≡ t → (f : Bool) → starts_with specified.action m.π ≡ f → (u : Bool) → holds 𝐁 specified.node ≡ u
            → Reason b c n (rule_first t (front_first f (Refusal.Condition (settler 𝐁 l b m specified.node))))
        go false et f ef u eu = absent (act i) h (rw (length-entries _ l.specifications) (ltb-false _ _ et))
        go true et false ef u eu = unfit (act i) (coded n (act i) h) (unfit_specification (agent b) i (specification_for l b i) m.π (there et) ef)
        go true et true ef false eu =
            shows (act i) h 𝐁 (precondition (drop 1 m.π) (there et) (first_action specified.action m.π ef) eu) specified.node Shown.precondition
        go true et true ef true eu =
            let (c', s) = acts (agent b) m i (specification_for l b i) (there et) (λ j. ef j && eu j) in absurd (none_there c' s)

    of_revision : choice n ≡ some (revise i) → NoMove (revise i) → Reason b c n (why l b m (revise i))
    unfolding why agent agent_for agent_of can_revise revision_of number
    of_revision h none_there =
        go (ltb i l.revisions.count) refl (is_prefix (plan l b revising.head) m.π) refl (holds 𝐁 revising.node) refl
      where
        there : ltb i l.revisions.count ≡ true → Entry (agent b).PR i (revision_for l b i)
        there t = revision_entry l b i (ltb-true _ _ t)

        go : (t : Bool) → ltb i l.revisions.count ≡ t → (f : Bool) → is_prefix (plan l b revising.head) m.π ≡ f → (u : Bool) → holds 𝐁 revising.node ≡ u
            → Reason b c n (rule_first t (front_first f (Refusal.Condition (settler 𝐁 l b m revising.node))))
        go false et f ef u eu = absent (revise i) h (rw (length-entries _ l.revisions) (ltb-false _ _ et))
        go true et false ef u eu = unfit (revise i) (coded n (revise i) h) (unfit_revision (agent b) i (revision_for l b i) m.π (there et) ef)
        go true et true ef false eu =
            shows (revise i) h 𝐁 (condition (drop (length (plan l b revising.head)) m.π) (there et) (prefix_split (plan l b revising.head) m.π ef) eu) revising.node Shown.condition
        go true et true ef true eu =
            let (c', s) = revises (agent b) m i (revision_for l b i) (there et) (λ j. ef j && eu j) in absurd (none_there c' s)

  pub reason : ((k : Choice) (c' : Config) → ChosenMove b c n k c' → ⊥) → Reason b c n (why_closed l b m (choice n))
  reason none_there = go (choice n) refl
    where
      by : (k : Choice) → choice n ≡ some k → NoMove k → Reason b c n (why l b m k)
      by (select i) = of_selection i
      by (act i) = of_specification i
      by (revise i) = of_revision i

      go : (o : Option Choice) → choice n ≡ o → Reason b c n (why_closed l b m o)
      go none h = none_such (λ k e t. none≢some (sym h ∙ (rw e at (has_read b c on t))))
      go (some k) h = by k h (λ c' s. none_there k c' (record { coded = coded n k h; transition = s }))
