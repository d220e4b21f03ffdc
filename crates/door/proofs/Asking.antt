-- What asking for a choice answers: open exactly if it is enabled; by the plan's bytes; of a card's agent, by its number.
use mathlib.Core.Path.{◌≡◌, refl, ap, ◌∙◌, sym}
use mathlib.Core.Bool.{Bool, true, false, not, ◌&&◌}
use mathlib.Core.List.{List, [], ◌∷◌}
use mathlib.Core.Option.{Option, none, some}
use Prim.Native.Nat.{ℕ, zero, suc, ◌≤◌, ◌<◌}
use native.Mathlib.Decide.{dec_lt}
use native.Mathlib.Omega.{arith}
use borrow.Author.Tests.{lt-ltb, le-ltb}
use lib.Dec.{eqb, eqb-suc-zero}
use lib.ListN.{length, take, get_or}
use Rattle.paper.specs.Language.{Config}
use Rattle.paper.specs.Transitions.{Choice, select, act, revise}
use Rattle.paper.specs.Next.{is_empty, starts_with, can_select, selected, can_act, acted, can_revise, revised, outcome, next, is_some, enabled}
use Rattle.paper.proofs.Relation.{outcome_yes, outcome_no, false≢true}
use Rattle.runs.proofs.Numbers.{made_none}
use Rattle.meaning.proofs.AgentEntries.{selection_for, specification_for, revision_for, selection_entry, specification_entry, revision_entry}
use Rattle.meaning.specs.declared.Layout.{Layout}
use Rattle.meaning.specs.Card.{Bytes, specification_of, selection_of, revision_of, agent_of, agent_for}
use Rattle.layout.specs.Entries.{count_of}
use Rattle.door.specs.declared.asked.Asked.{Asked}
use Rattle.door.specs.Asking.{is_there, front_fits, conditions_of, asked_by, asked, choice_at}

-- ---- open exactly if enabled

-- whether a choice is enabled
abbrev pub is_enabled : Asked → Bool
is_enabled Asked.Enabled = true
is_enabled Asked.NoRule = false
is_enabled Asked.Front = false
is_enabled (Asked.Condition n) = false

enabled_by : (front holds : Bool) (n : ℕ) → is_enabled (asked_by true front (holds, n)) ≡ (front && holds)
enabled_by true true n = refl
enabled_by true false n = refl
enabled_by false h n = refl

module _ (l : Layout) (b : Bytes) (c : Config) where
  -- of what stands under a number, or nothing
  module _ {R : Type 0} (can : Config → R → Bool) (done : Config → R → Config) (o : Option R) (k : Choice) where
    stands : (r : R) → o ≡ some r → is_there l k ≡ true → can c r ≡ (front_fits l b c k && (conditions_of l b c k).0) → is_enabled (asked l b c k) ≡ is_some (outcome can done c o)
    unfolding asked outcome
    stands r e t same =
        ap (λ t. is_enabled (asked_by t (front_fits l b c k) (conditions_of l b c k))) t
        ∙ enabled_by (front_fits l b c k) (conditions_of l b c k).0 (conditions_of l b c k).1
        ∙ sym same
        ∙ go (can c r) refl
        ∙ ap (λ o. is_some (outcome can done c o)) (sym e)
      where
        go : (t : Bool) → can c r ≡ t → can c r ≡ is_some (outcome can done c (some r))
        go true e = e ∙ sym (ap is_some (outcome_yes can done c r e))
        go false e = e ∙ sym (ap is_some (outcome_no can done c r e))

    missing : o ≡ none → is_there l k ≡ false → is_enabled (asked l b c k) ≡ is_some (outcome can done c o)
    unfolding asked outcome
    missing e t = ap (λ t. is_enabled (asked_by t (front_fits l b c k) (conditions_of l b c k))) t ∙ ap (λ o. is_some (outcome can done c o)) (sym e)

  pub asked_enabled : (k : Choice) → is_enabled (asked l b c k) ≡ enabled (agent_for l b) c k
  unfolding enabled next can_select can_act can_revise agent_for agent_of selection_of specification_of revision_of
  asked_enabled (select n) = elim (dec_lt n l.selections.count) [
    | yes h ↦ stands can_select selected _ (select n) (selection_for l b n) (selection_entry l b n h) (lt-ltb n l.selections.count h) refl
    | no h ↦ missing can_select selected _ (select n) (made_none (selection_for l b) 0 l.selections.count n (omega arith)) (le-ltb n l.selections.count (omega arith))
  ]
  asked_enabled (act n) = elim (dec_lt n l.specifications.count) [
    | yes h ↦ stands can_act acted _ (act n) (specification_for l b n) (specification_entry l b n h) (lt-ltb n l.specifications.count h) refl
    | no h ↦ missing can_act acted _ (act n) (made_none (specification_for l b) 0 l.specifications.count n (omega arith)) (le-ltb n l.specifications.count (omega arith))
  ]
  asked_enabled (revise n) = elim (dec_lt n l.revisions.count) [
    | yes h ↦ stands can_revise revised _ (revise n) (revision_for l b n) (revision_entry l b n h) (lt-ltb n l.revisions.count h) refl
    | no h ↦ missing can_revise revised _ (revise n) (made_none (revision_for l b) 0 l.revisions.count n (omega arith)) (le-ltb n l.revisions.count (omega arith))
  ]

  -- what an answer tells of the choice
  pub asked_is : (k : Choice) (x y : Asked) → x ≡ asked l b c k → x ≡ y → is_enabled y ≡ enabled (agent_for l b) c k
  asked_is k x y e f = ap is_enabled (sym f ∙ e) ∙ asked_enabled k

  -- ---- no choice past a kind's last

  not_there : (kind i : ℕ) → count_of l kind ≤ i → is_there l (choice_at kind i) ≡ false
  not_there zero i h = le-ltb i l.selections.count h
  not_there (suc zero) i h = le-ltb i l.specifications.count h
  not_there (suc (suc kind)) i h = le-ltb i l.revisions.count h

  pub no_rule : (kind i : ℕ) → count_of l kind ≤ i → Asked.NoRule ≡ asked l b c (choice_at kind i)
  unfolding asked
  no_rule kind i h = let k = choice_at kind i in sym (ap (λ t. asked_by t (front_fits l b c k) (conditions_of l b c k)) (not_there kind i h))

  pub past_last : (kind i : ℕ) → count_of l kind ≤ i → enabled (agent_for l b) c (choice_at kind i) ≡ false
  past_last kind i h = sym (ap is_enabled (no_rule kind i h) ∙ asked_enabled (choice_at kind i))

  pub known_number : (kind i : ℕ) → enabled (agent_for l b) c (choice_at kind i) ≡ true → i < count_of l kind
  known_number kind i e = elim (dec_lt i (count_of l kind)) [
    | yes h ↦ h
    | no h ↦ absurd (false≢true (sym (past_last kind i (omega arith)) ∙ e))
  ]

-- ---- the front of a plan, by its bytes

pub empty_exactly : (d : List ℕ) (n : ℕ) → n ≤ length d → is_empty (take n d) ≡ eqb n 0
empty_exactly d zero h = refl
empty_exactly [] (suc n) h = absurd (omega arith)
empty_exactly (x ∷ d) (suc n) h = sym (eqb-suc-zero n)

pub first_exactly : (a : ℕ) (d : List ℕ) (n : ℕ) → 1 ≤ length d → starts_with a (take n d) ≡ (not (eqb n 0) && eqb a (get_or d 0 0))
first_exactly a [] n h = absurd (omega arith)
first_exactly a (x ∷ d) zero h = refl
first_exactly a (x ∷ d) (suc n) h = rw (eqb-suc-zero n)
