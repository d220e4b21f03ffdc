-- Each of 14, 15 and 16 both ways: no two of the reasons for which a choice is closed hold at once, and none of a choice that has a
-- transition.
use mathlib.Core.Path.{◌≡◌, refl, ap, sym, ◌∙◌}
use mathlib.Core.Bool.{Bool, true, false, ◌&&◌}
use mathlib.Core.List.{[], ◌∷◌}
use mathlib.Core.Option.{Option, none, some}
use Prim.Native.Nat.{ℕ}
use native.Mathlib.Omega.{arith}
use borrow.Author.Tests.{ne_eqb, eq-eqb}
use lib.ListN.{get_elem?}
use Rattle.paper.specs.Language.{Plan, Letter, 𝐁, 𝐆, Agent, Config}
use Rattle.paper.specs.Transitions.{◌⊨◌, Choice, select, act, revise, Step}
use Rattle.paper.specs.Next.{is_empty, starts_with, is_prefix, can_select, selected, can_act, acted, can_revise, revised, outcome, next}
use Rattle.paper.proofs.Relation.{false≢true, none≢some, some_inj, prefix_split, outcome_no, sound}
use Rattle.runs.specs.Order.{code}
use Rattle.meaning.specs.declared.Refusal.{Refusal}
use Rattle.meaning.specs.Answers.{Answer}
use Rattle.std.specs.Prelude.{Err}
use Rattle.meaning.specs.declared.Configuration.{Configuration}
use Rattle.meaning.specs.declared.Reply.{Reply}
use Rattle.meaning.specs.Card.{Bytes, layout, specification_at, selection_at, revision_at, agent}
use Rattle.meaning.specs.Configurations.{state_of}
use Rattle.meaning.specs.Refusals.{number_of, answer_number, carried, answer_carried}
use Rattle.meaning.specs.Why.{settler}
use Rattle.meaning.proofs.Tables.{done≢refused}
use Rattle.demands.specs.Demands.{OnAccepted, ChosenMove}
use Rattle.demands.specs.Shown.{ConditionOf}
use Rattle.demands.specs.Shown as Shown
use Rattle.demands.specs.Closed.{Has, selection, specification, revision, UnfitFront, is_empty_lem, not_empty, other_first_action, other_head, FalseCondition, belief, goal, precondition, condition, FalseAt, ClosedExactly, ClosedLaw}
use Rattle.demands.proofs.Codes.{moved, has_read}
use Rattle.demands.proofs.Ways.{Taking, refused, is_closed, plan_full, done, taking}
use Rattle.demands.proofs.Closing.{prefix_of, Reason, none_such, unfit, is_false, reason}

abbrev test : {R : Type 0} → (R → Bool) → Option R → Bool
test t none = false
test t (some r) = t r

module _ (A : Agent) where
  -- whether the plan's front fits a choice that the agent has
  abbrev front : Plan → Choice → Bool
  front π (select n) = is_empty π
  front π (act n) = test (λ s. starts_with s.a π) (get_elem? A.AS n)
  front π (revise n) = test (λ r. is_prefix r.πₕ π) (get_elem? A.PR n)

  -- whether its belief condition holds
  abbrev believed : Config → Choice → Bool
  believed c (select n) = test (λ r. c ⊨ r.β) (get_elem? A.PS n)
  believed c (act n) = test (λ s. c ⊨ s.β) (get_elem? A.AS n)
  believed c (revise n) = test (λ r. c ⊨ r.β) (get_elem? A.PR n)

  unfit_has : {π : Plan} {k : Choice} → UnfitFront A π k → Has A k
  unfit_has (is_empty_lem e) = specification e
  unfit_has (not_empty e) = selection e
  unfit_has (other_first_action e d) = specification e
  unfit_has (other_head e d) = revision e

  unfit_front : {π : Plan} {k : Choice} → UnfitFront A π k → front π k ≡ false
  unfit_front (is_empty_lem e) = ap (test (λ s. starts_with s.a [])) e
  unfit_front (not_empty e) = refl
  unfit_front (other_first_action {s = s} {a = a} {π = π} e d) = ap (test (λ s. starts_with s.a (a ∷ π))) e ∙ ne_eqb s.a a d
  unfit_front (other_head {r = r} {π = π} e d) = ap (test (λ r. is_prefix r.πₕ π)) e ∙ go (is_prefix r.πₕ π) refl
    where
      go : (t : Bool) → is_prefix r.πₕ π ≡ t → t ≡ false
      go true h = absurd (d _ (prefix_split r.πₕ π h))
      go false h = refl

  module _ (c : Config) where
    pub false_has : {k : Choice} {L : Letter} → FalseCondition A c k L → Has A k
    false_has (belief e p f) = selection e
    false_has (goal e p h f) = selection e
    false_has (precondition π e p f) = specification e
    false_has (condition π e p f) = revision e

    false_front : {k : Choice} {L : Letter} → FalseCondition A c k L → front c.π k ≡ true
    false_front (belief e p f) = ap is_empty p
    false_front (goal e p h f) = ap is_empty p
    false_front (precondition {s = s} π e p f) = ap (test (λ s. starts_with s.a c.π)) e ∙ (ap (starts_with s.a) p ∙ eq-eqb s.a s.a refl)
    false_front (condition {r = r} π e p f) = ap (test (λ r. is_prefix r.πₕ c.π)) e ∙ (ap (is_prefix r.πₕ) p ∙ prefix_of r.πₕ π)

    -- the goal condition exactly where the belief condition holds
    asked_by : Bool → Letter
    asked_by true = 𝐆
    asked_by false = 𝐁

    asked : Choice → Letter
    asked k = asked_by (believed c k)

    false_asked : {k : Choice} {L : Letter} → FalseCondition A c k L → L ≡ asked k
    unfolding asked asked_by
    false_asked (belief e p f) = sym (ap asked_by (ap (test (λ r. c ⊨ r.β)) e ∙ f))
    false_asked (goal e p h f) = sym (ap asked_by (ap (test (λ r. c ⊨ r.β)) e ∙ h))
    false_asked (precondition π e p f) = sym (ap asked_by (ap (test (λ s. c ⊨ s.β)) e ∙ f))
    false_asked (condition π e p f) = sym (ap asked_by (ap (test (λ r. c ⊨ r.β)) e ∙ f))

    no_step : {k : Choice} {c' : Config} → next A c k ≡ none → Step A c k c' → ⊥
    no_step h s = none≢some (sym h ∙ sound s)

    module _ {R : Type 0} (can : Config → R → Bool) (done : Config → R → Config) where
      shut : (r : R) (o : Option R) → o ≡ some r → can c r ≡ false → outcome can done c o ≡ none
      shut r o e h = ap (outcome can done c) e ∙ outcome_no can done c r h

    last_false : (t : Bool) → (t && false) ≡ false
    last_false true = refl
    last_false false = refl

    false_none : {k : Choice} {L : Letter} → FalseCondition A c k L → next A c k ≡ none
    unfolding next can_select can_act can_revise
    false_none (belief {r = r} e p f) = shut can_select selected r _ e (rw f (last_false (is_empty c.π)))
    false_none (goal {r = r} e p h f) = shut can_select selected r _ e (rw (h, f) (last_false (is_empty c.π)))
    false_none (precondition {s = s} π e p f) = shut can_act acted s _ e (rw f (last_false (starts_with s.a c.π)))
    false_none (condition {r = r} π e p f) = shut can_revise revised r _ e (rw f (last_false (is_prefix r.πₕ c.π)))

    front_none : {k : Choice} → Has A k → front c.π k ≡ false → next A c k ≡ none
    unfolding next can_select can_act can_revise
    front_none (selection {r = r} e) f = shut can_select selected r _ e (rw f)
    front_none (specification {s = s} e) f = shut can_act acted s _ e (let g : starts_with s.a c.π ≡ false = sym (ap (test (λ s. starts_with s.a c.π)) e) ∙ f in rw g)
    front_none (revision {r = r} e) f = shut can_revise revised r _ e (let g : is_prefix r.πₕ c.π ≡ false = sym (ap (test (λ r. is_prefix r.πₕ c.π)) e) ∙ f in rw g)

-- ---- the node is one alone

module _ (b : Bytes) where
  unfoldable pub root : Choice → Letter → ℕ
  root (select n) 𝐁 = (selection_at (layout b) b n).belief
  root (select n) 𝐆 = (selection_at (layout b) b n).goal
  root (act n) L = (specification_at (layout b) b n).node
  root (revise n) L = (revision_at (layout b) b n).node

  pub rooted : {k : Choice} {L : Letter} {x : ℕ} → ConditionOf (layout b) b k L x → x ≡ root k L
  unfolding root
  rooted Shown.belief = refl
  rooted Shown.goal = refl
  rooted Shown.precondition = refl
  rooted Shown.condition = refl

  module _ (c : Configuration) where
    node_of : Choice → ℕ
    node_of k = let L = asked (agent b) (state_of c).mental k in settler L (layout b) b (state_of c).mental (root k L)

    one_node : {n node : ℕ} (f : FalseAt b c n node) → node ≡ node_of f.chosen
    unfolding node_of
    one_node f =
        let q : f.letter ≡ asked (agent b) (state_of c).mental f.chosen = false_asked (agent b) (state_of c).mental f.is_false in
        f.settled ∙ (ap (settler f.letter (layout b) b (state_of c).mental) (rooted f.condition_of) ∙ ap (λ L. settler L (layout b) b (state_of c).mental (root f.chosen L)) q)

-- ---- the law

differ : (a d : Answer) → (answer_number a ≡ answer_number d → ⊥) → a ≡ d → ⊥
differ a d h e = h (ap answer_number e)

module _ (b : Bytes) (c : Configuration) (on : OnAccepted b c) (n : ℕ) where
  same : {k j : Choice} → code k ≡ n → Has (agent b) k → code j ≡ n → Has (agent b) j → k ≡ j
  same {k} {j} p h q i = some_inj (sym (rw p at (has_read b c on h)) ∙ (rw q at (has_read b c on i)))

  by_reason : {q : Refusal} → Reason b c n q → ClosedExactly b c n (record { answer = Err q; configuration = c })
  unfolding answer_number number_of answer_carried carried
  by_reason (none_such x) = record {
    no_rule = (λ e. x, λ y. refl);
    front = (λ e. absurd (differ _ _ (λ z. omega arith) e), λ (k, (p, u)). absurd (x k p (unfit_has (agent b) u)));
    condition = λ node. (λ e. absurd (differ _ _ (λ z. omega arith) e), λ f. absurd (x f.chosen f.coded (false_has (agent b) _ f.is_false)));
  }
  by_reason (unfit k p u) = record {
    no_rule = (λ e. absurd (differ _ _ (λ z. omega arith) e), λ x. absurd (x k p (unfit_has (agent b) u)));
    front = (λ e. (k, (p, u)), λ y. refl);
    condition = λ node. (λ e. absurd (differ _ _ (λ z. omega arith) e), λ f. absurd (never f));
  }
    where
      never : {node : ℕ} → FalseAt b c n node → ⊥
      never f =
          let m = (state_of c).mental in
          let k≡ : f.chosen ≡ k = same f.coded (false_has (agent b) m f.is_false) p (unfit_has (agent b) u) in
          false≢true (sym (unfit_front (agent b) u) ∙ (rw k≡ at (false_front (agent b) m f.is_false)))
  by_reason (is_false {node} f) = record {
    no_rule = (λ e. absurd (differ _ _ (λ z. omega arith) e), λ x. absurd (x f.chosen f.coded (false_has (agent b) _ f.is_false)));
    front = (λ e. absurd (differ _ _ (λ z. omega arith) e), λ (k, (p, u)). absurd (never k p u));
    condition = λ node'. (λ e. (let z : node ≡ node' = ap answer_carried e in rw z at f), λ g. ap (λ x. Err (Refusal.Condition x)) (one g));
  }
    where
      never : (k : Choice) → code k ≡ n → UnfitFront (agent b) (state_of c).mental.π k → ⊥
      never k p u =
          let m = (state_of c).mental in
          let k≡ : f.chosen ≡ k = same f.coded (false_has (agent b) m f.is_false) p (unfit_has (agent b) u) in
          false≢true (sym (unfit_front (agent b) u) ∙ (rw k≡ at (false_front (agent b) m f.is_false)))

      one : {node' : ℕ} → FalseAt b c n node' → node ≡ node'
      one g = one_node b c f ∙ (ap (node_of b c) (same f.coded (false_has (agent b) _ f.is_false) g.coded (false_has (agent b) _ g.is_false)) ∙ sym (one_node b c g))

  -- of a choice that has a transition, done or too long
  by_move : (k : Choice) (c' : Config) → ChosenMove b c n k c' → (r : Reply) → (answer_number r.answer ≡ 14 → ⊥) → (answer_number r.answer ≡ 15 → ⊥)
      → (answer_number r.answer ≡ 16 → ⊥) → ClosedExactly b c n r
  unfolding answer_number number_of
  by_move k c' x r p q s = record {
    no_rule = (λ e. absurd (differ _ _ p e), λ none_there. absurd (none_there k x.coded has));
    front = (λ e. absurd (differ _ _ q e), λ (j, (i, u)). absurd (moves j i (unfit_has (agent b) u) (front_none (agent b) m (unfit_has (agent b) u) (unfit_front (agent b) u))));
    condition =
        λ node. (λ e. absurd (differ _ _ s e), λ f. absurd (moves f.chosen f.coded (false_has (agent b) m f.is_false) (false_none (agent b) m f.is_false)));
  }
    where
      m : Config
      m = (state_of c).mental

      has : Has (agent b) k
      has = moved x.transition

      moves : (j : Choice) → code j ≡ n → Has (agent b) j → next (agent b) (state_of c).mental j ≡ none → ⊥
      moves j i h z = no_step (agent b) (state_of c).mental (rw (same i h x.coded has) at z) x.transition

pub closed_law : ClosedLaw
unfolding answer_number number_of
closed_law b c on n r e = go r (taking b c n r e)
  where
    go : (r : Reply) → Taking b c n r → ClosedExactly b c n r
    go r (refused h) = absurd (done≢refused (sym on ∙ h))
    go r (is_closed h w i none_there) = by_reason b c on n (rw w (reason b c on n none_there))
    go r (plan_full h k c' x f) = by_move b c on n k c' x r (λ z. omega arith) (λ z. omega arith) (λ z. omega arith)
    go r (done h k c' x f) = by_move b c on n k c' x r (λ z. omega arith) (λ z. omega arith) (λ z. omega arith)
