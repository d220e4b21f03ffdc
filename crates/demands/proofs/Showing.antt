-- 16 is answered with the node that settles a false condition of the choice.
use mathlib.Core.Path.{◌≡◌, refl, ap, sym, ◌∙◌}
use mathlib.Core.Bool.{true, false}
use mathlib.Core.List.{[], ◌∷◌, ◌++◌, Memᴰ}
use Prim.Native.Nat.{ℕ, ◌<◌}
use native.Mathlib.Omega.{arith}
use borrow.Author.Tests.{ltb-true}
use lib.Dec.{ltb}
use Rattle.paper.specs.Language.{Letter, 𝐁, 𝐆, Config, Selection, Specification, Revision}
use Rattle.paper.specs.Transitions.{◌⊨◌, Choice, Entry}
use Rattle.paper.proofs.Relation.{both, some_inj}
use Rattle.runs.specs.Order.{number}
use Rattle.meaning.specs.declared.Refusal.{Refusal}
use Rattle.meaning.specs.declared.Layout.{Layout}
use Rattle.meaning.specs.declared.Configuration.{Configuration}
use Rattle.meaning.specs.declared.Reply.{Reply}
use Rattle.meaning.specs.Card.{Bytes, layout, conditions, specification_at, selection_at, revision_at, specification_of, selection_of, revision_of, agent_of, agent_for, agent}
use Rattle.meaning.specs.Card as Card
use Rattle.meaning.specs.Configurations.{state_of}
use Rattle.meaning.specs.Refusals.{number_of, answer_number, carried, answer_carried, nodes_good, containing, condition_good, specification_good, selection_good, revision_good}
use Rattle.meaning.specs.Theorems.{StandsIn, is_it, in_first, in_second}
use Rattle.meaning.proofs.Accepted.{accepted, counts, length-entries}
use Rattle.meaning.proofs.Entries.{GoodEntries, good_entries}
use Rattle.meaning.proofs.AgentEntries.{selection_entry, specification_entry, revision_entry}
use Rattle.meaning.proofs.Nodes.{node_rule}
use Rattle.meaning.proofs.Settling.{settler_law}
use Rattle.meaning.proofs.Carrying.{Carries, nothing, a_node, a_place, a_sheet, carries}
use Rattle.demands.specs.CallContracts.{Takes}
use Rattle.demands.specs.Demands.{done_or_card, OnAccepted}
use Rattle.demands.specs.Shown.{Shown, ShownLaw}
use Rattle.demands.specs.Closed.{Has, selection, specification, revision, FalseCondition, belief, goal, precondition, condition, FalseAt}
use Rattle.demands.proofs.Among.{outside, configuration_among}
use Rattle.demands.proofs.Codes.{card_accepted, has_lt, has_read}
use Rattle.demands.proofs.Ways.{Taking, refused, is_closed, plan_full, done, taking}
use Rattle.demands.proofs.Closing.{Reason, none_such, unfit, is_false, reason}
use Rattle.demands.proofs.ClosedExactly.{false_has, root, rooted, closed_law}

-- ---- the condition that is false, by the card's bytes

module _ (b : Bytes) (c : Configuration) (on : OnAccepted b c) where
  abbrev l : Layout
  l = layout b

  abbrev m : Config
  m = (state_of c).mental

  good : GoodEntries l b
  good = good_entries l b (accepted b (card_accepted b c on)).rules

  known : (L : ℕ) (x : ℕ) → condition_good l (containing L l b) x ≡ true → x < l.nodes.count
  known L x e = ltb-true _ _ (both (ltb x l.nodes.count) _ e).0

  module _ {i : ℕ} where
    selection_lt : {r : Selection} → Entry (agent b).PS i r → i < l.selections.count
    unfolding agent agent_for agent_of number
    selection_lt e = rw (length-entries _ l.selections) at (has_lt {A = agent b} (selection {n = i} e))

    specification_lt : {s : Specification} → Entry (agent b).AS i s → i < l.specifications.count
    unfolding agent agent_for agent_of number
    specification_lt e = rw (length-entries _ l.specifications) at (has_lt {A = agent b} (specification {n = i} e))

    revision_lt : {r : Revision} → Entry (agent b).PR i r → i < l.revisions.count
    unfolding agent agent_for agent_of number
    revision_lt e = rw (length-entries _ l.revisions) at (has_lt {A = agent b} (revision {n = i} e))

  root_known : {k : Choice} → Has (agent b) k → (L : Letter) → root b k L < l.nodes.count
  unfolding root selection_good specification_good revision_good
  root_known (selection {n = i} e) 𝐁 =
      known 2 _ (both (condition_good l (containing 2 l b) (selection_at l b i).belief) _ (good.selection i (selection_lt e))).0
  root_known (selection {n = i} e) 𝐆 =
      let q = (both (condition_good l (containing 2 l b) (selection_at l b i).belief) _ (good.selection i (selection_lt e))).1 in
      known 1 _ (both (condition_good l (containing 1 l b) (selection_at l b i).goal) _ q).0
  root_known (specification {n = i} e) L =
      let q = (both (ltb (specification_at l b i).action l.actions) _ (good.specification i (specification_lt e))).1 in
      known 2 _ (both (condition_good l (containing 2 l b) (specification_at l b i).node) _ q).0
  root_known (revision {n = i} e) L =
      known 2 _ (both (condition_good l (containing 2 l b) (revision_at l b i).node) _ (good.revision i (revision_lt e))).0

  root_false : {k : Choice} {L : Letter} → FalseCondition (agent b) m k L → (m ⊨ Card.condition (conditions L l b) (root b k L)) ≡ false
  unfolding root agent selection_of specification_of revision_of
  root_false (belief {n} e p f) = ap (λ r. m ⊨ r.β) (some_inj (sym (selection_entry l b n (selection_lt e)) ∙ e)) ∙ f
  root_false (goal {n} e p h f) = ap (λ r. m ⊨ r.κ) (some_inj (sym (selection_entry l b n (selection_lt e)) ∙ e)) ∙ f
  root_false (precondition {n} π e p f) = ap (λ s. m ⊨ s.β) (some_inj (sym (specification_entry l b n (specification_lt e)) ∙ e)) ∙ f
  root_false (condition {n} π e p f) = ap (λ r. m ⊨ r.β) (some_inj (sym (revision_entry l b n (revision_lt e)) ∙ e)) ∙ f

  shown_of : {n node : ℕ} → FalseAt b c n node → Shown b c n node
  shown_of f =
      let has = false_has (agent b) m f.is_false in
      let at = rooted b f.condition_of in
      record {
        chosen = f.chosen;
        coded = rw f.coded at (has_read b c on has);
        letter = f.letter;
        root = f.root;
        condition_of = f.condition_of;
        known = rw at (root_known has f.letter);
        is_false = rw at (root_false f.is_false);
        settled = f.settled;
      }

pub shown_law : ShownLaw
shown_law b c on n r e node a = shown_of b c on (((closed_law b c on n r e).condition node).0 a)

-- ---- the node is one of the card's, and so fits in the 16 bits that it is told in

lower : (l : Layout) (b : Bytes) → nodes_good l b ≡ true → {j i : ℕ} → StandsIn l b j i → i < l.nodes.count → j < l.nodes.count
lower l b good is_it h = h
lower l b good (in_first {i} k x) h = lower l b good x (let f = (node_rule l b good i h).first k in omega arith)
lower l b good (in_second {i} k x) h = lower l b good x (let s = (node_rule l b good i h).second k in omega arith)

-- only 16, 17 and 20 carry a number
carries_nothing : (q : Refusal) → Memᴰ (number_of q) (done_or_card ++ (13 ∷ [])) → carried q ≡ 0
unfolding number_of done_or_card
carries_nothing q = go (carries q)
  where
    go : {q : Refusal} → Carries q → Memᴰ (number_of q) (done_or_card ++ (13 ∷ [])) → carried q ≡ 0
    go (nothing e) i = e
    go a_node i = absurd (outside (done_or_card ++ (13 ∷ [])) 16 refl i)
    go a_place i = absurd (outside (done_or_card ++ (13 ∷ [])) 17 refl i)
    go a_sheet i = absurd (outside (done_or_card ++ (13 ∷ [])) 20 refl i)

module _ (b : Bytes) (c : Configuration) (n : ℕ) where
  node_known : OnAccepted b c → (node : ℕ) → Shown b c n node → node < (layout b).nodes.count
  node_known on node s =
      let card = card_accepted b c on in
      let own = (settler_law b card s.letter (state_of c).mental s.root s.known).own in
      rw s.settled (lower (layout b) b (accepted b card).nodes own s.known)

  narrow : OnAccepted b c → {q : Refusal} → Reason b c n q → carried q < 65536
  unfolding carried
  narrow on (none_such x) = omega arith
  narrow on (unfit k p u) = omega arith
  narrow on (is_false {node = node} f) =
      let k = node_known on node (shown_of b c on f) in let most = (counts (layout b) (accepted b (card_accepted b c on)).counts).nodes in omega arith

  pub node_narrow : (r : Reply) → Takes b c n r → answer_carried r.answer < 65536
  unfolding answer_number answer_carried carried
  node_narrow r e = go r (taking b c n r e)
    where
      go : (r : Reply) → Taking b c n r → answer_carried r.answer < 65536
      go r (refused {q} h) = let e = carries_nothing q (rw (h, answer_number) at (configuration_among b c)) in omega arith
      go r (is_closed h {q} w i x) = narrow h {q = q} (rw w (reason b c h n x))
      go r (plan_full h k c' x f) = omega arith
      go r (done h k c' x f) = omega arith
