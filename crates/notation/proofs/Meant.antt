-- A text means what it says.
use mathlib.Core.Path.{◌≡◌, refl, ap, ap₂, sym, ◌∙◌, subst}
use mathlib.Core.Bool.{Bool, ◌&&◌}
use mathlib.Core.List.{List, [], ◌∷◌, ◌++◌, map, flatten, append_assoc, append-nil, map-append, map-map}
use Prim.Native.Nat.{ℕ, ◌+◌}
use native.Mathlib.Nat.{add-zero}
use native.Mathlib.Omega.{arith}
use borrow.Author.Tests.{leb-true}
use lib.Dec.{leb}
use lib.ListN.{length, length-map}
use lib.Seq.{take_all}
use Rattle.paper.specs.Language.{𝐁, 𝐆, ⟨◌/◌/◌⟩}
use Rattle.paper.specs.Transitions.{struck_by}
use Rattle.paper.proofs.Relation.{both}
use Rattle.runs.specs.Order.{numbers}
use Rattle.meaning.specs.declared.Layout.{Layout}
use Rattle.std.specs.Prelude.{Ok}
use Rattle.meaning.specs.Trees.{Tree}
use Rattle.meaning.specs.Sizes.{edition_set}
use Rattle.meaning.specs.Card.{Bytes, byte, number_at, span, part, widened, initial_beliefs, initial_goals, layout, weights, plan, specification_at, selection_at, revision_at, specification_of, selection_of, revision_of, agent_of, agent_for, agent, initial_plan, start}
use Rattle.meaning.specs.Card as Card
use Rattle.meaning.specs.Place.{two_bytes}
use Rattle.meaning.specs.Refusals.{all, every, containing, specification_good, selection_good, revision_good, rules_good, card_answer}
use Rattle.meaning.proofs.Accepted.{accepted}
use Rattle.notation.specs.Conditions.{Condition, trees_of}
use Rattle.notation.specs.Lines.{Said, conditions}
use Rattle.notation.specs.Built.{sizes, set_of, pool, specifications, selections, revisions, built}
use Rattle.notation.specs.Reading.{numbers_fit, entries_fit}
use Rattle.notation.specs.Making.{set_fits}
use Rattle.notation.specs.Meant.{atoms_of, Specifies, Selects, Revises, InTurn, Means, MeantLaw}
use Rattle.notation.proofs.MadeNodes.{sizes_append}
use Rattle.notation.proofs.MadeSets.{set_length}
use Rattle.notation.proofs.MadeSelects.{select_plans, select_conditions}
use Rattle.notation.proofs.MadeRevises.{revise_plans, revise_conditions}
use Rattle.notation.proofs.MadeEntries.{weights_sized, specifications_counted, specifications_sized, selections_counted, selections_sized, revisions_counted, revisions_sized}
use Rattle.notation.proofs.MadeWhole.{made_said, do_nodes, select_nodes, select_trees_lem, pool_said}
use Rattle.notation.proofs.MadeFits.{said_fits, numbers_each, pool_counted}
use Rattle.notation.proofs.MadeCards.{two, built_layout}
use Rattle.notation.proofs.Standing.{number_there, part_there, stands_first, stands_second, entries_read}
use Rattle.notation.proofs.StandingSections.{layout_said, sets_stand, weights_stand, specifications_stand, selections_stand, revisions_stand}
use Rattle.notation.proofs.MeantLines.{specification_from, selection_from, revision_from, specification_there, selection_there, revision_there, plan_there, specify, select, revise}
use Rattle.notation.proofs.Laws.{done_leaves}

-- ---- what is made or judged of entries is made or judged of what they are read from

all_map : {X Y : Type 0} (t : Y → Bool) (f : X → Y) (xs : List X) → all t (map f xs) ≡ all (λ x. t (f x)) xs
all_map t f [] = refl
all_map t f (x ∷ xs) = ap (λ a. t (f x) && a) (all_map t f xs)

module _ {A B E : Type 0} (at : A → E) (from : B → E) (xs : List A) (ys : List B) (same : map at xs ≡ map from ys) where
  made_through : {R : Type 0} (f : E → R) → map (λ x. f (at x)) xs ≡ map (λ y. f (from y)) ys
  made_through f = sym (map-map f at xs) ∙ ap (map f) same ∙ map-map f from ys

  judged_through : (t : E → Bool) → all (λ x. t (at x)) xs ≡ Bool.true → all (λ y. t (from y)) ys ≡ Bool.true
  judged_through t e = sym (all_map t from ys) ∙ ap (all t) (sym same) ∙ all_map t at xs ∙ e

-- ---- the weights

weights_told : (ws : List ℕ) → all (λ w. leb w 65535) ws ≡ Bool.true → map (λ e. number_at e 0) (map two_bytes ws) ≡ ws
weights_told [] h = refl
weights_told (w ∷ ws) h =
    let (one, rest) = both (leb w 65535) _ h in
    ap₂ (λ x xs. x ∷ xs) (two w (leb-true w 65535 one)) (weights_told ws rest)

-- ---- the card

module _ (s : Said) (n : numbers_fit s ≡ Bool.true) (e : entries_fit s ≡ Bool.true) where
  abbrev l : Layout
  l = layout_said s

  abbrev b : Bytes
  b = built s

  -- ---- what is read

  weights_read : weights l b ≡ s.weights
  unfolding weights made_said edition_set
  weights_read =
      entries_read b 2 64 (number_at b) (λ x. number_at x 0)
      (λ at x stands h. ap (number_at b) (sym (add-zero at)) ∙ number_there stands 0 (omega arith))
      (length s.weights) (map two_bytes s.weights) (length-map s.weights two_bytes) (weights_sized s.weights) (weights_stand s n e)
      ∙ weights_told s.weights (numbers_each s n).1

  specifications_read : map (specification_at l b) (numbers 0 (length s.dos)) ≡ map specification_from (specifications 0 s.dos)
  unfolding specification_at made_said edition_set
  specifications_read =
      entries_read b 36 l.specifications.offset
      (λ at. record { action = byte b at; node = byte b (at + 1); zero = number_at b (at + 2); add = widened (part b (at + 4) 16); del = widened (part b (at + 20) 16) })
      specification_from (specification_there b) (length s.dos) (specifications 0 s.dos) (specifications_counted 0 s.dos)
      (specifications_sized 0 s.dos (said_fits s n e).dos.sets) (specifications_stand s n e)

  selections_read : map (selection_at l b) (numbers 0 (length s.selects)) ≡ map selection_from (selections (do_nodes s) 0 s.selects)
  unfolding selection_at made_said
  selections_read =
      entries_read b 8 l.selections.offset
      (λ at. record { belief = byte b at; goal = byte b (at + 1); plan = span b (at + 2); zero = number_at b (at + 6) })
      selection_from (selection_there b) (length s.selects) (selections (do_nodes s) 0 s.selects)
      (selections_counted (do_nodes s) 0 s.selects) (selections_sized (do_nodes s) 0 s.selects) (selections_stand s n e)

  abbrev select_bytes : ℕ
  select_bytes = length (flatten (select_plans s.selects))

  revisions_read : map (revision_at l b) (numbers 0 (length s.revises))
      ≡ map revision_from (revisions (do_nodes s + select_nodes s) select_bytes s.revises)
  unfolding revision_at made_said
  revisions_read =
      let k : ℕ = do_nodes s + select_nodes s in
      entries_read b 12 l.revisions.offset
      (λ at. record { node = byte b at; plain = byte b (at + 1); head = span b (at + 2); body = span b (at + 6); zero = number_at b (at + 10) })
      revision_from (revision_there b) (length s.revises) (revisions k select_bytes s.revises)
      (revisions_counted k select_bytes s.revises) (revisions_sized k select_bytes s.revises) (revisions_stand s n e)

  -- ---- the trees and the plans, in the order of the text

  abbrev do_trees : List Tree
  do_trees = map (λ d. d.condition.tree) s.dos

  abbrev select_trees : List Tree
  select_trees = flatten (map (λ r. r.belief.tree ∷ r.goal.tree ∷ []) s.selects)

  abbrev revise_trees : List Tree
  revise_trees = map (λ r. r.condition.tree) s.revises

  trees_in_turn : trees_of (conditions s) ≡ do_trees ++ (select_trees ++ revise_trees)
  trees_in_turn =
      let ds : List Condition = map (λ d. d.condition) s.dos in
      let ss : List Condition = select_conditions s.selects in
      let rs : List Condition = revise_conditions s.revises in
      let apart : trees_of (conditions s) ≡ trees_of ds ++ (trees_of ss ++ trees_of rs) = simp map-append in
      apart
      ∙ ap₂ ◌++◌ (map-map (λ c. c.tree) (λ d. d.condition) s.dos)
      (ap₂ ◌++◌ (select_trees_lem s.selects) (map-map (λ c. c.tree) (λ r. r.condition) s.revises))

  abbrev select_pool : Bytes
  select_pool = flatten (select_plans s.selects)

  abbrev revise_pool : Bytes
  revise_pool = flatten (revise_plans s.revises)

  pool_in_turn : pool s ≡ select_pool ++ (revise_pool ++ s.begin.plan)
  pool_in_turn = sym (pool_said s) ∙ append_assoc select_pool revise_pool s.begin.plan

  -- ---- the start

  beliefs_read : initial_beliefs l b ≡ atoms_of s.begin.beliefs
  unfolding part made_said edition_set
  beliefs_read =
      let (bs, gs) = both (set_fits s.begin.beliefs) (set_fits s.begin.goals) (said_fits s n e).begin.1 in
      let size = set_length s.begin.beliefs bs in
      ap widened
      (part_there (stands_first (set_of s.begin.beliefs) (set_of s.begin.goals) (sets_stand s n e)) 0 16 (omega arith)
      ∙ take_all 16 (set_of s.begin.beliefs) (omega arith))

  goals_read : initial_goals l b ≡ atoms_of s.begin.goals
  unfolding part made_said edition_set
  goals_read =
      let (bs, gs) = both (set_fits s.begin.beliefs) (set_fits s.begin.goals) (said_fits s n e).begin.1 in
      let size = set_length s.begin.goals gs in
      ap widened
      (part_there (stands_second (set_of s.begin.beliefs) (set_of s.begin.goals) 16 (set_length s.begin.beliefs bs) (sets_stand s n e)) 0 16 (omega arith)
      ∙ take_all 16 (set_of s.begin.goals) (omega arith))

  plan_read : plan l b l.initial ≡ s.begin.plan
  plan_read =
      let whole : pool s ≡ (select_pool ++ revise_pool) ++ (s.begin.plan ++ []) =
      sym (pool_said s) ∙ ap (λ z. (select_pool ++ revise_pool) ++ z) (sym (append-nil s.begin.plan)) in
      plan_there s n e (select_pool ++ revise_pool) s.begin.plan [] l.initial whole (omega (arith, pool_counted s)) refl

  -- ---- all of it

  module _ (card : card_answer (built s) ≡ Ok tt) where
    rules : rules_good (containing 1 l b) (containing 2 l b) l b ≡ Bool.true
    rules = subst (λ l. rules_good (containing 1 l b) (containing 2 l b) l b ≡ Bool.true) (built_layout s n e) (accepted b card).rules

    specifications_meant : InTurn Specifies s.dos (agent_for l b).AS
    unfolding rules_good agent_for agent_of sizes
    specifications_meant =
        let good = (both (every (length s.dos) (λ i. specification_good (containing 2 l b) l (specification_at l b i))) _ rules).0 in
        let ns : List ℕ = numbers 0 (length s.dos) in
        let es : List Bytes = specifications 0 s.dos in
        rw (made_through (specification_at l b) specification_from ns es specifications_read (specification_of (Card.conditions 𝐁 l b)))
        (specify s n e s.dos [] (select_trees ++ revise_trees) 0 trees_in_turn refl (said_fits s n e).dos.sets
        (judged_through (specification_at l b) specification_from ns es specifications_read (specification_good (containing 2 l b) l) good))

    selections_meant : InTurn Selects s.selects (agent_for l b).PS
    unfolding rules_good agent_for agent_of
    selections_meant =
        let rest = (both (every (length s.dos) (λ i. specification_good (containing 2 l b) l (specification_at l b i))) _ rules).1 in
        let good = (both (every (length s.selects) (λ i. selection_good (containing 1 l b) (containing 2 l b) l (selection_at l b i))) _ rest).0 in
        let ns : List ℕ = numbers 0 (length s.selects) in
        let es : List Bytes = selections (do_nodes s) 0 s.selects in
        rw (made_through (selection_at l b) selection_from ns es selections_read (selection_of (Card.conditions 𝐁 l b) (Card.conditions 𝐆 l b) l b))
        (select s n e s.selects do_trees revise_trees (do_nodes s) [] (revise_pool ++ s.begin.plan) 0 trees_in_turn refl pool_in_turn refl
        (judged_through (selection_at l b) selection_from ns es selections_read (selection_good (containing 1 l b) (containing 2 l b) l) good))

    revisions_meant : InTurn Revises s.revises (agent_for l b).PR
    unfolding rules_good agent_for agent_of
    revisions_meant =
        let rest = (both (every (length s.dos) (λ i. specification_good (containing 2 l b) l (specification_at l b i))) _ rules).1 in
        let rest₂ = (both (every (length s.selects) (λ i. selection_good (containing 1 l b) (containing 2 l b) l (selection_at l b i))) _ rest).1 in
        let good = (both (every (length s.revises) (λ i. revision_good (containing 2 l b) l (revision_at l b i))) _ rest₂).0 in
        let ns : List ℕ = numbers 0 (length s.revises) in
        let es : List Bytes = revisions (do_nodes s + select_nodes s) select_bytes s.revises in
        let trees : trees_of (conditions s) ≡ (do_trees ++ select_trees) ++ (revise_trees ++ []) =
        trees_in_turn ∙ sym (append_assoc do_trees select_trees revise_trees) ∙ ap (λ z. (do_trees ++ select_trees) ++ z) (sym (append-nil revise_trees)) in
        rw (made_through (revision_at l b) revision_from ns es revisions_read (revision_of (Card.conditions 𝐁 l b) l b))
        (revise s n e s.revises (do_trees ++ select_trees) [] (do_nodes s + select_nodes s) select_pool s.begin.plan select_bytes trees
        (sizes_append do_trees select_trees) pool_in_turn refl
        (judged_through (revision_at l b) revision_from ns es revisions_read (revision_good (containing 2 l b) l) good))

    means : Means s b
    unfolding agent start initial_plan
    means =
        let at : layout b ≡ l = built_layout s n e in
        let σ : initial_beliefs (layout b) b ≡ atoms_of s.begin.beliefs = rw at beliefs_read in
        let γ : initial_goals (layout b) b ≡ atoms_of s.begin.goals = rw at goals_read in
        record {
          atoms = ap (λ l. l.atoms) at;
          actions = rw at weights_read;
          specifications = rw at specifications_meant;
          selections = rw at selections_meant;
          revisions = rw at revisions_meant;
          beliefs = σ;
          goals = γ;
          begin =
              let π : plan (layout b) b (layout b).initial ≡ s.begin.plan = rw at plan_read in
              λ i. record { mental = ⟨ σ i / π i / struck_by (σ i) (γ i) ⟩; phase = 0; finished = 0 };
        }

pub meant_law : MeantLaw
meant_law t out n left reads =
    let (s, (within, (card, whole))) = done_leaves reads in
    let (numbers, entries) = both (numbers_fit s) (entries_fit s) within.not_large in
    (s, (within.derived, subst (Means s) (sym whole) (means s numbers entries card)))
