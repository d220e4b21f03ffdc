-- The entries of the card that a text stands for are those that its lines give.
use mathlib.Core.Path.{◌≡◌, refl, ap, sym, ◌∙◌}
use mathlib.Core.Bool.{Bool}
use mathlib.Core.List.{List, [], ◌∷◌, ◌++◌, map, flatten, append_assoc}
use Prim.Native.Nat.{ℕ, ◌+◌, ◌≤◌}
use native.Mathlib.Nat.{add-zero}
use native.Mathlib.Omega.{arith}
use borrow.Author.Tests.{not-true}
use lib.Dec.{ltb}
use lib.ListN.{length, take, length-append}
use lib.Seq.{take_at, drop_at, take_all}
use Rattle.paper.specs.Language.{Letter, 𝐁, 𝐆, Query}
use Rattle.paper.proofs.Relation.{both}
use Rattle.meaning.specs.declared.Layout.{Layout}
use Rattle.meaning.specs.declared.Span.{Span}
use Rattle.meaning.specs.declared.SpecificationEntry.{SpecificationEntry}
use Rattle.meaning.specs.declared.SelectionEntry.{SelectionEntry}
use Rattle.meaning.specs.declared.RevisionEntry.{RevisionEntry}
use Rattle.meaning.specs.Trees.{Tree}
use Rattle.meaning.specs.Card.{Bytes, byte, number_at, span, part, widened, plan, condition, specification_of, selection_of, revision_of, tree_at}
use Rattle.meaning.specs.Card as Card
use Rattle.meaning.specs.Refusals.{all, containing, other, condition_good, specification_good, selection_good, revision_good}
use Rattle.notation.specs.Conditions.{trees_of}
use Rattle.notation.specs.Lines.{Do, Select, Revise, Said, conditions}
use Rattle.notation.specs.Built.{size, sizes, own, set_of, pool, specifications, selections, revisions, built}
use Rattle.notation.specs.Reading.{numbers_fit, entries_fit}
use Rattle.notation.specs.Meant.{tree_of_query, Specifies, Selects, Revises, InTurn, no_more, then}
use Rattle.notation.specs.Making.{set_fits}
use Rattle.notation.proofs.MadeLists.{each_true}
use Rattle.notation.proofs.MadeSets.{set_length}
use Rattle.notation.proofs.MadeNodes.{sizes_append}
use Rattle.notation.proofs.MadeDos.{sets_of, do_entry}
use Rattle.notation.proofs.MadeSelects.{select_entry}
use Rattle.notation.proofs.MadeRevises.{revise_entry}
use Rattle.notation.proofs.MadeWhole.{made_said}
use Rattle.notation.proofs.MadeFits.{entries_each}
use Rattle.notation.proofs.MadeCards.{two}
use Rattle.notation.proofs.MadeCompleted.{tree_among}
use Rattle.notation.proofs.MadeNumbered.{card_trees}
use Rattle.notation.proofs.Standing.{StandsAt, byte_there, number_there, part_there}
use Rattle.notation.proofs.StandingSections.{layout_said, pool_stands}
use Rattle.notation.proofs.MeantConditions.{one_tree}

-- ---- an entry where it stands

abbrev pub specification_from : Bytes → SpecificationEntry
specification_from e = record { action = byte e 0; node = byte e 1; zero = number_at e 2; add = widened (part e 4 16); del = widened (part e 20 16) }

abbrev pub selection_from : Bytes → SelectionEntry
selection_from e = record { belief = byte e 0; goal = byte e 1; plan = span e 2; zero = number_at e 6 }

abbrev pub revision_from : Bytes → RevisionEntry
revision_from e = record { node = byte e 0; plain = byte e 1; head = span e 2; body = span e 6; zero = number_at e 10 }

module _ (b : Bytes) (at : ℕ) (e : Bytes) (s : StandsAt b at e) where
  first_byte : 1 ≤ length e → byte b at ≡ byte e 0
  first_byte h = ap (byte b) (sym (add-zero at)) ∙ byte_there s 0 h

  span_there : (j : ℕ) → j + 4 ≤ length e → span b (at + j) ≡ span e j
  span_there j h =
      let next : at + j + 2 ≡ at + (j + 2) = omega arith in
      let start : number_at b (at + j) ≡ number_at e j = number_there s j (omega arith) in
      let len : number_at b (at + j + 2) ≡ number_at e (j + 2) = ap (number_at b) next ∙ number_there s (j + 2) (omega arith) in
      λ i. record { start = start i; length = len i }

  pub specification_there : length e ≡ 36
      → record { action = byte b at; node = byte b (at + 1); zero = number_at b (at + 2); add = widened (part b (at + 4) 16); del = widened (part b (at + 20) 16) } ≡ specification_from e
  specification_there h =
      let action = first_byte (omega arith) in
      let node = byte_there s 1 (omega arith) in
      let zero = number_there s 2 (omega arith) in
      let add = ap widened (part_there s 4 16 (omega arith)) in
      let del = ap widened (part_there s 20 16 (omega arith)) in
      λ i. record { action = action i; node = node i; zero = zero i; add = add i; del = del i }

  pub selection_there : length e ≡ 8
      → record { belief = byte b at; goal = byte b (at + 1); plan = span b (at + 2); zero = number_at b (at + 6) } ≡ selection_from e
  selection_there h =
      let belief = first_byte (omega arith) in
      let goal = byte_there s 1 (omega arith) in
      let plan = span_there 2 (omega arith) in
      let zero = number_there s 6 (omega arith) in
      λ i. record { belief = belief i; goal = goal i; plan = plan i; zero = zero i }

  pub revision_there : length e ≡ 12
      → record { node = byte b at; plain = byte b (at + 1); head = span b (at + 2); body = span b (at + 6); zero = number_at b (at + 10) } ≡ revision_from e
  revision_there h =
      let node = first_byte (omega arith) in
      let plain = byte_there s 1 (omega arith) in
      let head = span_there 2 (omega arith) in
      let body = span_there 6 (omega arith) in
      let zero = number_there s 10 (omega arith) in
      λ i. record { node = node i; plain = plain i; head = head i; body = body i; zero = zero i }

-- ---- an entry that a line gives

module _ (s : Said) (n : numbers_fit s ≡ Bool.true) (e : entries_fit s ≡ Bool.true) where
  abbrev l : Layout
  l = layout_said s

  abbrev b : Bytes
  b = built s

  abbrev ts : List Tree
  ts = trees_of (conditions s)

  abbrev queries : (L : Letter) → List (Query L)
  queries L = Card.conditions L l b

  abbrev foreign : Letter → List Bool
  foreign L = containing (other L) l b

  -- the condition of a tree's own node, behind the nodes of the trees before it
  condition_there : (L : Letter) (before : List Tree) (t : Tree) (behind : List Tree) (k : ℕ) → ts ≡ before ++ (t ∷ behind) → sizes before ≡ k
      → condition_good l (foreign L) (own k t) ≡ Bool.true → tree_of_query L (condition (queries L) (own k t)) ≡ t
  condition_there L before t behind k h f good =
      let there : tree_at l b (own k t) ≡ t = rw (card_trees s n e, h, ← f) (tree_among before t behind) in
      one_tree L l b (own k t) (not-true _ (both (ltb (own k t) l.nodes.count) _ good).1) ∙ there

  -- a plan, behind the plans before it
  pub plan_there : (before p behind : Bytes) (x : Span) → pool s ≡ before ++ (p ++ behind) → x.start ≡ length before → x.length ≡ length p → plan l b x ≡ p
  unfolding plan part made_said
  plan_there before p behind x h f g =
      let inside : x.start + x.length ≤ length (pool s) =
      rw (h, length-append before (p ++ behind), length-append p behind) (omega arith) in
      part_there (pool_stands s n e) x.start x.length inside
      ∙ rw (h, f, g, drop_at before (p ++ behind) (length before) refl) (take_at p behind (length p) refl)

  -- ---- do lines

  specifies : (before behind : List Tree) (k : ℕ) (d : Do) → ts ≡ before ++ (d.condition.tree ∷ behind) → sizes before ≡ k
      → set_fits d.add ≡ Bool.true → set_fits d.del ≡ Bool.true
      → specification_good (foreign 𝐁) l (specification_from (do_entry (own k d.condition.tree) d)) ≡ Bool.true
      → Specifies d (specification_of (queries 𝐁) (specification_from (do_entry (own k d.condition.tree) d)))
  unfolding specification_good specification_of part
  specifies before behind k d h f add del good =
      let t : Tree = d.condition.tree in
      let node : condition_good l (foreign 𝐁) (own k t) ≡ Bool.true =
      (both (condition_good l (foreign 𝐁) (own k t)) _ (both (ltb d.action l.actions) _ good).1).0 in
      record {
        action = refl;
        condition = condition_there 𝐁 before t behind k h f node;
        add = ap widened (take_at (set_of d.add) (set_of d.del) 16 (set_length d.add add));
        del = ap widened (ap (take 16) (drop_at (set_of d.add) (set_of d.del) 16 (set_length d.add add))
            ∙ take_all 16 (set_of d.del) (omega (arith, set_length d.del del)));
      }

  pub specify : (ds : List Do) (before behind : List Tree) (k : ℕ) → ts ≡ before ++ (map (λ d. d.condition.tree) ds ++ behind) → sizes before ≡ k
      → all set_fits (sets_of ds) ≡ Bool.true
      → all (λ x. specification_good (foreign 𝐁) l (specification_from x)) (specifications k ds) ≡ Bool.true
      → InTurn Specifies ds (map (λ x. specification_of (queries 𝐁) (specification_from x)) (specifications k ds))
  unfolding specifications flatten sizes
  specify [] before behind k h f fits good = no_more
  specify (d ∷ ds) before behind k h f fits good =
      let t : Tree = d.condition.tree in
      let (here, rest) = both (specification_good (foreign 𝐁) l (specification_from (do_entry (own k t) d))) _ good in
      let (add, del, others) = each_true (set_fits d.add) (set_fits d.del) (all set_fits (sets_of ds)) fits in
      then (specifies before (map (λ d. d.condition.tree) ds ++ behind) k d h f add del here)
      (specify ds (before ++ (t ∷ [])) behind (k + size t) (h ∙ sym (append_assoc before (t ∷ []) _))
      (sizes_append before (t ∷ []) ∙ omega (arith, f)) others rest)

  -- ---- select lines

  selected : (before behind : List Tree) (k : ℕ) (front back : Bytes) (p : ℕ) (r : Select)
      → ts ≡ before ++ (r.belief.tree ∷ r.goal.tree ∷ behind) → sizes before ≡ k
      → pool s ≡ front ++ (r.plan ++ back) → length front ≡ p
      → (x : SelectionEntry) → x ≡ selection_from (select_entry (own k r.belief.tree) (own (k + size r.belief.tree) r.goal.tree) p (length r.plan))
      → selection_good (foreign 𝐆) (foreign 𝐁) l x ≡ Bool.true → Selects r (selection_of (queries 𝐁) (queries 𝐆) l b x)
  unfolding selection_good selection_of sizes
  selected before behind k front back p r h f g q x is good =
      let β : Tree = r.belief.tree in
      let κ : Tree = r.goal.tree in
      let room : length (pool s) ≤ 8192 = (entries_each s e).5 in
      let whole : length (pool s) ≡ p + (length r.plan + length back) = ap length g ∙ simp length-append (omega arith) in
      let belief : x.belief ≡ own k β = ap (λ x. x.belief) is in
      let goal : x.goal ≡ own (k + size β) κ = ap (λ x. x.goal) is in
      let (one, rest) = both (condition_good l (foreign 𝐁) x.belief) _ good in
      let two-Good = (both (condition_good l (foreign 𝐆) x.goal) _ rest).0 in
      record {
        belief = rw belief (condition_there 𝐁 before β (κ ∷ behind) k h f (rw belief at one));
        goal = rw goal (condition_there 𝐆 (before ++ (β ∷ [])) κ behind (k + size β) (h ∙ sym (append_assoc before (β ∷ []) (κ ∷ behind)))
            (sizes_append before (β ∷ []) ∙ omega (arith, f)) (rw goal at two-Good));
        plan = plan_there front r.plan back x.plan g
            (ap (λ x. x.plan.start) is ∙ two p (omega arith) ∙ sym q) (ap (λ x. x.plan.length) is ∙ two (length r.plan) (omega arith));
      }

  pub select : (rs : List Select) (before behind : List Tree) (k : ℕ) (front back : Bytes) (p : ℕ)
      → ts ≡ before ++ (flatten (map (λ r. r.belief.tree ∷ r.goal.tree ∷ []) rs) ++ behind) → sizes before ≡ k
      → pool s ≡ front ++ (flatten (map (λ r. r.plan) rs) ++ back) → length front ≡ p
      → all (λ x. selection_good (foreign 𝐆) (foreign 𝐁) l (selection_from x)) (selections k p rs) ≡ Bool.true
      → InTurn Selects rs (map (λ x. selection_of (queries 𝐁) (queries 𝐆) l b (selection_from x)) (selections k p rs))
  unfolding selections flatten sizes
  select [] before behind k front back p h f g q good = no_more
  select (r ∷ rs) before behind k front back p h f g q good =
      let β : Tree = r.belief.tree in
      let κ : Tree = r.goal.tree in
      let entry : SelectionEntry = selection_from (select_entry (own k β) (own (k + size β) κ) p (length r.plan)) in
      let (here, rest) = both (selection_good (foreign 𝐆) (foreign 𝐁) l entry) _ good in
      let plans : pool s ≡ front ++ (r.plan ++ (flatten (map (λ r. r.plan) rs) ++ back)) = g ∙ ap (λ z. front ++ z) (append_assoc r.plan _ back) in
      then (selected before (flatten (map (λ r. r.belief.tree ∷ r.goal.tree ∷ []) rs) ++ behind) k front (flatten (map (λ r. r.plan) rs) ++ back) p r h f plans q entry refl here)
      (select rs (before ++ (β ∷ κ ∷ [])) behind (k + size β + size κ) (front ++ r.plan) back (p + length r.plan)
      (h ∙ sym (append_assoc before (β ∷ κ ∷ []) _)) (sizes_append before (β ∷ κ ∷ []) ∙ omega (arith, f))
      (plans ∙ sym (append_assoc front r.plan _)) (length-append front r.plan ∙ omega (arith, q)) rest)

  -- ---- revise lines

  revised : (before behind : List Tree) (k : ℕ) (front back : Bytes) (p : ℕ) (r : Revise)
      → ts ≡ before ++ (r.condition.tree ∷ behind) → sizes before ≡ k
      → pool s ≡ front ++ (r.head ++ (r.body ++ back)) → length front ≡ p
      → (x : RevisionEntry) → x ≡ revision_from (revise_entry (own k r.condition.tree) p (length r.head) (p + length r.head) (length r.body))
      → revision_good (foreign 𝐁) l x ≡ Bool.true → Revises r (revision_of (queries 𝐁) l b x)
  unfolding revision_good revision_of
  revised before behind k front back p r h f g q x is good =
      let t : Tree = r.condition.tree in
      let room : length (pool s) ≤ 8192 = (entries_each s e).5 in
      let whole : length (pool s) ≡ p + (length r.head + (length r.body + length back)) = ap length g ∙ simp length-append (omega arith) in
      let node : x.node ≡ own k t = ap (λ x. x.node) is in
      let one = (both (condition_good l (foreign 𝐁) x.node) _ good).0 in
      record {
        head = plan_there front r.head (r.body ++ back) x.head g
            (ap (λ x. x.head.start) is ∙ two p (omega arith) ∙ sym q) (ap (λ x. x.head.length) is ∙ two (length r.head) (omega arith));
        condition = rw node (condition_there 𝐁 before t behind k h f (rw node at one));
        body = plan_there (front ++ r.head) r.body back x.body (g ∙ sym (append_assoc front r.head (r.body ++ back)))
            (ap (λ x. x.body.start) is ∙ two (p + length r.head) (omega arith) ∙ simp length-append (omega arith))
            (ap (λ x. x.body.length) is ∙ two (length r.body) (omega arith));
      }

  pub revise : (rs : List Revise) (before behind : List Tree) (k : ℕ) (front back : Bytes) (p : ℕ)
      → ts ≡ before ++ (map (λ r. r.condition.tree) rs ++ behind) → sizes before ≡ k
      → pool s ≡ front ++ (flatten (flatten (map (λ r. r.head ∷ r.body ∷ []) rs)) ++ back) → length front ≡ p
      → all (λ x. revision_good (foreign 𝐁) l (revision_from x)) (revisions k p rs) ≡ Bool.true
      → InTurn Revises rs (map (λ x. revision_of (queries 𝐁) l b (revision_from x)) (revisions k p rs))
  unfolding revisions flatten sizes
  revise [] before behind k front back p h f g q good = no_more
  revise (r ∷ rs) before behind k front back p h f g q good =
      let t : Tree = r.condition.tree in
      let entry : RevisionEntry = revision_from (revise_entry (own k t) p (length r.head) (p + length r.head) (length r.body)) in
      let (here, rest) = both (revision_good (foreign 𝐁) l entry) _ good in
      let more : Bytes = flatten (flatten (map (λ r. r.head ∷ r.body ∷ []) rs)) in
      let plans : pool s ≡ front ++ (r.head ++ (r.body ++ (more ++ back))) =
      g ∙ ap (λ z. front ++ z) (append_assoc r.head (r.body ++ more) back ∙ ap (λ z. r.head ++ z) (append_assoc r.body more back)) in
      then (revised before (map (λ r. r.condition.tree) rs ++ behind) k front (more ++ back) p r h f plans q entry refl here)
      (revise rs (before ++ (t ∷ [])) behind (k + size t) ((front ++ r.head) ++ r.body) back (p + length r.head + length r.body)
      (h ∙ sym (append_assoc before (t ∷ []) _)) (sizes_append before (t ∷ []) ∙ omega (arith, f))
      (plans ∙ sym (append_assoc front r.head (r.body ++ (more ++ back))) ∙ sym (append_assoc (front ++ r.head) r.body (more ++ back)))
      (simp length-append (omega (arith, q))) rest)
