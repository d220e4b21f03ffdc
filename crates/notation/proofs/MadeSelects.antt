-- What the select lines add to a card in the making.
use mathlib.Core.Path.{◌≡◌, refl, sym}
use mathlib.Core.Bool.{true}
use mathlib.Core.List.{List, [], ◌∷◌, ◌++◌, map, flatten, append_assoc, append-nil}
use mathlib.Core.Option.{some}
use Prim.Native.Nat.{ℕ, ◌+◌, ◌-◌, ◌*◌, ◌/◌, ◌≤◌}
use native.Mathlib.Omega.{arith}
use lib.ListN.{length, length-append}
use Rattle.paper.proofs.Relation.{both}
use Rattle.meaning.specs.Trees.{Tree}
use Rattle.meaning.specs.Card.{Bytes}
use Rattle.meaning.specs.Place.{two_bytes}
use Rattle.meaning.specs.Refusals.{all}
use Rattle.meaning.proofs.Every.{both_true}
use Rattle.notation.specs.Conditions.{Condition, trees_of}
use Rattle.notation.specs.Lines.{Select}
use Rattle.notation.specs.Built.{size, sizes, own, nodes_from, all_nodes, selections}
use Rattle.notation.specs.Reading.{atoms_fit}
use Rattle.notation.specs.Values.{select_said}
use Rattle.notation.specs.Making.{Sections, put_nodes, put_pool, put_selections, made_nodes, last_node, pool_size, tree_in, plan_in, selection_in, select_in, item_in, items_in}
use Rattle.notation.proofs.MadeExactly.{Exactly, holds, exactly_as, exactly_if, and_then}
use Rattle.notation.proofs.MadeLists.{flatten_append, each_true, three_true}
use Rattle.notation.proofs.MadeTrees.{TreeFits, last_own, tree_grown}
use Rattle.notation.proofs.MadePlans.{actions_fit, PlanFits}
use Rattle.notation.proofs.MadeSections.{added_length, tree_in_lem, plan_in_lem, selection_in_lem, items_none}

-- ---- one line

-- a line's entry, from its conditions' own nodes and where its plan starts and how long it is
abbrev pub select_entry : ℕ → ℕ → ℕ → ℕ → Bytes
select_entry b g start len = b ∷ g ∷ (two_bytes start ++ (two_bytes len ++ two_bytes 0))

-- what a line asks of a card that has k nodes, p bytes in the pool and j selection rules
abbrev SelectFits : ℕ → ℕ → ℕ → Select → Type 0
SelectFits k p j s = TreeFits k s.belief.tree × (TreeFits (k + size s.belief.tree) s.goal.tree × (PlanFits p s.plan × (j + 1 ≤ 256)))

abbrev select_nodes : ℕ → Select → Bytes → Bytes
select_nodes k s n = (n ++ flatten (nodes_from k s.belief.tree)) ++ flatten (nodes_from (k + size s.belief.tree) s.goal.tree)

abbrev select_made : ℕ → Select → Sections → Sections
select_made k s m =
    put_selections (put_pool (put_nodes m (select_nodes k s m.nodes)) (m.pool ++ s.plan))
    (m.selections ++ select_entry (own k s.belief.tree) (own (k + size s.belief.tree) s.goal.tree) (length m.pool) (length s.plan))

select_exactly : (s : Select) (k j : ℕ) (m : Sections) → length m.nodes ≡ 4 * k → length m.pool ≤ 8192 → length m.selections ≡ 8 * j
    → Exactly (SelectFits k (length m.pool) j s) (select_made k s m) (select_in s (some m))
unfolding select_in tree_in plan_in selection_in
select_exactly s k j m h l f =
    let b : Tree = s.belief.tree in
    let g : Tree = s.goal.tree in
    let n₁ : Bytes = m.nodes ++ flatten (nodes_from k b) in
    let n₂ : Bytes = n₁ ++ flatten (nodes_from (k + size b) g) in
    let m₁ : Sections = put_nodes m n₁ in
    let m₂ : Sections = put_nodes m n₂ in
    let m₃ : Sections = put_pool m₂ (m.pool ++ s.plan) in
    let h₁ : length n₁ ≡ 4 * (k + size b) = tree_grown k b m.nodes h in
    let e : Bytes = select_entry (length n₁ / 4 - 1) (length n₂ / 4 - 1) (length m.pool) (length (m.pool ++ s.plan) - length m.pool) in
    let same : put_selections m₃ (m.selections ++ e) ≡ select_made k s m =
    rw (last_own k b m.nodes h, last_own (k + size b) g n₁ h₁, added_length m.pool s.plan) in
    exactly_as same
    (and_then (λ p. selection_in (select_entry (last_node (made_nodes p)) (last_node (made_nodes (tree_in g p))) (pool_size (tree_in g p))
    (pool_size (plan_in s.plan (tree_in g p)) - pool_size (tree_in g p))) (plan_in s.plan (tree_in g p))) refl
    (tree_in_lem b k m h)
    (λ _. and_then (λ q. selection_in (select_entry (length n₁ / 4 - 1) (last_node (made_nodes q)) (pool_size q)
    (pool_size (plan_in s.plan q) - pool_size q)) (plan_in s.plan q)) refl
    (tree_in_lem g (k + size b) m₁ h₁)
    (λ _. and_then (λ r. selection_in (select_entry (length n₁ / 4 - 1) (length n₂ / 4 - 1) (length m.pool)
    (pool_size r - length m.pool)) r) refl
    (plan_in_lem s.plan m₂ l)
    (λ _. selection_in_lem e j m₃ refl f))))

-- ---- the lines

abbrev pub select_conditions : List Select → List Condition
select_conditions ss = flatten (map (λ s. s.belief ∷ s.goal ∷ []) ss)

abbrev pub select_plans : List Select → List (List ℕ)
select_plans ss = map (λ s. s.plan) ss

-- what the lines ask of a card that has k nodes, p bytes in the pool and j selection rules
pub record SelectsFit (k p j : ℕ) (ss : List Select) : Type 0 where
  pub atoms : all (λ c. atoms_fit c.tree) (select_conditions ss) ≡ true
  pub actions : all actions_fit (select_plans ss) ≡ true
  pub nodes : k + sizes (trees_of (select_conditions ss)) ≤ 256
  pub pool : p + length (flatten (select_plans ss)) ≤ 8192
  pub entries : j + length ss ≤ 256

abbrev pub selects_made : ℕ → List Select → Sections → Sections
selects_made k ss m =
    put_selections (put_pool (put_nodes m (m.nodes ++ flatten (all_nodes k (trees_of (select_conditions ss))))) (m.pool ++ flatten (select_plans ss)))
    (m.selections ++ flatten (selections k (length m.pool) ss))

-- the first line, and then the others
selects_put : (k : ℕ) (s : Select) (ss : List Select) (m : Sections)
    → selects_made (k + size s.belief.tree + size s.goal.tree) ss (select_made k s m) ≡ selects_made k (s ∷ ss) m
unfolding flatten all_nodes selections
selects_put k s ss m = simp (flatten_append, append_assoc, length-append)

selects_fit : (k p j : ℕ) (s : Select) (ss : List Select)
    → SelectFits k p j s × SelectsFit (k + size s.belief.tree + size s.goal.tree) (p + length s.plan) (j + 1) ss
    → SelectsFit k p j (s ∷ ss)
unfolding flatten sizes
selects_fit k p j s ss f = record {
  atoms = three_true (atoms_fit s.belief.tree) (atoms_fit s.goal.tree) (all (λ c. atoms_fit c.tree) (select_conditions ss))
      f.0.0.0 f.0.1.0.0 f.1.atoms;
  actions = both_true (actions_fit s.plan) (all actions_fit (select_plans ss)) f.0.1.1.0.0 f.1.actions;
  nodes = omega (arith, f.1.nodes);
  pool = rw length-append (omega (arith, f.1.pool));
  entries = omega (arith, f.1.entries);
}

selects_fit_each : (k p j : ℕ) (s : Select) (ss : List Select) → SelectsFit k p j (s ∷ ss)
    → SelectFits k p j s × SelectsFit (k + size s.belief.tree + size s.goal.tree) (p + length s.plan) (j + 1) ss
unfolding flatten sizes
selects_fit_each k p j s ss f =
    let a : (atoms_fit s.belief.tree ≡ true) × (atoms_fit s.goal.tree ≡ true) × (all (λ c. atoms_fit c.tree) (select_conditions ss) ≡ true) =
    each_true (atoms_fit s.belief.tree) (atoms_fit s.goal.tree) (all (λ c. atoms_fit c.tree) (select_conditions ss)) f.atoms in
    let b : (actions_fit s.plan ≡ true) × (all actions_fit (select_plans ss) ≡ true) =
    both (actions_fit s.plan) (all actions_fit (select_plans ss)) f.actions in
    let c : p + (length s.plan + length (flatten (select_plans ss))) ≤ 8192 = rw length-append at f.pool in (
      ((a.0, omega (arith, f.nodes)), ((a.1, omega (arith, f.nodes)), ((b.0, omega arith), omega (arith, f.entries)))),
      record {
        atoms = a.2;
        actions = b.1;
        nodes = omega (arith, f.nodes);
        pool = omega arith;
        entries = omega (arith, f.entries);
      },
    )

selects_fit_as : {k p q j : ℕ} {ss : List Select} → p ≡ q → SelectsFit k p j ss → SelectsFit k q j ss
selects_fit_as e f = rw e at f

pub selects_exactly : (ss : List Select) (k j : ℕ) (m : Sections)
    → length m.nodes ≡ 4 * k → k ≤ 256 → length m.pool ≤ 8192 → length m.selections ≡ 8 * j → j ≤ 256
    → Exactly (SelectsFit k (length m.pool) j ss) (selects_made k ss m) (items_in (map select_said ss) (some m))
unfolding items_in item_in flatten all_nodes selections sizes
selects_exactly [] k j m h u l f v =
    holds (record { atoms = refl; actions = refl; nodes = omega arith; pool = omega arith; entries = omega arith })
    (rw (append-nil m.nodes, append-nil m.pool, append-nil m.selections))
selects_exactly (s ∷ ss) k j m h u l f v =
    let b : Tree = s.belief.tree in
    let g : Tree = s.goal.tree in
    let grown : length (m.pool ++ s.plan) ≡ length m.pool + length s.plan = length-append m.pool s.plan in
    exactly_as (selects_put k s ss m)
    (exactly_if (selects_fit k (length m.pool) j s ss) (selects_fit_each k (length m.pool) j s ss)
    (and_then (items_in (map select_said ss)) (items_none (map select_said ss)) (select_exactly s k j m h l f)
    (λ p. exactly_if (selects_fit_as grown) (selects_fit_as (sym grown))
    (selects_exactly ss (k + size b + size g) (j + 1) (select_made k s m)
    (tree_grown (k + size b) g (m.nodes ++ flatten (nodes_from k b)) (tree_grown k b m.nodes h)) p.1.0.1
    (rw grown p.1.1.0.1)
    (rw length-append (omega (arith, f))) p.1.1.1))))
