-- What the revise lines add to a card in the making.
use mathlib.Core.Path.{◌≡◌, refl, sym}
use mathlib.Core.Bool.{true}
use mathlib.Core.List.{List, [], ◌∷◌, ◌++◌, map, flatten, append_assoc, append-nil}
use mathlib.Core.Option.{some}
use Prim.Native.Nat.{ℕ, ◌+◌, ◌-◌, ◌*◌, ◌/◌, ◌≤◌}
use native.Mathlib.Omega.{arith}
use lib.ListN.{length, length-append}
use Rattle.paper.proofs.Relation.{both}
use Rattle.meaning.specs.Trees.{Tree}
use Rattle.meaning.specs.Card.{Bytes}
use Rattle.meaning.specs.Place.{two_bytes}
use Rattle.meaning.specs.Refusals.{all}
use Rattle.meaning.proofs.Every.{both_true}
use Rattle.notation.specs.Conditions.{Condition, trees_of}
use Rattle.notation.specs.Lines.{Revise}
use Rattle.notation.specs.Built.{size, sizes, own, nodes_from, all_nodes, revisions}
use Rattle.notation.specs.Reading.{atoms_fit}
use Rattle.notation.specs.Values.{revise_said}
use Rattle.notation.specs.Making.{Sections, put_nodes, put_pool, put_revisions, made_nodes, last_node, pool_size, tree_in, plan_in, revision_in, revise_in, item_in, items_in}
use Rattle.notation.proofs.MadeExactly.{Exactly, holds, exactly_as, exactly_if, and_then}
use Rattle.notation.proofs.MadeLists.{flatten_append, each_true, three_true}
use Rattle.notation.proofs.MadeTrees.{TreeFits, last_own, tree_grown}
use Rattle.notation.proofs.MadePlans.{actions_fit, PlanFits}
use Rattle.notation.proofs.MadeSections.{added_length, tree_in_lem, plan_in_lem, revision_in_lem, items_none}

-- ---- one line

-- a line's entry, from its condition's own node and where its head and its body start and how long they are
abbrev pub revise_entry : ℕ → ℕ → ℕ → ℕ → ℕ → Bytes
revise_entry n head headLen body bodyLen =
    n ∷ 0 ∷ (two_bytes head ++ (two_bytes headLen ++ (two_bytes body ++ (two_bytes bodyLen ++ two_bytes 0))))

-- what a line asks of a card that has k nodes, p bytes in the pool and j revision rules
abbrev ReviseFits : ℕ → ℕ → ℕ → Revise → Type 0
ReviseFits k p j r =
    PlanFits p r.head × (TreeFits k r.condition.tree × (PlanFits (p + length r.head) r.body × (j + 1 ≤ 256)))

abbrev revise_made : ℕ → Revise → Sections → Sections
revise_made k r m =
    put_revisions (put_pool (put_nodes m (m.nodes ++ flatten (nodes_from k r.condition.tree))) ((m.pool ++ r.head) ++ r.body))
    (m.revisions ++ revise_entry (own k r.condition.tree) (length m.pool) (length r.head) (length m.pool + length r.head) (length r.body))

plan_fits_as : (ns : List ℕ) {p q : ℕ} → p ≡ q → PlanFits p ns → PlanFits q ns
plan_fits_as ns e f = (f.0, rw e at f.1)

revise_exactly : (r : Revise) (k j : ℕ) (m : Sections) → length m.nodes ≡ 4 * k → length m.pool ≤ 8192 → length m.revisions ≡ 12 * j
    → Exactly (ReviseFits k (length m.pool) j r) (revise_made k r m) (revise_in r (some m))
unfolding revise_in tree_in plan_in revision_in
revise_exactly r k j m h l f =
    let c : Tree = r.condition.tree in
    let p₀ : Bytes = m.pool in
    let p₁ : Bytes = p₀ ++ r.head in
    let p₂ : Bytes = p₁ ++ r.body in
    let n₁ : Bytes = m.nodes ++ flatten (nodes_from k c) in
    let m₁ : Sections = put_pool m p₁ in
    let m₂ : Sections = put_nodes m₁ n₁ in
    let m₃ : Sections = put_pool m₂ p₂ in
    let grown : length p₁ ≡ length p₀ + length r.head = length-append p₀ r.head in
    let e : Bytes = revise_entry (length n₁ / 4 - 1) (length p₀) (length p₁ - length p₀) (length p₁) (length p₂ - length p₁) in
    let same : put_revisions m₃ (m.revisions ++ e) ≡ revise_made k r m =
    rw (last_own k c m.nodes h, added_length p₀ r.head, added_length p₁ r.body, grown) in
    exactly_as same
    (and_then (λ p. revision_in (revise_entry (last_node (made_nodes (tree_in c p))) (length p₀) (pool_size p - length p₀) (pool_size p)
    (pool_size (plan_in r.body (tree_in c p)) - pool_size p)) (plan_in r.body (tree_in c p))) refl
    (plan_in_lem r.head m l)
    (λ i. and_then (λ q. revision_in (revise_entry (last_node (made_nodes q)) (length p₀) (length p₁ - length p₀) (length p₁)
    (pool_size (plan_in r.body q) - length p₁)) (plan_in r.body q)) refl
    (tree_in_lem c k m₁ h)
    (λ _. and_then (λ s. revision_in (revise_entry (length n₁ / 4 - 1) (length p₀) (length p₁ - length p₀) (length p₁)
    (pool_size s - length p₁)) s) refl
    (exactly_if (plan_fits_as r.body grown) (plan_fits_as r.body (sym grown)) (plan_in_lem r.body m₂ (rw grown i.1)))
    (λ _. revision_in_lem e j m₃ refl f))))

-- ---- the lines

abbrev pub revise_conditions : List Revise → List Condition
revise_conditions rs = map (λ r. r.condition) rs

abbrev pub revise_plans : List Revise → List (List ℕ)
revise_plans rs = flatten (map (λ r. r.head ∷ r.body ∷ []) rs)

-- what the lines ask of a card that has k nodes, p bytes in the pool and j revision rules
pub record RevisesFit (k p j : ℕ) (rs : List Revise) : Type 0 where
  pub atoms : all (λ c. atoms_fit c.tree) (revise_conditions rs) ≡ true
  pub actions : all actions_fit (revise_plans rs) ≡ true
  pub nodes : k + sizes (trees_of (revise_conditions rs)) ≤ 256
  pub pool : p + length (flatten (revise_plans rs)) ≤ 8192
  pub entries : j + length rs ≤ 256

abbrev pub revises_made : ℕ → List Revise → Sections → Sections
revises_made k rs m =
    put_revisions (put_pool (put_nodes m (m.nodes ++ flatten (all_nodes k (trees_of (revise_conditions rs))))) (m.pool ++ flatten (revise_plans rs)))
    (m.revisions ++ flatten (revisions k (length m.pool) rs))

-- the first line, and then the others
revises_put : (k : ℕ) (r : Revise) (rs : List Revise) (m : Sections)
    → revises_made (k + size r.condition.tree) rs (revise_made k r m) ≡ revises_made k (r ∷ rs) m
unfolding flatten all_nodes revisions
revises_put k r rs m =
    rw (length-append (m.pool ++ r.head) r.body, length-append m.pool r.head) (simp (flatten_append, append_assoc))

revises_fit : (k p j : ℕ) (r : Revise) (rs : List Revise)
    → ReviseFits k p j r × RevisesFit (k + size r.condition.tree) (p + length r.head + length r.body) (j + 1) rs
    → RevisesFit k p j (r ∷ rs)
unfolding flatten sizes
revises_fit k p j r rs f = record {
  atoms = both_true (atoms_fit r.condition.tree) (all (λ c. atoms_fit c.tree) (revise_conditions rs)) f.0.1.0.0 f.1.atoms;
  actions = three_true (actions_fit r.head) (actions_fit r.body) (all actions_fit (revise_plans rs))
      f.0.0.0 f.0.1.1.0.0 f.1.actions;
  nodes = omega (arith, f.1.nodes);
  pool = simp length-append (omega (arith, f.1.pool));
  entries = omega (arith, f.1.entries);
}

revises_fit_each : (k p j : ℕ) (r : Revise) (rs : List Revise) → RevisesFit k p j (r ∷ rs)
    → ReviseFits k p j r × RevisesFit (k + size r.condition.tree) (p + length r.head + length r.body) (j + 1) rs
unfolding flatten sizes
revises_fit_each k p j r rs f =
    let a : (atoms_fit r.condition.tree ≡ true) × (all (λ c. atoms_fit c.tree) (revise_conditions rs) ≡ true) =
    both (atoms_fit r.condition.tree) (all (λ c. atoms_fit c.tree) (revise_conditions rs)) f.atoms in
    let b : (actions_fit r.head ≡ true) × (actions_fit r.body ≡ true) × (all actions_fit (revise_plans rs) ≡ true) =
    each_true (actions_fit r.head) (actions_fit r.body) (all actions_fit (revise_plans rs)) f.actions in
    let c : p + (length r.head + (length r.body + length (flatten (revise_plans rs)))) ≤ 8192 = simp length-append at f.pool in (
      ((b.0, omega arith), ((a.0, omega (arith, f.nodes)), ((b.1, omega arith), omega (arith, f.entries)))),
      record {
        atoms = a.1;
        actions = b.2;
        nodes = omega (arith, f.nodes);
        pool = omega arith;
        entries = omega (arith, f.entries);
      },
    )

revises_fit_as : {k p q j : ℕ} {rs : List Revise} → p ≡ q → RevisesFit k p j rs → RevisesFit k q j rs
revises_fit_as e f = rw e at f

pub revises_exactly : (rs : List Revise) (k j : ℕ) (m : Sections)
    → length m.nodes ≡ 4 * k → k ≤ 256 → length m.pool ≤ 8192 → length m.revisions ≡ 12 * j → j ≤ 256
    → Exactly (RevisesFit k (length m.pool) j rs) (revises_made k rs m) (items_in (map revise_said rs) (some m))
unfolding items_in item_in flatten all_nodes revisions sizes
revises_exactly [] k j m h u l f v =
    holds (record { atoms = refl; actions = refl; nodes = omega arith; pool = omega arith; entries = omega arith })
    (rw (append-nil m.nodes, append-nil m.pool, append-nil m.revisions))
revises_exactly (r ∷ rs) k j m h u l f v =
    let c : Tree = r.condition.tree in
    let grown : length ((m.pool ++ r.head) ++ r.body) ≡ length m.pool + length r.head + length r.body = simp length-append in
    exactly_as (revises_put k r rs m)
    (exactly_if (revises_fit k (length m.pool) j r rs) (revises_fit_each k (length m.pool) j r rs)
    (and_then (items_in (map revise_said rs)) (items_none (map revise_said rs)) (revise_exactly r k j m h l f)
    (λ p. exactly_if (revises_fit_as grown) (revises_fit_as (sym grown))
    (revises_exactly rs (k + size c) (j + 1) (revise_made k r m)
    (tree_grown k c m.nodes h) p.1.0.1
    (rw grown p.1.1.0.1)
    (rw length-append (omega (arith, f))) p.1.1.1))))
