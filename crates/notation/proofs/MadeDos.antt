-- What the do lines add to a card in the making.
use mathlib.Core.Path.{◌≡◌, refl}
use mathlib.Core.Bool.{Bool, true, ◌&&◌}
use mathlib.Core.List.{List, [], ◌∷◌, ◌++◌, map, flatten, append_assoc, append-nil}
use mathlib.Core.Option.{some}
use Prim.Native.Nat.{ℕ, ◌+◌, ◌-◌, ◌*◌, ◌/◌, ◌≤◌}
use native.Mathlib.Omega.{arith}
use lib.Dec.{leb}
use lib.ListN.{length, length-append}
use Rattle.paper.proofs.Relation.{both}
use Rattle.meaning.specs.Card.{Bytes}
use Rattle.meaning.specs.Refusals.{all}
use Rattle.meaning.proofs.Every.{both_true}
use Rattle.notation.specs.Conditions.{trees_of}
use Rattle.notation.specs.Lines.{Do}
use Rattle.notation.specs.Built.{size, sizes, own, nodes_from, all_nodes, set_of, specifications}
use Rattle.notation.specs.Reading.{atoms_fit}
use Rattle.notation.specs.Values.{do_said}
use Rattle.notation.specs.Making.{Sections, put_nodes, put_specifications, when, made_nodes, last_node, set_fits, tree_in, specification_in, do_in, item_in, items_in}
use Rattle.notation.proofs.MadeExactly.{Exactly, holds, exactly_as, exactly_if, exactly_when, and_then, when_none}
use Rattle.notation.proofs.MadeLists.{flatten_append, each_true, three_true}
use Rattle.notation.proofs.MadeTrees.{TreeFits, last_own, tree_grown}
use Rattle.notation.proofs.MadeSets.{set_length}
use Rattle.notation.proofs.MadeSections.{tree_in_lem, specification_in_lem, items_none}

-- ---- one line

abbrev pub do_numbers_fit : Do → Bool
do_numbers_fit d = leb d.action 255 && (set_fits d.add && set_fits d.del)

-- a line's entry, where its condition's own node has number n
abbrev pub do_entry : ℕ → Do → Bytes
do_entry n d = d.action ∷ n ∷ 0 ∷ 0 ∷ (set_of d.add ++ set_of d.del)

-- what a line asks of a card that has k nodes and j specifications
abbrev DoFits : ℕ → ℕ → Do → Type 0
DoFits k j d = TreeFits k d.condition.tree × ((do_numbers_fit d ≡ true) × (j + 1 ≤ 256))

abbrev do_made : ℕ → Do → Sections → Sections
do_made k d m =
    put_specifications (put_nodes m (m.nodes ++ flatten (nodes_from k d.condition.tree)))
    (m.specifications ++ do_entry (own k d.condition.tree) d)

fits_each : (d : Do) → do_numbers_fit d ≡ true → (leb d.action 255 ≡ true) × (set_fits d.add ≡ true) × (set_fits d.del ≡ true)
fits_each d e = each_true (leb d.action 255) (set_fits d.add) (set_fits d.del) e

pub entry_length : (n : ℕ) (d : Do) → set_fits d.add ≡ true → set_fits d.del ≡ true → length (do_entry n d) ≡ 36
entry_length n d e f = rw length-append (omega (arith, set_length d.add e, set_length d.del f))

do_exactly : (d : Do) (k j : ℕ) (m : Sections) → length m.nodes ≡ 4 * k → length m.specifications ≡ 36 * j
    → Exactly (DoFits k j d) (do_made k d m) (do_in d (some m))
unfolding do_in tree_in specification_in
do_exactly d k j m h f =
    let t = d.condition.tree in
    let n : ℕ = length (m.nodes ++ flatten (nodes_from k t)) / 4 - 1 in
    let m₁ : Sections = put_nodes m (m.nodes ++ flatten (nodes_from k t)) in
    let same : put_specifications m₁ (m.specifications ++ do_entry n d) ≡ do_made k d m = rw (last_own k t m.nodes h) in
    exactly_as same
    (and_then (λ p. when (do_numbers_fit d) (specification_in (do_entry (last_node (made_nodes p)) d) p)) (when_none (do_numbers_fit d))
    (tree_in_lem t k m h)
    (λ _. exactly_when (do_numbers_fit d) (λ e. specification_in_lem (do_entry n d) j m₁ (entry_length n d (fits_each d e).1 (fits_each d e).2) f)))

-- ---- the lines

-- what the lines ask of a card that has k nodes and j specifications
pub record DosFit (k j : ℕ) (ds : List Do) : Type 0 where
  pub actions : all (λ d. leb d.action 255) ds ≡ true
  pub atoms : all (λ c. atoms_fit c.tree) (map (λ d. d.condition) ds) ≡ true
  pub sets : all (all (λ a. leb a 127)) (flatten (map (λ d. d.add ∷ d.del ∷ []) ds)) ≡ true
  pub nodes : k + sizes (trees_of (map (λ d. d.condition) ds)) ≤ 256
  pub entries : j + length ds ≤ 256

abbrev pub dos_made : ℕ → List Do → Sections → Sections
dos_made k ds m =
    put_specifications (put_nodes m (m.nodes ++ flatten (all_nodes k (trees_of (map (λ d. d.condition) ds)))))
    (m.specifications ++ flatten (specifications k ds))

-- the first line, and then the others
dos_put : (k : ℕ) (d : Do) (ds : List Do) (m : Sections) → dos_made (k + size d.condition.tree) ds (do_made k d m) ≡ dos_made k (d ∷ ds) m
unfolding flatten all_nodes specifications
dos_put k d ds m = simp (flatten_append, append_assoc)

abbrev pub sets_of : List Do → List (List ℕ)
sets_of ds = flatten (map (λ d. d.add ∷ d.del ∷ []) ds)

dos_fit : (k j : ℕ) (d : Do) (ds : List Do) → DoFits k j d × DosFit (k + size d.condition.tree) (j + 1) ds → DosFit k j (d ∷ ds)
unfolding flatten sizes
dos_fit k j d ds p =
    let e : (leb d.action 255 ≡ true) × (set_fits d.add ≡ true) × (set_fits d.del ≡ true) = fits_each d p.0.1.0 in
    record {
      actions = both_true (leb d.action 255) (all (λ d. leb d.action 255) ds) e.0 p.1.actions;
      atoms = both_true (atoms_fit d.condition.tree) (all (λ c. atoms_fit c.tree) (map (λ d. d.condition) ds)) p.0.0.0 p.1.atoms;
      sets = three_true (set_fits d.add) (set_fits d.del) (all set_fits (sets_of ds)) e.1 e.2 p.1.sets;
      nodes = omega (arith, p.1.nodes);
      entries = omega (arith, p.1.entries);
    }

dos_fit_each : (k j : ℕ) (d : Do) (ds : List Do) → DosFit k j (d ∷ ds) → DoFits k j d × DosFit (k + size d.condition.tree) (j + 1) ds
unfolding flatten sizes
dos_fit_each k j d ds p =
    let a : (leb d.action 255 ≡ true) × (all (λ d. leb d.action 255) ds ≡ true) =
    both (leb d.action 255) (all (λ d. leb d.action 255) ds) p.actions in
    let b : (atoms_fit d.condition.tree ≡ true) × (all (λ c. atoms_fit c.tree) (map (λ d. d.condition) ds) ≡ true) =
    both (atoms_fit d.condition.tree) (all (λ c. atoms_fit c.tree) (map (λ d. d.condition) ds)) p.atoms in
    let c : (set_fits d.add ≡ true) × (set_fits d.del ≡ true) × (all set_fits (sets_of ds) ≡ true) =
    each_true (set_fits d.add) (set_fits d.del) (all set_fits (sets_of ds)) p.sets in (
      (
        (b.0, omega (arith, p.nodes)),
        (three_true (leb d.action 255) (set_fits d.add) (set_fits d.del) a.0 c.0 c.1, omega (arith, p.entries)),
      ),
      record { actions = a.1; atoms = b.1; sets = c.2; nodes = omega (arith, p.nodes); entries = omega (arith, p.entries) },
    )

pub dos_exactly : (ds : List Do) (k j : ℕ) (m : Sections)
    → length m.nodes ≡ 4 * k → k ≤ 256 → length m.specifications ≡ 36 * j → j ≤ 256
    → Exactly (DosFit k j ds) (dos_made k ds m) (items_in (map do_said ds) (some m))
unfolding items_in item_in flatten all_nodes specifications sizes
dos_exactly [] k j m h u f v =
    holds (record { actions = refl; atoms = refl; sets = refl; nodes = omega arith; entries = omega arith })
    (rw (append-nil m.nodes, append-nil m.specifications))
dos_exactly (d ∷ ds) k j m h u f v =
    exactly_as (dos_put k d ds m)
    (exactly_if (dos_fit k j d ds) (dos_fit_each k j d ds)
    (and_then (items_in (map do_said ds)) (items_none (map do_said ds)) (do_exactly d k j m h f)
    (λ p. dos_exactly ds (k + size d.condition.tree) (j + 1) (do_made k d m)
    (tree_grown k d.condition.tree m.nodes h) p.0.1
    (rw length-append (omega (arith, f, entry_length (own k d.condition.tree) d (fits_each d p.1.0).1 (fits_each d p.1.0).2))) p.1.1)))
