-- What all the lines of a text add up to.
use mathlib.Core.Path.{◌≡◌, refl, ap, ◌∙◌}
use mathlib.Core.Bool.{true}
use mathlib.Core.List.{List, [], ◌∷◌, ◌++◌, map, flatten, append_assoc, append-nil, map-append, map-map}
use mathlib.Core.Option.{some}
use Prim.Native.Nat.{ℕ, ◌+◌, ◌-◌, ◌*◌}
use native.Mathlib.Nat.{zero-add}
use native.Mathlib.Omega.{arith}
use lib.Dec.{leb}
use lib.ListN.{length, length-append}
use Rattle.meaning.specs.Place.{two_bytes}
use Rattle.meaning.specs.Trees.{Tree}
use Rattle.notation.specs.Conditions.{trees_of}
use Rattle.notation.specs.Lines.{Do, Select, Said, conditions}
use Rattle.notation.specs.Built.{sizes, all_nodes, set_of, pool, specifications, selections, revisions}
use Rattle.notation.specs.Values.{atoms_said, action_said, do_said, select_said, revise_said, begin_said}
use Rattle.notation.specs.Making.{Sections, nothing_made, put_atoms, item_in, items_in, items_said}
use Rattle.notation.proofs.MadeExactly.{Exactly, exactly_as, exactly_if, exactly_of, and_then}
use Rattle.notation.proofs.MadeLists.{flatten_append}
use Rattle.notation.proofs.MadeNodes.{all_nodes_append, all_nodes_length}
use Rattle.notation.proofs.MadeSections.{items_none, item_none, items_append}
use Rattle.notation.proofs.MadeWeights.{WeightsFit, weights_made, atoms_exactly, weights_exactly}
use Rattle.notation.proofs.MadeDos.{DosFit, dos_made, dos_exactly}
use Rattle.notation.proofs.MadeSelects.{select_conditions, select_plans, SelectsFit, selects_made, selects_exactly}
use Rattle.notation.proofs.MadeRevises.{revise_conditions, revise_plans, RevisesFit, revises_made, revises_exactly}
use Rattle.notation.proofs.MadeBegins.{BeginFits, begin_made, begin_exactly}

-- ---- the card's sections

-- how many nodes the do lines and the select lines have
abbrev pub do_nodes : Said → ℕ
do_nodes s = sizes (map (λ d. d.condition.tree) s.dos)

abbrev pub select_nodes : Said → ℕ
select_nodes s = sizes (flatten (map (λ r. r.belief.tree ∷ r.goal.tree ∷ []) s.selects))

-- The sections of the card that a text stands for, as bytes.
unfoldable pub made_said : Said → Sections
made_said s = record {
  atoms = s.atoms;
  weights = flatten (map two_bytes s.weights);
  nodes = flatten (all_nodes 0 (trees_of (conditions s)));
  specifications = flatten (specifications 0 s.dos);
  selections = flatten (selections (do_nodes s) 0 s.selects);
  revisions = flatten (revisions (do_nodes s + select_nodes s) (length (flatten (select_plans s.selects))) s.revises);
  pool = pool s;
  sets = set_of s.begin.beliefs ++ set_of s.begin.goals;
  start = length (pool s) - length s.begin.plan;
  len = length s.begin.plan;
}

-- ---- how many nodes

do_nodes_lem : (ds : List Do) → sizes (trees_of (map (λ d. d.condition) ds)) ≡ sizes (map (λ d. d.condition.tree) ds)
do_nodes_lem ds = ap sizes (map-map (λ c. c.tree) (λ d. d.condition) ds)

pub select_trees_lem : (ss : List Select) → trees_of (select_conditions ss) ≡ flatten (map (λ r. r.belief.tree ∷ r.goal.tree ∷ []) ss)
unfolding flatten
select_trees_lem [] = refl
select_trees_lem (s ∷ ss) = rw (select_trees_lem ss)

-- ---- behind each kind of lines

-- what the lines ask
pub record SaidFits (s : Said) : Type 0 where
  pub atoms : leb s.atoms 65535 ≡ true
  pub weights : WeightsFit 0 s.weights
  pub dos : DosFit 0 0 s.dos
  pub selects : SelectsFit (do_nodes s) 0 0 s.selects
  pub revises : RevisesFit (do_nodes s + select_nodes s) (length (flatten (select_plans s.selects))) 0 s.revises
  pub begin : BeginFits (length (flatten (select_plans s.selects) ++ flatten (revise_plans s.revises))) s.begin

module _ (s : Said) where
  abbrev after_atoms : Sections
  after_atoms = put_atoms nothing_made s.atoms

  abbrev after_weights : Sections
  after_weights = weights_made s.weights after_atoms

  abbrev after_dos : Sections
  after_dos = dos_made 0 s.dos after_weights

  abbrev after_selects : Sections
  after_selects = selects_made (do_nodes s) s.selects after_dos

  abbrev after_revises : Sections
  after_revises = revises_made (do_nodes s + select_nodes s) s.revises after_selects

  abbrev after : Sections
  after = begin_made s.begin after_revises

  -- the kinds of lines in turn
  in_turn_lem : items_in (items_said s) (some nothing_made)
      ≡ item_in (begin_said s.begin) (items_in (map revise_said s.revises) (items_in (map select_said s.selects)
      (items_in (map do_said s.dos) (items_in (map action_said s.weights) (item_in (atoms_said s.atoms) (some nothing_made))))))
  unfolding items_in
  in_turn_lem = rw (items_append, items_append, items_append, items_append)

  nodes_said : (flatten (all_nodes 0 (trees_of (map (λ d. d.condition) s.dos))) ++ flatten (all_nodes (do_nodes s) (trees_of (select_conditions s.selects))))
      ++ flatten (all_nodes (do_nodes s + select_nodes s) (trees_of (revise_conditions s.revises))) ≡ flatten (all_nodes 0 (trees_of (conditions s)))
  nodes_said =
      let ds : List Tree = trees_of (map (λ d. d.condition) s.dos) in
      let ss : List Tree = trees_of (select_conditions s.selects) in
      let rs : List Tree = trees_of (revise_conditions s.revises) in
      let d : sizes ds ≡ do_nodes s = do_nodes_lem s.dos in
      let e : sizes ss ≡ select_nodes s = ap sizes (select_trees_lem s.selects) in
      let trees : trees_of (conditions s) ≡ ds ++ (ss ++ rs) = simp map-append in
      rw (trees, all_nodes_append 0 ds (ss ++ rs), all_nodes_append (0 + sizes ds) ss rs, ← d, ← e) (simp (flatten_append, append_assoc, zero-add))

  pub pool_said : (flatten (select_plans s.selects) ++ flatten (revise_plans s.revises)) ++ s.begin.plan ≡ pool s
  unfolding flatten
  pool_said = simp (flatten_append, append_assoc, append-nil)

  start_said : length (flatten (select_plans s.selects) ++ flatten (revise_plans s.revises)) ≡ length (pool s) - length s.begin.plan
  start_said = rw (← pool_said) (omega (arith, length-append (flatten (select_plans s.selects) ++ flatten (revise_plans s.revises)) s.begin.plan))

  after_made : after ≡ made_said s
  unfolding made_said
  after_made = rw (nodes_said, pool_said, start_said)

  -- how many nodes the do lines and the select lines have made
  pub dos_counted : sizes (trees_of (map (λ d. d.condition) s.dos)) ≡ do_nodes s
  dos_counted = do_nodes_lem s.dos

  pub selects_counted : sizes (trees_of (select_conditions s.selects)) ≡ select_nodes s
  selects_counted = ap sizes (select_trees_lem s.selects)

  dos_length : length after_dos.nodes ≡ 4 * do_nodes s
  dos_length = all_nodes_length 0 (trees_of (map (λ d. d.condition) s.dos)) ∙ ap (λ n. 4 * n) dos_counted

  selects_length : length after_selects.nodes ≡ 4 * (do_nodes s + select_nodes s)
  selects_length =
      rw (length-append after_dos.nodes (flatten (all_nodes (do_nodes s) (trees_of (select_conditions s.selects)))))
      (omega (arith, dos_length, all_nodes_length (do_nodes s) (trees_of (select_conditions s.selects)), selects_counted))

  abbrev InTurn : Type 0
  InTurn =
      (((((leb s.atoms 65535 ≡ true) × WeightsFit 0 s.weights) × DosFit 0 0 s.dos) × SelectsFit (do_nodes s) 0 0 s.selects)
      × RevisesFit (do_nodes s + select_nodes s) (length (flatten (select_plans s.selects))) 0 s.revises)
      × BeginFits (length (flatten (select_plans s.selects) ++ flatten (revise_plans s.revises))) s.begin

  fits_in_turn : InTurn → SaidFits s
  fits_in_turn p = record {
    atoms = p.0.0.0.0.0;
    weights = p.0.0.0.0.1;
    dos = p.0.0.0.1;
    selects = p.0.0.1;
    revises = p.0.1;
    begin = p.1;
  }

  turns_fit : SaidFits s → InTurn
  turns_fit f = (((((f.atoms, f.weights), f.dos), f.selects), f.revises), f.begin)

  pub said_exactly : Exactly (SaidFits s) (made_said s) (items_in (items_said s) (some nothing_made))
  unfolding item_in
  said_exactly =
      exactly_of in_turn_lem
      (exactly_as after_made
      (exactly_if fits_in_turn turns_fit
      (and_then (item_in (begin_said s.begin)) (item_none (begin_said s.begin))
      (and_then (items_in (map revise_said s.revises)) (items_none (map revise_said s.revises))
      (and_then (items_in (map select_said s.selects)) (items_none (map select_said s.selects))
      (and_then (items_in (map do_said s.dos)) (items_none (map do_said s.dos))
      (and_then (items_in (map action_said s.weights)) (items_none (map action_said s.weights)) (atoms_exactly s.atoms nothing_made)
      (λ p. weights_exactly s.weights 0 after_atoms refl (omega arith)))
      (λ p. dos_exactly s.dos 0 0 after_weights refl (omega arith) refl (omega arith)))
      (λ p. selects_exactly s.selects (do_nodes s) 0 after_dos dos_length (omega (arith, p.1.nodes, dos_counted))
      (omega arith) refl (omega arith)))
      (λ p. revises_exactly s.revises (do_nodes s + select_nodes s) 0 after_selects selects_length
      (omega (arith, p.1.nodes, selects_counted)) (omega (arith, p.1.pool)) refl (omega arith)))
      (λ p. begin_exactly s.begin after_revises
      (rw (length-append (flatten (select_plans s.selects)) (flatten (revise_plans s.revises))) p.1.pool)))))
