-- What the lines ask is that the numbers and the entries fit; so they add up to the card's sections exactly then.
use mathlib.Core.Path.{◌≡◌, refl}
use mathlib.Core.Bool.{Bool, true, ◌&&◌}
use mathlib.Core.List.{List, [], ◌∷◌, ◌++◌, map, flatten, map-append}
use mathlib.Core.Option.{none, some}
use Prim.Native.Nat.{ℕ, ◌+◌, ◌≤◌}
use native.Mathlib.Omega.{arith}
use borrow.Author.Tests.{leb-true, le-leb}
use lib.Dec.{leb}
use lib.ListN.{length, length-append}
use Rattle.paper.specs.Next.{if}
use Rattle.paper.proofs.Relation.{both}
use Rattle.meaning.specs.Refusals.{all}
use Rattle.meaning.proofs.Every.{both_true}
use Rattle.notation.specs.Conditions.{Condition, trees_of}
use Rattle.notation.specs.Lines.{Do, Said, conditions, plans, sets}
use Rattle.notation.specs.Built.{sizes, pool}
use Rattle.notation.specs.Reading.{atoms_fit, numbers_fit, entries_fit}
use Rattle.notation.specs.Making.{nothing_made, set_fits, items_in, items_said}
use Rattle.notation.proofs.MadeExactly.{Exactly, exactly_if, exactly_equal}
use Rattle.notation.proofs.MadeLists.{each_true, three_true, each_of_six, six_true, all_both, all_left, all_right}
use Rattle.notation.proofs.MadeNodes.{sizes_append}
use Rattle.notation.proofs.MadePlans.{actions_fit}
use Rattle.notation.proofs.MadeDos.{sets_of}
use Rattle.notation.proofs.MadeSelects.{select_conditions, select_plans}
use Rattle.notation.proofs.MadeRevises.{revise_conditions, revise_plans}
use Rattle.notation.proofs.MadeWhole.{SaidFits, made_said, said_exactly, do_nodes, select_nodes, pool_said, dos_counted, selects_counted}

abbrev condition_fits : Condition → Bool
condition_fits c = atoms_fit c.tree

abbrev do_conditions : List Do → List Condition
do_conditions ds = map (λ d. d.condition) ds

module _ (s : Said) where
  pub said_nodes : sizes (trees_of (conditions s)) ≡ do_nodes s + select_nodes s + sizes (trees_of (revise_conditions s.revises))
  said_nodes =
      let ds : List Condition = do_conditions s.dos in
      let ss : List Condition = select_conditions s.selects in
      let rs : List Condition = revise_conditions s.revises in
      let trees : trees_of (conditions s) ≡ trees_of ds ++ (trees_of ss ++ trees_of rs) = simp map-append in
      rw (trees, sizes_append (trees_of ds) (trees_of ss ++ trees_of rs), sizes_append (trees_of ss) (trees_of rs))
      (omega (arith, dos_counted s, selects_counted s))

  pub pool_counted : length (pool s) ≡ length (flatten (select_plans s.selects) ++ flatten (revise_plans s.revises)) + length s.begin.plan
  pool_counted = rw (← pool_said s) (length-append (flatten (select_plans s.selects) ++ flatten (revise_plans s.revises)) s.begin.plan)

  -- ---- what the lines ask is so if the numbers and the entries fit

  abbrev pub Numbers : Type 0
  Numbers =
      (leb s.atoms 65535 ≡ true) × (all (λ w. leb w 65535) s.weights ≡ true) × (all (λ d. leb d.action 255) s.dos ≡ true)
      × (all condition_fits (conditions s) ≡ true) × (all actions_fit (plans s) ≡ true) × (all set_fits (sets s) ≡ true)

  pub numbers_each : numbers_fit s ≡ true → Numbers
  unfolding numbers_fit
  numbers_each e =
      each_of_six (leb s.atoms 65535) (all (λ w. leb w 65535) s.weights) (all (λ d. leb d.action 255) s.dos)
      (all condition_fits (conditions s)) (all actions_fit (plans s)) (all set_fits (sets s)) e

  numbers_all : Numbers → numbers_fit s ≡ true
  unfolding numbers_fit
  numbers_all n =
      six_true (leb s.atoms 65535) (all (λ w. leb w 65535) s.weights) (all (λ d. leb d.action 255) s.dos)
      (all condition_fits (conditions s)) (all actions_fit (plans s)) (all set_fits (sets s)) n.0 n.1 n.2 n.3 n.4 n.5

  abbrev pub Entries : Type 0
  Entries =
      (length s.weights ≤ 256) × (length s.dos ≤ 256) × (length s.selects ≤ 256)
      × (length s.revises ≤ 256) × (sizes (trees_of (conditions s)) ≤ 256) × (length (pool s) ≤ 8192)

  pub entries_each : entries_fit s ≡ true → Entries
  unfolding entries_fit
  entries_each e =
      let p : (leb (length s.weights) 256 ≡ true) × (leb (length s.dos) 256 ≡ true) × (leb (length s.selects) 256 ≡ true)
      × (leb (length s.revises) 256 ≡ true) × (leb (sizes (trees_of (conditions s))) 256 ≡ true) × (leb (length (pool s)) 8192 ≡ true) =
      each_of_six (leb (length s.weights) 256) (leb (length s.dos) 256) (leb (length s.selects) 256)
      (leb (length s.revises) 256) (leb (sizes (trees_of (conditions s))) 256) (leb (length (pool s)) 8192) e in (
        leb-true (length s.weights) 256 p.0,
        leb-true (length s.dos) 256 p.1,
        leb-true (length s.selects) 256 p.2,
        leb-true (length s.revises) 256 p.3,
        leb-true (sizes (trees_of (conditions s))) 256 p.4,
        leb-true (length (pool s)) 8192 p.5,
      )

  entries_all : Entries → entries_fit s ≡ true
  unfolding entries_fit
  entries_all n =
      six_true (leb (length s.weights) 256) (leb (length s.dos) 256) (leb (length s.selects) 256)
      (leb (length s.revises) 256) (leb (sizes (trees_of (conditions s))) 256) (leb (length (pool s)) 8192)
      (le-leb (length s.weights) 256 n.0) (le-leb (length s.dos) 256 n.1) (le-leb (length s.selects) 256 n.2)
      (le-leb (length s.revises) 256 n.3) (le-leb (sizes (trees_of (conditions s))) 256 n.4) (le-leb (length (pool s)) 8192 n.5)

  lines_fit : Numbers → Entries → SaidFits s
  lines_fit n e =
      let ds : List Condition = do_conditions s.dos in
      let ss : List Condition = select_conditions s.selects in
      let rs : List Condition = revise_conditions s.revises in
      let behind : all condition_fits (ss ++ rs) ≡ true = all_right condition_fits ds (ss ++ rs) n.3 in
      let sp : List (List ℕ) = select_plans s.selects in
      let rp : List (List ℕ) = revise_plans s.revises in
      let bp : List (List ℕ) = s.begin.plan ∷ [] in
      let later : all actions_fit (rp ++ bp) ≡ true = all_right actions_fit sp (rp ++ bp) n.4 in
      let begin_sets : List (List ℕ) = s.begin.beliefs ∷ s.begin.goals ∷ [] in
      let pools : length (flatten sp ++ flatten rp) ≡ length (flatten sp) + length (flatten rp) = length-append (flatten sp) (flatten rp) in
      let starts : set_fits s.begin.beliefs && (set_fits s.begin.goals && true) ≡ true = all_right set_fits (sets_of s.dos) begin_sets n.5 in
      let start : (set_fits s.begin.beliefs ≡ true) × (set_fits s.begin.goals ≡ true) × (◌≡◌ {A = Bool} true true) =
      each_true (set_fits s.begin.beliefs) (set_fits s.begin.goals) true starts in
      record {
        atoms = n.0;
        weights = record { numbers = n.1; entries = omega (arith, e.0) };
        dos = record {
          actions = n.2;
          atoms = all_left condition_fits ds (ss ++ rs) n.3;
          sets = all_left set_fits (sets_of s.dos) begin_sets n.5;
          nodes = omega (arith, e.4, said_nodes, dos_counted s);
          entries = omega (arith, e.1);
        };
        selects = record {
          atoms = all_left condition_fits ss rs behind;
          actions = all_left actions_fit sp (rp ++ bp) n.4;
          nodes = omega (arith, e.4, said_nodes, selects_counted s);
          pool = omega (arith, e.5, pool_counted);
          entries = omega (arith, e.2);
        };
        revises = record {
          atoms = all_right condition_fits ss rs behind;
          actions = all_left actions_fit rp bp later;
          nodes = omega (arith, e.4, said_nodes);
          pool = omega (arith, e.5, pool_counted);
          entries = omega (arith, e.3);
        };
        begin = (
          ((both (actions_fit s.begin.plan) true (all_right actions_fit rp bp later)).0, omega (arith, e.5, pool_counted)),
          both_true (set_fits s.begin.beliefs) (set_fits s.begin.goals) start.0 start.1,
        );
      }

  numbers_fit_lem : SaidFits s → Numbers
  numbers_fit_lem f =
      let ds : List Condition = do_conditions s.dos in
      let ss : List Condition = select_conditions s.selects in
      let rs : List Condition = revise_conditions s.revises in
      let sp : List (List ℕ) = select_plans s.selects in
      let rp : List (List ℕ) = revise_plans s.revises in
      let bp : List (List ℕ) = s.begin.plan ∷ [] in
      let begin_sets : List (List ℕ) = s.begin.beliefs ∷ s.begin.goals ∷ [] in
      let plan : all actions_fit bp ≡ true = both_true (actions_fit s.begin.plan) true f.begin.0.0 refl in
      let start : (set_fits s.begin.beliefs ≡ true) × (set_fits s.begin.goals ≡ true) =
      both (set_fits s.begin.beliefs) (set_fits s.begin.goals) f.begin.1 in (
        f.atoms,
        f.weights.numbers,
        f.dos.actions,
        all_both condition_fits ds (ss ++ rs) f.dos.atoms (all_both condition_fits ss rs f.selects.atoms f.revises.atoms),
        all_both actions_fit sp (rp ++ bp) f.selects.actions (all_both actions_fit rp bp f.revises.actions plan),
        all_both set_fits (sets_of s.dos) begin_sets f.dos.sets
            (three_true (set_fits s.begin.beliefs) (set_fits s.begin.goals) true start.0 start.1 refl),
      )

  entries_fit_lem : SaidFits s → Entries
  entries_fit_lem f = (
    omega (arith, f.weights.entries),
    omega (arith, f.dos.entries),
    omega (arith, f.selects.entries),
    omega (arith, f.revises.entries),
    omega (arith, said_nodes, f.revises.nodes),
    omega (arith, pool_counted, f.begin.0.1),
  )

  pub said_fits : numbers_fit s ≡ true → entries_fit s ≡ true → SaidFits s
  said_fits n e = lines_fit (numbers_each n) (entries_each e)

  pub fits_exactly : Exactly (numbers_fit s && entries_fit s ≡ true) (made_said s) (items_in (items_said s) (some nothing_made))
  fits_exactly =
      exactly_if
      (λ f. both_true (numbers_fit s) (entries_fit s) (numbers_all (numbers_fit_lem f)) (entries_all (entries_fit_lem f)))
      (λ e. said_fits (both (numbers_fit s) (entries_fit s) e).0 (both (numbers_fit s) (entries_fit s) e).1)
      (said_exactly s)

  -- What the lines add up to is the card's sections if all fits, and else nothing.
  pub lines_made : items_in (items_said s) (some nothing_made) ≡ if (numbers_fit s && entries_fit s) (some (made_said s)) none
  lines_made = exactly_equal (numbers_fit s && entries_fit s) fits_exactly
