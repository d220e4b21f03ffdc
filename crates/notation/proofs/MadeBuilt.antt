-- The sections that the lines add up to are those of the card that the text stands for; each keeps to its room.
use mathlib.Core.Path.{◌≡◌, refl, ap, sym, ◌∙◌}
use mathlib.Core.Bool.{true, ◌&&◌}
use mathlib.Core.List.{List, ◌++◌, map, flatten, append_assoc}
use mathlib.Core.Option.{none, some}
use Prim.Native.Nat.{ℕ, ◌+◌, ◌-◌, ◌*◌, ◌/◌, ◌≤◌}
use native.Mathlib.Omega.{arith}
use borrow.Author.Tests.{leb-true}
use lib.ListN.{length, length-append}
use Rattle.paper.specs.Next.{if}
use Rattle.paper.proofs.Relation.{both}
use Rattle.meaning.specs.Card.{Bytes}
use Rattle.meaning.specs.Place.{two_bytes}
use Rattle.meaning.specs.Assembled.{assembled}
use Rattle.notation.specs.Conditions.{trees_of}
use Rattle.notation.specs.Lines.{Said, conditions}
use Rattle.notation.specs.Built.{sizes, all_nodes, set_of, pool, specifications, selections, revisions, built}
use Rattle.notation.specs.Reading.{numbers_fit, entries_fit}
use Rattle.notation.specs.Making.{Sections, nothing_made, bind, set_fits, items_in, items_said, header_of, sections_of, card_of}
use Rattle.notation.proofs.MadeExactly.{Exactly, holds, fails, exactly_equal}
use Rattle.notation.proofs.MadeNodes.{all_nodes_counted, all_nodes_length}
use Rattle.notation.proofs.MadeSelects.{select_plans}
use Rattle.notation.proofs.MadeSets.{set_length}
use Rattle.notation.proofs.MadeEntries.{specifications_counted, selections_counted, revisions_counted, weights_length, specifications_length, selections_length, revisions_length}
use Rattle.notation.proofs.MadeWhole.{SaidFits, made_said, do_nodes, select_nodes}
use Rattle.notation.proofs.MadeFits.{said_fits, entries_each, pool_counted, fits_exactly}

-- A card put together is its header, its sets and its sections.
pub assembled_as : (atoms : ℕ) (weights : List ℕ) (nodes specifications selections revisions : List Bytes) (pool beliefs goals : Bytes) (start len : ℕ)
    → header_of atoms (length weights) (length nodes) (length specifications) (length selections) (length revisions) (length pool) start len
    ++ ((beliefs ++ goals) ++ (flatten (map two_bytes weights)
    ++ (flatten nodes ++ (flatten specifications ++ (flatten selections ++ (flatten revisions ++ pool))))))
    ≡ assembled atoms weights nodes specifications selections revisions pool beliefs goals start len
unfolding header_of assembled
assembled_as atoms weights nodes specifications selections revisions pool beliefs goals start len = rw (append_assoc beliefs goals)

-- what keeps to its room
pub record SectionsKept (m : Sections) : Type 0 where
  pub atoms : m.atoms ≤ 65535
  pub weights : length m.weights ≤ 512
  pub nodes : length m.nodes ≤ 1024
  pub specifications : length m.specifications ≤ 9216
  pub selections : length m.selections ≤ 2048
  pub revisions : length m.revisions ≤ 3072
  pub pool : length m.pool ≤ 8192
  pub sets : length m.sets ≡ 32
  pub plan : m.start + m.len ≡ length m.pool

pub header_length : (atoms actions nodes specifications selections revisions pool start len : ℕ)
    → length (header_of atoms actions nodes specifications selections revisions pool start len) ≡ 32
unfolding header_of flatten
header_length atoms actions nodes specifications selections revisions pool start len = refl

pub card_length : (m : Sections) → length m.sets ≡ 32
    → length (card_of m) ≡ 64 + length m.weights + length m.nodes + length m.specifications + length m.selections
    + length m.revisions + length m.pool
unfolding card_of sections_of
card_length m h = simp (length-append, header_length) (omega (arith, h))

module _ (s : Said) (n : numbers_fit s ≡ true) (e : entries_fit s ≡ true) where
  fits : SaidFits s
  fits = said_fits s n e

  -- ---- how many bytes each section has

  pub weights_made : length (made_said s).weights ≡ 2 * length s.weights
  unfolding made_said
  weights_made = weights_length s.weights

  pub nodes_made : length (made_said s).nodes ≡ 4 * sizes (trees_of (conditions s))
  unfolding made_said
  nodes_made = all_nodes_length 0 (trees_of (conditions s))

  pub specifications_made : length (made_said s).specifications ≡ 36 * length s.dos
  unfolding made_said
  specifications_made = specifications_length 0 s.dos fits.dos.sets

  pub selections_made : length (made_said s).selections ≡ 8 * length s.selects
  unfolding made_said
  selections_made = selections_length (do_nodes s) 0 s.selects

  pub revisions_made : length (made_said s).revisions ≡ 12 * length s.revises
  unfolding made_said
  revisions_made = revisions_length (do_nodes s + select_nodes s) (length (flatten (select_plans s.selects))) s.revises

  pub pool_made : length (made_said s).pool ≡ length (pool s)
  unfolding made_said
  pool_made = refl

  -- ---- the card

  pub card_built : card_of (made_said s) ≡ built s
  unfolding card_of sections_of made_said built
  card_built =
      let ns : List Bytes = all_nodes 0 (trees_of (conditions s)) in
      let ps : List Bytes = specifications 0 s.dos in
      let ls : List Bytes = selections (do_nodes s) 0 s.selects in
      let vs : List Bytes = revisions (do_nodes s + select_nodes s) (length (flatten (select_plans s.selects))) s.revises in
      let w : length (flatten (map two_bytes s.weights)) / 2 ≡ length s.weights = omega (arith, weights_made) in
      let k : length (flatten ns) / 4 ≡ length ns = omega (arith, nodes_made, all_nodes_counted 0 (trees_of (conditions s))) in
      let p : length (flatten ps) / 36 ≡ length ps = omega (arith, specifications_made, specifications_counted 0 s.dos) in
      let l : length (flatten ls) / 8 ≡ length ls = omega (arith, selections_made, selections_counted (do_nodes s) 0 s.selects) in
      let v : length (flatten vs) / 12 ≡ length vs =
      omega (
        arith,
        revisions_made,
        revisions_counted (do_nodes s + select_nodes s) (length (flatten (select_plans s.selects))) s.revises,
      ) in
      rw (w, k, p, l, v)
      (assembled_as s.atoms s.weights ns ps ls vs (pool s) (set_of s.begin.beliefs) (set_of s.begin.goals)
      (length (pool s) - length s.begin.plan) (length s.begin.plan))

  -- ---- its room

  pub made_kept : SectionsKept (made_said s)
  unfolding made_said
  made_kept =
      let b : (set_fits s.begin.beliefs ≡ true) × (set_fits s.begin.goals ≡ true) =
      both (set_fits s.begin.beliefs) (set_fits s.begin.goals) fits.begin.1 in
      record {
        atoms = leb-true s.atoms 65535 fits.atoms;
        weights = omega (arith, weights_made, entries_each s e);
        nodes = omega (arith, nodes_made, entries_each s e);
        specifications = omega (arith, specifications_made, entries_each s e);
        selections = omega (arith, selections_made, entries_each s e);
        revisions = omega (arith, revisions_made, entries_each s e);
        pool = omega (arith, entries_each s e);
        sets = rw (length-append (set_of s.begin.beliefs) (set_of s.begin.goals))
            (omega (arith, set_length s.begin.beliefs b.0, set_length s.begin.goals b.1));
        plan = omega (arith, pool_counted s);
      }

  pub built_length : length (built s)
      ≡ 64 + 2 * length s.weights + 4 * sizes (trees_of (conditions s)) + 36 * length s.dos + 8 * length s.selects
      + 12 * length s.revises + length (pool s)
  built_length =
      rw (← card_built, card_length (made_said s) made_kept.sets)
      (omega (arith, weights_made, nodes_made, specifications_made, selections_made, revisions_made, pool_made))

  pub built_room : length (built s) ≤ 24128
  built_room = omega (arith, built_length, entries_each s e)

  -- ---- its header

  pub built_header : built s
      ≡ header_of s.atoms (length s.weights) (sizes (trees_of (conditions s))) (length s.dos) (length s.selects) (length s.revises)
      (length (pool s)) (length (pool s) - length s.begin.plan) (length s.begin.plan)
      ++ ((made_said s).sets ++ sections_of (made_said s))
  unfolding card_of made_said
  built_header =
      let w : length (made_said s).weights / 2 ≡ length s.weights = omega (arith, weights_made) in
      let k : length (made_said s).nodes / 4 ≡ sizes (trees_of (conditions s)) = omega (arith, nodes_made) in
      let p : length (made_said s).specifications / 36 ≡ length s.dos = omega (arith, specifications_made) in
      let l : length (made_said s).selections / 8 ≡ length s.selects = omega (arith, selections_made) in
      let v : length (made_said s).revisions / 12 ≡ length s.revises = omega (arith, revisions_made) in
      sym card_built ∙ rw (w, k, p, l, v)

-- ---- the lines

-- What the lines of a text add up to is the card that it stands for, if nothing is too large, and else nothing.
pub lines_built : (s : Said)
    → bind (items_in (items_said s) (some nothing_made)) (λ m. some (card_of m)) ≡ if (numbers_fit s && entries_fit s) (some (built s)) none
lines_built s = exactly_equal (numbers_fit s && entries_fit s) (by_card (fits_exactly s))
  where
    by_card : Exactly (numbers_fit s && entries_fit s ≡ true) (made_said s) (items_in (items_said s) (some nothing_made))
        → Exactly (numbers_fit s && entries_fit s ≡ true) (built s) (bind (items_in (items_said s) (some nothing_made)) (λ m. some (card_of m)))
    by_card (holds f o) =
        holds f (rw o (ap some (card_built s (both (numbers_fit s) (entries_fit s) f).0 (both (numbers_fit s) (entries_fit s) f).1)))
    by_card (fails f o) = fails f (rw o)
