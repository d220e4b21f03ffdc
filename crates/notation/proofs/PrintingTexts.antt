-- Every condition of a card that was made from a text prints.
use mathlib.Core.Path.{◌≡◌, refl, ap, sym, subst}
use mathlib.Core.Bool.{Bool, ◌&&◌}
use mathlib.Core.List.{List, [], ◌∷◌, ◌++◌, map, flatten}
use Prim.Native.Nat.{ℕ, ◌≤◌, ◌<◌}
use native.Mathlib.Omega.{arith}
use borrow.Author.Tests.{leb-true, le-leb}
use lib.Dec.{leb}
use lib.ListN.{length}
use Rattle.paper.proofs.Relation.{both}
use Rattle.std.specs.Prelude.{Ok}
use Rattle.meaning.specs.Trees.{Tree, true, believes, goal, not, and, or}
use Rattle.meaning.specs.Card.{Bytes, layout, trees, tree_at}
use Rattle.meaning.specs.Refusals.{all}
use Rattle.meaning.proofs.Every.{both_true, all-at}
use Rattle.notation.specs.Conditions.{Condition, OrList, trees_of}
use Rattle.notation.specs.Lines.{Do, Select, Revise, Said, Text, card, Lines, none, note, line, DoLine, does, SelectLine, selects, ReviseLine, revises, conditions}
use Rattle.notation.specs.Built.{size, sizes, built}
use Rattle.notation.specs.Reading.{numbers_fit, entries_fit}
use Rattle.notation.specs.Printing.{depth_as, depth_of, printed, print_answer}
use Rattle.notation.specs.Theorems.{TextPrints}
use Rattle.notation.proofs.MadeLists.{all_both, three_true}
use Rattle.notation.proofs.MadeFits.{entries_each}
use Rattle.notation.proofs.MadeCards.{built_layout}
use Rattle.notation.proofs.MadeCompleted.{completed, all_completed, all_completed_counted}
use Rattle.notation.proofs.MadeNumbered.{card_trees}
use Rattle.notation.proofs.Laws.{done_leaves}
use Rattle.notation.proofs.Printing.{wants, print_laws}
use Rattle.notation.proofs.PrintingRefusals.{print_refusals}
use Rattle.notation.proofs.PrintingRoom.{print_room}

-- ---- the parts of a tree that prints

abbrev prints : Tree → Bool
prints t = leb (depth_of t) 32 && leb (size t) 256

prints_small : (t : Tree) → depth_of t ≤ 32 → size t ≤ 256 → prints t ≡ Bool.true
prints_small t d h = both_true (leb (depth_of t) 32) (leb (size t) 256) (le-leb (depth_of t) 32 d) (le-leb (size t) 256 h)

parts_print : (t : Tree) → depth_of t ≤ 32 → size t ≤ 256 → all prints (completed t) ≡ Bool.true
unfolding completed depth_as size
parts_print true d h = refl
parts_print (believes p) d h = refl
parts_print (goal p) d h = refl
parts_print (not t) d h =
    let w = wants t in
    all_both prints (completed t) (not t ∷ []) (parts_print t (omega (arith, w.depth_and, w.depth_unit)) (omega arith))
    (both_true (prints (not t)) Bool.true (prints_small (not t) d h) refl)
parts_print (and l r) d h =
    let v = wants l in
    let w = wants r in
    all_both prints (completed l) (completed r ++ (and l r ∷ [])) (parts_print l (omega (arith, v.depth_and)) (omega arith))
    (all_both prints (completed r) (and l r ∷ []) (parts_print r (omega (arith, w.depth_and, w.depth_unit)) (omega arith))
    (both_true (prints (and l r)) Bool.true (prints_small (and l r) d h) refl))
parts_print (or l r) d h =
    let w = wants r in
    all_both prints (completed l) (completed r ++ (or l r ∷ [])) (parts_print l (omega arith) (omega arith))
    (all_both prints (completed r) (or l r ∷ []) (parts_print r (omega (arith, w.depth_and)) (omega arith))
    (both_true (prints (or l r)) Bool.true (prints_small (or l r) d h) refl))

-- ---- the conditions of a text print no deeper than they are written

abbrev no_deeper : Condition → Bool
no_deeper c = leb (depth_of c.tree) c.depth

derived_no_deeper : {u : Bytes} {c : Condition} → OrList u c → no_deeper c ≡ Bool.true
derived_no_deeper {u} {c} r = le-leb (depth_of c.tree) c.depth (print_laws.least_depth r)

dos_no_deeper : {u : Bytes} {ds : List Do} → Lines DoLine u ds → all no_deeper (map (λ d. d.condition) ds) ≡ Bool.true
dos_no_deeper none = refl
dos_no_deeper (note x r) = dos_no_deeper r
dos_no_deeper (line {xs = ds} (does {c = c} a r b d f) rest) =
    both_true (no_deeper c) (all no_deeper (map (λ d. d.condition) ds)) (derived_no_deeper r) (dos_no_deeper rest)

selects_no_deeper : {u : Bytes} {ss : List Select} → Lines SelectLine u ss → all no_deeper (flatten (map (λ s. s.belief ∷ s.goal ∷ []) ss)) ≡ Bool.true
unfolding flatten
selects_no_deeper none = refl
selects_no_deeper (note x r) = selects_no_deeper r
selects_no_deeper (line {xs = ss} (selects {b = b} {g = g} p q a f) rest) =
    three_true (no_deeper b) (no_deeper g) (all no_deeper (flatten (map (λ s. s.belief ∷ s.goal ∷ []) ss)))
    (derived_no_deeper p) (derived_no_deeper q) (selects_no_deeper rest)

revises_no_deeper : {u : Bytes} {rs : List Revise} → Lines ReviseLine u rs → all no_deeper (map (λ r. r.condition) rs) ≡ Bool.true
revises_no_deeper none = refl
revises_no_deeper (note x r) = revises_no_deeper r
revises_no_deeper (line {xs = rs} (revises {c = c} a r b f) rest) =
    both_true (no_deeper c) (all no_deeper (map (λ r. r.condition) rs)) (derived_no_deeper r) (revises_no_deeper rest)

text_no_deeper : {t : Bytes} {s : Said} → Text t s → all no_deeper (conditions s) ≡ Bool.true
text_no_deeper (card {dos = dos} {sels = sels} {revs = revs} _ _ _ d s r _ _) =
    all_both no_deeper (map (λ d. d.condition) dos) (flatten (map (λ s. s.belief ∷ s.goal ∷ []) sels) ++ map (λ r. r.condition) revs)
    (dos_no_deeper d)
    (all_both no_deeper (flatten (map (λ s. s.belief ∷ s.goal ∷ []) sels)) (map (λ r. r.condition) revs) (selects_no_deeper s) (revises_no_deeper r))

-- ---- so they print, and their parts

conditions_print : (cs : List Condition) → all no_deeper cs ≡ Bool.true → all (λ c. leb c.depth 32) cs ≡ Bool.true
    → sizes (trees_of cs) ≤ 256 → all prints (all_completed (trees_of cs)) ≡ Bool.true
unfolding flatten sizes
conditions_print [] h g k = refl
conditions_print (c ∷ cs) h g k =
    let (d, ds) = both (no_deeper c) _ h in
    let (e, es) = both (leb c.depth 32) _ g in
    all_both prints (completed c.tree) (all_completed (trees_of cs))
    (parts_print c.tree (omega (arith, leb-true (depth_of c.tree) c.depth d, leb-true c.depth 32 e)) (omega arith))
    (conditions_print cs ds es (omega arith))

-- ---- the card

module _ (s : Said) (n : numbers_fit s ≡ Bool.true) (e : entries_fit s ≡ Bool.true) where
  abbrev tree : ℕ → Tree
  tree k = tree_at (layout (built s)) (built s) k

  node_prints : all prints (all_completed (trees_of (conditions s))) ≡ Bool.true → (k : ℕ) → k < (layout (built s)).nodes.count
      → (depth_of (tree k) ≤ 32) × (size (tree k) ≤ 256)
  node_prints good k known =
      let ts : List Tree = trees_of (conditions s) in
      let there : trees (layout (built s)) (built s) ≡ all_completed ts = rw (built_layout s n e) (card_trees s n e) in
      let counted : (layout (built s)).nodes.count ≡ sizes ts = ap (λ l. l.nodes.count) (built_layout s n e) in
      let here : prints (tree k) ≡ Bool.true = rw there (all-at prints (all_completed ts) k true good (omega (arith, all_completed_counted ts))) in
      let (d, f) = both (leb (depth_of (tree k)) 32) _ here in
      (leb-true _ _ d, leb-true _ _ f)

pub text_prints : TextPrints
text_prints t out n left reads k known =
    let (s, (within, (accepted, whole))) = done_leaves reads in
    let (numbers, entries) = both (numbers_fit s) (entries_fit s) within.not_large in
    let good = conditions_print (conditions s) (text_no_deeper within.derived) within.not_nested (entries_each s entries).4 in
    let node : k < (layout (built s)).nodes.count = subst (λ b. k < (layout b).nodes.count) whole known in
    let (deep, few) = node_prints s numbers entries good k node in
    subst (λ b. (length (printed b k) ≤ 894) × ((room : Bytes) → length (printed b k) ≤ length room → print_answer b k room ≡ Ok tt)) (sym whole)
    (print_room (built s) k (accepted, node) few, λ room fits. (print_refusals (built s) k room).done_exactly.1 ((accepted, node), (deep, (few, fits))))
