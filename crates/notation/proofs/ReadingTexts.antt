-- The reader as a function reads the text that the grammar derives, if its conditions do not nest too deep.
use mathlib.Core.Path.{◌≡◌, refl, subst}
use mathlib.Core.List.{List, [], ◌∷◌, ◌++◌, append-nil, map, flatten}
use Prim.Native.Nat.{ℕ, ◌≤◌}
use lib.ListN.{length}
use Rattle.paper.specs.Next.{if}
use Rattle.meaning.specs.Card.{Bytes}
use Rattle.notation.specs.Conditions.{Condition}
use Rattle.notation.specs.Lines.{Do, Select, Revise, Begin, Said, Text, card, conditions, Notes, Lines, AtomsLine, ActionLine, DoLine, SelectLine, ReviseLine, BeginLine}
use Rattle.notation.specs.Reading.{shallow}
use Rattle.notation.specs.Values.{nested, got, Item, atoms_said, action_said, do_said, select_said, revise_said, begin_said, items_of}
use Rattle.notation.specs.Making.{items_said}
use Rattle.notation.proofs.ReadingItems.{Reads, atoms_line, action_line, do_line, select_line, revise_line, begin_line, line_reads, nothing_left, notes_read, lines_read}

-- ---- the sections of a text, with how many may nest

module _ (left : ℕ) {u z : Bytes} {ds : List Condition} {js : List Item} where
  actions_read : {ws : List ℕ} → Lines ActionLine u ws → Reads left z ds js → Reads left (u ++ z) ds (map action_said ws ++ js)
  actions_read = lines_read left ActionLine action_said (λ w. []) (λ ws. []) refl (λ x xs. refl) (λ u x. action_line left)

  dos_read : {xs : List Do} → Lines DoLine u xs → Reads left z ds js → Reads left (u ++ z) (map (λ d. d.condition) xs ++ ds) (map do_said xs ++ js)
  dos_read = lines_read left DoLine do_said (λ d. d.condition ∷ []) (map (λ d. d.condition)) refl (λ x xs. refl) (λ u x. do_line left)

  selects_read : {xs : List Select} → Lines SelectLine u xs → Reads left z ds js
      → Reads left (u ++ z) (flatten (map (λ s. s.belief ∷ (s.goal ∷ [])) xs) ++ ds) (map select_said xs ++ js)
  unfolding flatten
  selects_read =
      lines_read left SelectLine select_said (λ s. s.belief ∷ (s.goal ∷ [])) (λ xs. flatten (map (λ s. s.belief ∷ (s.goal ∷ [])) xs))
      refl (λ x xs. refl) (λ u x. select_line left)

  revises_read : {xs : List Revise} → Lines ReviseLine u xs → Reads left z ds js
      → Reads left (u ++ z) (map (λ r. r.condition) xs ++ ds) (map revise_said xs ++ js)
  revises_read = lines_read left ReviseLine revise_said (λ r. r.condition ∷ []) (map (λ r. r.condition)) refl (λ x xs. refl) (λ u x. revise_line left)

  atoms_then : {n : ℕ} → AtomsLine u n → Reads left z ds js → Reads left (u ++ z) ds (atoms_said n ∷ js)
  atoms_then {n} l r = line_reads left u z [] ds (atoms_said n ∷ []) js (atoms_line left l) r

  begin_then : {b : Begin} → BeginLine u b → Reads left z ds js → Reads left (u ++ z) ds (begin_said b ∷ js)
  begin_then {b} l r = line_reads left u z [] ds (begin_said b ∷ []) js (begin_line left l) r

module _ (left : ℕ) where
  -- notes up to the end
  last_notes : {u : Bytes} → Notes u → Reads left u [] []
  last_notes {u} n = subst (λ t. Reads left t [] []) (append-nil u) (notes_read left n (nothing_left left))

  -- the conditions of the revise lines are the last of a text
  last_conditions : {t : Bytes} {js : List Item} (cs : List Condition) → Reads left t (cs ++ []) js → Reads left t cs js
  last_conditions {t} {js} cs r = subst (λ c. Reads left t c js) (append-nil cs) r

-- ---- the text

pub text_reads : {t : Bytes} {s : Said} (left : ℕ) → Text t s → Reads left t (conditions s) (items_said s)
text_reads left (card {revs = revs} notes atoms actions dos selects revises begin end) =
    notes_read left notes (atoms_then left atoms (actions_read left actions (dos_read left dos (selects_read left selects
    (last_conditions left (map (λ r. r.condition) revs) (revises_read left revises (begin_then left begin (last_notes left end))))))))

-- 02, Wish 2: "brackets and `!` together may nest 32 deep"
pub text_read : {t : Bytes} {s : Said} → Text t s → (f : ℕ) → length t ≤ f → items_of f t ≡ if (shallow s) (got (items_said s) []) nested
text_read x = (text_reads 32 x).items
