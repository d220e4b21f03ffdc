-- The grammar is unambiguous, because the reader as a function reads what the grammar derives, however deep that nests.
use mathlib.Core.Path.{◌≡◌, refl, ap, sym, ◌∙◌}
use mathlib.Core.Bool.{true}
use mathlib.Core.List.{List, [], ◌∷◌, ◌++◌}
use Prim.Native.Nat.{ℕ, max, ◌≤◌}
use native.Mathlib.Nat.{le_refl, le-max_left, le-max_right}
use native.Mathlib.Omega.{arith}
use borrow.Author.Tests.{le-leb}
use lib.Dec.{leb}
use lib.ListN.{length}
use Rattle.meaning.specs.Card.{Bytes}
use Rattle.meaning.proofs.Every.{both_true}
use Rattle.notation.specs.Conditions.{Condition, OrList}
use Rattle.notation.specs.Lines.{Said, Text, conditions}
use Rattle.notation.specs.Theorems.{Unambiguous}
use Rattle.notation.specs.Values.{nested, got, or_list_of, items_at}
use Rattle.notation.proofs.ReadingTests.{if_yes}
use Rattle.notation.proofs.ReadingConditions.{OrStops, or_list_read}
use Rattle.notation.proofs.ReadingLines.{fit}
use Rattle.notation.specs.Making.{items_said}
use Rattle.notation.proofs.ReadingTexts.{text_reads}
use Rattle.notation.proofs.ReadingSaid.{said_by, said_by_lem}

got_same : {X : Type 0} {x y : X} {t u : Bytes} → got x t ≡ got y u → x ≡ y
got_same e = cc

-- ---- conditions

condition_once : (u : Bytes) (c d : Condition) → OrList u c → OrList u d → c ≡ d
condition_once u c d x y =
    let k = max c.depth d.depth in
    let stops : OrStops [] = record { and_stops = record { no_digit = refl; no_and = refl }; no_or = refl } in
    let a : or_list_of k (u ++ []) ≡ got c [] = or_list_read x k [] stops ∙ if_yes (got c []) nested (le-leb c.depth k (le-max_left c.depth d.depth)) in
    let b : or_list_of k (u ++ []) ≡ got d [] = or_list_read y k [] stops ∙ if_yes (got d []) nested (le-leb d.depth k (le-max_right c.depth d.depth)) in
    got_same (sym a ∙ b)

-- ---- how deep conditions nest

deepest : List Condition → ℕ
deepest [] = 0
deepest (c ∷ cs) = max c.depth (deepest cs)

deepest_fits : (k : ℕ) (cs : List Condition) → deepest cs ≤ k → fit k cs ≡ true
unfolding deepest
deepest_fits k [] h = refl
deepest_fits k (c ∷ cs) h =
    let a = le-max_left c.depth (deepest cs) in
    let b = le-max_right c.depth (deepest cs) in
    both_true (leb c.depth k) (fit k cs) (le-leb c.depth k (omega arith)) (deepest_fits k cs (omega arith))

-- ---- texts

text_once : (t : Bytes) (s s' : Said) → Text t s → Text t s' → s ≡ s'
text_once t s s' x y = sym (said_by_lem s) ∙ ap said_by (got_same (sym (all_read s x (le-max_left m n)) ∙ all_read s' y (le-max_right m n))) ∙ said_by_lem s'
  where
    m : ℕ
    m = deepest (conditions s)

    n : ℕ
    n = deepest (conditions s')

    all_read : (s : Said) → Text t s → deepest (conditions s) ≤ max m n → items_at (max m n) (length t) t ≡ got (items_said s) []
    all_read s x h = (text_reads (max m n) x).items (length t) (le_refl _) ∙ if_yes (got (items_said s) []) nested (deepest_fits (max m n) (conditions s) h)

pub unambiguous : Unambiguous
unambiguous = record { condition = condition_once; text = text_once }
