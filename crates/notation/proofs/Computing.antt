-- What reading a text answers, computed: by the scan, and by the reader as a function. Whoever unfolds `computing`, here and in
-- meaning, unfolds every definition, so that the answer on given bytes is computed.
use mathlib.Core.Path.{◌≡◌, refl, sym, ◌∙◌, ap, subst}
use mathlib.Core.Bool.{Bool, true, false}
use mathlib.Core.List.{List, [], flatten}
use mathlib.Core.Option.{Option, none, some}
use Prim.Native.Nat.{ℕ}
use native.Mathlib.Nat.{le_refl}
use native.Mathlib.Omega.{arith}
use lib.ListN.{length}
use Rattle.paper.specs.Next.{if}
use Rattle.paper.proofs.Relation.{none≢some, some_inj}
use Rattle.meaning.specs.declared.Refusal.{Refusal}
use Rattle.meaning.specs.Answers.{Answer}
use Rattle.std.specs.Prelude.{Ok, Err}
use Rattle.meaning.specs.Card.{Bytes, trees}
use Rattle.meaning.specs.Assembled.{assembled}
use Rattle.meaning.specs.Calls.{over}
use Rattle.notation.specs.Lines.{Said, Text, conditions}
use Rattle.notation.specs.Built.{size, nodes_from, all_nodes, sizes, set_of, specifications, selections, revisions, built}
use Rattle.notation.specs.Reading.{Derived, numbers_fit, entries_fit, text_table, said_answer, Reads, no_text, refused, done}
use Rattle.notation.specs.Printing.{decimal_in, decimal, text_as, depth_as, print_table, printed, print_answer, print_count, print_leaves}
use Rattle.notation.specs.Scanning.{lines, first, step, accepts, judge}
use Rattle.notation.proofs.Texts.{Scanned, scanned}
use Rattle.notation.specs.Values.{digits_value, digits_rest, list_values, list_rest, behind_line, Read, nested, got, more, unit_of, Item, do_item_at, select_item_at, revise_item_at, begin_item, number_item, line_at, items_at}
use Rattle.notation.proofs.ReadingLines.{fit}
use Rattle.notation.specs.Making.{items_said}
use Rattle.notation.proofs.ReadingTexts.{text_reads}
use Rattle.notation.proofs.ReadingSaid.{add, said_by, said_by_lem}

-- What reading a text answers, and what the lent buffer then holds.
pub record TextComputed : Type 0 where
  pub answer : Answer
  pub count : ℕ
  pub leaves : Bytes

abbrev answered_by : Answer → Said → Bytes → TextComputed
answered_by (Ok _) s out = record { answer = Ok tt; count = length (built s); leaves = over (built s) out }
answered_by (Err q) s out = record { answer = Err q; count = 0; leaves = out }

-- by the items that are read; nothing, if conditions nest deeper than they are read
abbrev items_answered : Read (List Item) → Bytes → Option TextComputed
items_answered nested out = none
items_answered (got is t) out = some (answered_by (said_answer (said_by is) out) (said_by is) out)

-- by where the scan goes wrong, if it does
abbrev scan_answered : Option ℕ → Read (List Item) → Bytes → Option TextComputed
scan_answered (some p) items out = some (record { answer = Err (Refusal.Text p); count = 0; leaves = out })
scan_answered none items out = items_answered items out

-- What reading a text answers, with conditions that nest as deep as the text is long.
unfoldable pub text_answered : Bytes → Bytes → Option TextComputed
text_answered t out = scan_answered (judge t (lines first)) (items_at (length t) (length t) t) out

-- ---- it is what reading is defined to answer

got_items : {is js : List Item} {t u : Bytes} → got is t ≡ got js u → is ≡ js
got_items e = cc

got_not_nested : {is : List Item} {t : Bytes} → got is t ≡ nested → ⊥
got_not_nested e = let z : ◌≡◌ {A = ℕ} 0 1 = cc in omega arith

module _ (t out : Bytes) where
  abbrev Answers : TextComputed → Type 0
  Answers a = Reads t out a.answer a.count a.leaves

  -- the items that are read are those of the text
  read_said : (s : Said) → Text t s → (is : List Item) (u : Bytes) (b : Bool) → got is u ≡ if b (got (items_said s) []) nested → Text t (said_by is)
  read_said s x is u true e = subst (Text t) (sym (ap said_by (got_items e) ∙ said_by_lem s)) x
  read_said s x is u false e = absurd (got_not_nested e)

  said_answered : (s : Said) → Text t s → (a : Answer) → said_answer s out ≡ a → Answers (answered_by a s out)
  said_answered s x (Ok _) e = done x e
  said_answered s x (Err q) e = refused x e

  items_answered_lem : Derived t → (r : Read (List Item)) → items_at (length t) (length t) t ≡ r
      → (a : TextComputed) → items_answered r out ≡ some a → Answers a
  items_answered_lem d nested e a h = absurd (none≢some h)
  items_answered_lem (s, x) (got is u) e a h =
      let y : Text t (said_by is) = read_said s x is u (fit (length t) (conditions s)) (sym e ∙ (text_reads (length t) x).items (length t) (le_refl _)) in
      subst Answers (some_inj h) (said_answered (said_by is) y (said_answer (said_by is) out) refl)

  scan_answered_lem : (o : Option ℕ) → Scanned t o → (a : TextComputed) → scan_answered o (items_at (length t) (length t) t) out ≡ some a → Answers a
  scan_answered_lem (some p) w a h = subst Answers (some_inj h) (no_text w)
  scan_answered_lem none d a h = items_answered_lem d (items_at (length t) (length t) t) refl a h

  pub text_answered_lem : (a : TextComputed) → text_answered t out ≡ some a → Reads t out a.answer a.count a.leaves
  unfolding text_answered
  text_answered_lem a h = scan_answered_lem (judge t (lines first)) (scanned t) a h

-- ---- all of it

unfoldable pub computing : Unit {0}
unfolding flatten assembled size nodes_from all_nodes sizes set_of specifications selections revisions built numbers_fit entries_fit text_table said_answer trees decimal_in decimal text_as depth_as print_table printed print_answer print_count print_leaves step accepts judge digits_value digits_rest list_values list_rest behind_line more unit_of do_item_at select_item_at revise_item_at begin_item number_item line_at items_at add said_by text_answered
computing = tt
