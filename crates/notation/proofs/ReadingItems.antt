-- The reader as a function reads lines one behind the other: what a line says, and then what the lines behind it say.
use mathlib.Core.Path.{◌≡◌, refl, ap, sym, ◌∙◌, subst}
use mathlib.Core.Bool.{Bool, ◌&&◌, and_assoc}
use mathlib.Core.List.{List, [], ◌∷◌, ◌++◌, append_assoc, map}
use Prim.Native.Nat.{ℕ, zero, suc, ◌+◌, ◌≤◌}
use native.Mathlib.Omega.{arith}
use lib.Dec.{leb}
use lib.ListN.{length, length-append}
use Rattle.meaning.specs.Card.{Bytes}
use Rattle.meaning.specs.Refusals.{all}
use Rattle.notation.specs.Conditions.{Condition}
use Rattle.notation.specs.Lines.{Do, Select, Revise, Begin, Note, Notes, Lines, AtomsLine, ActionLine, DoLine, SelectLine, ReviseLine, BeginLine, counts, weighs, does, selects, revises, begins}
use Rattle.notation.specs.Lines as L
use Rattle.notation.specs.Values.{Read, got, then, Item, atoms_said, action_said, do_said, select_said, revise_said, begin_said, line_at, items_at}
use Rattle.notation.proofs.ReadingTests.{within, then_within, then_made}
use Rattle.notation.proofs.ReadingEnds.{behind_note}
use Rattle.notation.proofs.ReadingLines.{fit, atoms_read, action_read, do_read, select_read, revise_read, begin_read}

-- ---- a test of every element of two lists

pub all_append : {X : Type 0} (good : X → Bool) (xs ys : List X) → all good (xs ++ ys) ≡ all good xs && all good ys
all_append good [] ys = refl
all_append good (x ∷ xs) ys = ap (λ b. good x && b) (all_append good xs ys) ∙ sym (and_assoc (good x) (all good xs) (all good ys))

-- ---- a line

-- A line with these conditions says these items, with how many may nest.
pub record LineReads (left : ℕ) (u : Bytes) (cs : List Condition) (is : List Item) : Type 0 where
  pub first : ℕ
  pub rest : Bytes
  pub whole : u ≡ first ∷ rest
  pub reads : (z : Bytes) → line_at left first (u ++ z) ≡ within (fit left cs) is z

module _ (left : ℕ) where
  pub note_line : {u : Bytes} → Note u → LineReads left u [] []
  unfolding line_at
  note_line L.empty = record { first = 10; rest = []; whole = refl; reads = λ z. ap (got []) (behind_note z L.empty) }
  note_line (L.remark {u = u} r) = record { first = 35; rest = u ++ (10 ∷ []); whole = refl; reads = λ z. ap (got []) (behind_note z (L.remark r)) }

  pub atoms_line : {u : Bytes} {n : ℕ} → AtomsLine u n → LineReads left u [] (atoms_said n ∷ [])
  unfolding line_at
  atoms_line (counts h k) = record { first = 97; rest = _; whole = refl; reads = λ z. atoms_read z (counts h k) }

  pub action_line : {u : Bytes} {n : ℕ} → ActionLine u n → LineReads left u [] (action_said n ∷ [])
  unfolding line_at
  action_line (weighs h k) = record { first = 97; rest = _; whole = refl; reads = λ z. action_read z (weighs h k) }

  pub do_line : {u : Bytes} {d : Do} → DoLine u d → LineReads left u (d.condition ∷ []) (do_said d ∷ [])
  unfolding line_at
  do_line (does n c a d e) = record { first = 100; rest = _; whole = refl; reads = λ z. do_read left z (does n c a d e) }

  pub select_line : {u : Bytes} {d : Select} → SelectLine u d → LineReads left u (d.belief ∷ (d.goal ∷ [])) (select_said d ∷ [])
  unfolding line_at
  select_line (selects b g p e) = record { first = 115; rest = _; whole = refl; reads = λ z. select_read left z (selects b g p e) }

  pub revise_line : {u : Bytes} {d : Revise} → ReviseLine u d → LineReads left u (d.condition ∷ []) (revise_said d ∷ [])
  unfolding line_at
  revise_line (revises h c b e) = record { first = 114; rest = _; whole = refl; reads = λ z. revise_read left z (revises h c b e) }

  pub begin_line : {u : Bytes} {d : Begin} → BeginLine u d → LineReads left u [] (begin_said d ∷ [])
  unfolding line_at
  begin_line (begins b g p e) = record { first = 98; rest = _; whole = refl; reads = λ z. begin_read z (begins b g p e) }

-- ---- lines

-- Lines up to the end of the text, with these conditions, say these items.
pub record Reads (left : ℕ) (t : Bytes) (cs : List Condition) (is : List Item) : Type 0 where
  pub items : (f : ℕ) → length t ≤ f → items_at left f t ≡ within (fit left cs) is []

none_left : (left f : ℕ) → items_at left f [] ≡ got [] []
unfolding items_at
none_left left zero = refl
none_left left (suc f) = refl

module _ (left : ℕ) where
  pub nothing_left : Reads left [] [] []
  nothing_left = record { items = λ f h. none_left left f }

  -- a line, and then the lines behind it
  module _ (u z : Bytes) (cs ds : List Condition) (is js : List Item) (l : LineReads left u cs is) (r : Reads left z ds js) where
    lengths : length (u ++ z) ≡ suc (length l.rest + length z)
    lengths = ap (λ y. length (y ++ z)) l.whole ∙ ap suc (length-append l.rest z)

    line_items : (f : ℕ) → length z ≤ f → items_at left (suc f) (u ++ z) ≡ within (fit left (cs ++ ds)) (is ++ js) []
    unfolding items_at
    line_items f h =
        let whole : u ++ z ≡ l.first ∷ (l.rest ++ z) = ap (λ y. y ++ z) l.whole in
        let behind : List Item → Bytes → Read (List Item) = λ is r. then (items_at left f r) (λ js s. got (is ++ js) s) in
        ap (items_at left (suc f)) whole
        ∙ ap (λ y. then (line_at left l.first y) behind) (sym whole)
        ∙ ap (λ q. then q behind) (l.reads z)
        ∙ then_within (fit left cs) (fit left ds) is z (is ++ js) [] behind
        (ap (λ q. then q (λ js s. got (is ++ js) s)) (r.items f h) ∙ then_made (fit left ds) js [] (λ js. is ++ js))
        ∙ ap (λ b. within b (is ++ js) []) (sym (all_append (λ c. leb c.depth left) cs ds))

    pub line_reads : Reads left (u ++ z) (cs ++ ds) (is ++ js)
    line_reads = record { items = go }
      where
        go : (f : ℕ) → length (u ++ z) ≤ f → items_at left f (u ++ z) ≡ within (fit left (cs ++ ds)) (is ++ js) []
        go zero h = let e = lengths in absurd (omega arith)
        go (suc f) h = let e = lengths in line_items f (omega arith)

  -- notes, and then the lines behind them
  pub notes_read : {u z : Bytes} {ds : List Condition} {js : List Item} → Notes u → Reads left z ds js → Reads left (u ++ z) ds js
  notes_read L.none r = r
  notes_read {z = z} {ds = ds} {js = js} (L.more {u = u} {v = v} n m) r =
      subst (λ t. Reads left t ds js) (sym (append_assoc u v z)) (line_reads u (v ++ z) [] ds [] js (note_line left n) (notes_read m r))

  -- lines of a kind and notes, and then the lines behind them: each line's conditions, and those of them all
  module _ {X : Type 0} (Line : Bytes → X → Type 0) (said : X → Item) (one : X → List Condition) (every : List X → List Condition)
      (every-none : every [] ≡ []) (every_more : (x : X) (xs : List X) → every (x ∷ xs) ≡ one x ++ every xs)
      (reads : (u : Bytes) (x : X) → Line u x → LineReads left u (one x) (said x ∷ [])) where
    pub lines_read : {u z : Bytes} {xs : List X} {ds : List Condition} {js : List Item} → Lines Line u xs → Reads left z ds js
        → Reads left (u ++ z) (every xs ++ ds) (map said xs ++ js)
    lines_read {z = z} {ds = ds} {js = js} L.none r = subst (λ c. Reads left z (c ++ ds) js) (sym every-none) r
    lines_read {z = z} {ds = ds} {js = js} (L.note {u = u} {v = v} {xs = xs} n m) r =
        subst (λ t. Reads left t (every xs ++ ds) (map said xs ++ js)) (sym (append_assoc u v z))
        (line_reads u (v ++ z) [] (every xs ++ ds) [] (map said xs ++ js) (note_line left n) (lines_read m r))
    lines_read {z = z} {ds = ds} {js = js} (L.line {u = u} {v = v} {x = x} {xs = xs} l m) r =
        subst (λ t. Reads left t (every (x ∷ xs) ++ ds) (said x ∷ (map said xs ++ js))) (sym (append_assoc u v z))
        (subst (λ c. Reads left (u ++ (v ++ z)) c (said x ∷ (map said xs ++ js))) (sym (ap (λ c. c ++ ds) (every_more x xs) ∙ append_assoc (one x) (every xs) ds))
        (line_reads u (v ++ z) (one x) (every xs ++ ds) (said x ∷ []) (map said xs ++ js) (reads u x l) (lines_read m r)))
