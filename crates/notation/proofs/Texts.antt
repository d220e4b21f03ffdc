-- A text of the grammar is lines from the first start on, and a scan from there on finds the place of 17.
use mathlib.Core.Path.{◌≡◌, refl, ap, sym, ◌∙◌, subst}
use mathlib.Core.Bool.{true}
use mathlib.Core.List.{List, [], ◌∷◌, ◌++◌, append_assoc, append-nil}
use mathlib.Core.Option.{Option, none, some}
use Prim.Native.Nat.{ℕ, suc}
use lib.ListN.{take}
use Rattle.paper.proofs.Relation.{false≢true}
use Rattle.meaning.specs.Card.{Bytes}
use Rattle.notation.specs.Lines.{Begin, Note, Notes, Lines, AtomsLine, ActionLine, DoLine, SelectLine, ReviseLine, BeginLine, Said, Text, card}
use Rattle.notation.specs.Lines as L
use Rattle.notation.specs.Reading.{Derived, WrongAt}
use Rattle.notation.specs.Scanning.{Start, first, actions, dos, selects, revises, ending, lines, judge}
use Rattle.notation.proofs.Following.{LinesFrom, finished, noted, counted, weighed, done, selected, revised, begun, doable, selectable, revisable, Lang}
use Rattle.notation.proofs.Alive.{Alive}
use Rattle.notation.proofs.Scan.{ScanJudged, judged}

-- ---- from lines to a text: the sections from a start on

module _ {X : Type 0} (Line : Bytes → X → Type 0) (Rest : Bytes → Type 0) where
  -- lines of a kind, and then the sections behind
  record TextSection (t : Bytes) : Type 0 where
    bytes : Bytes
    said : List X
    behind : Bytes
    section : Lines Line bytes said
    rest : Rest behind
    whole : t ≡ bytes ++ behind

  none_here : {t : Bytes} → Rest t → TextSection t
  none_here {t} r = record { bytes = []; said = []; behind = t; section = L.none; rest = r; whole = refl }

  note_here : {u t : Bytes} → Note u → TextSection t → TextSection (u ++ t)
  note_here {u} n s = record {
    bytes = u ++ s.bytes;
    said = s.said;
    behind = s.behind;
    section = L.note n s.section;
    rest = s.rest;
    whole = ap (λ z. u ++ z) s.whole ∙ sym (append_assoc u s.bytes s.behind);
  }

  line_here : {u t : Bytes} {x : X} → Line u x → TextSection t → TextSection (u ++ t)
  line_here {u} {x = x} l s = record {
    bytes = u ++ s.bytes;
    said = x ∷ s.said;
    behind = s.behind;
    section = L.line l s.section;
    rest = s.rest;
    whole = ap (λ z. u ++ z) s.whole ∙ sym (append_assoc u s.bytes s.behind);
  }

-- the begin line and notes
record Start_said (t : Bytes) : Type 0 where
  bytes : Bytes
  said : Begin
  behind : Bytes
  line : BeginLine bytes said
  rest : Notes behind
  whole : t ≡ bytes ++ behind

-- notes and the atoms line
record Atoms_said (Rest : Bytes → Type 0) (t : Bytes) : Type 0 where
  notes_bytes : Bytes
  bytes : Bytes
  said : ℕ
  behind : Bytes
  notes : Notes notes_bytes
  line : AtomsLine bytes said
  rest : Rest behind
  whole : t ≡ notes_bytes ++ (bytes ++ behind)

abbrev From_revises : Bytes → Type 0
From_revises = TextSection ReviseLine Start_said

abbrev From_selects : Bytes → Type 0
From_selects = TextSection SelectLine From_revises

abbrev From_dos : Bytes → Type 0
From_dos = TextSection DoLine From_selects

abbrev From_actions : Bytes → Type 0
From_actions = TextSection ActionLine From_dos

abbrev TextSections : Start → Bytes → Type 0
TextSections first t = Atoms_said From_actions t
TextSections actions t = From_actions t
TextSections dos t = From_dos t
TextSections selects t = From_selects t
TextSections revises t = From_revises t
TextSections ending t = Notes t

to_actions : {t : Bytes} → From_dos t → From_actions t
to_actions = none_here ActionLine From_dos

to_dos : {t : Bytes} → From_selects t → From_dos t
to_dos = none_here DoLine From_selects

to_selects : {t : Bytes} → From_revises t → From_selects t
to_selects = none_here SelectLine From_revises

noted_so : (s : Start) {u : Bytes} (t : Bytes) → Note u → TextSections s t → TextSections s (u ++ t)
noted_so first {u} t n a = record {
  notes_bytes = u ++ a.notes_bytes;
  bytes = a.bytes;
  said = a.said;
  behind = a.behind;
  notes = L.more n a.notes;
  line = a.line;
  rest = a.rest;
  whole = ap (λ z. u ++ z) a.whole ∙ sym (append_assoc u a.notes_bytes (a.bytes ++ a.behind));
}
noted_so actions t n s = note_here ActionLine From_dos n s
noted_so dos t n s = note_here DoLine From_selects n s
noted_so selects t n s = note_here SelectLine From_revises n s
noted_so revises t n s = note_here ReviseLine Start_said n s
noted_so ending t n s = L.more n s

done_so : (s : Start) → doable s ≡ true → {t : Bytes} → From_dos t → TextSections s t
done_so first m h = absurd (false≢true m)
done_so actions m h = to_actions h
done_so dos m h = h
done_so selects m h = absurd (false≢true m)
done_so revises m h = absurd (false≢true m)
done_so ending m h = absurd (false≢true m)

selected_so : (s : Start) → selectable s ≡ true → {t : Bytes} → From_selects t → TextSections s t
selected_so first m h = absurd (false≢true m)
selected_so actions m h = to_actions (to_dos h)
selected_so dos m h = to_dos h
selected_so selects m h = h
selected_so revises m h = absurd (false≢true m)
selected_so ending m h = absurd (false≢true m)

revised_so : (s : Start) → revisable s ≡ true → {t : Bytes} → From_revises t → TextSections s t
revised_so first m h = absurd (false≢true m)
revised_so actions m h = to_actions (to_dos (to_selects h))
revised_so dos m h = to_dos (to_selects h)
revised_so selects m h = to_selects h
revised_so revises m h = h
revised_so ending m h = absurd (false≢true m)

no_notes : Notes []
no_notes = L.none

sections : {s : Start} {t : Bytes} → LinesFrom s t → TextSections s t
sections finished = no_notes
sections {s} (noted {t = t} n f) = noted_so s t n (sections f)
sections (counted {u = u} {t = t} {n = n} l f) = record { notes_bytes = []; bytes = u; said = n; behind = t; notes = L.none; line = l; rest = sections f; whole = refl }
sections (weighed l f) = line_here ActionLine From_dos l (sections f)
sections {s} (done m l f) = done_so s m (line_here DoLine From_selects l (sections f))
sections {s} (selected m l f) = selected_so s m (line_here SelectLine From_revises l (sections f))
sections {s} (revised m l f) = revised_so s m (line_here ReviseLine Start_said l (sections f))
sections {s} (begun {u = u} {t = t} {d = d} m l f) =
    revised_so s m (none_here ReviseLine Start_said (record { bytes = u; said = d; behind = t; line = l; rest = sections f; whole = refl }))

to_text : (t : Bytes) → LinesFrom first t → Derived t
to_text t f =
    let a = sections f in
    let w = a.rest in
    let d = w.rest in
    let s = d.rest in
    let r = s.rest in
    let b = r.rest in
    let p : t ≡ a.notes_bytes ++ (a.bytes ++ (w.bytes ++ (d.bytes ++ (s.bytes ++ (r.bytes ++ (b.bytes ++ b.behind)))))) =
    a.whole ∙ ap (λ z. a.notes_bytes ++ (a.bytes ++ z)) (w.whole ∙ ap (λ z. w.bytes ++ z) (d.whole ∙ ap (λ z. d.bytes ++ z) (s.whole ∙ ap (λ z. s.bytes ++ z) (r.whole ∙ ap (λ z. r.bytes ++ z) b.whole)))) in
    let said : Said = record { atoms = a.said; weights = w.said; dos = d.said; selects = s.said; revises = r.said; begin = b.said } in
    (said, subst (λ z. Text z said) (sym p) (card a.notes a.line w.section d.section s.section r.section b.line b.rest))

-- ---- and back

notes_from : (s : Start) {u : Bytes} (t : Bytes) → Notes u → LinesFrom s t → LinesFrom s (u ++ t)
notes_from s t L.none f = f
notes_from s t (L.more {u = u} {v = v} n r) f = subst (LinesFrom s) (sym (append_assoc u v t)) (noted n (notes_from s t r f))

module _ {X : Type 0} (Line : Bytes → X → Type 0) (s : Start) (one : (u t : Bytes) (x : X) → Line u x → LinesFrom s t → LinesFrom s (u ++ t)) where
  lines_from : {u : Bytes} {xs : List X} (t : Bytes) → Lines Line u xs → LinesFrom s t → LinesFrom s (u ++ t)
  lines_from t L.none f = f
  lines_from t (L.note {u = u} {v = v} n r) f = subst (LinesFrom s) (sym (append_assoc u v t)) (noted n (lines_from t r f))
  lines_from t (L.line {u = u} {v = v} {x = x} l r) f = subst (LinesFrom s) (sym (append_assoc u v t)) (one u (v ++ t) x l (lines_from t r f))

-- lines that may stand behind others of an earlier kind may stand there without them
revises_selects : {t : Bytes} → LinesFrom revises t → LinesFrom selects t
revises_selects (noted n f) = noted n (revises_selects f)
revises_selects (done m l f) = absurd (false≢true m)
revises_selects (selected m l f) = absurd (false≢true m)
revises_selects (revised m l f) = revised refl l f
revises_selects (begun m l f) = begun refl l f

selects_dos : {t : Bytes} → LinesFrom selects t → LinesFrom dos t
selects_dos (noted n f) = noted n (selects_dos f)
selects_dos (done m l f) = absurd (false≢true m)
selects_dos (selected m l f) = selected refl l f
selects_dos (revised m l f) = revised refl l f
selects_dos (begun m l f) = begun refl l f

dos_actions : {t : Bytes} → LinesFrom dos t → LinesFrom actions t
dos_actions (noted n f) = noted n (dos_actions f)
dos_actions (done m l f) = done refl l f
dos_actions (selected m l f) = selected refl l f
dos_actions (revised m l f) = revised refl l f
dos_actions (begun m l f) = begun refl l f

of_text : (t : Bytes) (s : Said) → Text t s → LinesFrom first t
of_text _ _ (card {u} {a} {w} {d} {s} {r} {b} {v} n l ws ds ss rs bl vs) =
    let f6 : LinesFrom ending v = subst (LinesFrom ending) (append-nil v) (notes_from ending [] vs finished) in
    let f5 : LinesFrom revises (r ++ (b ++ v)) = lines_from ReviseLine revises (λ u t x l. revised refl l) (b ++ v) rs (begun refl bl f6) in
    let f4 : LinesFrom selects (s ++ (r ++ (b ++ v))) = lines_from SelectLine selects (λ u t x l. selected refl l) (r ++ (b ++ v)) ss (revises_selects f5) in
    let f3 : LinesFrom dos (d ++ (s ++ (r ++ (b ++ v)))) = lines_from DoLine dos (λ u t x l. done refl l) (s ++ (r ++ (b ++ v))) ds (selects_dos f4) in
    let f2 : LinesFrom actions (w ++ (d ++ (s ++ (r ++ (b ++ v))))) = lines_from ActionLine actions (λ u t x l. weighed l) (d ++ (s ++ (r ++ (b ++ v)))) ws (dos_actions f3) in
    notes_from first (a ++ (w ++ (d ++ (s ++ (r ++ (b ++ v)))))) n (counted l f2)

-- ---- 17

alive : Alive (lines first)
unfolding Alive
alive = refl

abbrev pub Scanned : Bytes → Option ℕ → Type 0
Scanned t none = Derived t
Scanned t (some p) = WrongAt t p

pub scanned : (t : Bytes) → Scanned t (judge t (lines first))
unfolding Lang
scanned t = go (judge t (lines first)) (judged t (lines first))
  where
    go : (o : Option ℕ) → ScanJudged (lines first) t o → Scanned t o
    go none f = to_text t f
    go (some p) w = record {
      not_derived = λ (s, x). w.not_there (of_text t s x);
      inside = w.inside;
      before = (let (v, f) = w.before alive in (v, to_text (take p t ++ v) f));
      there = λ h (v, (s, x)). w.there h v (of_text (take (suc p) t ++ v) s x);
    }
