-- What holds of every answer that meets the contract of reading a text.
use mathlib.Core.Path.{◌≡◌, refl, ap, sym, ◌∙◌, subst}
use mathlib.Core.Bool.{Bool, true, false, not, ◌&&◌}
use mathlib.Core.List.{List, [], ◌∷◌, ◌++◌, append_assoc}
use mathlib.Core.Option.{Option, none, some}
use Prim.Native.Nat.{ℕ, zero, suc, ◌≤◌, ◌<◌}
use native.Mathlib.Omega.{arith}
use borrow.Author.Tests.{leb-true, leb-false, le-leb, lt-leb, ltb-true, ltb-false}
use lib.Dec.{leb, ltb}
use lib.ListN.{length, take, drop, take-append-drop}
use lib.Seq.{take_at}
use Rattle.paper.proofs.Relation.{both, false≢true}
use Rattle.meaning.specs.declared.Refusal.{Refusal}
use Rattle.meaning.specs.Answers.{Answer}
use Rattle.std.specs.Prelude.{Ok, Err}
use Rattle.meaning.specs.Card.{Bytes}
use Rattle.meaning.specs.Refusals.{number_of, answer_number, carried, Row, first_given, and_then, all, card_table, card_answer}
use Rattle.meaning.specs.Calls.{over, room_for}
use Rattle.meaning.proofs.Tables.{done≢refused, refused_inj}
use Rattle.notation.specs.Lines.{Said, Text}
use Rattle.notation.specs.Built.{built}
use Rattle.notation.specs.Reading.{Derived, Begins, WrongAt, shallow, numbers_fit, entries_fit, text_table, said_answer, Reads, no_text, refused, done}
use Rattle.notation.specs.Theorems.{WithinLimits, ReadLaw, ReadDetermined}
use Rattle.notation.specs.Scanning.{lines, first, judge}
use Rattle.notation.proofs.Texts.{Scanned, scanned}
use Rattle.notation.proofs.ReadingOnce.{unambiguous}

-- ---- the refusals of a card are 1 to 9

rows-below : {X : Type 0} (x : X) (rows : List (Row X)) (q : Refusal) → all (λ r. leb (number_of (r.refusal x)) 9) rows ≡ true
    → first_given rows x ≡ Err q → number_of q ≤ 9
unfolding first_given
rows-below x [] q h e = absurd (done≢refused e)
rows-below x (r ∷ rows) q h e = go (r.when x) (rows-below x rows q (both (leb (number_of (r.refusal x)) 9) _ h).1) e
  where
    go : (b : Bool) → (first_given rows x ≡ Err q → number_of q ≤ 9)
        → (elim b as (λ z. Answer) [ true ↦ Err (r.refusal x) | false ↦ first_given rows x ]) ≡ Err q → number_of q ≤ 9
    go true ih f = subst (λ z. number_of z ≤ 9) (refused_inj f) (leb-true _ 9 (both _ _ h).0)
    go false ih f = ih f

pub card_below : (b : Bytes) (q : Refusal) → card_answer b ≡ Err q → number_of q ≤ 9
unfolding card_answer card_table number_of
card_below b q e = rows-below b card_table q refl e

-- ---- what a text within the grammar is answered, by cases

data SaidJudged (s : Said) (out : Bytes) : Answer → Type 0 where
  is_nested : shallow s ≡ false → SaidJudged s out (Err Refusal.Nested)
  is_large : shallow s ≡ true → (numbers_fit s && entries_fit s) ≡ false → SaidJudged s out (Err Refusal.Large)
  of_card : {q : Refusal} → shallow s ≡ true → (numbers_fit s && entries_fit s) ≡ true → card_answer (built s) ≡ Err q → number_of q ≤ 9
      → SaidJudged s out (Err q)
  no_room : shallow s ≡ true → (numbers_fit s && entries_fit s) ≡ true → card_answer (built s) ≡ Ok tt → length out < length (built s)
      → SaidJudged s out (Err Refusal.NoRoom)
  all_good : shallow s ≡ true → (numbers_fit s && entries_fit s) ≡ true → card_answer (built s) ≡ Ok tt → length (built s) ≤ length out
      → SaidJudged s out (Ok tt)

-- the same by what each row says
judge_by : (s : Said) (out : Bytes) (n f : Bool) (c : Answer) (r : Bool) → shallow s ≡ n → (numbers_fit s && entries_fit s) ≡ f → card_answer (built s) ≡ c
    → leb (length (built s)) (length out) ≡ r
    → SaidJudged s out (elim (not n) [ true ↦ Err Refusal.Nested | false ↦ elim (not f) [ true ↦ Err Refusal.Large | false ↦ and_then c (elim r [ true ↦ Ok tt | false ↦ Err Refusal.NoRoom ]) ] ])
judge_by s out false f c r en ef ec er = is_nested en
judge_by s out true false c r en ef ec er = is_large en ef
judge_by s out true true (Err q) r en ef ec er = of_card en ef ec (card_below (built s) q ec)
judge_by s out true true (Ok _) true en ef ec er = all_good en ef ec (leb-true _ _ er)
judge_by s out true true (Ok _) false en ef ec er = no_room en ef ec (leb-false _ _ er)

judged_said : (s : Said) (out : Bytes) → SaidJudged s out (said_answer s out)
unfolding said_answer text_table first_given
judged_said s out =
    subst (SaidJudged s out) (in_order (not (shallow s)) (not (numbers_fit s && entries_fit s)))
    (judge_by s out (shallow s) (numbers_fit s && entries_fit s) (card_answer (built s)) (leb (length (built s)) (length out)) refl refl refl refl)
  where
    in_order : (n f : Bool)
        → (elim n [ true ↦ Err Refusal.Nested | false ↦ elim f [ true ↦ Err Refusal.Large | false ↦ and_then (card_answer (built s)) (room_for (built s) out) ] ])
        ≡ and_then (elim n [ true ↦ Err Refusal.Nested | false ↦ elim f [ true ↦ Err Refusal.Large | false ↦ Ok tt ] ]) (and_then (card_answer (built s)) (room_for (built s) out))
    in_order true f = refl
    in_order false true = refl
    in_order false false = refl

-- ---- an answer tells which case it is

-- two answers that are the same have the same number
pub same_number : {a b : Answer} → a ≡ b → answer_number a ≡ answer_number b
same_number e = ap answer_number e

module _ {s : Said} {out : Bytes} where
  when_nested : {a : Answer} → SaidJudged s out a → shallow s ≡ false → a ≡ Err Refusal.Nested
  when_nested (is_nested e) f = refl
  when_nested (is_large e g) f = absurd (false≢true (sym f ∙ e))
  when_nested (of_card e g h i) f = absurd (false≢true (sym f ∙ e))
  when_nested (no_room e g h i) f = absurd (false≢true (sym f ∙ e))
  when_nested (all_good e g h i) f = absurd (false≢true (sym f ∙ e))

  nested_when : {a : Answer} → SaidJudged s out a → a ≡ Err Refusal.Nested → shallow s ≡ false
  unfolding answer_number number_of
  nested_when (is_nested e) f = e
  nested_when (is_large e g) f = let z : ◌≡◌ {A = ℕ} 25 18 = same_number f in absurd (omega arith)
  nested_when (of_card {q} e g h i) f = let z : number_of q ≡ 18 = same_number f in absurd (omega arith)
  nested_when (no_room e g h i) f = let z : ◌≡◌ {A = ℕ} 12 18 = same_number f in absurd (omega arith)
  nested_when (all_good e g h i) f = absurd (done≢refused f)

  when_large : {a : Answer} → SaidJudged s out a → shallow s ≡ true → (numbers_fit s && entries_fit s) ≡ false → a ≡ Err Refusal.Large
  when_large (is_nested e) f k = absurd (false≢true (sym e ∙ f))
  when_large (is_large e g) f k = refl
  when_large (of_card e g h i) f k = absurd (false≢true (sym k ∙ g))
  when_large (no_room e g h i) f k = absurd (false≢true (sym k ∙ g))
  when_large (all_good e g h i) f k = absurd (false≢true (sym k ∙ g))

  large_when : {a : Answer} → SaidJudged s out a → a ≡ Err Refusal.Large → (shallow s ≡ true) × ((numbers_fit s && entries_fit s) ≡ false)
  unfolding answer_number number_of
  large_when (is_nested e) f = let z : ◌≡◌ {A = ℕ} 18 25 = same_number f in absurd (omega arith)
  large_when (is_large e g) f = (e, g)
  large_when (of_card {q} e g h i) f = let z : number_of q ≡ 25 = same_number f in absurd (omega arith)
  large_when (no_room e g h i) f = let z : ◌≡◌ {A = ℕ} 12 25 = same_number f in absurd (omega arith)
  large_when (all_good e g h i) f = absurd (done≢refused f)

  -- within the limits the card answers
  when_within : {a : Answer} → SaidJudged s out a → shallow s ≡ true → (numbers_fit s && entries_fit s) ≡ true
      → a ≡ and_then (card_answer (built s)) (room_for (built s) out)
  when_within (is_nested e) f k = absurd (false≢true (sym e ∙ f))
  when_within (is_large e g) f k = absurd (false≢true (sym g ∙ k))
  when_within (of_card e g h i) f k = sym (ap (λ c. and_then c (room_for (built s) out)) h)
  when_within (no_room e g h i) f k = sym (ap (λ c. and_then c (room_for (built s) out)) h ∙ short (lt-leb _ _ i))
    where
      short : leb (length (built s)) (length out) ≡ false → room_for (built s) out ≡ Err Refusal.NoRoom
      short e = rw (e, room_for)
  when_within (all_good e g h i) f k = sym (ap (λ c. and_then c (room_for (built s) out)) h ∙ enough (le-leb _ _ i))
    where
      enough : leb (length (built s)) (length out) ≡ true → room_for (built s) out ≡ Ok tt
      enough e = rw (e, room_for)

  card_when : {a : Answer} → SaidJudged s out a → (q : Refusal) → number_of q ≤ 9 → a ≡ Err q
      → (shallow s ≡ true) × ((numbers_fit s && entries_fit s) ≡ true) × (card_answer (built s) ≡ Err q)
  unfolding answer_number number_of
  card_when (is_nested e) q l f = let z : 18 ≡ number_of q = same_number f in absurd (omega arith)
  card_when (is_large e g) q l f = let z : 25 ≡ number_of q = same_number f in absurd (omega arith)
  card_when (of_card e g h i) q l f = (e, g, h ∙ f)
  card_when (no_room e g h i) q l f = let z : 12 ≡ number_of q = same_number f in absurd (omega arith)
  card_when (all_good e g h i) q l f = absurd (done≢refused f)

  room_when : {a : Answer} → SaidJudged s out a → a ≡ Err Refusal.NoRoom
      → (shallow s ≡ true) × ((numbers_fit s && entries_fit s) ≡ true) × (card_answer (built s) ≡ Ok tt) × (length out < length (built s))
  unfolding answer_number number_of
  room_when (is_nested e) f = let z : ◌≡◌ {A = ℕ} 18 12 = same_number f in absurd (omega arith)
  room_when (is_large e g) f = let z : ◌≡◌ {A = ℕ} 25 12 = same_number f in absurd (omega arith)
  room_when (of_card {q} e g h i) f = let z : number_of q ≡ 12 = same_number f in absurd (omega arith)
  room_when (no_room e g h i) f = (e, g, h, i)
  room_when (all_good e g h i) f = absurd (done≢refused f)

  done_when : {a : Answer} → SaidJudged s out a → a ≡ Ok tt
      → (shallow s ≡ true) × ((numbers_fit s && entries_fit s) ≡ true) × (card_answer (built s) ≡ Ok tt) × (length (built s) ≤ length out)
  done_when (is_nested e) f = absurd (done≢refused (sym f))
  done_when (is_large e g) f = absurd (done≢refused (sym f))
  done_when (of_card e g h i) f = absurd (done≢refused (sym f))
  done_when (no_room e g h i) f = absurd (done≢refused (sym f))
  done_when (all_good e g h i) f = (e, g, h, i)

  never_text : {a : Answer} → SaidJudged s out a → (p : ℕ) → a ≡ Err (Refusal.Text p) → ⊥
  unfolding answer_number number_of
  never_text (is_nested e) p f = let z : ◌≡◌ {A = ℕ} 18 17 = same_number f in omega arith
  never_text (is_large e g) p f = let z : ◌≡◌ {A = ℕ} 25 17 = same_number f in omega arith
  never_text (of_card {q} e g h i) p f = let z : number_of q ≡ 17 = same_number f in omega arith
  never_text (no_room e g h i) p f = let z : ◌≡◌ {A = ℕ} 12 17 = same_number f in omega arith
  never_text (all_good e g h i) p f = done≢refused f

-- ---- what an answer is of

-- no text, with its place; or what a text says
data TextFound (t out : Bytes) (a : Answer) : Type 0 where
  wrong_at : (p : ℕ) → a ≡ Err (Refusal.Text p) → WrongAt t p → TextFound t out a
  says : (s : Said) → Text t s → SaidJudged s out a → TextFound t out a

found : {t out left : Bytes} {a : Answer} {n : ℕ} → Reads t out a n left → TextFound t out a
found (no_text {p = p} w) = wrong_at p refl w
found {out = out} (refused {s = s} x e) = says s x (subst (SaidJudged s out) e (judged_said s out))
found {out = out} (done {s = s} x e) = says s x (subst (SaidJudged s out) e (judged_said s out))

-- the answer to a text is that of the one thing that it says
answer_of_lem : {t out left : Bytes} {a : Answer} {n : ℕ} → Reads t out a n left → (s : Said) → Text t s → SaidJudged s out a
answer_of_lem (no_text w) s x = absurd (w.not_derived (s, x))
answer_of_lem {t} {out} {a = a} (refused {s = s'} x' e) s x = subst (λ z. SaidJudged z out a) (unambiguous.text t s' s x' x) (subst (SaidJudged s' out) e (judged_said s' out))
answer_of_lem {t} {out} {a = a} (done {s = s'} x' e) s x = subst (λ z. SaidJudged z out a) (unambiguous.text t s' s x' x) (subst (SaidJudged s' out) e (judged_said s' out))

-- the same as an equation
said_by_answer : {t out left : Bytes} {a : Answer} {n : ℕ} → Reads t out a n left → (s : Said) → Text t s → said_answer s out ≡ a
said_by_answer (no_text w) s x = absurd (w.not_derived (s, x))
said_by_answer {t} {out} (refused {s = s'} x' e) s x = ap (λ z. said_answer z out) (unambiguous.text t s s' x x') ∙ e
said_by_answer {t} {out} (done {s = s'} x' e) s x = ap (λ z. said_answer z out) (unambiguous.text t s s' x x') ∙ e

within : {t : Bytes} {s : Said} → Text t s → shallow s ≡ true → (numbers_fit s && entries_fit s) ≡ true → WithinLimits t s
within x e f = record { derived = x; not_nested = e; not_large = f }

-- ---- the place of 17 is one

take-shorter : (m n : ℕ) (t : Bytes) → m ≤ n → take m (take n t) ≡ take m t
take-shorter zero n t h = refl
take-shorter (suc m) zero t h = absurd (omega arith)
take-shorter (suc m) (suc n) [] h = refl
take-shorter (suc m) (suc n) (x ∷ t) h = ap (λ u. x ∷ u) (take-shorter m n t (omega arith))

-- what begins with more bytes begins with fewer
begins_shorter : (m n : ℕ) (t : Bytes) → m ≤ n → Begins (take n t) → Begins (take m t)
begins_shorter m n t h (u, d) =
    let front : take m t ++ drop m (take n t) ≡ take n t = ap (λ z. z ++ drop m (take n t)) (sym (take-shorter m n t h)) ∙ take-append-drop m (take n t) in
    (drop m (take n t) ++ u, subst Derived (sym (sym (append_assoc (take m t) (drop m (take n t)) u) ∙ ap (λ z. z ++ u) front)) d)

not-before : {t : Bytes} {p q : ℕ} → WrongAt t p → WrongAt t q → p < q → ⊥
not-before {t} {p} {q} v w h = v.there (let i = w.inside in omega arith) (begins_shorter (suc p) q t (omega arith) w.before)

same_place : {t : Bytes} {p q : ℕ} → WrongAt t p → WrongAt t q → p ≡ q
same_place {t} {p} {q} v w = go (ltb p q) refl (ltb q p) refl
  where
    go : (a : Bool) → ltb p q ≡ a → (b : Bool) → ltb q p ≡ b → p ≡ q
    go true e b f = absurd (not-before v w (ltb-true p q e))
    go false e true f = absurd (not-before w v (ltb-true q p f))
    go false e false f = let g = ltb-false p q e in let h = ltb-false q p f in omega arith

-- ---- the laws

enough : (s : Said) (out : Bytes) → card_answer (built s) ≡ Ok tt → length (built s) ≤ length out → and_then (card_answer (built s)) (room_for (built s) out) ≡ Ok tt
enough s out c h = let e = le-leb (length (built s)) (length out) h in rw (c, room_for, e)

short : (s : Said) (out : Bytes) → card_answer (built s) ≡ Ok tt → length out < length (built s)
    → and_then (card_answer (built s)) (room_for (built s) out) ≡ Err Refusal.NoRoom
short s out c h = let e = lt-leb (length (built s)) (length out) h in rw (c, room_for, e)

module _ {t out : Bytes} {a : Answer} where
  done_to : TextFound t out a → a ≡ Ok tt → (s : Said) × (WithinLimits t s × ((card_answer (built s) ≡ Ok tt) × (length (built s) ≤ length out)))
  done_to (wrong_at p f w) e = absurd (done≢refused (sym e ∙ f))
  done_to (says s x j) e = let d = done_when j e in (s, (within x d.0 d.1, (d.2, d.3)))

  text_not : TextFound t out a → (p : ℕ) → a ≡ Err (Refusal.Text p) → Derived t → ⊥
  text_not (wrong_at p f w) q e d = w.not_derived d
  text_not (says s x j) q e d = never_text j q e

  text_to : TextFound t out a → (Derived t → ⊥) → (p : ℕ) × (a ≡ Err (Refusal.Text p))
  text_to (wrong_at p f w) d = (p, f)
  text_to (says s x j) d = absurd (d (s, x))

  place_to : TextFound t out a → (p : ℕ) → a ≡ Err (Refusal.Text p) → WrongAt t p
  unfolding carried
  place_to (wrong_at q f w) p e = subst (WrongAt t) (ap carried (refused_inj (sym f ∙ e))) w
  place_to (says s x j) p e = absurd (never_text j p e)

  place_from : TextFound t out a → (p : ℕ) → WrongAt t p → a ≡ Err (Refusal.Text p)
  place_from (wrong_at q f w) p v = f ∙ ap (λ z. Err (Refusal.Text z)) (same_place w v)
  place_from (says s x j) p v = absurd (v.not_derived (s, x))

  nested_to : TextFound t out a → a ≡ Err Refusal.Nested → (s : Said) × (Text t s × (shallow s ≡ false))
  unfolding answer_number number_of
  nested_to (wrong_at p f w) e = let z : ◌≡◌ {A = ℕ} 17 18 = same_number (sym f ∙ e) in absurd (omega arith)
  nested_to (says s x j) e = (s, (x, nested_when j e))

  large_to : TextFound t out a → a ≡ Err Refusal.Large → (s : Said) × (Text t s × ((shallow s ≡ true) × ((numbers_fit s && entries_fit s) ≡ false)))
  unfolding answer_number number_of
  large_to (wrong_at p f w) e = let z : ◌≡◌ {A = ℕ} 17 25 = same_number (sym f ∙ e) in absurd (omega arith)
  large_to (says s x j) e = (s, (x, large_when j e))

  card_to : TextFound t out a → (q : Refusal) → number_of q ≤ 9 → a ≡ Err q → (s : Said) × (WithinLimits t s × (card_answer (built s) ≡ Err q))
  unfolding answer_number number_of
  card_to (wrong_at p f w) q h e = let z : 17 ≡ number_of q = same_number (sym f ∙ e) in absurd (omega arith)
  card_to (says s x j) q h e = let d = card_when j q h e in (s, (within x d.0 d.1, d.2))

  room_to : TextFound t out a → a ≡ Err Refusal.NoRoom → (s : Said) × (WithinLimits t s × ((card_answer (built s) ≡ Ok tt) × (length out < length (built s))))
  unfolding answer_number number_of
  room_to (wrong_at p f w) e = let z : ◌≡◌ {A = ℕ} 17 12 = same_number (sym f ∙ e) in absurd (omega arith)
  room_to (says s x j) e = let d = room_when j e in (s, (within x d.0 d.1, (d.2, d.3)))

written : {t out left : Bytes} {a : Answer} {n : ℕ} → Reads t out a n left → (s : Said) → Text t s → a ≡ Ok tt → (n ≡ length (built s)) × (left ≡ over (built s) out)
written (no_text w) s x e = absurd (done≢refused (sym e))
written (refused x' f) s x e = absurd (done≢refused (sym e))
written {t} {out} (done {s = s'} x' f) s x e =
    let same = unambiguous.text t s' s x' x in (ap (λ z. length (built z)) same, ap (λ z. over (built z) out) same)

unwritten : {t out left : Bytes} {a : Answer} {n : ℕ} → Reads t out a n left → (q : Refusal) → a ≡ Err q → (n ≡ 0) × (left ≡ out)
unwritten (no_text w) q e = (refl, refl)
unwritten (refused x f) q e = (refl, refl)
unwritten (done x f) q e = absurd (done≢refused e)

within_answer : {t out left : Bytes} {a : Answer} {n : ℕ} → Reads t out a n left → (s : Said) → WithinLimits t s
    → a ≡ and_then (card_answer (built s)) (room_for (built s) out)
within_answer r s l = when_within (answer_of_lem r s l.derived) l.not_nested l.not_large

pub read_law : ReadLaw
read_law t out a n left r =
    record {
      done_exactly = (done_to (found r), λ (s, (l, (c, h))). within_answer r s l ∙ enough s out c h);
      built_then = λ s x e. written r s x e;
      nothing_written = λ q e. unwritten r q e;
      text_exactly = (λ (p, e). text_not (found r) p e, λ d. text_to (found r) d);
      place_exactly = λ p. (place_to (found r) p, place_from (found r) p);
      nested_exactly = (nested_to (found r), λ (s, (x, e)). when_nested (answer_of_lem r s x) e);
      large_exactly = (large_to (found r), λ (s, (x, (e, f))). when_large (answer_of_lem r s x) e f);
      card_exactly = λ q h. (card_to (found r) q h, λ (s, (l, e)). within_answer r s l ∙ ap (λ c. and_then c (room_for (built s) out)) e);
      room_exactly = (room_to (found r), λ (s, (l, (c, h))). within_answer r s l ∙ short s out c h);
    }

-- what an answer of done leaves in front of the lent buffer is the card that the text stands for
in_front : (c out left : Bytes) (n : ℕ) → n ≡ length c → left ≡ over c out → take n left ≡ c
in_front c out left n h g = rw (h, g) (take_at c (drop (length c) out) (length c) refl)

pub done_leaves : {t out left : Bytes} {n : ℕ} → Reads t out (Ok tt) n left
    → (s : Said) × (WithinLimits t s × ((card_answer (built s) ≡ Ok tt) × (take n left ≡ built s)))
done_leaves {t} {out} {left} {n} r =
    let laws = read_law t out (Ok tt) n left r in
    let (s, (within, (card, room))) = laws.done_exactly.0 refl in
    let (count, wrote) = laws.built_then s within.derived refl in
    (s, (within, (card, in_front (built s) out left n count wrote)))

-- ---- one answer

-- what is written and left goes by the answer
one_answer : (t out : Bytes) (a a' : Answer) (n n' : ℕ) (left left' : Bytes) → Reads t out a n left → Reads t out a' n' left' → (a ≡ a') × (n ≡ n') × (left ≡ left')
one_answer t out _ a' _ n' _ left' (no_text {p = p} w) r =
    let e = ((read_law t out a' n' left' r).place_exactly p).1 w in
    let u = unwritten r (Refusal.Text p) e in
    (sym e, sym u.0, sym u.1)
one_answer t out _ a' _ n' _ left' (refused {s = s} {q = q} x f) r =
    let e = sym f ∙ said_by_answer r s x in
    let u = unwritten r q (sym e) in
    (e, sym u.0, sym u.1)
one_answer t out _ a' _ n' _ left' (done {s = s} x f) r =
    let e = sym f ∙ said_by_answer r s x in
    let u = written r s x (sym e) in
    (e, sym u.0, sym u.1)

-- and there is one: a text is derived or not, and what it says is refused or not
answered : (t out : Bytes) (s : Said) → Text t s → (a : Answer) → said_answer s out ≡ a → (a : Answer) × ((n : ℕ) × ((left : Bytes) × Reads t out a n left))
answered t out s x (Ok _) e = (Ok tt, (length (built s), (over (built s) out, done x e)))
answered t out s x (Err q) e = (Err q, (0, (out, refused x e)))

some_answer : (t out : Bytes) (o : Option ℕ) → Scanned t o → (a : Answer) × ((n : ℕ) × ((left : Bytes) × Reads t out a n left))
some_answer t out none (s, x) = answered t out s x (said_answer s out) refl
some_answer t out (some p) w = (Err (Refusal.Text p), (0, (out, no_text w)))

pub read_determined : ReadDetermined
read_determined = record { read = one_answer; some_answer = λ t out. some_answer t out (judge t (lines first)) (scanned t) }
