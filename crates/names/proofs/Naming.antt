-- What the call answers, once card, sheets and action are judged.
use mathlib.Core.Path.{◌≡◌, refl, sym, ap, ◌∙◌, subst}
use mathlib.Core.Bool.{Bool, true, false, not}
use mathlib.Core.List.{[]}
use mathlib.Core.Logic.{◌⊎◌, inl, inr}
use Prim.Native.Nat.{ℕ, ◌+◌, ◌-◌, ◌≤◌, ◌<◌}
use native.Mathlib.Omega.{arith}
use borrow.Author.Tests.{lt-ltb, le-ltb, ltb-true, ltb-false, not-false}
use lib.Dec.{ltb}
use lib.ListN.{length, take, drop}
use Rattle.paper.specs.Next.{if}
use Rattle.meaning.specs.declared.Refusal.{Refusal}
use Rattle.meaning.specs.Answers.{Answer}
use Rattle.std.specs.Prelude.{Ok, Err}
use Rattle.meaning.specs.declared.Span.{Span}
use Rattle.meaning.specs.declared.Layout.{Layout}
use Rattle.meaning.specs.Card.{Bytes, layout, part}
use Rattle.meaning.specs.Refusals.{first_given, and_then, card_answer}
use Rattle.meaning.specs.Calls.{checks}
use Rattle.meaning.proofs.Tables.{given, not_given, passes, done≢refused}
use Rattle.card.specs.Rows.{row_answer}
use Rattle.card.proofs.Rows.{last_row, no_row}
use Rattle.meaning.proofs.Calls.{checks_good, good_judged, refused_judged}
use Rattle.card.proofs.GoodCard.{good_card}
use Rattle.names.specs.declared.Named.{Named}
use Rattle.names.specs.declared.sheet.Sheet as Which
use Rattle.names.specs.Sheets.{name_span, bytes_of, shed_good, master_good}
use Rattle.names.specs.Naming.{Question, name_table, name_answer, named, refused_name, found, answered, names, either_sheet, sheet_of, name_of, place_of}
use Rattle.names.specs.Working.{SheetsReady}
use Rattle.names.specs.Theorems.{Sheet, PartOf, OnDone, OnRefusal}
use Rattle.names.proofs.Rules.{rules_of, shed_rules, end_within, sheet_holds, shed_holds}

-- the rows, once all are passed
pub record SheetsPass (n : ℕ) (q : Question) : Type 0 where
  pub shed : shed_good n q.shed ≡ true
  pub master : master_good n q.master ≡ true
  pub known : q.action < n

pub passed : (n : ℕ) (q : Question) → first_given (name_table n) q ≡ Ok tt → SheetsPass n q
unfolding name_table
passed n q e =
    let (s, f) = passes _ _ q e in
    let (m, g) = passes _ _ q f in
    let (a, h) = passes _ _ q g in
    record { shed = not-false _ s; master = not-false _ m; known = ltb-true _ _ (not-false _ a) }

pub ready : (n : ℕ) (q : Question) → n ≤ 256 → first_given (name_table n) q ≡ Ok tt → SheetsReady q.shed q.master q.action
unfolding master_good
ready n q h e =
    let p = passed n q e in
    let k = p.known in
    record {
      own = shed_holds n q.shed p.shed q.action k;
      other = sheet_holds 1 n q.master (rules_of 1 n q.master p.master) q.action k;
      small = omega arith;
    }

-- ---- what is found

module _ (q : Question) where
  abbrev pub either : Bool → Named
  either t = if t (named (Ok tt) Which.Sheet.Shed (name_span q.shed q.action)) (named (Ok tt) Which.Sheet.Master (name_span q.master q.action))

  pub found_own : (p : Span) → p ≡ name_span q.shed q.action → 0 < p.length → named (Ok tt) Which.Sheet.Shed p ≡ found q
  unfolding found
  found_own p e h = ap (named (Ok tt) Which.Sheet.Shed) e ∙ sym (ap either (ap (λ p. ltb 0 p.length) (sym e) ∙ lt-ltb 0 p.length h))

  pub found_other : (p : Span) → p ≡ name_span q.shed q.action → p.length ≤ 0 → named (Ok tt) Which.Sheet.Master (name_span q.master q.action) ≡ found q
  unfolding found
  found_other p e h = sym (ap either (ap (λ p. ltb 0 p.length) (sym e) ∙ le-ltb 0 p.length h))

pub empty_part : (n : Named) (a : Answer) → n ≡ refused_name a → n.part.start + n.part.length ≤ 65535
empty_part n a e = subst (λ (n : Named). n.part.start + n.part.length ≤ 65535) (sym e) (omega arith)

-- ---- the answer, by the card's and the rows'

pub few_actions : (b : Bytes) (l : Layout) → checks b ≡ Ok l → l.actions ≤ 256
few_actions b l e = let (d, s) = good_judged b l e in (good_card l b d s).layout.actions

module _ (b : Bytes) (q : Question) where
  pub card_refuses : (r : Refusal) → checks b ≡ Err r → Err r ≡ name_answer b q
  unfolding name_answer
  card_refuses r e = sym (ap (λ a. and_then a (first_given (name_table (layout b).actions) q)) (refused_judged b r e))

  -- the rows behind the card's, one after the other
  module _ (l : Layout) (good : checks b ≡ Ok l) where
    rows_say : name_answer b q ≡ first_given (name_table l.actions) q
    unfolding name_answer
    rows_say =
        let (d, s) = good_judged b l good in
        ap (λ a. and_then a (first_given (name_table (layout b).actions) q)) d ∙ ap (λ l. first_given (name_table l.actions) q) (sym s)

    pub no_shed : shed_good l.actions q.shed ≡ false → name_answer b q ≡ Err (Refusal.Sheet 1)
    unfolding name_table
    no_shed h = rows_say ∙ given _ _ q (ap not h)

    module _ (shed : shed_good l.actions q.shed ≡ true) where
      pub no_master : master_good l.actions q.master ≡ false → name_answer b q ≡ Err (Refusal.Sheet 0)
      unfolding name_table
      no_master h = rows_say ∙ not_given _ _ q (ap not shed) ∙ given _ _ q (ap not h)

      pub last_asked : master_good l.actions q.master ≡ true → (a : Answer) → a ≡ row_answer (ltb q.action l.actions) Refusal.NoAction → a ≡ name_answer b q
      unfolding name_table
      last_asked master a told =
          last_row _ _ q (ltb q.action l.actions) refl a told (no_row q)
          ∙ sym (rows_say ∙ not_given _ _ q (ap not shed) ∙ not_given _ _ q (ap not master))

  -- the answer of the rows is the call's
  module _ (a : Answer) (told : a ≡ name_answer b q) where
    pub rows_refuse : (r : Refusal) → a ≡ Err r → refused_name a ≡ names b q
    unfolding names
    rows_refuse r e = ap refused_name e ∙ sym (ap (λ a. answered a q) (sym told ∙ e))

    pub rows_done : a ≡ Ok tt → found q ≡ names b q
    unfolding names
    rows_done e = sym (ap (λ a. answered a q) (sym told ∙ e))

  -- and back
  pub rows_of : name_answer b q ≡ Ok tt → first_given (name_table (layout b).actions) q ≡ Ok tt
  unfolding name_answer
  rows_of e = go (card_answer b) refl
    where
      go : (a : Answer) → card_answer b ≡ a → first_given (name_table (layout b).actions) q ≡ Ok tt
      go (Ok _) h = sym (ap (λ a. and_then a (first_given (name_table (layout b).actions) q)) h) ∙ e
      go (Err r) h = absurd (done≢refused (sym e ∙ ap (λ a. and_then a (first_given (name_table (layout b).actions) q)) h))

  pub sheets_ready : name_answer b q ≡ Ok tt → SheetsReady q.shed q.master q.action
  unfolding name_answer
  sheets_ready e = ready (layout b).actions q (few (card_answer b) refl) (rows_of e)
    where
      few : (a : Answer) → card_answer b ≡ a → (layout b).actions ≤ 256
      few (Ok _) h = few_actions b (layout b) (checks_good b h)
      few (Err r) h = absurd (done≢refused (sym e ∙ ap (λ a. and_then a (first_given (name_table (layout b).actions) q)) h))

  pub names_found : name_answer b q ≡ Ok tt → names b q ≡ found q
  unfolding names
  names_found e = ap (λ a. answered a q) e

-- ---- the parts

part_own : (n : ℕ) (q : Question) → SheetsPass n q → 0 < (name_span q.shed q.action).length → PartOf q (named (Ok tt) Which.Sheet.Shed (name_span q.shed q.action))
part_own n q p h = go (shed_rules n q.shed p.shed)
  where
    go : (q.shed ≡ []) ⊎ Sheet 0 n q.shed → PartOf q (named (Ok tt) Which.Sheet.Shed (name_span q.shed q.action))
    go (inl e) = let z : (name_span q.shed q.action).length ≡ 0 = ap (λ s. (name_span s q.action).length) e in absurd (omega arith)
    go (inr r) =
        let w = end_within 0 n q.shed r q.action p.known in
        let f = r.never_fall q.action p.known in
        record { within = omega (arith, w, f); some = h; in_utf8 = r.in_utf8 q.action p.known }

part_other : (n : ℕ) (q : Question) → SheetsPass n q → PartOf q (named (Ok tt) Which.Sheet.Master (name_span q.master q.action))
unfolding master_good
part_other n q p =
    let r = rules_of 1 n q.master p.master in
    let w = end_within 1 n q.master r q.action p.known in
    let f = r.never_fall q.action p.known in
    record { within = omega (arith, w, f); some = omega (arith, f); in_utf8 = r.in_utf8 q.action p.known }

pub part_found : (n : ℕ) (q : Question) → SheetsPass n q → PartOf q (found q)
part_found n q p = go (ltb 0 (name_span q.shed q.action).length) refl
  where
    go : (t : Bool) → ltb 0 (name_span q.shed q.action).length ≡ t → PartOf q (found q)
    go true h = let l = ltb-true _ _ h in subst (PartOf q) (found_own q _ refl l) (part_own n q p l)
    go false h = subst (PartOf q) (found_other q _ refl (ltb-false _ _ h)) (part_other n q p)

pub on_done : OnDone
on_done b q e =
    let p = passed (layout b).actions q (rows_of b q e) in
    let f = names_found b q e in
    record {
      known = p.known;
      part = subst (PartOf q) (sym f) (part_found (layout b).actions q p);
      own = λ h. f ∙ sym (found_own q _ refl h);
      other = λ h. f ∙ sym (found_other q _ refl (omega arith));
    }

pub on_refusal : OnRefusal
unfolding names
on_refusal b q r e = ap (λ a. answered a q) e

-- the part is within its sheet, in a refusal too
pub part_within : (b : Bytes) (q : Question) → (names b q).part.start + (names b q).part.length ≤ length (sheet_of (names b q) q.shed q.master)
part_within b q = go (name_answer b q) refl
  where
    go : (a : Answer) → name_answer b q ≡ a → (names b q).part.start + (names b q).part.length ≤ length (sheet_of (names b q) q.shed q.master)
    go (Ok _) e = (on_done b q e).part.within
    go (Err r) e = subst (λ n. n.part.start + n.part.length ≤ length (sheet_of n q.shed q.master)) (sym (on_refusal b q r e)) (omega arith)

-- ---- what is handed back, of an answer n

module _ (b : Bytes) (q : Question) (n : Named) (e : n ≡ names b q) where
  pub own_sheet : {X : Type 0} (x y : X) → n.sheet ≡ Which.Sheet.Shed → sheet_of (names b q) x y ≡ x
  own_sheet x y h = ap (λ n. sheet_of n x y) (sym e) ∙ ap (λ s. either_sheet s x y) h

  pub other_sheet : {X : Type 0} (x y : X) → n.sheet ≡ Which.Sheet.Master → sheet_of (names b q) x y ≡ y
  other_sheet x y h = ap (λ n. sheet_of n x y) (sym e) ∙ ap (λ s. either_sheet s x y) h

  -- the sheet that it is a part of
  module _ (s : Bytes) (so : sheet_of (names b q) q.shed q.master ≡ s) where
    pub ends_within : n.part.start + n.part.length ≤ length s
    ends_within = subst (λ n. n.part.start + n.part.length ≤ length s) (sym e) (subst (λ s. (names b q).part.start + (names b q).part.length ≤ length s) so (part_within b q))

    pub its_bytes : take (n.part.start + n.part.length - n.part.start) (drop n.part.start s) ≡ name_of (names b q) q.shed q.master
    unfolding part
    its_bytes =
        let f : n.part.start + n.part.length - n.part.start ≡ n.part.length = omega arith in
        ap (λ m. take m (drop n.part.start s)) f ∙ ap (λ n. bytes_of s n.part) e ∙ ap (λ s. bytes_of s (names b q).part) (sym so)

  pub its_place : (x y z : ℕ × ℕ) → sheet_of (names b q) x y ≡ z → (z.0, n.part.start + z.1) ≡ place_of (names b q) x y
  its_place x y z so = ap (λ n. (z.0, n.part.start + z.1)) e ∙ ap (λ z. (z.0, (names b q).part.start + z.1)) (sym so)
