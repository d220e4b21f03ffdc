-- A sheet is accepted exactly if the rules hold; what then holds of an action's name.
use mathlib.Core.Path.{◌≡◌, refl, sym, ap, ◌∙◌, subst}
use mathlib.Core.Bool.{Bool, true, false}
use mathlib.Core.List.{[], ◌∷◌}
use mathlib.Core.Logic.{◌⊎◌, inl, inr}
use Prim.Native.Nat.{ℕ, zero, suc, ◌+◌, ◌*◌, ◌-◌, ◌≤◌, ◌<◌}
use native.Mathlib.Omega.{arith}
use borrow.Author.Tests.{le-leb, leb-true, eq-eqb, eqb-true, eqb-false}
use lib.Dec.{leb, eqb}
use lib.ListN.{length}
use Rattle.paper.proofs.Relation.{both}
use Rattle.meaning.specs.Card.{Bytes, number_at}
use Rattle.meaning.proofs.Every.{both_true, every_at, every_of}
use Rattle.utf8.proofs.Grammar.{utf8_exactly}
use Rattle.names.specs.Sheets.{offset_at, head_good, name_good, sheet_good, shed_good, master_good}
use Rattle.names.specs.Working.{Holds}
use Rattle.names.specs.Theorems.{Sheet, SheetsExactly}
use Rattle.names.proofs.Sheets.{shed_none, shed_some}

-- ---- the offsets

module _ (least n : ℕ) (s : Bytes) (r : Sheet least n s) where
  up : (k i : ℕ) → i + k ≤ n → offset_at s i ≤ offset_at s (i + k)
  up zero i h = let e : i ≡ i + 0 = omega arith in subst (λ m. offset_at s i ≤ offset_at s m) e (omega arith)
  up (suc k) i h =
      let a = up k i (omega arith) in
      let b = r.never_fall (i + k) (omega arith) in
      let e : i + k + 1 ≡ i + suc k = omega arith in
      subst (λ m. offset_at s i ≤ offset_at s m) e (omega (arith, a, b))

  -- all of them are within the sheet
  within : (i : ℕ) → i ≤ n → offset_at s i ≤ length s
  within i h =
      let u = up (n - i) i (omega arith) in
      let e : i + (n - i) ≡ n = omega arith in
      subst (λ m. offset_at s i ≤ m) (ap (offset_at s) e ∙ r.last) u

  -- and so they have room in it
  room : 2 * n + 4 ≤ length s
  room = let w = within 0 (omega arith) in let f = r.first in omega (arith, w, f)

  pub end_within : (a : ℕ) → a < n → offset_at s (a + 1) ≤ length s
  end_within a h = within (a + 1) (omega arith)

  pub sheet_holds : (a : ℕ) → a < n → Holds s a
  sheet_holds a h some = let m = room in let f = r.never_fall a h in (omega (arith, m), omega (arith, f))

-- ---- the rules

module _ (least n : ℕ) (s : Bytes) where
  pub rules_of : sheet_good least n s ≡ true → Sheet least n s
  unfolding sheet_good
  rules_of e =
      let (r, f) = both (leb (2 * n + 4) (length s)) _ e in
      let (h, v) = both (head_good n s) _ f in
      let (c, o) = both (eqb (number_at s 0) n) _ h in
      let (p, q) = both (eqb (offset_at s 0) (2 * n + 4)) _ o in
      record {
        count = eqb-true _ _ c;
        first = eqb-true _ _ p;
        last = eqb-true _ _ q;
        never_fall = λ i l. leb-true _ _ (both (leb (offset_at s i + least) (offset_at s (i + 1))) _ (every_at (name_good least s) n i v l)).0;
        in_utf8 = λ i l. (utf8_exactly _).0 (both (leb (offset_at s i + least) (offset_at s (i + 1))) _ (every_at (name_good least s) n i v l)).1;
      }

  pub rules_hold : Sheet least n s → sheet_good least n s ≡ true
  unfolding sheet_good
  rules_hold r =
      both_true (leb (2 * n + 4) (length s)) _ (le-leb _ _ (room least n s r))
      (both_true (head_good n s) _
      (both_true (eqb (number_at s 0) n) _ (eq-eqb _ _ r.count)
      (both_true (eqb (offset_at s 0) (2 * n + 4)) _ (eq-eqb _ _ r.first) (eq-eqb _ _ r.last)))
      (every_of (name_good least s) n
      (λ i l. both_true (leb (offset_at s i + least) (offset_at s (i + 1))) _ (le-leb _ _ (r.never_fall i l)) ((utf8_exactly _).1 (r.in_utf8 i l)))))

none_is : (s : Bytes) → length s ≡ 0 → s ≡ []
none_is [] e = refl
none_is (x ∷ s) e = absurd (omega arith)

pub shed_rules : (n : ℕ) (s : Bytes) → shed_good n s ≡ true → (s ≡ []) ⊎ Sheet 0 n s
shed_rules n s e = go (eqb (length s) 0) refl
  where
    go : (t : Bool) → eqb (length s) 0 ≡ t → (s ≡ []) ⊎ Sheet 0 n s
    go true h = inl (none_is s (eqb-true (length s) 0 h))
    go false h = inr (rules_of 0 n s (shed_some n s (eqb-false (length s) 0 h) ∙ e))

shed_hold : (n : ℕ) (s : Bytes) → (s ≡ []) ⊎ Sheet 0 n s → shed_good n s ≡ true
shed_hold n s (inl e) = sym (shed_none n s (ap length e))
shed_hold n s (inr r) = go (eqb (length s) 0) refl
  where
    go : (t : Bool) → eqb (length s) 0 ≡ t → shed_good n s ≡ true
    go true h = sym (shed_none n s (eqb-true (length s) 0 h))
    go false h = sym (shed_some n s (eqb-false (length s) 0 h)) ∙ rules_hold 0 n s r

pub sheets_exactly : SheetsExactly
unfolding master_good
sheets_exactly n s = (shed_rules n s, shed_hold n s, rules_of 1 n s, rules_hold 1 n s)

-- ---- what holds of an action's name

pub shed_holds : (n : ℕ) (s : Bytes) → shed_good n s ≡ true → (a : ℕ) → a < n → Holds s a
shed_holds n s e a h = go (shed_rules n s e)
  where
    go : (s ≡ []) ⊎ Sheet 0 n s → Holds s a
    go (inl z) some = let l : length s ≡ 0 = ap length z in absurd (omega arith)
    go (inr r) some = sheet_holds 0 n s r a h some
