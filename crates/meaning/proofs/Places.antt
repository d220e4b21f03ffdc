-- A place saved and restored is the same state; an accepted place, restored and saved, is the same bytes.
use mathlib.Core.Path.{◌≡◌, refl, ap, ap₂, ◌∙◌, sym}
use mathlib.Core.Bool.{true, ◌&&◌}
use mathlib.Core.List.{[], ◌∷◌, ◌++◌}
use Prim.Native.Nat.{ℕ, zero, suc, ◌+◌, ◌*◌, ◌/◌, ◌%◌, ◌≤◌, ◌<◌}
use native.Mathlib.Nat.{add-zero, mod-eq_of_lt}
use native.Mathlib.Omega.{arith}
use lib.Dec.{leb, eqb}
use lib.ListN.{length, take, drop, length-drop, take-append-drop}
use lib.Seq.{take_at, drop_at, drop-drop, drop-cons}
use borrow.Author.Tests.{leb-true, eqb-true, not-false}
use Rattle.paper.specs.Language.{⟨◌/◌/◌⟩}
use Rattle.paper.specs.Theorems.{AreBytes}
use Rattle.paper.proofs.Relation.{both}
use Rattle.runs.specs.Limits.{most_finished}
use Rattle.runs.specs.Order.{State}
use Rattle.meaning.specs.declared.Layout.{Layout}
use Rattle.std.specs.Prelude.{Ok}
use Rattle.meaning.specs.Sizes.{set_bytes, place_goals_at, plan_at}
use Rattle.meaning.specs.Card.{Bytes, byte, number_at, part, widened, set_at}
use Rattle.meaning.specs.Place.{place_header, place, placed}
use Rattle.meaning.specs.Refusals.{first_given, place_table, actions_good, set_good}
use Rattle.meaning.specs.Theorems.{Holds, PlaceLaws}
use Rattle.meaning.proofs.Parts.{length_part}
use Rattle.meaning.proofs.Widening.{take_widened, length_held}
use Rattle.meaning.proofs.Tables.{row_passed}

-- ---- a number in two bytes, low byte first

pub two_bytes : (n : ℕ) → n < 65536 → n % 256 + 256 * (n / 256 % 256) ≡ n
two_bytes n h = let e : n / 256 < 256 = omega arith in let f : n / 256 % 256 ≡ n / 256 = mod-eq_of_lt e in omega arith

-- of the number at a place, each byte
low_byte : (p : Bytes) (k n : ℕ) → AreBytes p → n ≡ number_at p k → n % 256 ≡ byte p k
low_byte p k n bs e = let b = bs k in omega arith

high_byte : (p : Bytes) (k n : ℕ) → AreBytes p → n ≡ number_at p k → n / 256 % 256 ≡ byte p (k + 1)
high_byte p k n bs e = let a = bs k in let b = bs (k + 1) in let h : n / 256 ≡ byte p (k + 1) = omega arith in ap (λ m. m % 256) h ∙ mod-eq_of_lt b

-- ---- saved and restored

saved_restored : (l : Layout) (s : State) → Holds l s.mental.σ → Holds l s.mental.γ → s.phase ≤ 2 → s.finished ≤ most_finished → placed l (place l s) ≡ s
unfolding placed place place_header part
saved_restored l s h g f m =
    let n = set_bytes l in
    let σ = take n s.mental.σ in
    let γ = take n s.mental.γ in
    let π = s.mental.π in
    let q = length_held l s.mental.σ h in
    let r = length_held l s.mental.γ g in
    let a : take n (σ ++ (γ ++ π)) ≡ σ = take_at σ (γ ++ π) n q in
    let p = place l s in
    let d : drop (place_goals_at n) p ≡ γ ++ π = sym (drop-drop n 12 p) ∙ drop_at σ (γ ++ π) n q in
    let e : take n (drop (place_goals_at n) p) ≡ γ = rw d (take_at γ π n r) in
    let u : plan_at n ≡ place_goals_at n + n = omega arith in
    let t : drop (plan_at n) p ≡ π = ap (λ k. drop k p) u ∙ sym (drop-drop n (place_goals_at n) p) ∙ ap (drop n) d ∙ drop_at γ π n r in
    let k : s.phase % 256 + 256 * (s.phase / 256 % 256) ≡ s.phase = two_bytes s.phase (omega arith) in
    let c : s.finished % 256 + 256 * (s.finished / 256 % 256) ≡ s.finished = two_bytes s.finished (omega arith) in
    λ i. record { mental = ⟨ (ap widened a ∙ h) i / t i / (ap widened e ∙ g) i ⟩; phase = k i; finished = c i }

-- ---- an accepted place's bytes

-- n bytes from k on, one by one
bytes_from : Bytes → ℕ → ℕ → Bytes
bytes_from p k zero = []
bytes_from p k (suc n) = byte p k ∷ bytes_from p (suc k) n

front : (p : Bytes) (k n : ℕ) → k + n ≤ length p → drop k p ≡ bytes_from p k n ++ drop (k + n) p
unfolding bytes_from
front p k zero h = rw add-zero
front p k (suc n) h =
    let e : suc k + n ≡ k + suc n = omega arith in
    drop-cons p k 0 (omega arith) ∙ ap (λ xs. byte p k ∷ xs) (front p (suc k) n (omega arith) ∙ ap (λ m. bytes_from p (suc k) n ++ drop m p) e)

-- what its rows leave of a place
pub record GoodPlace (l : Layout) (p : Bytes) : Type 0 where
  pub mark0 : byte p 0 ≡ 0x33
  pub mark1 : byte p 1 ≡ 0x50
  pub edition : number_at p 2 ≡ l.edition
  pub long_enough : plan_at (set_bytes l) ≤ length p
  pub fits : number_at p 4 ≤ 1024
  pub phase : number_at p 8 ≤ 2
  pub offset : number_at p 6 ≡ plan_at (set_bytes l)
  pub ends : length p ≡ plan_at (set_bytes l) + number_at p 4
  pub actions : actions_good l.actions (drop (plan_at (set_bytes l)) p) ≡ true
  pub beliefs : set_good l.atoms (set_at l p 12) ≡ true
  pub goals : set_good l.atoms (set_at l p (place_goals_at (set_bytes l))) ≡ true

pub good_place : (l : Layout) (p : Bytes) → first_given (place_table l) p ≡ Ok tt → GoodPlace l p
unfolding place_table
good_place l p e =
    let passed = row_passed p (place_table l) e in
    let (m, m2) = both (eqb (byte p 0) 0x33 && eqb (byte p 1) 0x50) _ (not-false _ (passed 1)) in
    let (m0, m1) = both (eqb (byte p 0) 0x33) _ m in
    let (n, f) = both (leb (number_at p 4) 1024) _ (not-false _ (passed 3)) in
    let (o, t) = both (eqb (number_at p 6) (plan_at (set_bytes l))) _ (not-false _ (passed 4)) in
    let (s, g) = both (set_good l.atoms (set_at l p 12)) _ (not-false _ (passed 6)) in
    record {
      long_enough = leb-true _ _ (not-false _ (passed 2));
      mark0 = eqb-true _ _ m0;
      mark1 = eqb-true _ _ m1;
      edition = eqb-true _ _ m2;
      fits = leb-true _ _ n;
      phase = leb-true _ _ f;
      offset = eqb-true _ _ o;
      ends = eqb-true _ _ t;
      actions = not-false _ (passed 5);
      beliefs = s;
      goals = g;
    }

same_header : (y : Layout) (p : Bytes) → AreBytes p → GoodPlace y p → (n f m : ℕ) → n ≡ number_at p 4 → f ≡ number_at p 8 → m ≡ number_at p 10 → place_header y n f m ≡ bytes_from p 0 12
unfolding place_header bytes_from
same_header y p bs h n f m l k q =
    let e2 = low_byte p 2 y.edition bs (sym h.edition) in
    let e3 = high_byte p 2 y.edition bs (sym h.edition) in
    let e6 = low_byte p 6 (plan_at (set_bytes y)) bs (sym h.offset) in
    let e7 = high_byte p 6 (plan_at (set_bytes y)) bs (sym h.offset) in
    λ i.
    sym h.mark0 i ∷ sym h.mark1 i ∷ e2 i ∷ e3 i ∷ low_byte p 4 n bs l i ∷ high_byte p 4 n bs l i ∷ e6 i ∷ e7 i
    ∷ low_byte p 8 f bs k i ∷ high_byte p 8 f bs k i ∷ low_byte p 10 m bs q i ∷ high_byte p 10 m bs q i ∷ []

restored_saved : (y : Layout) (p : Bytes) → AreBytes p → first_given (place_table y) p ≡ Ok tt → place y (placed y p) ≡ p
unfolding placed place part
restored_saved y p bs e =
    let h = good_place y p e in
    let z = set_bytes y in
    let n = h.long_enough in
    let l : length (drop (plan_at z) p) ≡ number_at p 4 = length-drop (plan_at z) p ∙ (let t = h.ends in omega arith) in
    let q : place_header y (length (drop (plan_at z) p)) (number_at p 8) (number_at p 10) ≡ bytes_from p 0 12 = same_header y p bs h (length (drop (plan_at z) p)) (number_at p 8) (number_at p 10) l refl refl in
    let σ : take z (set_at y p 12) ≡ take z (drop 12 p) = take_widened (part p 12 z) z (length_part p 12 z (omega arith)) in
    let γ : take z (set_at y p (place_goals_at z)) ≡ take z (drop (place_goals_at z) p) = take_widened (part p (place_goals_at z) z) z (length_part p (place_goals_at z) z (omega arith)) in
    let u : place_goals_at z + z ≡ plan_at z = omega arith in
    let r : take z (drop (place_goals_at z) p) ++ drop (plan_at z) p ≡ drop (place_goals_at z) p = ap (λ x. take z (drop (place_goals_at z) p) ++ x) (ap (λ k. drop k p) (sym u) ∙ sym (drop-drop z (place_goals_at z) p)) ∙ take-append-drop z (drop (place_goals_at z) p) in
    let s : take z (drop 12 p) ++ drop (place_goals_at z) p ≡ drop 12 p = ap (λ x. take z (drop 12 p) ++ x) (sym (drop-drop z 12 p)) ∙ take-append-drop z (drop 12 p) in
    ap₂ ◌++◌ q (ap₂ ◌++◌ σ (ap (λ x. x ++ drop (plan_at z) p) γ ∙ r) ∙ s) ∙ sym (front p 0 12 (omega arith))

pub place_laws : PlaceLaws
place_laws = record { saved_restored = saved_restored; restored_saved = restored_saved }
