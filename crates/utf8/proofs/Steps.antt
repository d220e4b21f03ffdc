-- The next byte: behind a tail that fits, and behind one that does not.
use mathlib.Core.Path.{◌≡◌, refl, sym, ap, ◌∙◌}
use mathlib.Core.Bool.{Bool, true, false, ◌&&◌}
use mathlib.Core.List.{[], ◌∷◌}
use Prim.Native.Nat.{ℕ, zero, suc, ◌+◌, ◌-◌, ◌≤◌, ◌<◌}
use native.Mathlib.Omega.{arith}
use borrow.Author.Tests.{le-leb, lt-leb, leb-true, eq-eqb, ne_eqb, eqb-true}
use lib.Dec.{leb, eqb}
use lib.ListN.{drop_of_length-le, length, drop, get_or}
use lib.Seq.{drop-cons}
use Rattle.paper.specs.Next.{if}
use Rattle.paper.proofs.Relation.{both, false≢true}
use Rattle.meaning.proofs.Every.{both_true}
use Rattle.meaning.specs.Card.{Bytes}
use Rattle.utf8.specs.Grammar.{From}
use Rattle.utf8.specs.declared.Awaited.{Awaited}
use Rattle.utf8.specs.Reading.{awaited, never, begins, tails_of, low_of, high_of, behind_first, behind_tail, behind, awaited_behind}

-- ---- a step, by what was tested

module _ (a : Awaited) (x : ℕ) where
  abbrev fits : Bool
  fits = leb a.low x && leb x a.high

  pub tail_fits : fits ≡ true → awaited (a.tails - 1) 0x80 0xBF ≡ behind_tail a x
  unfolding behind_tail
  tail_fits e = sym (ap (λ t. if t (awaited (a.tails - 1) 0x80 0xBF) never) e)

  pub tail_not : fits ≡ false → never ≡ behind_tail a x
  unfolding behind_tail
  tail_not e = sym (ap (λ t. if t (awaited (a.tails - 1) 0x80 0xBF) never) e)

  pub goes_first : a.tails ≡ 0 → behind_first x ≡ behind a x
  unfolding behind
  goes_first e = sym (ap (λ t. if t (behind_first x) (behind_tail a x)) (eq-eqb a.tails 0 e))

  pub goes_tail : (a.tails ≡ 0 → ⊥) → behind_tail a x ≡ behind a x
  unfolding behind
  goes_tail e = sym (ap (λ t. if t (behind_first x) (behind_tail a x)) (ne_eqb a.tails 0 e))

-- ---- what comes behind bytes

-- whether nothing is awaited behind bytes
abbrev pub ends : Awaited → Bytes → Bool
ends a s = eqb (awaited_behind a s).tails 0

pub ends_on : (a : Awaited) (x : ℕ) (s : Bytes) → ends a (x ∷ s) ≡ ends (behind a x) s
unfolding awaited_behind
ends_on a x s = refl

-- a character begins
pub ends_first : (low high x : ℕ) (s : Bytes) → ends (awaited 0 low high) (x ∷ s) ≡ ends (behind_first x) s
unfolding awaited_behind behind
ends_first low high x s = refl

-- a tail comes
pub ends_tail : (k low high x : ℕ) (s : Bytes) → From low high x → ends (awaited (suc k) low high) (x ∷ s) ≡ ends (awaited k 0x80 0xBF) s
ends_tail k low high x s r =
    let w = awaited (suc k) low high in
    ends_on w x s
    ∙ ap (λ a. ends a s)
    (sym (goes_tail w x (λ e. omega arith))
    ∙ sym (tail_fits w x (both_true (leb low x) (leb x high) (le-leb low x r.least) (le-leb x high r.most)))
    ∙ (let e : suc k - 1 ≡ k = omega arith in λ j. awaited (e j) 0x80 0xBF))

-- no byte makes it right
pub ends_never : (s : Bytes) → ends never s ≡ false
unfolding awaited_behind behind behind_tail
ends_never [] = refl
ends_never (x ∷ s) = ap (λ a. ends a s) (stays x) ∙ ends_never s
  where
    stays : (x : ℕ) → behind never x ≡ never
    stays zero = refl
    stays (suc n) = rw (le-leb 1 (suc n) (omega arith), lt-leb (suc n) 0 (omega arith))

-- where a tail is awaited and the bytes are right, a tail comes
pub record TailCame (k low high : ℕ) (s : Bytes) : Type 0 where
  pub tail : ℕ
  pub rest : Bytes
  pub fits : From low high tail
  pub is : s ≡ tail ∷ rest
  pub right : ends (awaited k 0x80 0xBF) rest ≡ true

pub tail_came : (k low high : ℕ) (s : Bytes) → ends (awaited (suc k) low high) s ≡ true → TailCame k low high s
unfolding awaited_behind
tail_came k low high [] e = let z = eqb-true (suc k) 0 e in absurd (omega arith)
tail_came k low high (x ∷ s) e = go (leb low x && leb x high) refl
  where
    go : (t : Bool) → leb low x && leb x high ≡ t → TailCame k low high (x ∷ s)
    go true h =
        let f = both (leb low x) _ h in
        let r : From low high x = record { least = leb-true low x f.0; most = leb-true x high f.1 } in
        record { tail = x; rest = s; fits = r; is = refl; right = sym (ends_tail k low high x s r) ∙ e }
    go false h =
        let w = awaited (suc k) low high in
        absurd (false≢true (sym (ends_never s) ∙ ap (λ a. ends a s) (tail_not w x h ∙ goes_tail w x (λ z. omega arith)) ∙ sym (ends_on w x s) ∙ e))

-- ---- the parts of a step, by what was tested

pub first_begun : (x : ℕ) (r : Awaited) → begins x ≡ true → r ≡ awaited (tails_of x) (low_of x) (high_of x) → r ≡ behind_first x
unfolding behind_first
first_begun x r b e = e ∙ sym (ap (λ t. if t (awaited (tails_of x) (low_of x) (high_of x)) never) b)

pub first_not_begun : (x : ℕ) → begins x ≡ false → never ≡ behind_first x
unfolding behind_first
first_not_begun x b = sym (ap (λ t. if t (awaited (tails_of x) (low_of x) (high_of x)) never) b)

-- ---- bytes, from a place on

pub rest_on : (s : Bytes) (a : Awaited) (i : ℕ) → i < length s → ends a (drop i s) ≡ ends (behind a (get_or s i 0)) (drop (i + 1) s)
rest_on s a i h =
    let e : suc i ≡ i + 1 = omega arith in
    ap (ends a) (drop-cons s i 0 h ∙ (λ j. get_or s i 0 ∷ drop (e j) s)) ∙ ends_on a (get_or s i 0) (drop (i + 1) s)

pub rest_over : (s : Bytes) (a : Awaited) (i : ℕ) → length s ≤ i → ends a (drop i s) ≡ eqb a.tails 0
unfolding awaited_behind
rest_over s a i h = ap (ends a) (drop_of_length-le s {i = i} h)
