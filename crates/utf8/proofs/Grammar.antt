-- Bytes are accepted exactly if RFC 3629's grammar has them.
use mathlib.Core.Path.{◌≡◌, refl, sym, ap, ◌∙◌, subst}
use mathlib.Core.Bool.{Bool, true, false}
use mathlib.Core.List.{[], ◌∷◌, ◌++◌}
use mathlib.Core.Logic.{◌⊎◌, inl, inr}
use Prim.Native.Nat.{ℕ, zero, suc, ◌≤◌, ◌<◌}
use native.Mathlib.Omega.{arith}
use borrow.Author.Tests.{leb-true, leb-false}
use lib.Dec.{leb}
use lib.ListN.{length}
use Rattle.paper.proofs.Relation.{false≢true}
use Rattle.meaning.specs.Card.{Bytes}
use Rattle.utf8.specs.Grammar.{From, UTF8_tail, UTF8_2, UTF8_3, UTF8_4, UTF8_char, UTF8_octets, plain, from_c2, at_e0, from_e1, at_ed, from_ee, at_f0, from_f1, at_f4, one, two, three, four, none, more}
use Rattle.utf8.specs.Reading.{awaited, nothing, never, behind_first, awaited_behind, utf8}
use Rattle.utf8.specs.Theorems.{Utf8Exactly}
use Rattle.utf8.proofs.FirstByte.{first_plain, first_c2, first_e0, first_e1, first_ed, first_ee, first_f0, first_f1, first_f4, first_tail, first_above}
use Rattle.utf8.proofs.Steps.{ends, ends_first, ends_tail, ends_never, tail_came}

-- ---- what the grammar has is accepted

-- a character's first byte, then as many tails as are awaited
first : (n low high a : ℕ) (s : Bytes) → behind_first a ≡ awaited n low high → ends nothing (a ∷ s) ≡ ends (awaited n low high) s
first n low high a s e = ends_first 0x80 0xBF a s ∙ ap (λ w. ends w s) e

tail : (k a : ℕ) (s : Bytes) → UTF8_tail a → ends (awaited (suc k) 0x80 0xBF) (a ∷ s) ≡ ends (awaited k 0x80 0xBF) s
tail k a s r = ends_tail k 0x80 0xBF a s r

tail2 : (a b : ℕ) (s : Bytes) → UTF8_tail a → UTF8_tail b → ends (awaited 2 0x80 0xBF) (a ∷ (b ∷ s)) ≡ ends nothing s
tail2 a b s r q = tail 1 a (b ∷ s) r ∙ tail 0 b s q

over_2 : (s t : Bytes) → UTF8_2 s → ends nothing (s ++ t) ≡ ends nothing t
over_2 s t (from_c2 {a} {b} r q) = first 1 0x80 0xBF a (b ∷ t) (first_c2 a r) ∙ tail 0 b t q

over_3 : (s t : Bytes) → UTF8_3 s → ends nothing (s ++ t) ≡ ends nothing t
over_3 s t (at_e0 {a} {b} {c} r q p) = first 2 0xA0 0xBF a (b ∷ (c ∷ t)) (first_e0 a r) ∙ ends_tail 1 0xA0 0xBF b (c ∷ t) q ∙ tail 0 c t p
over_3 s t (from_e1 {a} {b} {c} r q p) = first 2 0x80 0xBF a (b ∷ (c ∷ t)) (first_e1 a r) ∙ tail2 b c t q p
over_3 s t (at_ed {a} {b} {c} r q p) = first 2 0x80 0x9F a (b ∷ (c ∷ t)) (first_ed a r) ∙ ends_tail 1 0x80 0x9F b (c ∷ t) q ∙ tail 0 c t p
over_3 s t (from_ee {a} {b} {c} r q p) = first 2 0x80 0xBF a (b ∷ (c ∷ t)) (first_ee a r) ∙ tail2 b c t q p

over_4 : (s t : Bytes) → UTF8_4 s → ends nothing (s ++ t) ≡ ends nothing t
over_4 s t (at_f0 {a} {b} {c} {d} r q p o) = first 3 0x90 0xBF a (b ∷ (c ∷ (d ∷ t))) (first_f0 a r) ∙ ends_tail 2 0x90 0xBF b (c ∷ (d ∷ t)) q ∙ tail2 c d t p o
over_4 s t (from_f1 {a} {b} {c} {d} r q p o) = first 3 0x80 0xBF a (b ∷ (c ∷ (d ∷ t))) (first_f1 a r) ∙ tail 2 b (c ∷ (d ∷ t)) q ∙ tail2 c d t p o
over_4 s t (at_f4 {a} {b} {c} {d} r q p o) = first 3 0x80 0x8F a (b ∷ (c ∷ (d ∷ t))) (first_f4 a r) ∙ ends_tail 2 0x80 0x8F b (c ∷ (d ∷ t)) q ∙ tail2 c d t p o

over : (s t : Bytes) → UTF8_char s → ends nothing (s ++ t) ≡ ends nothing t
over s t (one (plain {a} r)) = first 0 0x80 0xBF a t (first_plain a r)
over s t (two c) = over_2 s t c
over s t (three c) = over_3 s t c
over s t (four c) = over_4 s t c

pub complete : (s : Bytes) → UTF8_octets s → utf8 s ≡ true
unfolding utf8 awaited_behind
complete s none = refl
complete s (more c {t} h k) = over c t h ∙ complete t k

-- ---- what is accepted the grammar has

-- a character, and right bytes behind it
pub record CharacterCame (s : Bytes) : Type 0 where
  pub char : Bytes
  pub rest : Bytes
  pub good : UTF8_char char
  pub is : s ≡ char ++ rest
  pub shorter : length rest < length s
  pub right : ends nothing rest ≡ true

module _ (x : ℕ) (s : Bytes) (e : ends nothing (x ∷ s) ≡ true) where
  behind_it : (n low high : ℕ) → behind_first x ≡ awaited n low high → ends (awaited n low high) s ≡ true
  behind_it n low high b = sym (first n low high x s b) ∙ e

  came_none : behind_first x ≡ never → CharacterCame (x ∷ s)
  came_none b = absurd (false≢true (sym (ends_never s) ∙ behind_it 1 1 0 b))

  came_1 : From 0 0x7F x → CharacterCame (x ∷ s)
  came_1 r =
      record {
        char = x ∷ [];
        rest = s;
        good = one (plain r);
        is = refl;
        shorter = omega arith;
        right = behind_it 0 0x80 0xBF (first_plain x r);
      }

  came_2 : From 0xC2 0xDF x → CharacterCame (x ∷ s)
  came_2 r =
      let t = tail_came 0 0x80 0xBF s (behind_it 1 0x80 0xBF (first_c2 x r)) in
      let l : length s ≡ suc (length t.rest) = ap length t.is in
      record {
        char = x ∷ (t.tail ∷ []);
        rest = t.rest;
        good = two (from_c2 r t.fits);
        is = ap (λ u. x ∷ u) t.is;
        shorter = omega arith;
        right = t.right;
      }

  came_3 : (low high : ℕ) → behind_first x ≡ awaited 2 low high → ((b c : ℕ) → From low high b → UTF8_tail c → UTF8_3 (x ∷ (b ∷ (c ∷ [])))) → CharacterCame (x ∷ s)
  came_3 low high b make =
      let t = tail_came 1 low high s (behind_it 2 low high b) in
      let u = tail_came 0 0x80 0xBF t.rest t.right in
      let l : length s ≡ suc (length t.rest) = ap length t.is in
      let m : length t.rest ≡ suc (length u.rest) = ap length u.is in
      record {
        char = x ∷ (t.tail ∷ (u.tail ∷ []));
        rest = u.rest;
        good = three (make t.tail u.tail t.fits u.fits);
        is = ap (λ v. x ∷ v) (t.is ∙ ap (λ v. t.tail ∷ v) u.is);
        shorter = omega arith;
        right = u.right;
      }

  came_4 : (low high : ℕ) → behind_first x ≡ awaited 3 low high → ((b c d : ℕ) → From low high b → UTF8_tail c → UTF8_tail d → UTF8_4 (x ∷ (b ∷ (c ∷ (d ∷ []))))) → CharacterCame (x ∷ s)
  came_4 low high b make =
      let t = tail_came 2 low high s (behind_it 3 low high b) in
      let u = tail_came 1 0x80 0xBF t.rest t.right in
      let w = tail_came 0 0x80 0xBF u.rest u.right in
      let l : length s ≡ suc (length t.rest) = ap length t.is in
      let m : length t.rest ≡ suc (length u.rest) = ap length u.is in
      let n : length u.rest ≡ suc (length w.rest) = ap length w.is in
      record {
        char = x ∷ (t.tail ∷ (u.tail ∷ (w.tail ∷ [])));
        rest = w.rest;
        good = four (make t.tail u.tail w.tail t.fits u.fits w.fits);
        is = ap (λ v. x ∷ v) (t.is ∙ ap (λ v. t.tail ∷ v) (u.is ∙ ap (λ v. u.tail ∷ v) w.is));
        shorter = omega arith;
        right = w.right;
      }

  up_to_lem : (m : ℕ) → (x ≤ m) ⊎ (m < x)
  up_to_lem m = go (leb x m) refl
    where
      go : (t : Bool) → leb x m ≡ t → (x ≤ m) ⊎ (m < x)
      go true h = inl (leb-true x m h)
      go false h = inr (leb-false x m h)

  -- from F0 on
  came_f0 : 0xEF < x → CharacterCame (x ∷ s)
  came_f0 h =
      elim (up_to_lem 0xF0) [
        | inl k ↦ (let r : From 0xF0 0xF0 x = record { least = h; most = k } in came_4 0x90 0xBF (first_f0 x r) (λ b c d. at_f0 r))
        | inr k ↦ elim (up_to_lem 0xF3) [
          | inl l ↦ (let r : From 0xF1 0xF3 x = record { least = k; most = l } in came_4 0x80 0xBF (first_f1 x r) (λ b c d. from_f1 r))
          | inr l ↦ elim (up_to_lem 0xF4) [
            | inl m ↦ (let r : From 0xF4 0xF4 x = record { least = l; most = m } in came_4 0x80 0x8F (first_f4 x r) (λ b c d. at_f4 r))
            | inr m ↦ came_none (first_above x m)
          ]
        ]
      ]

  -- from E0 on
  came_e0 : 0xDF < x → CharacterCame (x ∷ s)
  came_e0 h =
      elim (up_to_lem 0xE0) [
        | inl k ↦ (let r : From 0xE0 0xE0 x = record { least = h; most = k } in came_3 0xA0 0xBF (first_e0 x r) (λ b c. at_e0 r))
        | inr k ↦ elim (up_to_lem 0xEC) [
          | inl l ↦ (let r : From 0xE1 0xEC x = record { least = k; most = l } in came_3 0x80 0xBF (first_e1 x r) (λ b c. from_e1 r))
          | inr l ↦ elim (up_to_lem 0xED) [
            | inl m ↦ (let r : From 0xED 0xED x = record { least = l; most = m } in came_3 0x80 0x9F (first_ed x r) (λ b c. at_ed r))
            | inr m ↦ elim (up_to_lem 0xEF) [
              | inl n ↦ (let r : From 0xEE 0xEF x = record { least = m; most = n } in came_3 0x80 0xBF (first_ee x r) (λ b c. from_ee r))
              | inr n ↦ came_f0 n
            ]
          ]
        ]
      ]

  pub came : CharacterCame (x ∷ s)
  came =
      elim (up_to_lem 0x7F) [
        | inl k ↦ came_1 (record { least = omega arith; most = k })
        | inr k ↦ elim (up_to_lem 0xC1) [
          | inl l ↦ came_none (first_tail x k (omega arith))
          | inr l ↦ elim (up_to_lem 0xDF) [
            | inl m ↦ came_2 (record { least = l; most = m })
            | inr m ↦ came_e0 m
          ]
        ]
      ]

next : (s : Bytes) (n : ℕ) → ((t : Bytes) → length t ≤ n → ends nothing t ≡ true → UTF8_octets t) → length s ≤ suc n → ends nothing s ≡ true → UTF8_octets s
next [] n before h e = none
next (x ∷ s) n before h e =
    let c = came x s e in
    let l = c.shorter in
    subst UTF8_octets (sym c.is) (more c.char c.good (before c.rest (omega arith) c.right))

sound_up_to : (n : ℕ) (s : Bytes) → length s ≤ n → ends nothing s ≡ true → UTF8_octets s
sound_up_to zero s h e = next s 0 (λ t l f. of_none t l) (omega arith) e
  where
    of_none : (t : Bytes) → length t ≤ 0 → UTF8_octets t
    of_none [] l = none
    of_none (x ∷ t) l = absurd (omega arith)
sound_up_to (suc n) s h e = next s n (sound_up_to n) h e

pub utf8_exactly : Utf8Exactly
unfolding utf8
utf8_exactly s = (sound_up_to (length s) s (omega arith), complete s)
