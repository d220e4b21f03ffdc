-- Each code point has exactly one form that the grammar has.
use mathlib.Core.Path.{◌≡◌, refl, sym, ◌∙◌, subst}
use mathlib.Core.Bool.{Bool, true, false}
use mathlib.Core.List.{[], ◌∷◌}
use mathlib.Core.Logic.{◌⊎◌, inl, inr}
use Prim.Native.Nat.{ℕ, ◌+◌, ◌*◌, ◌-◌, ◌/◌, ◌≤◌, ◌<◌}
use native.Mathlib.Omega.{arith}
use borrow.Author.Tests.{le-leb, lt-leb, leb-true, leb-false}
use lib.Dec.{leb}
use Rattle.meaning.specs.Card.{Bytes}
use Rattle.utf8.specs.Grammar.{From, UTF8_tail, UTF8_2, UTF8_3, UTF8_4, UTF8_char, plain, from_c2, at_e0, from_e1, at_ed, from_ee, at_f0, from_f1, at_f4, one, two, three, four}
use Rattle.utf8.specs.Characters.{CodePoint, six, encode, decode}
use Rattle.utf8.specs.Theorems.{HasForm, OneForm}

six_tail : (c above : ℕ) → UTF8_tail (six c above)
six_tail c above = record { least = omega arith; most = omega arith }

-- ---- the four forms, by the number's range

module _ (c : ℕ) where
  pub form_1 : c ≤ 0x7F → encode c ≡ c ∷ []
  unfolding encode
  form_1 h = rw (le-leb c 0x7F h)

  pub form_2 : 0x7F < c → c ≤ 0x7FF → encode c ≡ (0xC0 + c / 64) ∷ (six c 1 ∷ [])
  unfolding encode
  form_2 h k = rw (lt-leb c 0x7F h, le-leb c 0x7FF k)

  pub form_3 : 0x7FF < c → c ≤ 0xFFFF → encode c ≡ (0xE0 + c / 4096) ∷ (six c 64 ∷ (six c 1 ∷ []))
  unfolding encode
  form_3 h k = rw (lt-leb c 0x7F (omega arith), lt-leb c 0x7FF h, le-leb c 0xFFFF k)

  pub form_4 : 0xFFFF < c → encode c ≡ (0xF0 + c / 262144) ∷ (six c 4096 ∷ (six c 64 ∷ (six c 1 ∷ [])))
  unfolding encode
  form_4 h = rw (lt-leb c 0x7F (omega arith), lt-leb c 0x7FF (omega arith), lt-leb c 0xFFFF h)

-- ---- each code point has a form

by_64 : (c : ℕ) → c / 4096 ≡ c / 64 / 64
by_64 c = omega arith

by_4096 : (c : ℕ) → c / 262144 ≡ c / 4096 / 64
by_4096 c = omega arith

spelled_3 : (c : ℕ) → 4096 * (0xE0 + c / 4096 - 0xE0) + (64 * (six c 64 - 0x80) + (six c 1 - 0x80)) ≡ c
spelled_3 c = let e = by_64 c in omega arith

spelled_4 : (c : ℕ) → 262144 * (0xF0 + c / 262144 - 0xF0) + (4096 * (six c 4096 - 0x80) + (64 * (six c 64 - 0x80) + (six c 1 - 0x80))) ≡ c
spelled_4 c = let e = by_64 c in let f = by_4096 c in omega arith

module _ (c : ℕ) where
  has_1 : c ≤ 0x7F → UTF8_char (encode c) × (decode (encode c) ≡ c)
  unfolding decode
  has_1 h =
      subst (λ s. UTF8_char s × (decode s ≡ c)) (sym (form_1 c h))
      (one (plain (record { least = omega arith; most = h })), refl)

  has_2 : 0x7F < c → c ≤ 0x7FF → UTF8_char (encode c) × (decode (encode c) ≡ c)
  unfolding decode
  has_2 h k =
      subst (λ s. UTF8_char s × (decode s ≡ c)) (sym (form_2 c h k))
      (two (from_c2 (record { least = omega arith; most = omega arith }) (six_tail c 1)), omega arith)

  three_of : 0x7FF < c → From 0 0xD7FF c ⊎ From 0xE000 0xFFFF c → UTF8_3 ((0xE0 + c / 4096) ∷ (six c 64 ∷ (six c 1 ∷ [])))
  three_of h (inl r) = let k = r.most in let e = by_64 c in go (leb c 0xFFF) refl (leb c 0xCFFF) refl
    where
      go : (t : Bool) → leb c 0xFFF ≡ t → (u : Bool) → leb c 0xCFFF ≡ u → UTF8_3 ((0xE0 + c / 4096) ∷ (six c 64 ∷ (six c 1 ∷ [])))
      go true f u g =
          let l = leb-true c 0xFFF f in
          at_e0 {a = 0xE0 + c / 4096} {b = six c 64} {c = six c 1} (record { least = omega arith; most = omega arith }) (record { least = omega arith; most = omega arith }) (six_tail c 1)
      go false f true g =
          let l = leb-false c 0xFFF f in
          let m = leb-true c 0xCFFF g in
          from_e1 {a = 0xE0 + c / 4096} {b = six c 64} {c = six c 1} (record { least = omega arith; most = omega arith }) (six_tail c 64) (six_tail c 1)
      go false f false g =
          let m = leb-false c 0xCFFF g in
          at_ed {a = 0xE0 + c / 4096} {b = six c 64} {c = six c 1} (record { least = omega arith; most = omega arith }) (record { least = omega arith; most = omega arith }) (six_tail c 1)
  three_of h (inr r) =
      let k = r.least in
      let l = r.most in
      from_ee {a = 0xE0 + c / 4096} {b = six c 64} {c = six c 1} (record { least = omega arith; most = omega arith }) (six_tail c 64) (six_tail c 1)

  has_3 : 0x7FF < c → From 0 0xD7FF c ⊎ From 0xE000 0xFFFF c → UTF8_char (encode c) × (decode (encode c) ≡ c)
  unfolding decode
  has_3 h r =
      subst (λ s. UTF8_char s × (decode s ≡ c)) (sym (form_3 c h (most r)))
      (three (three_of h r), spelled_3 c)
    where
      most : From 0 0xD7FF c ⊎ From 0xE000 0xFFFF c → c ≤ 0xFFFF
      most (inl r) = let k = r.most in omega arith
      most (inr r) = r.most

  four_of : 0xFFFF < c → c ≤ 0x10FFFF → UTF8_4 ((0xF0 + c / 262144) ∷ (six c 4096 ∷ (six c 64 ∷ (six c 1 ∷ []))))
  four_of h k = let f = by_4096 c in go (leb c 0x3FFFF) refl (leb c 0xFFFFF) refl
    where
      go : (t : Bool) → leb c 0x3FFFF ≡ t → (u : Bool) → leb c 0xFFFFF ≡ u → UTF8_4 ((0xF0 + c / 262144) ∷ (six c 4096 ∷ (six c 64 ∷ (six c 1 ∷ []))))
      go true f u g =
          let l = leb-true c 0x3FFFF f in
          at_f0 {a = 0xF0 + c / 262144} {b = six c 4096} {c = six c 64} {d = six c 1} (record { least = omega arith; most = omega arith }) (record { least = omega arith; most = omega arith }) (six_tail c 64) (six_tail c 1)
      go false f true g =
          let l = leb-false c 0x3FFFF f in
          let m = leb-true c 0xFFFFF g in
          from_f1 {a = 0xF0 + c / 262144} {b = six c 4096} {c = six c 64} {d = six c 1} (record { least = omega arith; most = omega arith }) (six_tail c 4096) (six_tail c 64) (six_tail c 1)
      go false f false g =
          let m = leb-false c 0xFFFFF g in
          at_f4 {a = 0xF0 + c / 262144} {b = six c 4096} {c = six c 64} {d = six c 1} (record { least = omega arith; most = omega arith }) (record { least = omega arith; most = omega arith }) (six_tail c 64) (six_tail c 1)

  has_4 : 0xFFFF < c → c ≤ 0x10FFFF → UTF8_char (encode c) × (decode (encode c) ≡ c)
  unfolding decode
  has_4 h k = subst (λ s. UTF8_char s × (decode s ≡ c)) (sym (form_4 c h)) (four (four_of h k), spelled_4 c)

up_to_lem : (c m : ℕ) → (c ≤ m) ⊎ (m < c)
up_to_lem c m = go (leb c m) refl
  where
    go : (t : Bool) → leb c m ≡ t → (c ≤ m) ⊎ (m < c)
    go true h = inl (leb-true c m h)
    go false h = inr (leb-false c m h)

pub has_form : HasForm
has_form c (inl r) =
    elim (up_to_lem c 0x7F) [
      | inl k ↦ has_1 c k
      | inr k ↦ elim (up_to_lem c 0x7FF) [ inl l ↦ has_2 c k l | inr l ↦ has_3 c l (inl r) ]
    ]
has_form c (inr r) =
    let h = r.least in
    elim (up_to_lem c 0xFFFF) [ inl k ↦ has_3 c (omega arith) (inr (record { least = h; most = k })) | inr k ↦ has_4 c k r.most ]

-- ---- and only that one

-- the code point of a form is below the surrogates, or above them
abbrev Only : Bytes → Type 0
Only s = CodePoint (decode s) × (s ≡ encode (decode s))

below : (n : ℕ) → n ≤ 0xD7FF → CodePoint n
below n h = inl (record { least = omega arith; most = h })

above : (n : ℕ) → 0xE000 ≤ n → n ≤ 0x10FFFF → CodePoint n
above n h k = inr (record { least = h; most = k })

wider : {low high x : ℕ} (low' high' : ℕ) → From low high x → low' ≤ low → high ≤ high' → From low' high' x
wider low' high' r h k = let l = r.least in let m = r.most in record { least = omega arith; most = omega arith }

only_2 : (s : Bytes) → UTF8_2 s → Only s
unfolding decode
only_2 s (from_c2 {a} {b} r q) =
    let n = 64 * (a - 0xC0) + (b - 0x80) in
    let h = r.least in
    let k = r.most in
    let l = q.least in
    let m = q.most in
    let e : a ≡ 0xC0 + n / 64 = omega arith in
    let f : b ≡ six n 1 = omega arith in
    (below n (omega arith), (λ j. e j ∷ (f j ∷ [])) ∙ sym (form_2 n (omega arith) (omega arith)))

-- a first byte from E0 to EF and two tails: the number that they spell, within what their ranges spell; where it has no shorter
-- form they are its form
abbrev spelt_3 : ℕ → ℕ → ℕ → ℕ
spelt_3 a b c = 4096 * (a - 0xE0) + (64 * (b - 0x80) + (c - 0x80))

within_3 : {la ha lb hb a b c : ℕ} → From la ha a → From lb hb b → UTF8_tail c → From (spelt_3 la lb 0x80) (spelt_3 ha hb 0xBF) (spelt_3 a b c)
within_3 r q p =
    let h = r.least in
    let k = r.most in
    let l = q.least in
    let m = q.most in
    let o = p.least in
    let i = p.most in
    record { least = omega arith; most = omega arith }

form_of_3 : {a b c : ℕ} → From 0xE0 0xEF a → UTF8_tail b → UTF8_tail c → 0x7FF < spelt_3 a b c → a ∷ (b ∷ (c ∷ [])) ≡ encode (spelt_3 a b c)
form_of_3 {a} {b} {c} r q p long =
    let n = spelt_3 a b c in
    let h = r.least in
    let k = r.most in
    let l = q.least in
    let m = q.most in
    let o = p.least in
    let i = p.most in
    let e : a ≡ 0xE0 + n / 4096 = omega arith in
    let d : n / 64 ≡ 64 * (a - 0xE0) + (b - 0x80) = omega arith in
    let f : b ≡ six n 64 = omega arith in
    let g : c ≡ six n 1 = omega arith in
    (λ j. e j ∷ (f j ∷ (g j ∷ []))) ∙ sym (form_3 n long (omega arith))

only_3 : (s : Bytes) → UTF8_3 s → Only s
unfolding decode
only_3 s (at_e0 r q p) =
    let w = within_3 r q p in
    (below _ (omega (arith, w.most)), form_of_3 (wider 0xE0 0xEF r (omega arith) (omega arith)) (wider 0x80 0xBF q (omega arith) (omega arith)) p (omega (arith, w.least)))
only_3 s (from_e1 r q p) =
    let w = within_3 r q p in
    (below _ (omega (arith, w.most)), form_of_3 (wider 0xE0 0xEF r (omega arith) (omega arith)) q p (omega (arith, w.least)))
only_3 s (at_ed r q p) =
    let w = within_3 r q p in
    (below _ (omega (arith, w.most)), form_of_3 (wider 0xE0 0xEF r (omega arith) (omega arith)) (wider 0x80 0xBF q (omega arith) (omega arith)) p (omega (arith, w.least)))
only_3 s (from_ee r q p) =
    let w = within_3 r q p in
    (above _ (omega (arith, w.least)) (omega (arith, w.most)), form_of_3 (wider 0xE0 0xEF r (omega arith) (omega arith)) q p (omega (arith, w.least)))

-- the same with a first byte from F0 to F4 and three tails
abbrev spelt_4 : ℕ → ℕ → ℕ → ℕ → ℕ
spelt_4 a b c d = 262144 * (a - 0xF0) + (4096 * (b - 0x80) + (64 * (c - 0x80) + (d - 0x80)))

within_4 : {la ha lb hb a b c d : ℕ} → From la ha a → From lb hb b → UTF8_tail c → UTF8_tail d
    → From (spelt_4 la lb 0x80 0x80) (spelt_4 ha hb 0xBF 0xBF) (spelt_4 a b c d)
within_4 r q p t =
    let h = r.least in
    let k = r.most in
    let l = q.least in
    let m = q.most in
    let o = p.least in
    let i = p.most in
    let u = t.least in
    let v = t.most in
    record { least = omega arith; most = omega arith }

form_of_4 : {a b c d : ℕ} → From 0xF0 0xF4 a → UTF8_tail b → UTF8_tail c → UTF8_tail d → 0xFFFF < spelt_4 a b c d
    → a ∷ (b ∷ (c ∷ (d ∷ []))) ≡ encode (spelt_4 a b c d)
form_of_4 {a} {b} {c} {d} r q p t long =
    let n = spelt_4 a b c d in
    let h = r.least in
    let k = r.most in
    let l = q.least in
    let m = q.most in
    let o = p.least in
    let i = p.most in
    let u = t.least in
    let v = t.most in
    let e : a ≡ 0xF0 + n / 262144 = omega arith in
    let x : n / 4096 ≡ 64 * (a - 0xF0) + (b - 0x80) = omega arith in
    let y : n / 64 ≡ 4096 * (a - 0xF0) + (64 * (b - 0x80) + (c - 0x80)) = omega arith in
    let f : b ≡ six n 4096 = omega arith in
    let g : c ≡ six n 64 = omega arith in
    let z : d ≡ six n 1 = omega arith in
    (λ j. e j ∷ (f j ∷ (g j ∷ (z j ∷ [])))) ∙ sym (form_4 n long)

only_4 : (s : Bytes) → UTF8_4 s → Only s
unfolding decode
only_4 s (at_f0 r q p t) =
    let w = within_4 r q p t in
    (above _ (omega (arith, w.least)) (omega (arith, w.most)), form_of_4 (wider 0xF0 0xF4 r (omega arith) (omega arith)) (wider 0x80 0xBF q (omega arith) (omega arith)) p t (omega (arith, w.least)))
only_4 s (from_f1 r q p t) =
    let w = within_4 r q p t in
    (above _ (omega (arith, w.least)) (omega (arith, w.most)), form_of_4 (wider 0xF0 0xF4 r (omega arith) (omega arith)) q p t (omega (arith, w.least)))
only_4 s (at_f4 r q p t) =
    let w = within_4 r q p t in
    (above _ (omega (arith, w.least)) (omega (arith, w.most)), form_of_4 (wider 0xF0 0xF4 r (omega arith) (omega arith)) (wider 0x80 0xBF q (omega arith) (omega arith)) p t (omega (arith, w.least)))

pub one_form : OneForm
unfolding decode
one_form s (one (plain {a} r)) = let k = r.most in (below a (omega arith), sym (form_1 a k))
one_form s (two c) = only_2 s c
one_form s (three c) = only_3 s c
one_form s (four c) = only_4 s c
