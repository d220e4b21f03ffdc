-- A set in the 32 bytes that a configuration has for it: its bytes, its members, and what a place keeps of it.
use mathlib.Core.Path.{◌≡◌, refl, ap, ◌∙◌, sym}
use mathlib.Core.Bool.{Bool, true, false}
use mathlib.Core.List.{[], ◌∷◌, ◌++◌}
use Prim.Native.Nat.{ℕ, zero, suc, ◌+◌, ◌-◌, ◌/◌, ◌%◌, ◌≤◌}
use native.Mathlib.Decide.{dec_lt}
use native.Mathlib.Omega.{arith}
use borrow.Author.Tests.{eq-eqb, ne_eqb}
use lib.Dec.{eqb}
use lib.ListN.{length, get_or, take, drop, replicate, length-append, length-replicate, length-take, get_or-eq_default}
use lib.Bits.{bit_and, bit_or, bit_xor}
use lib.Seq.{take_at, get_or-take, ext_get_or}
use Rattle.paper.specs.Atoms.{Atoms, bit, ◌∈◌, ◌∪◌, ◌∖◌}
use Rattle.paper.proofs.Sets.{at-∪, at-∖, length-∪, length-∖}
use Rattle.meaning.specs.declared.Layout.{Layout}
use Rattle.meaning.specs.Sizes.{edition_set, set_bytes}
use Rattle.meaning.specs.Card.{Bytes, part, widened, set_at}
use Rattle.meaning.specs.Theorems.{Holds}

-- ---- how many bytes an edition's sets have

pub set_least : (e : ℕ) → 16 ≤ edition_set e
unfolding edition_set
set_least e = go (eqb e 2)
  where
    go : (b : Bool) → 16 ≤ elim b [ true ↦ 32 | false ↦ 16 ]
    go true = omega arith
    go false = omega arith

pub set_most : (e : ℕ) → edition_set e ≤ 32
unfolding edition_set
set_most e = go (eqb e 2)
  where
    go : (b : Bool) → elim b [ true ↦ 32 | false ↦ 16 ] ≤ 32
    go true = omega arith
    go false = omega arith

pub set_second : (e : ℕ) → e ≡ 2 → edition_set e ≡ 32
unfolding edition_set
set_second e h = rw (edition_set, eq-eqb e 2 h)

pub set_first : (e : ℕ) → (e ≡ 2 → ⊥) → edition_set e ≡ 16
unfolding edition_set
set_first e h = rw (edition_set, ne_eqb e 2 h)

-- ---- the bytes of a set

pub length_widened : (s : Bytes) → length s ≤ 32 → length (widened s) ≡ 32
unfolding widened
length_widened s h =
    let n : length (replicate {A = ℕ} (32 - length s) 0) ≡ 32 - length s = length-replicate (32 - length s) 0 in
    let m : length (s ++ replicate (32 - length s) 0) ≡ length s + length (replicate {A = ℕ} (32 - length s) 0) = length-append s (replicate (32 - length s) 0) in
    omega arith

-- the set at any offset of any bytes
pub length_set_at : (l : Layout) (b : Bytes) (at : ℕ) → length (set_at l b at) ≡ 32
unfolding part
length_set_at l b at = length_widened (part b at (set_bytes l)) (rw (length-take (set_bytes l) (drop at b)) (let m = set_most l.edition in omega arith))

pub take_widened : (s : Bytes) (n : ℕ) → length s ≡ n → take n (widened s) ≡ s
unfolding widened
take_widened s n h = take_at s (replicate (32 - length s) 0) n h

-- ---- the members of a set

-- a zero is what stands behind the last byte too
pub at_zeros : (n i : ℕ) → get_or {A = ℕ} (replicate n 0) i 0 ≡ 0
at_zeros zero i = refl
at_zeros (suc n) zero = refl
at_zeros (suc n) (suc i) = at_zeros n i

pub at_widened : (s : Bytes) (i : ℕ) → get_or (widened s) i 0 ≡ get_or s i 0
unfolding widened
at_widened s i = go s (32 - length s) i
  where
    go : (s : Bytes) (n i : ℕ) → get_or (s ++ replicate n 0) i 0 ≡ get_or s i 0
    go [] n i = at_zeros n i
    go (x ∷ s) n zero = refl
    go (x ∷ s) n (suc i) = go s n i

pub ∈-widened : (k : ℕ) (s : Bytes) → k ∈ widened s ≡ k ∈ s
unfolding ◌∈◌
∈-widened k s = ap (bit (k % 8)) (at_widened s (k / 8))

-- ---- a set that is held

module _ (l : Layout) where
  abbrev n : ℕ
  n = set_bytes l

  -- it has 32 bytes
  pub all_held : (s : Bytes) → Holds l s → length s ≡ 32
  all_held s h =
      let m = set_most l.edition in
      ap length (sym h) ∙ length_widened (take n s) (rw (length-take n s) (omega arith))

  -- of these the bytes of its edition
  pub length_held : (s : Bytes) → Holds l s → length (take n s) ≡ n
  length_held s h = let m = set_most l.edition in let a = all_held s h in length-take n s ∙ (omega arith)

  -- and zeros above
  pub above_held : (s : Bytes) → Holds l s → (i : ℕ) → n ≤ i → get_or s i 0 ≡ 0
  above_held s h i g =
      let e = length_held s h in
      let z : get_or (take n s) i 0 ≡ 0 = get_or-eq_default (take n s) 0 (omega arith) in
      ap (λ (x : Bytes). get_or x i 0) (sym h) ∙ at_widened (take n s) i ∙ z

  -- which is all that is asked of it
  pub held : (s : Bytes) → length s ≡ 32 → ((i : ℕ) → n ≤ i → get_or s i 0 ≡ 0) → Holds l s
  held s e zeros = ext_get_or 0 (widened (take n s)) s (length_widened (take n s) (rw (length-take n s) (omega arith)) ∙ sym e) (λ i h. at_widened (take n s) i ∙ same i)
    where
      same : (i : ℕ) → get_or (take n s) i 0 ≡ get_or s i 0
      same i = elim (dec_lt i n) [
        | yes h ↦ get_or-take n s i 0 h
        | no h ↦ get_or-eq_default (take n s) 0 (rw (length-take n s) (omega arith)) ∙ sym (zeros i (omega arith))
      ]

  -- the set at any offset of any bytes is held
  pub held_at : (b : Bytes) (at : ℕ) → Holds l (set_at l b at)
  unfolding part
  held_at b at = held (set_at l b at) (length_set_at l b at) (λ i h.
      at_widened (part b at n) i ∙ get_or-eq_default (part b at n) 0 (rw (length-take n (drop at b)) (omega arith)))

  -- and so is what is made of sets that are
  pub held-∪ : (s t : Atoms) → Holds l s → Holds l t → Holds l (s ∪ t)
  held-∪ s t h g = held (s ∪ t) (length-∪ s t (all_held s h ∙ sym (all_held t g)) ∙ all_held s h)
      (λ i a. at-∪ s t i ∙ (λ j. bit_or (above_held s h i a j) (above_held t g i a j)))

  pub held-∖ : (s t : Atoms) → Holds l s → Holds l (s ∖ t)
  held-∖ s t h = held (s ∖ t) (length-∖ s t ∙ all_held s h)
      (λ i a. at-∖ s t i ∙ ap (λ x. bit_xor x (bit_and x (get_or t i 0))) (above_held s h i a) ∙ nothing (get_or t i 0))
    where
      nothing : (y : ℕ) → bit_xor 0 (bit_and 0 y) ≡ 0
      nothing y = refl
