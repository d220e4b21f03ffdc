-- A part of a list of bytes, where others are written over some of them.
use mathlib.Core.Path.{◌≡◌, ap, sym, ◌∙◌}
use mathlib.Core.List.{[], ◌∷◌, ◌++◌}
use Prim.Native.Nat.{ℕ, zero, suc, ◌+◌, ◌-◌, ◌≤◌}
use native.Mathlib.Omega.{arith}
use lib.ListN.{length, take, drop, length-append, length-take, length-drop}
use lib.Seq.{paste, take-paste, drop-paste, take-take, take-append-le, drop-append-le, drop-drop, length-take-le, take-nil, drop_at}
use Rattle.meaning.specs.Card.{Bytes, part}

pub take_drop : (b m : ℕ) (l : Bytes) → take m (drop b l) ≡ drop b (take (b + m) l)
take_drop zero m l = let e : m ≡ 0 + m = omega arith in ap (λ k. take k l) e
take_drop (suc b) m [] = take-nil m ∙ sym (ap (drop (suc b)) (take-nil {A = ℕ} (suc b + m)))
take_drop (suc b) m (x ∷ l) =
    take_drop b m l ∙ (let e : suc (b + m) ≡ suc b + m = omega arith in ap (λ k. drop (suc b) (take k (x ∷ l))) e)

-- n bytes of e are written over d at a place
module _ (d e : Bytes) (at n : ℕ) (inside : at + n ≤ length d) (enough : n ≤ length e) where
  abbrev written : Bytes
  written = paste d at e n

  -- a part before them
  pub part_before : (b k : ℕ) → b + k ≤ at → part written b k ≡ part d b k
  unfolding part
  part_before b k h =
      let l : length (take at d) ≡ at = length-take-le at d (omega arith) in
      let f : take at written ≡ take at d =
      take-append-le at (take at d ++ take n e) (drop (at + n) d) (omega (arith, length-append (take at d) (take n e)))
      ∙ take-append-le at (take at d) (take n e) (omega arith)
      ∙ take-take at at d (omega arith) in
      take_drop b k written
      ∙ ap (drop b) (sym (take-take (b + k) at written h) ∙ ap (take (b + k)) f ∙ take-take (b + k) at d h)
      ∙ sym (take_drop b k d)

  -- a part behind them
  pub part_behind : (b k : ℕ) → at + n ≤ b → part written b k ≡ part d b k
  unfolding part
  part_behind b k h =
      let e : (at + n) + (b - (at + n)) ≡ b = omega arith in
      let f : (l : Bytes) → drop b l ≡ drop (b - (at + n)) (drop (at + n) l) = λ l. ap (λ j. drop j l) (sym e) ∙ sym (drop-drop (b - (at + n)) (at + n) l) in
      ap (take k) (f written ∙ ap (drop (b - (at + n))) (drop-paste d at _ n (omega arith) enough) ∙ sym (f d))

  -- the part that grows by them
  pub part_grows : (b k : ℕ) → at ≡ b + k → part written b (k + n) ≡ part d b k ++ take n e
  unfolding part
  part_grows b k h =
      let l : length (take at d) ≡ at = length-take-le at d (omega arith) in
      let s : b + (k + n) ≡ at + n = omega arith in
      take_drop b (k + n) written
      ∙ ap (λ j. drop b (take j written)) s
      ∙ ap (drop b) (take-paste d at e n (omega arith) enough)
      ∙ drop-append-le b (take at d) (take n e) (omega arith)
      ∙ ap (λ j. drop b (take j d) ++ take n e) h
      ∙ ap (λ (x : Bytes). x ++ take n e) (sym (take_drop b k d))

  -- a part of them
  pub part_inside : (k : ℕ) → k ≤ n → part written at k ≡ take k e
  unfolding part
  part_inside k h =
      let l : length (take at d) ≡ at = length-take-le at d (omega arith) in
      let r : length (take n e) ≡ n = length-take-le n e enough in
      ap (take k) (
      drop-append-le at (take at d ++ take n e) (drop (at + n) d) (omega (arith, length-append (take at d) (take n e)))
      ∙ ap (λ (x : Bytes). x ++ drop (at + n) d) (drop_at (take at d) (take n e) at l))
      ∙ take-append-le k (take n e) (drop (at + n) d) (omega arith)
      ∙ take-take k n e h

pub part_length : (d : Bytes) (b k : ℕ) → b + k ≤ length d → length (part d b k) ≡ k
unfolding part
part_length d b k h = simp (length-take, length-drop) (omega arith)
