-- What is read of a card where an entry stands is what is read of the entry.
use mathlib.Core.Path.{◌≡◌, refl, ap, ap₂, sym, ◌∙◌}
use mathlib.Core.List.{List, [], ◌∷◌, ◌++◌, map, flatten, append_assoc}
use Prim.Native.Nat.{ℕ, suc, ◌+◌, ◌*◌, ◌≤◌, ◌<◌}
use native.Mathlib.Nat.{mul-suc}
use native.Mathlib.Omega.{arith}
use lib.ListN.{length, drop, length-append, length-drop, get_or-append}
use lib.Seq.{get_or-append-add, drop-append-add, drop-append-le, take-append-le}
use Rattle.runs.specs.Order.{numbers}
use Rattle.meaning.specs.Card.{Bytes, byte, number_at, part}
use Rattle.notation.proofs.MadeLists.{EntrySized}

-- an entry stands at a place
pub record StandsAt (b : Bytes) (at : ℕ) (e : Bytes) : Type 0 where
  pub front : Bytes
  pub behind : Bytes
  pub whole : b ≡ front ++ (e ++ behind)
  pub there : length front ≡ at

module _ {b : Bytes} {at : ℕ} {e : Bytes} (s : StandsAt b at e) where
  pub byte_there : (j : ℕ) → j < length e → byte b (at + j) ≡ byte e j
  byte_there j g =
      rw (s.whole, ← s.there) (get_or-append-add s.front (e ++ s.behind) j 0 ∙ get_or-append e s.behind 0 j g)

  pub number_there : (j : ℕ) → j + 1 < length e → number_at b (at + j) ≡ number_at e j
  number_there j g =
      let next : at + j + 1 ≡ at + (j + 1) = omega arith in
      ap₂ (λ x y. x + 256 * y) (byte_there j (omega arith)) (ap (byte b) next ∙ byte_there (j + 1) g)

  pub part_there : (j n : ℕ) → j + n ≤ length e → part b (at + j) n ≡ part e j n
  unfolding part
  part_there j n g =
      let room : n ≤ length (drop j e) = rw (length-drop j e) (omega arith) in
      rw (s.whole, ← s.there, drop-append-add s.front (e ++ s.behind) j, drop-append-le j e s.behind (omega arith))
      (take-append-le n (drop j e) s.behind room)

-- of two that stand behind one another, the first and the second
pub stands_first : {b : Bytes} {at : ℕ} (x y : Bytes) → StandsAt b at (x ++ y) → StandsAt b at x
stands_first x y s = record {
  front = s.front;
  behind = y ++ s.behind;
  whole = s.whole ∙ ap (λ z. s.front ++ z) (append_assoc x y s.behind);
  there = s.there;
}

pub stands_second : {b : Bytes} {at : ℕ} (x y : Bytes) (n : ℕ) → length x ≡ n → StandsAt b at (x ++ y) → StandsAt b (at + n) y
stands_second x y n h s = record {
  front = s.front ++ x;
  behind = s.behind;
  whole = s.whole ∙ ap (λ z. s.front ++ z) (append_assoc x y s.behind) ∙ sym (append_assoc s.front x (y ++ s.behind));
  there = length-append s.front x ∙ ap₂ ◌+◌ s.there h;
}

-- ---- entries of one size, one behind the other

module _ {R : Type 0} (b : Bytes) (z offset : ℕ) (read : ℕ → R) (of : Bytes → R)
    (same : (at : ℕ) (e : Bytes) → StandsAt b at e → length e ≡ z → read at ≡ of e) where
  entries_on : (es : List Bytes) (i : ℕ) → EntrySized z es → StandsAt b (offset + z * i) (flatten es)
      → map (λ i. read (offset + z * i)) (numbers i (length es)) ≡ map of es
  unfolding numbers flatten
  entries_on [] i k s = refl
  entries_on (e ∷ es) i k s =
      let split : b ≡ s.front ++ (e ++ (flatten es ++ s.behind)) = s.whole ∙ ap (λ x. s.front ++ x) (append_assoc e (flatten es) s.behind) in
      let first : StandsAt b (offset + z * i) e = record { front = s.front; behind = flatten es ++ s.behind; whole = split; there = s.there } in
      let next : StandsAt b (offset + z * suc i) (flatten es) = record {
        front = s.front ++ e;
        behind = s.behind;
        whole = split ∙ sym (append_assoc s.front e (flatten es ++ s.behind));
        there = length-append s.front e ∙ rw mul-suc (omega (arith, s.there, k.0));
      } in
      ap₂ (λ x xs. x ∷ xs) (same (offset + z * i) e first k.0) (entries_on es (suc i) k.1 next)

  -- what is read of them by their numbers
  pub entries_read : (n : ℕ) (es : List Bytes) → length es ≡ n → EntrySized z es → StandsAt b offset (flatten es)
      → map (λ i. read (offset + z * i)) (numbers 0 n) ≡ map of es
  entries_read n es h k s =
      let first : StandsAt b (offset + z * 0) (flatten es) = record {
        front = s.front;
        behind = s.behind;
        whole = s.whole;
        there = s.there ∙ omega arith;
      } in
      rw (← h) (entries_on es 0 k first)
