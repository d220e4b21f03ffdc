-- The atoms below a number, as bytes and as members.
use mathlib.Core.Path.{◌≡◌, sym, ap, ◌∙◌}
use Prim.Native.Nat.{ℕ, ◌+◌, ◌-◌, ◌*◌, ◌%◌, ◌≤◌, ◌<◌, min}
use native.Mathlib.Nat.{zero-add}
use lib.Bits.{bit_and, bit_xor, and_mask, and_zero_r, xor_zero_r, xor_self}
use Rattle.paper.specs.Atoms.{Atoms, ◌∖◌}
use Rattle.paper.proofs.Sets.{at-∖, length-∖}
use native.Mathlib.Omega.{arith}
use lib.ListN.{length, get_or, drop, length-drop}
use lib.Seq.{get_or-drop, ext_get_or}
use Rattle.runs.proofs.Numbers.{made_at}
use Rattle.sets.specs.Sets.{low_bits, below}

pub at_below : (w n i : ℕ) → i < w → get_or (below w n) i 0 ≡ low_bits (n - 8 * i)
unfolding below
at_below w n i h = made_at (λ i. low_bits (n - 8 * i)) 0 w i 0 h ∙ ap (λ j. low_bits (n - 8 * j)) (zero-add i)

pub all_eight : (n : ℕ) → 8 ≤ n → 255 ≡ low_bits n
all_eight n h = let e : min n 8 ≡ 8 = omega arith in rw e

-- what a set has of the atoms at or above n: nothing in the bytes below n's own, and all of those behind it
module _ (w n : ℕ) (s : Atoms) (i : ℕ) (h : i < w) where
  pub none_below : get_or s i 0 < 256 → 8 * i + 8 ≤ n → get_or (s ∖ below w n) i 0 ≡ 0
  none_below b l =
      let x = get_or s i 0 in
      let m : x % 256 ≡ x = omega arith in
      let e : bit_and x 255 ≡ x = and_mask x 8 ∙ m in
      at-∖ s (below w n) i ∙ ap (λ m. bit_xor x (bit_and x m)) (at_below w n i h ∙ sym (all_eight (n - 8 * i) (omega arith))) ∙ ap (bit_xor x) e ∙ xor_self x

  pub all_behind : n ≤ 8 * i → get_or (s ∖ below w n) i 0 ≡ get_or s i 0
  all_behind l =
      let x = get_or s i 0 in
      let z : n - 8 * i ≡ 0 = omega arith in
      at-∖ s (below w n) i ∙ ap (λ m. bit_xor x (bit_and x m)) (at_below w n i h ∙ ap low_bits z) ∙ ap (bit_xor x) (and_zero_r x) ∙ xor_zero_r x

-- the bytes from the k-th on of what a set has at or above n, where n lies below them, are the set's own
pub drop_behind : (w n : ℕ) (s : Atoms) (k : ℕ) → length s ≡ w → n ≤ 8 * k → drop k (s ∖ below w n) ≡ drop k s
drop_behind w n s k e l =
    ext_get_or 0 (drop k (s ∖ below w n)) (drop k s) same at
  where
    same : length (drop k (s ∖ below w n)) ≡ length (drop k s)
    same = length-drop k (s ∖ below w n) ∙ ap (λ m. m - k) (length-∖ s (below w n)) ∙ sym (length-drop k s)

    at : (i : ℕ) → i < length (drop k (s ∖ below w n)) → get_or (drop k (s ∖ below w n)) i 0 ≡ get_or (drop k s) i 0
    at i h =
        let m = same ∙ length-drop k s in
        get_or-drop k (s ∖ below w n) i 0 ∙ all_behind w n s (k + i) (omega arith) (omega arith) ∙ sym (get_or-drop k s i 0)
