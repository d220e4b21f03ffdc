-- A part of a card or place: its length, its bytes one by one, and its own parts.
use mathlib.Core.Path.{◌≡◌, refl, ap, ◌∙◌}
use mathlib.Core.List.{[], ◌∷◌}
use Prim.Native.Nat.{ℕ, zero, suc, ◌+◌, ◌≤◌, ◌<◌}
use native.Mathlib.Omega.{arith}
use lib.ListN.{length, get_or, take, drop, length-drop}
use lib.Seq.{get_or-take, get_or-drop, length-take-le, take-take, drop-drop}
use Rattle.meaning.specs.Card.{Bytes, byte, part}

pub length_part : (b : Bytes) (at n : ℕ) → at + n ≤ length b → length (part b at n) ≡ n
unfolding part
length_part b at n h = length-take-le n (drop at b) (rw (length-drop at b) (omega arith))

pub part_at : (b : Bytes) (at n i : ℕ) → i < n → get_or (part b at n) i 0 ≡ byte b (at + i)
unfolding part
part_at b at n i h = get_or-take n (drop at b) i 0 h ∙ get_or-drop at b i 0

-- a part of a part
take_within : (from n m : ℕ) (b : Bytes) → from + n ≤ m → take n (drop from (take m b)) ≡ take n (drop from b)
take_within zero n m b h = take-take n m b (omega arith)
take_within (suc from) n zero b h = absurd (omega arith)
take_within (suc from) n (suc m) [] h = refl
take_within (suc from) n (suc m) (x ∷ b) h = take_within from n m b (omega arith)

pub part-part : (b : Bytes) (at m from n : ℕ) → from + n ≤ m → part (part b at m) from n ≡ part b (at + from) n
unfolding part
part-part b at m from n h = take_within from n m (drop at b) h ∙ ap (take n) (drop-drop from at b)
