-- Row 9 of a union of sets that stand beside each other, over any number of bytes: of Add and Del of all specifications.
use mathlib.Core.Path.{◌≡◌, refl, sym, ap, ap₂, ◌∙◌}
use mathlib.Core.Bool.{Bool, true, false, ◌&&◌, and_assoc, and-true}
use mathlib.Core.List.{List, [], ◌∷◌, map}
use Prim.Native.Nat.{ℕ, zero, suc, ◌+◌, ◌-◌, ◌*◌, ◌≤◌, ◌<◌}
use native.Mathlib.Numerals.{add-one}
use native.Mathlib.Nat.{sub-zero}
use native.Mathlib.Omega.{arith}
use lib.Bits.{bit_or}
use lib.ListN.{length, take, drop, replicate, length-replicate}
use lib.Seq.{ext_get_or}
use Rattle.paper.specs.Atoms.{Atoms, ◌∪◌}
use Rattle.paper.proofs.Sets.{none_in}
use Rattle.runs.specs.Order.{numbers}
use Rattle.meaning.specs.declared.Layout.{Layout}
use Rattle.meaning.specs.Sizes.{set_bytes, del_at, specification_bytes}
use Rattle.meaning.specs.Card.{Bytes, part, entry_at, specification_at, initial_beliefs, initial_goals}
use Rattle.meaning.specs.Refusals.{all, every, set_good, both_good, sets_good}
use Rattle.meaning.proofs.Parts.{length_part, part_at, part-part}
use Rattle.meaning.proofs.Every.{both_true}
use Rattle.meaning.proofs.Widening.{at_zeros}
use Rattle.meaning.proofs.KnownSets.{good_widened, good-∪, all_unknown}
use Rattle.layout.proofs.Joining.{∪-none}
use Rattle.card.specs.AddDel.{add_del_at, with_all, all_add_del}

-- ---- a union, part by part

take-∪ : (n : ℕ) (s t : Atoms) → take n (s ∪ t) ≡ take n s ∪ take n t
unfolding ◌∪◌
take-∪ zero s t = refl
take-∪ (suc n) [] t = refl
take-∪ (suc n) (x ∷ s) [] = refl
take-∪ (suc n) (x ∷ s) (y ∷ t) = ap (λ (r : Atoms). bit_or x y ∷ r) (take-∪ n s t)

drop-∪ : (n : ℕ) (s t : Atoms) → drop n (s ∪ t) ≡ drop n s ∪ drop n t
unfolding ◌∪◌
drop-∪ zero s t = refl
drop-∪ (suc n) [] t = refl
drop-∪ (suc n) (x ∷ s) [] = sym (∪-none (drop n s))
drop-∪ (suc n) (x ∷ s) (y ∷ t) = drop-∪ n s t

part-∪ : (s t : Atoms) (at n : ℕ) → part (s ∪ t) at n ≡ part s at n ∪ part t at n
unfolding part
part-∪ s t at n = ap (take n) (drop-∪ at s t) ∙ take-∪ n (drop at s) (drop at t)

-- ---- two sets of n bytes beside each other

and_swap : (a b c d : Bool) → (a && b) && (c && d) ≡ (a && c) && (b && d)
and_swap true true c d = refl
and_swap true false true d = refl
and_swap true false false d = refl
and_swap false b c d = refl

module _ (k n : ℕ) where
  -- row 9 of both, of k atoms
  abbrev beside_good : Bytes → Bool
  beside_good s = both_good k (part s 0 n) (part s n n)

  good_part : (s t : Atoms) (at : ℕ) → set_good k (part (s ∪ t) at n) ≡ (set_good k (part s at n) && set_good k (part t at n))
  good_part s t at = ap (set_good k) (part-∪ s t at n) ∙ good-∪ k (part s at n) (part t at n)

  good_beside : (s t : Atoms) → beside_good (s ∪ t) ≡ (beside_good s && beside_good t)
  good_beside s t =
      ap₂ ◌&&◌ (good_part s t 0) (good_part s t n)
      ∙ and_swap (set_good k (part s 0 n)) (set_good k (part t 0 n)) (set_good k (part s n n)) (set_good k (part t n n))

  -- of a set with the atoms of others, each by its number
  good_all : (f : ℕ → Atoms) (t : ℕ → Bool) → ((i : ℕ) → beside_good (f i) ≡ t i) → (s : Atoms) (is : List ℕ)
      → beside_good (with_all s (map f is)) ≡ (beside_good s && all t is)
  good_all f t e s [] = sym (and-true (beside_good s))
  good_all f t e s (i ∷ is) =
      good_all f t e (s ∪ f i) is
      ∙ ap (λ x. x && all t is) (good_beside s (f i) ∙ ap (λ x. beside_good s && x) (e i))
      ∙ and_assoc (beside_good s) (t i) (all t is)

  part_zeros : (m at : ℕ) → at + n ≤ m → part (replicate m 0) at n ≡ replicate n 0
  part_zeros m at h =
      let lm : length (replicate {A = ℕ} m 0) ≡ m = length-replicate m 0 in
      let lp : length (part (replicate m 0) at n) ≡ n = length_part (replicate m 0) at n (omega arith) in
      ext_get_or 0 (part (replicate m 0) at n) (replicate n 0) (lp ∙ sym (length-replicate n 0))
      (λ i l. part_at (replicate m 0) at n i (omega arith) ∙ at_zeros m (at + i) ∙ sym (at_zeros n i))

  zeros_good : beside_good (replicate (2 * n) 0) ≡ true
  zeros_good = both_true _ _ (known 0 (omega arith)) (known n (omega arith))
    where
      known : (at : ℕ) → at + n ≤ 2 * n → set_good k (part (replicate (2 * n) 0) at n) ≡ true
      known at h = ap (set_good k) (part_zeros (2 * n) at h) ∙ all_unknown k (replicate n 0) (λ a g. none_in n a)

module _ (l : Layout) (b : Bytes) where
  abbrev n : ℕ
  n = l.specifications.count

  abbrev w : ℕ
  w = set_bytes l

  -- ---- the loop: after i specifications, with what is left from specification i on, it is all

  abbrev pub Joined : Atoms → ℕ → Type 0
  Joined s i = with_all s (map (add_del_at l b) (numbers i (n - i))) ≡ all_add_del l b

  pub joined_start : Joined (replicate (2 * w) 0) 0
  unfolding all_add_del
  joined_start = rw sub-zero

  -- a turn, at offset p with m bytes
  pub joined_turn : (s r : Atoms) (i p m : ℕ) → i < n → p ≡ entry_at (specification_bytes w) l.specifications i → 2 * w ≡ m
      → r ≡ s ∪ part b (p + 4) m → Joined s i → Joined r (i + 1)
  unfolding numbers
  joined_turn s r i p m h e f g j =
      let k : n - i ≡ suc (n - (i + 1)) = omega arith in
      let t : with_all s (map (add_del_at l b) (numbers i (n - i))) ≡ with_all (s ∪ add_del_at l b i) (map (add_del_at l b) (numbers (i + 1) (n - (i + 1)))) = rw (k, add-one i) in
      ap (λ x. with_all x (map (add_del_at l b) (numbers (i + 1) (n - (i + 1))))) (g ∙ (λ z. s ∪ part b (e z + 4) (sym f z))) ∙ sym t ∙ j

  pub joined_all : (s : Atoms) (i : ℕ) → n ≤ i → Joined s i → s ≡ all_add_del l b
  unfolding numbers
  joined_all s i h e = let k : n - i ≡ 0 = omega arith in rw k at e

  -- ---- row 9

  -- of specification i
  good_entry : (k i : ℕ) → beside_good k w (add_del_at l b i) ≡ both_good k (specification_at l b i).add (specification_at l b i).del
  unfolding specification_at
  good_entry k i =
      let at = entry_at (specification_bytes w) l.specifications i in
      let d : at + 4 + 0 ≡ at + 4 = omega arith in
      let e : at + 4 + w ≡ at + del_at w = omega arith in
      ap₂ (both_good k) (part-part b (at + 4) (2 * w) 0 w (omega arith) ∙ ap (λ p. part b p w) d)
      (part-part b (at + 4) (2 * w) w w (omega arith) ∙ ap (λ p. part b p w) e)
      ∙ ap₂ ◌&&◌ (sym (good_widened k (part b (at + 4) w))) (sym (good_widened k (part b (at + del_at w) w)))

  -- of all sets
  good_sets : set_good l.atoms (initial_beliefs l b ∪ initial_goals l b ∪ part (all_add_del l b) 0 w ∪ part (all_add_del l b) w w) ≡ sets_good l b
  unfolding all_add_del sets_good
  good_sets =
      let k = l.atoms in
      let X = initial_beliefs l b in
      let Y = initial_goals l b in
      let A = part (all_add_del l b) 0 w in
      let D = part (all_add_del l b) w w in
      let t : ℕ → Bool = λ i. both_good k (specification_at l b i).add (specification_at l b i).del in
      good-∪ k (X ∪ Y ∪ A) D
      ∙ ap (λ x. x && set_good k D) (good-∪ k (X ∪ Y) A)
      ∙ and_assoc (set_good k (X ∪ Y)) (set_good k A) (set_good k D)
      ∙ ap₂ ◌&&◌ (good-∪ k X Y) (good_all k w (add_del_at l b) t (good_entry k) (replicate (2 * w) 0) (numbers 0 n) ∙ ap (λ x. x && every n t) (zeros_good k w))

  -- of a set that these have joined one by one, of m bytes each
  pub joined_good : (m : ℕ) (both s t r : Atoms) → w ≡ m → both ≡ all_add_del l b → s ≡ initial_beliefs l b ∪ initial_goals l b
      → t ≡ s ∪ part both 0 m → r ≡ t ∪ part both m m → set_good l.atoms r ≡ sets_good l b
  joined_good m both s t r e f g h k =
      ap (set_good l.atoms) (k ∙ (λ i. (h ∙ (λ j. g j ∪ part (f j) 0 (sym e j))) i ∪ part (f i) (sym e i) (sym e i))) ∙ good_sets
