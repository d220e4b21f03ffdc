-- The laws of bytes that move in place, and of plans with zeros after their end.
use mathlib.Core.Path.{◌≡◌, refl, sym, ap, ap₂, ◌∙◌}
use mathlib.Core.Bool.{Bool, true, false, ◌&&◌, and-false}
use mathlib.Core.List.{List, [], ◌∷◌, ◌++◌, append_assoc, append-nil}
use Prim.Native.Nat.{ℕ, zero, suc, ◌+◌, ◌-◌, ◌≤◌, ◌<◌}
use native.Mathlib.Nat.{sub-zero, zero-sub, suc-sub-suc, zero-add}
use native.Mathlib.Decide.{dec_lt}
use native.Mathlib.Omega.{arith}
use borrow.Author.Tests.{eqb-true, eq-eqb}
use lib.Bits.{bit_or, bit_xor, and_le_l, and_le_r, xor_add_and, or_zero_l, xor_self}
use lib.Dec.{eqb}
use lib.ListN.{drop_of_length-le, length, get_or, take, drop, replicate, length-append, length-take, length-drop, length-replicate, replicate-append-replicate}
use lib.Seq.{get_or-take, take-nil, take_at, drop_at, length-take-le, paste, take-paste, drop-paste, drop-drop}
use Rattle.paper.specs.Next.{is_prefix}
use Rattle.paper.proofs.Relation.{both, false≢true}
use Rattle.meaning.specs.Card.{part}
use Rattle.meaning.specs.Configurations.{padded}
use Rattle.meaning.specs.Refusals.{every}
use Rattle.meaning.proofs.Every.{both_true, same_truth, every_at, every_of}
use Rattle.meaning.proofs.Parts.{length_part, part_at}
use Rattle.sets.proofs.Zeros.{or-zero}
use Rattle.std.proofs.lemmas.List.{drop-replicate}
use Rattle.plans.specs.Plans.{Padded, shifted, same}

-- ---- bytes that are copied over others

drop_after : (d : List ℕ) (at : ℕ) (s : List ℕ) (n k : ℕ) → at + n ≤ k → at ≤ length d → n ≤ length s → drop k (paste d at s n) ≡ drop k d
drop_after d at s n k h hd hs =
    let e : at + n + (k - (at + n)) ≡ k = omega arith in
    ap (λ (x : ℕ). drop x (paste d at s n)) (sym e)
    ∙ sym (drop-drop (k - (at + n)) (at + n) (paste d at s n))
    ∙ ap (drop (k - (at + n))) (drop-paste d at s n hd hs)
    ∙ drop-drop (k - (at + n)) (at + n) d
    ∙ ap (λ (x : ℕ). drop x d) e

-- ---- zeros after the end

drop_zeros : (d : List ℕ) (len k : ℕ) → length d ≡ 1024 → Padded d len → len ≤ k → len ≤ 1024 → drop k d ≡ replicate (1024 - k) 0
unfolding padded
drop_zeros d len k ld z h hl =
    let l : length (take len d) ≡ len = length-take-le len d (omega arith) in
    let p = take len d in
    let e : k ≡ len + (k - len) = omega arith in
    let f : 1024 - length p - (k - len) ≡ 1024 - k = omega arith in
    ap (drop k) z
    ∙ ap (λ (x : ℕ). drop x (padded p)) e
    ∙ sym (drop-drop (k - len) len (padded p))
    ∙ ap (drop (k - len)) (drop_at p (replicate (1024 - length p) 0) len l)
    ∙ drop-replicate (k - len) (1024 - length p) 0
    ∙ ap (λ (x : ℕ). replicate x 0) f

pub length-padded : (p : List ℕ) → length p ≤ 1024 → length (padded p) ≡ 1024
unfolding padded
length-padded p h = simp (length-append, length-replicate) (omega arith)

drop-take : (m n : ℕ) (l : List ℕ) → drop m (take n l) ≡ take (n - m) (drop m l)
drop-take zero n l = rw sub-zero
drop-take (suc m) zero l = rw zero-sub
drop-take (suc m) (suc n) [] = sym (take-nil (suc n - suc m))
drop-take (suc m) (suc n) (x ∷ l) = rw (suc-sub-suc n m) (drop-take m n l)

-- a plan that has zeros after its end fills its room
pub length_zeroed : (d : List ℕ) (len : ℕ) → len ≤ 1024 → Padded d len → length d ≡ 1024
length_zeroed d len h z =
    let l : length (take len d) ≤ 1024 = rw (length-take len d) (omega arith) in
    ap length z ∙ length-padded (take len d) l

-- ---- what stands after the first h actions, moved to b
module _ (d : List ℕ) (len h b : ℕ) (hl : h ≤ len) (hr : len ≤ 1024) (room : b + (len - h) ≤ 1024) (z : Padded d len) where
  ld : length d ≡ 1024
  ld = length_zeroed d len hr z

  pub shifted_up : h ≤ b → paste d b (drop h d) (len - h) ≡ shifted d len h b
  unfolding part
  shifted_up lt = ap (λ (x : List ℕ). take b d ++ part d h (len - h) ++ x) (drop_zeros d len (b + (len - h)) ld z (omega (arith, ld)) hr)

  pub shifted_down : b ≤ h → (e : List ℕ) → e ≡ paste d b (drop h d) (len - h)
      → take (b + (len - h)) e ++ replicate (len - (b + (len - h))) 0 ++ drop len e ≡ shifted d len h b
  unfolding part
  shifted_down le e q =
      let n = len - h in
      let t : n ≤ length (drop h d) = rw (length-drop h d) (omega (arith, ld)) in
      let u : len - (b + n) + (1024 - len) ≡ 1024 - (b + n) = omega arith in
      let x = take b d ++ part d h n in
      rw (
        q,
        take-paste d b (drop h d) n (omega (arith, ld)) t,
        drop_after d b (drop h d) n len (omega (arith, ld)) (omega (arith, ld)) t,
        drop_zeros d len len ld z (omega (arith, ld)) hr,
        append_assoc x (replicate (len - (b + n)) 0) (replicate (1024 - len) 0),
        replicate-append-replicate {A = ℕ} (len - (b + n)) (1024 - len) 0,
        u,
      )

  -- with the body put before it
  pub replaced : (s : List ℕ) (start : ℕ) → start + b ≤ length s → (e : List ℕ) → e ≡ shifted d len h b
      → paste e 0 (drop start s) b ≡ padded (part s start b ++ drop h (take len d))
  unfolding part padded
  replaced s start hs e q =
      let n = len - h in
      let r : List ℕ = replicate (1024 - (b + n)) 0 in
      let body = part s start b in
      let lb : length body ≡ b = length_part s start b hs in
      let lt : length (part d h n) ≡ n = length_part d h n (omega (arith, ld)) in
      let l : length (body ++ part d h n) ≡ b + n = length-append body (part d h n) ∙ ap₂ ◌+◌ lb lt in
      let k : drop (0 + b) e ≡ part d h n ++ r =
      rw (zero-add b, q, append_assoc (take b d) (part d h n) r) (drop_at (take b d) (part d h n ++ r) b (length-take-le b d (omega (arith, ld)))) in
      ap (λ (y : List ℕ). body ++ y) k
      ∙ sym (append_assoc body (part d h n) r)
      ∙ ap (λ (y : ℕ). body ++ part d h n ++ replicate (1024 - y) 0) (sym l)
      ∙ ap (λ (y : List ℕ). padded (body ++ y)) (sym (drop-take h len d))

-- with the first k actions gone
pub dropped : (d : List ℕ) (len k : ℕ) → k ≤ len → len ≤ 1024 → Padded d len
    → shifted d len k 0 ≡ padded (drop k (take len d))
unfolding part padded
dropped d len k h hr z =
    let ld : length d ≡ 1024 = length_zeroed d len hr z in
    let l : length (part d k (len - k)) ≡ 0 + (len - k) = length_part d k (len - k) (omega arith) ∙ sym (zero-add (len - k)) in
    ap (λ (y : ℕ). part d k (len - k) ++ replicate (1024 - y) 0) (sym l) ∙ ap (padded) (sym (drop-take k len d))

-- n bytes over the front, and zeros behind them
pub filled : (d b : List ℕ) (start n : ℕ) → start + n ≤ length b → (d₁ : List ℕ) → d₁ ≡ paste d 0 (drop start b) n → length d₁ ≡ 1024
    → take n d₁ ++ replicate (1024 - n) 0 ++ drop 1024 d₁ ≡ padded (part b start n)
unfolding padded part
filled d b start n k d₁ e ld =
    let s = drop start b in
    let hs : n ≤ length s = rw (length-drop start b) (omega arith) in
    let lt : length (take n s) ≡ n = length-take-le n s hs in
    let t : take n d₁ ≡ take n s = ap (take n) e ∙ take_at (take n s) (drop (0 + n) d) n lt in
    let m : length d₁ ≤ 1024 = omega arith in
    let z : drop 1024 d₁ ≡ [] = drop_of_length-le d₁ m in
    rw (t, z, lt) (append-nil (take n s ++ replicate (1024 - n) 0))

-- ---- a head compared with a plan's front

-- nothing has differed and two bytes do not, exactly if the bits in which anything differs are none
xor-zero : (a b : ℕ) → bit_xor a b ≡ 0 → a ≡ b
xor-zero a b e =
    let s = xor_add_and a b in
    let l = and_le_l a b in
    let r = and_le_r a b in
    omega arith

pub differing_more : (d x y : ℕ) → eqb (bit_or d (bit_xor x y)) 0 ≡ eqb d 0 && eqb x y
differing_more d x y = same_truth _ _ there back
  where
    there : eqb (bit_or d (bit_xor x y)) 0 ≡ true → eqb d 0 && eqb x y ≡ true
    there e = let z = or-zero d (bit_xor x y) (eqb-true _ 0 e) in both_true _ _ (eq-eqb d 0 z.0) (eq-eqb x y (xor-zero x y z.1))

    back : eqb d 0 && eqb x y ≡ true → eqb (bit_or d (bit_xor x y)) 0 ≡ true
    back e =
        let b = both (eqb d 0) (eqb x y) e in
        eq-eqb _ 0 (ap₂ (λ (m n : ℕ). bit_or m (bit_xor n y)) (eqb-true d 0 b.0) (eqb-true x y b.1) ∙ or_zero_l (bit_xor y y) ∙ xor_self y)

-- every byte of a head is that of the plan, exactly if the head is a prefix
prefix_every : (h π : List ℕ) → length h ≤ length π → is_prefix h π ≡ true → (j : ℕ) → j < length h → get_or h j 0 ≡ get_or π j 0
prefix_every [] π l e j g = absurd (omega arith)
prefix_every (a ∷ h) [] l e j g = absurd (omega arith)
prefix_every (a ∷ h) (b ∷ π) l e zero g = eqb-true a b (both (eqb a b) (is_prefix h π) e).0
prefix_every (a ∷ h) (b ∷ π) l e (suc j) g = prefix_every h π (omega arith) (both (eqb a b) (is_prefix h π) e).1 j (omega arith)

every_prefix : (h π : List ℕ) → length h ≤ length π → ((j : ℕ) → j < length h → get_or h j 0 ≡ get_or π j 0) → is_prefix h π ≡ true
every_prefix [] π l e = refl
every_prefix (a ∷ h) [] l e = absurd (omega arith)
every_prefix (a ∷ h) (b ∷ π) l e = both_true (eqb a b) (is_prefix h π) (eq-eqb a b (e 0 (omega arith))) (every_prefix h π (omega arith) (λ j g. e (suc j) (omega arith)))

-- i bytes of c from s on are the first of d
abbrev pub Agree : List ℕ → List ℕ → ℕ → ℕ → Type 0
Agree c d s i = (j : ℕ) → j < i → get_or c (s + j) 0 ≡ get_or d j 0

-- a head of n bytes of c from s on, and a plan in the first len of d, compared by parts
module _ (c d : List ℕ) (s n len : ℕ) (whole : s + n ≤ length c) (long : n ≤ len) (room : len ≤ length d) where
  abbrev head : List ℕ
  head = part c s n

  abbrev plan : List ℕ
  plan = take len d

  head_length : length head ≡ n
  head_length = length_part c s n whole

  plan_length : length plan ≡ len
  plan_length = length-take-le len d room

  agree_all : Agree c d s n → is_prefix head plan ≡ true
  agree_all a =
      let h = head_length in
      let p = plan_length in
      every_prefix head plan (omega arith) (λ j g. part_at c s n j (omega arith) ∙ a j (omega arith) ∙ sym (get_or-take len d j 0 (omega arith)))

  all_agree : is_prefix head plan ≡ true → Agree c d s n
  all_agree e j g =
      let h = head_length in
      let p = plan_length in
      sym (part_at c s n j g) ∙ prefix_every head plan (omega arith) e j (omega arith) ∙ get_or-take len d j 0 (omega arith)

  pub agree-more : (at from m k : ℕ) → at ≡ s + from → from ≤ k → Agree c d s k → every m (same c at d from) ≡ true → Agree c d s (from + m)
  agree-more at from m k e l a b j g = elim (dec_lt j k) [
    | yes h ↦ a j h
    | no h ↦
        let x : get_or c (at + (j - from)) 0 ≡ get_or d (from + (j - from)) 0 = eqb-true _ _ (every_at (same c at d from) m (j - from) b (omega arith)) in
        let y : at + (j - from) ≡ s + j = omega arith in
        let z : from + (j - from) ≡ j = omega arith in
        rw (y, z) at x
  ]

  block_back : (at from m : ℕ) → at ≡ s + from → from + m ≤ n → is_prefix head plan ≡ true → every m (same c at d from) ≡ true
  block_back at from m e l p =
      every_of (same c at d from) m
      (λ j g. (let y : at + j ≡ s + (from + j) = omega arith in eq-eqb _ _ (ap (λ k. get_or c k 0) y ∙ all_agree p (from + j) (omega arith))))

  -- the last part, or the only one
  pub last_block : (at from m k : ℕ) → at ≡ s + from → from + m ≡ n → from ≤ k → Agree c d s k → (r : Bool) → r ≡ every m (same c at d from) → r ≡ is_prefix head plan
  last_block at from m k e f l a r b =
      same_truth r (is_prefix head plan)
      (λ t. agree_all (λ j g. agree-more at from m k e l a (sym b ∙ t) j (omega arith)))
      (λ t. b ∙ block_back at from m e (omega arith) t)

  pub block_differs : (at from m : ℕ) → at ≡ s + from → from + m ≤ n → (r : Bool) → r ≡ every m (same c at d from) → r ≡ false → false ≡ is_prefix head plan
  block_differs at from m e l r b t =
      same_truth false (is_prefix head plan) (λ x. absurd (false≢true x)) (λ p. sym t ∙ b ∙ block_back at from m e l p)

-- the first action alone
pub first_differs : (h π : List ℕ) → 1 ≤ length h → 1 ≤ length π → eqb (get_or h 0 0) (get_or π 0 0) ≡ false → is_prefix h π ≡ false
first_differs [] π l m e = absurd (omega arith)
first_differs (a ∷ h) [] l m e = absurd (omega arith)
first_differs (a ∷ h) (b ∷ π) l m e = rw e

-- a head longer than the plan
pub too_long : (h π : List ℕ) → length π < length h → is_prefix h π ≡ false
too_long [] π l = absurd (omega arith)
too_long (a ∷ h) [] l = refl
too_long (a ∷ h) (b ∷ π) l = ap (λ x. eqb a b && x) (too_long h π (omega arith)) ∙ and-false (eqb a b)
