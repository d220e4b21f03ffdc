-- The codes of a set, written one after another over a lent list; and that they are those of the enabled choices.
use mathlib.Core.Path.{◌≡◌, refl, ap, ap₂, ◌∙◌, sym}
use mathlib.Core.Bool.{Bool, true, false}
use mathlib.Core.List.{List, [], ◌∷◌, ◌++◌, append_assoc}
use Prim.Native.Nat.{ℕ, suc, ◌+◌, ◌-◌, ◌*◌, ◌/◌, ◌%◌, ◌^◌, ◌≤◌, ◌<◌}
use native.Mathlib.Nat.{zero-add, zero-div}
use native.Mathlib.Omega.{arith}
use borrow.Author.Tests.{eq-eqb, ne_eqb}
use lib.ListN.{length, get_or, set, take, drop, length-append, take-append-drop, length-drop}
use lib.Seq.{take_at, drop_at, drop-drop, set_split, length-take-le}
use Rattle.paper.specs.Atoms.{Atoms, bit, ◌∈◌}
use Rattle.runs.specs.Order.{numbers}
use Rattle.runs.proofs.Listing.{keep_yes, keep_no}
use Rattle.runs.specs.Order.{enabled_codes}
use Rattle.meaning.specs.declared.Layout.{Layout}
use Rattle.meaning.specs.declared.Configuration.{Configuration}
use Rattle.meaning.specs.Card.{Bytes, layout, agent, agent_for}
use Rattle.meaning.specs.Configurations.{state_of}
use Rattle.layout.specs.GoodLayout.{GoodLayout}
use Rattle.layout.proofs.GoodLayout.{at_most_256}
use Rattle.listing.specs.Listed.{enabled_code, codes_of, codes_in, Gathered, over_from}
use Rattle.listing.proofs.Gathering.{codes_append, codes_none, gathered_all, gathered_many, all_codes}

-- ---- something written over a lent list from an entry on

module _ (at : ℕ) (xs d : List ℕ) (h : at + length xs ≤ length d) where
  abbrev front : List ℕ
  front = take at d ++ xs

  abbrev rest : List ℕ
  rest = drop (length xs) (drop at d)

  length_front : length front ≡ at + length xs
  length_front = length-append (take at d) xs ∙ ap (λ n. n + length xs) (length-take-le at d (omega arith))

  parts : over_from at xs d ≡ front ++ rest
  parts = sym (append_assoc (take at d) xs rest)

  over_length : length (over_from at xs d) ≡ length d
  over_length =
      let a = length-append front rest in
      let b = length_front in
      let c = length-drop (length xs) (drop at d) in
      let e = length-drop at d in
      ap length parts ∙ (omega arith)

  -- something more behind it
  over_more : (ys : List ℕ) → over_from (at + length xs) ys (over_from at xs d) ≡ over_from at (xs ++ ys) d
  over_more ys =
      let q : drop (length ys) rest ≡ drop (length (xs ++ ys)) (drop at d) = drop-drop (length ys) (length xs) (drop at d) ∙ ap (λ n. drop n (drop at d)) (sym (length-append xs ys)) in
      ap (over_from (at + length xs) ys) parts
      ∙ rw (take_at front rest (at + length xs) length_front, drop_at front rest (at + length xs) length_front, q) (
      append_assoc (take at d) xs (ys ++ drop (length (xs ++ ys)) (drop at d))
      ∙ ap (λ (zs : List ℕ). take at d ++ zs) (sym (append_assoc xs ys (drop (length (xs ++ ys)) (drop at d)))))

over-one : (j x : ℕ) (d : List ℕ) → j < length d → set d j x ≡ over_from j (x ∷ []) d
over-one j x d h =
    let e : j + 1 ≡ suc j = omega arith in
    set_split d j x h ∙ ap (λ (zs : List ℕ). take j d ++ x ∷ zs) (ap (λ n. drop n d) (sym e) ∙ sym (drop-drop 1 j d))

-- something is written from an entry on, and the next may go to j
pub record Wrote (at : ℕ) (xs d : List ℕ) (j : ℕ) (e : List ℕ) : Type 0 where
  pub next : j ≡ at + length xs
  pub left : e ≡ over_from at xs d
  pub long : length e ≡ length d

-- ---- the codes from k on that pass a test, of which there is room for n

module _ (t : ℕ → Bool) (k n at : ℕ) (d : List ℕ) (room : at + length (codes_of t k n) ≤ length d) where
  pub wrote_none : Wrote at (codes_of t k 0) d at d
  unfolding codes_of numbers
  wrote_none = record { next = omega arith; left = sym (take-append-drop at d); long = refl }

  module _ (m : ℕ) (j : ℕ) (e : List ℕ) (w : Wrote at (codes_of t k m) d j e) (p : ℕ) (h : m + p ≤ n) where
    more : length (codes_of t k m) + length (codes_of t (k + m) p) ≡ length (codes_of t k (m + p))
    more = sym (ap length (codes_append t k m p) ∙ length-append (codes_of t k m) (codes_of t (k + m) p))

    within : length (codes_of t k (m + p)) ≤ length (codes_of t k n)
    within =
        let q : m + p + (n - (m + p)) ≡ n = omega arith in
        let a = ap length (sym (ap (codes_of t k) q) ∙ codes_append t k (m + p) (n - (m + p))) in
        let b = length-append (codes_of t k (m + p)) (codes_of t (k + (m + p)) (n - (m + p))) in
        omega arith

    -- room for the next p
    pub part_room : j + length (codes_of t (k + m) p) ≤ length e
    part_room =
        let a = w.next in
        let b = w.long in
        let c = more in
        let f = within in
        omega arith

    -- the next p
    pub part-more : (j' : ℕ) (e' : List ℕ) → j' ≡ j + length (codes_of t (k + m) p) → e' ≡ over_from j (codes_of t (k + m) p) e → Wrote at (codes_of t k (m + p)) d j' e'
    part-more j' e' a b =
        let xs = codes_of t k m in
        let ys = codes_of t (k + m) p in
        let c = w.next in
        let f = more in
        let g = within in
        let over : e' ≡ over_from at (codes_of t k (m + p)) d =
        b ∙ ap₂ (λ i (zs : List ℕ). over_from i ys zs) c w.left ∙ over_more at xs d (omega arith) ys ∙ ap (λ (zs : List ℕ). over_from at zs d) (sym (codes_append t k m p)) in
        record { next = omega arith; left = over; long = ap length over ∙ over_length at (codes_of t k (m + p)) d (omega arith) }

    -- the next p, none of which passes
    pub part_none : codes_of t (k + m) p ≡ [] → Wrote at (codes_of t k (m + p)) d j e
    part_none q = part-more j e (let l = ap length q in omega arith) (sym (ap (λ (zs : List ℕ). over_from j zs e) q ∙ take-append-drop j e))

  -- one code more
  module _ (i j : ℕ) (e : List ℕ) (w : Wrote at (codes_of t k i) d j e) (h : i < n) where
    one : t (k + i) ≡ true → codes_of t (k + i) 1 ≡ (k + i) ∷ []
    unfolding codes_of numbers
    one q = keep_yes t (k + i) [] q

    pub one_room : t (k + i) ≡ true → j < length e
    one_room q = let r = part_room i j e w 1 (omega arith) in let l = ap length (one q) in omega arith

    pub one_yes : t (k + i) ≡ true → Wrote at (codes_of t k (i + 1)) d (j + 1) (set e j (k + i))
    one_yes q = part-more i j e w 1 (omega arith) (j + 1) (set e j (k + i)) (let l = ap length (one q) in omega arith) (over-one j (k + i) e (one_room q) ∙ ap (λ (zs : List ℕ). over_from j zs e) (sym (one q)))

    pub one_no : t (k + i) ≡ false → Wrote at (codes_of t k (i + 1)) d j e
    unfolding codes_of numbers
    one_no q = part_none i j e w 1 (omega arith) (keep_no t (k + i) [] q)

-- ---- the bits of a byte

in_byte : (s : Atoms) (b i : ℕ) → i < 8 → 8 * b + i ∈ s ≡ bit i (get_or s b 0)
unfolding ◌∈◌
in_byte s b i h =
    let d : (8 * b + i) / 8 ≡ b = omega arith in
    let m : (8 * b + i) % 8 ≡ i = omega arith in
    ap₂ (λ x y. bit x (get_or s y 0)) m d

-- by what the code asks
module _ (s : Atoms) (b i : ℕ) (h : i < 8) where
  pub bit_yes : get_or s b 0 / 2 ^ i % 2 ≡ 1 → 8 * b + i ∈ s ≡ true
  unfolding bit
  bit_yes e = in_byte s b i h ∙ eq-eqb (get_or s b 0 / 2 ^ i % 2) 1 e

  pub bit_no : (get_or s b 0 / 2 ^ i % 2 ≡ 1 → ⊥) → 8 * b + i ∈ s ≡ false
  unfolding bit
  bit_no e = in_byte s b i h ∙ ne_eqb (get_or s b 0 / 2 ^ i % 2) 1 e

pub byte_none : (s : Atoms) (b : ℕ) → get_or s b 0 ≡ 0 → codes_in s (8 * b) 8 ≡ []
unfolding bit
byte_none s b e = codes_none (λ c. c ∈ s) (8 * b) 8 (λ i h. in_byte s b i h ∙ rw (e, zero-div))

-- ---- one kind after another from the front, where there is room for all codes of a set

module _ (s : Atoms) (out : List ℕ) (room : length (codes_in s 0 768) ≤ length out) where
  abbrev pub Kinds : ℕ → ℕ → List ℕ → Type 0
  Kinds kind j e = Wrote 0 (codes_in s 0 (256 * kind)) out j e

  pub no_kind : Kinds 0 0 out
  no_kind = wrote_none (λ k. k ∈ s) 0 768 0 out (omega arith)

  module _ (kind : ℕ) (h : kind < 3) (j : ℕ) (e : List ℕ) (w : Kinds kind j e) where
    here : 0 + 256 * kind ≡ 256 * kind
    here = zero-add (256 * kind)

    pub kind_room : j + length (codes_in s (256 * kind) 256) ≤ length e
    kind_room = rw here at (part_room (λ k. k ∈ s) 0 768 0 out (omega arith) (256 * kind) j e w 256 (omega arith))

    pub kind_more : (j' : ℕ) (e' : List ℕ) → j' ≡ j + length (codes_in s (256 * kind) 256) → e' ≡ over_from j (codes_in s (256 * kind) 256) e → Kinds (kind + 1) j' e'
    kind_more j' e' a b =
        let n : 256 * kind + 256 ≡ 256 * (kind + 1) = omega arith in
        rw (← n) (part-more (λ k. k ∈ s) 0 768 0 out (omega arith) (256 * kind) j e w 256 (omega arith) j' e' (rw here a) (rw here b))

-- ---- what the list has

module _ (b : Bytes) (c : Configuration) (l : Layout) (says : l ≡ layout b) (good : GoodLayout l b) (s : Atoms) (n : ℕ) (g : Gathered (enabled_code l b c) 768 s n)
  where
    pub the_codes : codes_in s 0 768 ≡ enabled_codes (agent b) (state_of c).mental
    unfolding agent
    the_codes = gathered_all (enabled_code l b c) 768 s n g ∙ all_codes l b c (at_most_256 l b good) ∙ ap (λ (x : Layout). enabled_codes (agent_for x b) (state_of c).mental) says

    pub how_many_lem : n ≡ length (enabled_codes (agent b) (state_of c).mental)
    how_many_lem = gathered_many (enabled_code l b c) 768 s n g ∙ ap length the_codes
