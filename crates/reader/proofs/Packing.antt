-- Sections that are moved down, one behind the other.
use mathlib.Core.Path.{◌≡◌, refl, sym, ap, ap₂, ◌∙◌, subst}
use mathlib.Core.List.{◌++◌, flatten, append_assoc}
use Prim.Native.Nat.{ℕ, ◌+◌, ◌-◌, ◌*◌, ◌/◌, ◌≤◌}
use native.Mathlib.Omega.{arith}
use borrow.Rule.Slice.PartMut.{put_mid}
use lib.ListN.{length, take, drop, length-append, length-drop}
use lib.Seq.{paste, take-paste, drop-paste, length-paste, drop-drop, take-add, take_at, drop_at, take-append-add}
use Rattle.meaning.specs.Card.{Bytes, part}
use Rattle.meaning.proofs.Parts.{length_part}
use Rattle.notation.specs.Making.{header_of, card_of, sections_of}
use Rattle.lines.specs.declared.made.Made.{Made}
use Rattle.lines.specs.InPlace.{Bounded, sections_in}
use Rattle.reader.specs.Packed.{Packed, pool_on, revisions_on, selections_on, specifications_on, nodes_on, eight_numbers, header_in}

-- what is as it was from k on is so from any place behind k on
later : (d d' : Bytes) (k b : ℕ) → k ≤ b → drop k d' ≡ drop k d → drop b d' ≡ drop b d
later d d' k b h e =
    let f : k + (b - k) ≡ b = omega arith in
    ap (λ (x : ℕ). drop x d') (sym f) ∙ sym (drop-drop (b - k) k d') ∙ ap (drop (b - k)) e ∙ drop-drop (b - k) k d ∙ ap (λ (x : ℕ). drop x d) f

-- ---- a move: n bytes from b on, behind the first e
module _ (d d₁ : Bytes) (e b n : ℕ) (under : e ≤ b) (inside : b + n ≤ length d) (moved : d₁ ≡ paste d e (drop b d) n) where
  source : n ≤ length (drop b d)
  source = rw (length-drop b d) (omega arith)

  pub move_room : length d₁ ≡ length d
  move_room = ap length moved ∙ length-paste d e (drop b d) n (omega arith) source

  -- they stand behind what stood there
  pub move_front : take (e + n) d₁ ≡ take e d ++ part d b n
  unfolding part
  move_front = ap (take (e + n)) moved ∙ take-paste d e (drop b d) n (omega arith) source

  -- and what stands behind them is as it was
  pub move_behind : (k : ℕ) → b + n ≤ k → drop k d₁ ≡ drop k d
  move_behind k h = later d d₁ (e + n) k (omega arith) (ap (drop (e + n)) moved ∙ drop-paste d e (drop b d) n (omega arith) source)

  -- the last section
  pub pack_last : length d ≡ 24128 → Packed e (part d b n) d (e + n) d₁
  pack_last l = record {
    ends = ap (λ k. e + k) (sym (length_part d b n inside));
    fits = omega arith;
    room = move_room ∙ l;
    front = move_front;
  }

  -- a section, and those behind it
  pub pack_next : (s s₁ : Bytes) (r : ℕ) (d₂ : Bytes) → s₁ ≡ s → Packed (e + n) s₁ d₁ r d₂ → Packed e (part d b n ++ s) d r d₂
  pack_next s s₁ r d₂ same p =
      let l = length_part d b n inside in
      let m = length-append (part d b n) s in
      let f = ap length same in
      let g = p.ends in
      record {
        ends = omega arith;
        fits = p.fits;
        room = p.room;
        front = p.front ∙ ap₂ ◌++◌ move_front same ∙ append_assoc (take e d) (part d b n) s;
      }

-- ---- the sections from a place on are as they were, if the bytes from there on are
module _ (m : Made) (d d₁ : Bytes) where
  part_same : (b n : ℕ) → drop b d₁ ≡ drop b d → part d₁ b n ≡ part d b n
  unfolding part
  part_same b n e = ap (take n) e

  pub pool_same : drop 15936 d₁ ≡ drop 15936 d → pool_on m d₁ ≡ pool_on m d
  unfolding pool_on
  pool_same e = part_same 15936 m.pool e

  pub revisions_same : drop 12864 d₁ ≡ drop 12864 d → revisions_on m d₁ ≡ revisions_on m d
  unfolding revisions_on
  revisions_same e = ap₂ ◌++◌ (part_same 12864 (12 * m.revisions) e) (pool_same (later d d₁ 12864 15936 (omega arith) e))

  pub selections_same : drop 10816 d₁ ≡ drop 10816 d → selections_on m d₁ ≡ selections_on m d
  unfolding selections_on
  selections_same e = ap₂ ◌++◌ (part_same 10816 (8 * m.selections) e) (revisions_same (later d d₁ 10816 12864 (omega arith) e))

  pub specifications_same : drop 1600 d₁ ≡ drop 1600 d → specifications_on m d₁ ≡ specifications_on m d
  unfolding specifications_on
  specifications_same e = ap₂ ◌++◌ (part_same 1600 (36 * m.specifications) e) (selections_same (later d d₁ 1600 10816 (omega arith) e))

  pub nodes_same : drop 576 d₁ ≡ drop 576 d → nodes_on m d₁ ≡ nodes_on m d
  unfolding nodes_on
  nodes_same e = ap₂ ◌++◌ (part_same 576 (4 * m.nodes) e) (specifications_same (later d d₁ 576 1600 (omega arith) e))

-- ---- all sections, one behind the other
module _ (m : Made) (bounded : Bounded m) (d₀ d₁ d₂ d₃ d₄ d₅ : Bytes) (e₀ e₁ e₂ e₃ e₄ r : ℕ) (l₀ : length d₀ ≡ 24128) (low : e₀ ≤ 576)
    (q₁ : (e₁ ≡ e₀ + 4 * m.nodes) × (d₁ ≡ paste d₀ e₀ (drop 576 d₀) (4 * m.nodes)))
    (q₂ : (e₂ ≡ e₁ + 36 * m.specifications) × (d₂ ≡ paste d₁ e₁ (drop 1600 d₁) (36 * m.specifications)))
    (q₃ : (e₃ ≡ e₂ + 8 * m.selections) × (d₃ ≡ paste d₂ e₂ (drop 10816 d₂) (8 * m.selections)))
    (q₄ : (e₄ ≡ e₃ + 12 * m.revisions) × (d₄ ≡ paste d₃ e₃ (drop 12864 d₃) (12 * m.revisions)))
    (q₅ : (r ≡ e₄ + m.pool) × (d₅ ≡ paste d₄ e₄ (drop 15936 d₄) m.pool)) where
  ends₁ : e₁ ≤ 1600
  ends₁ = let b = bounded.nodes in let q = q₁.0 in omega arith

  ends₂ : e₂ ≤ 10816
  ends₂ = let b = bounded.specifications in let q = q₂.0 in let p = ends₁ in omega arith

  ends₃ : e₃ ≤ 12864
  ends₃ = let b = bounded.selections in let q = q₃.0 in let p = ends₂ in omega arith

  ends₄ : e₄ ≤ 15936
  ends₄ = let b = bounded.revisions in let q = q₄.0 in let p = ends₃ in omega arith

  room₁ : length d₁ ≡ 24128
  room₁ =
      let b = bounded.nodes in
      let l = l₀ in
      let u : e₀ ≤ 576 = low in
      move_room d₀ d₁ e₀ 576 (4 * m.nodes) u (omega arith) q₁.1 ∙ l

  room₂ : length d₂ ≡ 24128
  room₂ =
      let b = bounded.specifications in
      let l = room₁ in
      let u : e₁ ≤ 1600 = ends₁ in
      move_room d₁ d₂ e₁ 1600 (36 * m.specifications) u (omega arith) q₂.1 ∙ l

  room₃ : length d₃ ≡ 24128
  room₃ =
      let b = bounded.selections in
      let l = room₂ in
      let u : e₂ ≤ 10816 = ends₂ in
      move_room d₂ d₃ e₂ 10816 (8 * m.selections) u (omega arith) q₃.1 ∙ l

  room₄ : length d₄ ≡ 24128
  room₄ =
      let b = bounded.revisions in
      let l = room₃ in
      let u : e₃ ≤ 12864 = ends₃ in
      move_room d₃ d₄ e₃ 12864 (12 * m.revisions) u (omega arith) q₄.1 ∙ l

  packed₅ : Packed e₄ (pool_on m d₄) d₄ r d₅
  unfolding pool_on
  packed₅ =
      let b = bounded.pool in
      let l = room₄ in
      subst (λ x. Packed e₄ (part d₄ 15936 m.pool) d₄ x d₅) (sym q₅.0) (pack_last d₄ d₅ e₄ 15936 m.pool ends₄ (omega arith) q₅.1 l)

  packed₄ : Packed e₃ (revisions_on m d₃) d₃ r d₅
  unfolding revisions_on
  packed₄ =
      let b = bounded.revisions in
      let l = room₃ in
      let u : e₃ ≤ 12864 = ends₃ in
      let i : 12864 + 12 * m.revisions ≤ length d₃ = omega arith in
      pack_next d₃ d₄ e₃ 12864 (12 * m.revisions) u i q₄.1 (pool_on m d₃) (pool_on m d₄) r d₅
      (pool_same m d₃ d₄ (move_behind d₃ d₄ e₃ 12864 (12 * m.revisions) u i q₄.1 15936 (omega arith)))
      (subst (λ x. Packed x (pool_on m d₄) d₄ r d₅) q₄.0 packed₅)

  packed₃ : Packed e₂ (selections_on m d₂) d₂ r d₅
  unfolding selections_on
  packed₃ =
      let b = bounded.selections in
      let l = room₂ in
      let u : e₂ ≤ 10816 = ends₂ in
      let i : 10816 + 8 * m.selections ≤ length d₂ = omega arith in
      pack_next d₂ d₃ e₂ 10816 (8 * m.selections) u i q₃.1 (revisions_on m d₂) (revisions_on m d₃) r d₅
      (revisions_same m d₂ d₃ (move_behind d₂ d₃ e₂ 10816 (8 * m.selections) u i q₃.1 12864 (omega arith)))
      (subst (λ x. Packed x (revisions_on m d₃) d₃ r d₅) q₃.0 packed₄)

  packed₂ : Packed e₁ (specifications_on m d₁) d₁ r d₅
  unfolding specifications_on
  packed₂ =
      let b = bounded.specifications in
      let l = room₁ in
      let u : e₁ ≤ 1600 = ends₁ in
      let i : 1600 + 36 * m.specifications ≤ length d₁ = omega arith in
      pack_next d₁ d₂ e₁ 1600 (36 * m.specifications) u i q₂.1 (selections_on m d₁) (selections_on m d₂) r d₅
      (selections_same m d₁ d₂ (move_behind d₁ d₂ e₁ 1600 (36 * m.specifications) u i q₂.1 10816 (omega arith)))
      (subst (λ x. Packed x (selections_on m d₂) d₂ r d₅) q₂.0 packed₃)

  pub all_packed : Packed e₀ (nodes_on m d₀) d₀ r d₅
  unfolding nodes_on
  all_packed =
      let b = bounded.nodes in
      let l = l₀ in
      let u : e₀ ≤ 576 = low in
      let i : 576 + 4 * m.nodes ≤ length d₀ = omega arith in
      pack_next d₀ d₁ e₀ 576 (4 * m.nodes) u i q₁.1 (specifications_on m d₀) (specifications_on m d₁) r d₅
      (specifications_same m d₀ d₁ (move_behind d₀ d₁ e₀ 576 (4 * m.nodes) u i q₁.1 1600 (omega arith)))
      (subst (λ x. Packed x (specifications_on m d₁) d₁ r d₅) q₁.0 packed₂)

-- ---- the header, in two halves
both_halves : (d f g : Bytes) → length f ≡ 16 → put_mid 16 16 (f ++ drop 16 d) g ≡ f ++ g ++ drop 32 d
both_halves d f g lf =
    let b : drop 16 (drop 16 (f ++ drop 16 d)) ≡ drop 32 d = ap (drop 16) (drop_at f (drop 16 d) 16 lf) ∙ drop-drop 16 16 d in
    ap₂ (λ (x y : Bytes). x ++ (g ++ y)) (take_at f (drop 16 d) 16 lf) b ∙ sym (append_assoc f g (drop 32 d))

module _ (m : Made) (d f g : Bytes) where
  pub header_written : (let nodes = 64 + 2 * m.weights in
      let specifications = nodes + 4 * m.nodes in
      f ≡ eight_numbers 0x4133 1 m.atoms m.weights m.nodes nodes m.specifications specifications)
      → (let specifications = 64 + 2 * m.weights + 4 * m.nodes in
      let selections = specifications + 36 * m.specifications in
      let revisions = selections + 8 * m.selections in
      let pool = revisions + 12 * m.revisions in
      g ≡ eight_numbers m.selections selections m.revisions revisions m.pool pool m.start m.len)
      → put_mid 16 16 (f ++ drop 16 d) g ≡ header_in m ++ drop 32 d
  unfolding header_of flatten
  header_written hf hg = both_halves d f g (ap length hf) ∙ ap₂ (λ (x y : Bytes). x ++ y ++ drop 32 d) hf hg

-- ---- the whole card
module _ (m : Made) (bounded : Bounded m) (d d₁ : Bytes) (l : length d ≡ 24128) (h : d₁ ≡ header_in m ++ drop 32 d) where
  header_length : length (header_in m) ≡ 32
  unfolding header_of flatten
  header_length = refl

  pub written_room : length d₁ ≡ 24128
  written_room = ap length h ∙ length-append (header_in m) (drop 32 d) ∙ ap₂ ◌+◌ header_length (length-drop 32 d) ∙ omega arith

  behind_header : drop 32 d₁ ≡ drop 32 d
  behind_header = ap (drop 32) h ∙ drop_at (header_in m) (drop 32 d) 32 header_length

  -- the header, with the sets and the weights behind it
  written_front : take (64 + 2 * m.weights) d₁ ≡ header_in m ++ (part d 32 32 ++ part d 64 (2 * m.weights))
  unfolding part
  written_front =
      let n = 2 * m.weights in
      let e : 64 + n ≡ length (header_in m) + (32 + n) = omega (arith, header_length) in
      ap₂ take e h
      ∙ take-append-add (header_in m) (drop 32 d) (32 + n)
      ∙ ap (λ (x : Bytes). header_in m ++ x) (take-add 32 n (drop 32 d) ∙ ap (λ (x : Bytes). take 32 (drop 32 d) ++ take n x) (drop-drop 32 32 d))

  -- the counts of the header are those of the sections
  counted : header_in m ++ (part d 32 32 ++ (part d 64 (2 * m.weights) ++ nodes_on m d)) ≡ card_of (sections_in m d)
  unfolding card_of sections_of nodes_on specifications_on selections_on revisions_on pool_on
  counted =
      let w : m.weights ≡ length (part d 64 (2 * m.weights)) / 2 = omega (arith, length_part d 64 (2 * m.weights) (omega arith)) in
      let n : m.nodes ≡ length (part d 576 (4 * m.nodes)) / 4 = omega (arith, length_part d 576 (4 * m.nodes) (omega arith)) in
      let s : m.specifications ≡ length (part d 1600 (36 * m.specifications)) / 36 = omega (arith, length_part d 1600 (36 * m.specifications) (omega arith)) in
      let t : m.selections ≡ length (part d 10816 (8 * m.selections)) / 8 = omega (arith, length_part d 10816 (8 * m.selections) (omega arith)) in
      let r : m.revisions ≡ length (part d 12864 (12 * m.revisions)) / 12 = omega (arith, length_part d 12864 (12 * m.revisions) (omega arith)) in
      let p : m.pool ≡ length (part d 15936 m.pool) = sym (length_part d 15936 m.pool (omega arith)) in
      λ i. header_of m.atoms (w i) (n i) (s i) (t i) (r i) (p i) m.start m.len ++ (part d 32 32 ++ sections_of (sections_in m d))

  pub assembled_so : (r : ℕ) (d₂ : Bytes) → Packed (64 + 2 * m.weights) (nodes_on m d₁) d₁ r d₂ → take r d₂ ≡ card_of (sections_in m d)
  assembled_so r d₂ p =
      let n = part d 64 (2 * m.weights) in
      p.front
      ∙ ap₂ ◌++◌ written_front (nodes_same m d d₁ (later d d₁ 32 576 (omega arith) behind_header))
      ∙ append_assoc (header_in m) (part d 32 32 ++ n) (nodes_on m d)
      ∙ ap (λ (x : Bytes). header_in m ++ x) (append_assoc (part d 32 32) n (nodes_on m d))
      ∙ counted
