-- What is known of a card in the making by its counts, and the start.
use mathlib.Core.Path.{◌≡◌, refl, ap, sym, ◌∙◌, subst}
use mathlib.Core.Bool.{Bool, true, false}
use mathlib.Core.List.{[], ◌++◌}
use mathlib.Core.Option.{none, some}
use Prim.Native.Nat.{ℕ, ◌+◌, ◌-◌, ◌*◌, ◌/◌, ◌≤◌}
use native.Mathlib.Decide.{dec_le}
use native.Mathlib.Omega.{arith}
use borrow.Author.Tests.{le-leb, lt-leb}
use lib.Dec.{leb}
use lib.ListN.{length, take}
use lib.Seq.{paste, length-paste, take_all}
use Rattle.paper.specs.Next.{if}
use Rattle.meaning.specs.Card.{Bytes, part}
use Rattle.notation.specs.Making.{bind, when, last_node, made_nodes, pool_size, put_atoms}
use Rattle.conditions.specs.Reads.{capped, last_of}
use Rattle.std.proofs.Common.{Some, None}
use Rattle.lines.specs.declared.made.Made.{Made}
use Rattle.lines.specs.InPlace.{sections_in, made_in}
use Rattle.lines.specs.Lines.{Change, Held, Puts, too_large, last_in, pool_in, atoms_are, with_atoms, start_in}
use Rattle.lines.proofs.Pasting.{part_behind, part_grows, part_length}
use Rattle.lines.proofs.Sections.{made_some, stays_large, becomes_large}
use Rattle.lines.proofs.Placing.{if_yes, if_no}

-- ---- the last node and the pool

module _ (m : Made) (d : Bytes) (h : Held m d) where
  pub made_last : last_node (made_nodes (made_in m d)) ≡ last_in m
  made_last = go m.large
    where
      go : (b : Bool) → last_node (made_nodes (if b none (some (sections_in m d)))) ≡ last_of (if b None (Some m.nodes))
      go true = refl
      go false =
          let r = h.room in
          let few = h.bounded.nodes in
          let l = part_length d 576 (4 * m.nodes) (omega arith) in
          let e : length (part d 576 (4 * m.nodes)) / 4 - 1 ≡ m.nodes - 1 = omega arith in
          e

  pub made_pool : pool_size (made_in m d) ≡ pool_in m
  made_pool = go m.large
    where
      go : (b : Bool) → pool_size (if b none (some (sections_in m d))) ≡ if b 0 m.pool
      go true = refl
      go false = (let r = h.room in let few = h.bounded.pool in part_length d 15936 m.pool (omega arith))

  pub pool_in_le : pool_in m ≤ 8192
  pool_in_le = go m.large
    where
      go : (b : Bool) → if b 0 m.pool ≤ 8192
      go true = omega arith
      go false = h.bounded.pool

-- ---- the atoms

-- a number that is 65,536 where it is greater
pub atoms_capped : (m : Made) (n : ℕ) → with_atoms m (capped n) ≡ with_atoms m n
atoms_capped m n = elim (dec_le n 65535) [
  | yes l ↦ (let e : capped n ≡ n = omega arith in ap (with_atoms m) e)
  | no l ↦
      if_no (leb (capped n) 65535) (atoms_are m (capped n)) (too_large m) (lt-leb (capped n) 65535 (omega arith))
      ∙ sym (if_no (leb n 65535) (atoms_are m n) (too_large m) (lt-leb n 65535 (omega arith)))
]

-- what an atoms line makes
abbrev pub atoms_in : ℕ → Change
atoms_in n o = when (leb n 65535) (bind o (λ s. some (put_atoms s n)))

pub atoms_put : (m : Made) (d : Bytes) (n : ℕ) → Held m d → Puts (atoms_in n) m d (with_atoms m n) d
atoms_put m d n h = elim (dec_le n 65535) [
  | yes l ↦ subst (λ x. Puts (atoms_in n) m d x d) (sym (if_yes (leb n 65535) (atoms_are m n) (too_large m) (le-leb n 65535 l))) (record {
    held = record {
      bounded = record {
        atoms = l;
        weights = h.bounded.weights;
        nodes = h.bounded.nodes;
        specifications = h.bounded.specifications;
        selections = h.bounded.selections;
        revisions = h.bounded.revisions;
        pool = h.bounded.pool;
        start = h.bounded.start;
      };
      room = h.room;
    };
    made = go m.large ∙ sym (if_yes (leb n 65535) (bind (made_in m d) (λ s. some (put_atoms s n))) none (le-leb n 65535 l));
  })
  | no l ↦
      (let many : leb n 65535 ≡ false = lt-leb n 65535 (omega arith) in
      subst (λ x. Puts (atoms_in n) m d x d) (sym (if_no (leb n 65535) (atoms_are m n) (too_large m) many))
      (becomes_large (atoms_in n) m d h (if_no (leb n 65535) (bind (made_in m d) (λ s. some (put_atoms s n))) none many)))
]
  where
    go : (b : Bool) → if b none (some (sections_in (atoms_are m n) d)) ≡ bind (if b none (some (sections_in m d))) (λ s. some (put_atoms s n))
    go true = refl
    go false = refl

-- ---- the start

pub part_none : (d : Bytes) (b : ℕ) → part d b 0 ≡ []
unfolding part
part_none d b = refl

module _ (m : Made) (d : Bytes) (h : Held m d) (b g : Bytes) (start len : ℕ) (lb : length b ≡ 16) (lg : length g ≡ 16) where
  pub start_large : m.large ≡ true → Puts (start_in (b ++ g) start len) m d m d
  start_large = stays_large (start_in (b ++ g) start len) m d h refl

  pub start_put : start + len ≤ 8192 → m.large ≡ false → (d₁ d₂ : Bytes) → d₁ ≡ paste d 32 b 16 → d₂ ≡ paste d₁ 48 g 16
      → Puts (start_in (b ++ g) start len) m d (record {
        large = m.large;
        atoms = m.atoms;
        weights = m.weights;
        nodes = m.nodes;
        specifications = m.specifications;
        selections = m.selections;
        revisions = m.revisions;
        pool = m.pool;
        start = start;
        len = len;
      }) d₂
  start_put fits no-large d₁ d₂ e₁ e₂ =
      let r = h.room in
      let in₁ : 32 + 16 ≤ length d = omega arith in
      let on₁ : 16 ≤ length b = omega arith in
      let r₁ : length d₁ ≡ 24128 = ap length e₁ ∙ length-paste d 32 b 16 in₁ on₁ ∙ r in
      let in₂ : 48 + 16 ≤ length d₁ = omega arith in
      let on₂ : 16 ≤ length g = omega arith in
      let m' : Made = record {
        large = m.large;
        atoms = m.atoms;
        weights = m.weights;
        nodes = m.nodes;
        specifications = m.specifications;
        selections = m.selections;
        revisions = m.revisions;
        pool = m.pool;
        start = start;
        len = len;
      } in
      let kept : (at n : ℕ) → 64 ≤ at → part d₂ at n ≡ part d at n =
      λ at n l. ap (λ (x : Bytes). part x at n) e₂ ∙ part_behind d₁ g 48 16 in₂ on₂ at n l ∙ ap (λ (x : Bytes). part x at n) e₁ ∙ part_behind d b 32 16 in₁ on₁ at n (omega arith) in
      let first : part d₁ 32 16 ≡ b = ap (λ (x : Bytes). part x 32 16) e₁ ∙ part_grows d b 32 16 in₁ on₁ 32 0 refl ∙ ap (λ (x : Bytes). x ++ take 16 b) (part_none d 32) ∙ take_all 16 b (omega arith) in
      let both : part d₂ 32 32 ≡ b ++ g =
      ap (λ (x : Bytes). part x 32 32) e₂ ∙ part_grows d₁ g 48 16 in₂ on₂ 32 16 refl ∙ (λ i. first i ++ take_all 16 g (omega arith) i) in
      record {
        held = record {
          bounded = record {
            atoms = h.bounded.atoms;
            weights = h.bounded.weights;
            nodes = h.bounded.nodes;
            specifications = h.bounded.specifications;
            selections = h.bounded.selections;
            revisions = h.bounded.revisions;
            pool = h.bounded.pool;
            start = fits;
          };
          room = ap length e₂ ∙ length-paste d₁ 48 g 16 in₂ on₂ ∙ r₁;
        };
        made =
            made_some m' d₂ no-large
            ∙ (λ i. some (record {
              atoms = m.atoms;
              weights = kept 64 (2 * m.weights) (omega arith) i;
              nodes = kept 576 (4 * m.nodes) (omega arith) i;
              specifications = kept 1600 (36 * m.specifications) (omega arith) i;
              selections = kept 10816 (8 * m.selections) (omega arith) i;
              revisions = kept 12864 (12 * m.revisions) (omega arith) i;
              pool = kept 15936 m.pool (omega arith) i;
              sets = both i;
              start = start;
              len = len;
            }))
            ∙ sym (ap (start_in (b ++ g) start len) (made_some m d no-large));
      }
