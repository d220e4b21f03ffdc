-- What an entry adds to the card in the making: the section that it stands in grows, and the others stay.
use mathlib.Core.Path.{◌≡◌, refl, ap, ap₂, sym, ◌∙◌, subst}
use mathlib.Core.Bool.{Bool, true, false}
use mathlib.Core.List.{◌++◌}
use mathlib.Core.Option.{none, some}
use Prim.Native.Nat.{ℕ, ◌+◌, ◌*◌, ◌≤◌, ◌<◌}
use native.Mathlib.Nat.{mul-suc}
use native.Mathlib.Numerals.{add-one}
use native.Mathlib.Omega.{arith}
use borrow.Author.Tests.{le-leb, lt-leb}
use lib.ListN.{length}
use lib.Seq.{paste, length-paste, take_all}
use Rattle.paper.specs.Next.{if}
use Rattle.meaning.specs.Card.{Bytes, part}
use Rattle.notation.specs.Making.{bind, added, weight_in, specification_in, selection_in, revision_in, put_weights, put_specifications, put_selections}
use Rattle.notation.specs.Making.{put_revisions}
use Rattle.std.proofs.Common.{Some, None}
use Rattle.std.proofs.lemmas.Option.{none-some}
use Rattle.conditions.specs.Reads.{Count}
use Rattle.lines.specs.declared.made.Made.{Made}
use Rattle.lines.specs.InPlace.{sections_in, made_in}
use Rattle.lines.specs.Lines.{Change, Held, Puts, PutAt, count_in, too_large}
use Rattle.lines.proofs.Pasting.{part_before, part_behind, part_grows, part_length}

-- ---- a section of at most so many bytes

pub added_none : (room : ℕ) (e s : Bytes) → room < length s + length e → added room e s ≡ none
added_none room e s h = ap (λ b. if b (some (s ++ e)) none) (lt-leb (length s + length e) room h)

pub added_some : (room : ℕ) (e s : Bytes) → length s + length e ≤ room → added room e s ≡ some (s ++ e)
added_some room e s h = ap (λ b. if b (some (s ++ e)) none) (le-leb (length s + length e) room h)

-- an entry behind n others
pub grown : (d e : Bytes) (b size n : ℕ) → b + size * n + size ≤ length d → length e ≡ size
    → part (paste d (b + size * n) e size) b (size * (n + 1)) ≡ part d b (size * n) ++ e
grown d e b size n h l =
    let k : size * (n + 1) ≡ size * n + size = ap (λ j. size * j) (add-one n) ∙ mul-suc size n in
    ap (part (paste d (b + size * n) e size) b) k
    ∙ part_grows d e (b + size * n) size h (omega arith) b (size * n) refl
    ∙ ap (λ (x : Bytes). part d b (size * n) ++ x) (take_all size e (omega arith))

-- ---- what is made

module _ (m : Made) (d : Bytes) where
  pub made_large : m.large ≡ true → made_in m d ≡ none
  made_large l = ap (λ b. if b none (some (sections_in m d))) l

  pub made_some : m.large ≡ false → made_in m d ≡ some (sections_in m d)
  made_some l = ap (λ b. if b none (some (sections_in m d))) l

module _ (f : Change) (m : Made) (d : Bytes) (h : Held m d) where
  -- what is too large stays so
  pub stays_large : f none ≡ none → m.large ≡ true → Puts f m d m d
  stays_large z l = let e = made_large m d l in record { held = h; made = e ∙ sym z ∙ sym (ap f e) }

  -- and it becomes so
  pub becomes_large : f (made_in m d) ≡ none → Puts f m d (too_large m) d
  becomes_large z = let b = h.bounded in record {
    held = record {
      bounded = record {
        atoms = b.atoms;
        weights = b.weights;
        nodes = b.nodes;
        specifications = b.specifications;
        selections = b.selections;
        revisions = b.revisions;
        pool = b.pool;
        start = b.start;
      };
      room = h.room;
    };
    made = sym z;
  }

-- ---- an entry, by what was put

module _ (f : Change) (m : Made) (d : Bytes) (h : Held m d) (start size n : ℕ) (c : Count) (counted : c ≡ count_in m n) (e e' : Bytes) (same : e' ≡ e) (d' : Bytes) where
  pub put_none : f none ≡ none → (m.large ≡ false → n ≡ 256 → Puts f m d (too_large m) d) → PutAt d start c e' None d' → Puts f m d (too_large m) d'
  put_none gone full p = go m.large refl (subst (λ x. PutAt d start x e' None d') counted p)
    where
      go : (b : Bool) → m.large ≡ b → PutAt d start (if b None (Some n)) e' None d' → Puts f m d (too_large m) d'
      go true g q = subst (λ x. Puts f m d (too_large m) x) (sym q.1) (becomes_large f m d h (ap f (made_large m d g) ∙ gone))
      go false g q = subst (λ x. Puts f m d (too_large m) x) (sym q.1) (full g q.0)

  pub put_some : (W : ℕ → Made) → length e ≡ size → (m.large ≡ false → (n ≡ 256 → ⊥) → (x : Bytes) → x ≡ paste d (start + size * n) e size → Puts f m d (W (n + 1)) x)
      → (k : ℕ) → PutAt d start c e' (Some k) d' → Puts f m d (W k) d'
  put_some W l added k p = go m.large refl (subst (λ x. PutAt d start x e' (Some k) d') counted p)
    where
      go : (b : Bool) → m.large ≡ b → PutAt d start (if b None (Some n)) e' (Some k) d' → Puts f m d (W k) d'
      go true g q = absurd (none-some k (sym q.0))
      go false g q =
          subst (λ j. Puts f m d (W j) d') (sym q.1)
          (let less = q.0 in added g (omega arith) d' (q.2 ∙ ap₂ (λ x (y : Bytes). paste d (start + x * n) y x) (ap length same ∙ l) same))

-- ---- weights

module _ (e : Bytes) (m : Made) (d : Bytes) (h : Held m d) (l : length e ≡ 2) where
  pub weight_full : m.large ≡ false → m.weights ≡ 256 → Puts (weight_in e) m d (too_large m) d
  unfolding weight_in
  weight_full fits full =
      let r = h.room in
      let s : length (part d 64 (2 * m.weights)) ≡ 2 * m.weights = part_length d 64 (2 * m.weights) (omega arith) in
      becomes_large (weight_in e) m d h
      (ap (weight_in e) (made_some m d fits) ∙ ap (λ o. bind o (λ x. some (put_weights (sections_in m d) x))) (added_none 512 e (part d 64 (2 * m.weights)) (omega arith)))

  pub weight_added : m.large ≡ false → (m.weights ≡ 256 → ⊥) → (d' : Bytes) → d' ≡ paste d (64 + 2 * m.weights) e 2
      → Puts (weight_in e) m d (record { large = m.large; atoms = m.atoms; weights = m.weights + 1; nodes = m.nodes; specifications = m.specifications; selections = m.selections; revisions = m.revisions; pool = m.pool; start = m.start; len = m.len }) d'
  unfolding weight_in
  weight_added fits more d' w =
      let b = h.bounded in
      let r = h.room in
      let few = b.weights in
      let less : m.weights < 256 = omega arith in
      let inside : 64 + 2 * m.weights + 2 ≤ length d = omega arith in
      let enough : 2 ≤ length e = omega arith in
      let grew : part (paste d (64 + 2 * m.weights) e 2) 64 (2 * (m.weights + 1)) ≡ part d 64 (2 * m.weights) ++ e = grown d e 64 2 m.weights inside l in
      let long : length (part d 64 (2 * m.weights)) ≡ 2 * m.weights = part_length d 64 (2 * m.weights) (omega arith) in
      let m' : Made = record { large = m.large; atoms = m.atoms; weights = m.weights + 1; nodes = m.nodes; specifications = m.specifications; selections = m.selections; revisions = m.revisions; pool = m.pool; start = m.start; len = m.len } in
      record {
        held = record { bounded = record { atoms = b.atoms; weights = omega arith; nodes = b.nodes; specifications = b.specifications; selections = b.selections; revisions = b.revisions; pool = b.pool; start = b.start }; room = ap length w ∙ length-paste d (64 + 2 * m.weights) e 2 inside enough ∙ r };
        made =
            made_some m' d' fits
            ∙ ap (λ x. some (sections_in m' x)) w
            ∙ (λ i. some (record { atoms = m.atoms; weights = grew i; nodes = part_behind d e (64 + 2 * m.weights) 2 inside enough 576 (4 * m.nodes) (omega arith) i; specifications = part_behind d e (64 + 2 * m.weights) 2 inside enough 1600 (36 * m.specifications) (omega arith) i; selections = part_behind d e (64 + 2 * m.weights) 2 inside enough 10816 (8 * m.selections) (omega arith) i; revisions = part_behind d e (64 + 2 * m.weights) 2 inside enough 12864 (12 * m.revisions) (omega arith) i; pool = part_behind d e (64 + 2 * m.weights) 2 inside enough 15936 m.pool (omega arith) i; sets = part_before d e (64 + 2 * m.weights) 2 inside enough 32 32 (omega arith) i; start = m.start; len = m.len }))
            ∙ sym (ap (λ o. bind o (λ x. some (put_weights (sections_in m d) x))) (added_some 512 e (part d 64 (2 * m.weights)) (omega arith)))
            ∙ sym (ap (weight_in e) (made_some m d fits));
      }

-- ---- specifications

module _ (e : Bytes) (m : Made) (d : Bytes) (h : Held m d) (l : length e ≡ 36) where
  pub specification_full : m.large ≡ false → m.specifications ≡ 256 → Puts (specification_in e) m d (too_large m) d
  unfolding specification_in
  specification_full fits full =
      let r = h.room in
      let s : length (part d 1600 (36 * m.specifications)) ≡ 36 * m.specifications = part_length d 1600 (36 * m.specifications) (omega arith) in
      becomes_large (specification_in e) m d h
      (ap (specification_in e) (made_some m d fits) ∙ ap (λ o. bind o (λ x. some (put_specifications (sections_in m d) x))) (added_none 9216 e (part d 1600 (36 * m.specifications)) (omega arith)))

  pub specification_added : m.large ≡ false → (m.specifications ≡ 256 → ⊥) → (d' : Bytes) → d' ≡ paste d (1600 + 36 * m.specifications) e 36
      → Puts (specification_in e) m d (record { large = m.large; atoms = m.atoms; weights = m.weights; nodes = m.nodes; specifications = m.specifications + 1; selections = m.selections; revisions = m.revisions; pool = m.pool; start = m.start; len = m.len }) d'
  unfolding specification_in
  specification_added fits more d' w =
      let b = h.bounded in
      let r = h.room in
      let few = b.specifications in
      let less : m.specifications < 256 = omega arith in
      let inside : 1600 + 36 * m.specifications + 36 ≤ length d = omega arith in
      let enough : 36 ≤ length e = omega arith in
      let grew : part (paste d (1600 + 36 * m.specifications) e 36) 1600 (36 * (m.specifications + 1)) ≡ part d 1600 (36 * m.specifications) ++ e = grown d e 1600 36 m.specifications inside l in
      let long : length (part d 1600 (36 * m.specifications)) ≡ 36 * m.specifications = part_length d 1600 (36 * m.specifications) (omega arith) in
      let m' : Made = record { large = m.large; atoms = m.atoms; weights = m.weights; nodes = m.nodes; specifications = m.specifications + 1; selections = m.selections; revisions = m.revisions; pool = m.pool; start = m.start; len = m.len } in
      record {
        held = record { bounded = record { atoms = b.atoms; weights = b.weights; nodes = b.nodes; specifications = omega arith; selections = b.selections; revisions = b.revisions; pool = b.pool; start = b.start }; room = ap length w ∙ length-paste d (1600 + 36 * m.specifications) e 36 inside enough ∙ r };
        made =
            made_some m' d' fits
            ∙ ap (λ x. some (sections_in m' x)) w
            ∙ (λ i. some (record { atoms = m.atoms; weights = part_before d e (1600 + 36 * m.specifications) 36 inside enough 64 (2 * m.weights) (omega arith) i; nodes = part_before d e (1600 + 36 * m.specifications) 36 inside enough 576 (4 * m.nodes) (omega arith) i; specifications = grew i; selections = part_behind d e (1600 + 36 * m.specifications) 36 inside enough 10816 (8 * m.selections) (omega arith) i; revisions = part_behind d e (1600 + 36 * m.specifications) 36 inside enough 12864 (12 * m.revisions) (omega arith) i; pool = part_behind d e (1600 + 36 * m.specifications) 36 inside enough 15936 m.pool (omega arith) i; sets = part_before d e (1600 + 36 * m.specifications) 36 inside enough 32 32 (omega arith) i; start = m.start; len = m.len }))
            ∙ sym (ap (λ o. bind o (λ x. some (put_specifications (sections_in m d) x))) (added_some 9216 e (part d 1600 (36 * m.specifications)) (omega arith)))
            ∙ sym (ap (specification_in e) (made_some m d fits));
      }

-- ---- selections

module _ (e : Bytes) (m : Made) (d : Bytes) (h : Held m d) (l : length e ≡ 8) where
  pub selection_full : m.large ≡ false → m.selections ≡ 256 → Puts (selection_in e) m d (too_large m) d
  unfolding selection_in
  selection_full fits full =
      let r = h.room in
      let s : length (part d 10816 (8 * m.selections)) ≡ 8 * m.selections = part_length d 10816 (8 * m.selections) (omega arith) in
      becomes_large (selection_in e) m d h
      (ap (selection_in e) (made_some m d fits) ∙ ap (λ o. bind o (λ x. some (put_selections (sections_in m d) x))) (added_none 2048 e (part d 10816 (8 * m.selections)) (omega arith)))

  pub selection_added : m.large ≡ false → (m.selections ≡ 256 → ⊥) → (d' : Bytes) → d' ≡ paste d (10816 + 8 * m.selections) e 8
      → Puts (selection_in e) m d (record { large = m.large; atoms = m.atoms; weights = m.weights; nodes = m.nodes; specifications = m.specifications; selections = m.selections + 1; revisions = m.revisions; pool = m.pool; start = m.start; len = m.len }) d'
  unfolding selection_in
  selection_added fits more d' w =
      let b = h.bounded in
      let r = h.room in
      let few = b.selections in
      let less : m.selections < 256 = omega arith in
      let inside : 10816 + 8 * m.selections + 8 ≤ length d = omega arith in
      let enough : 8 ≤ length e = omega arith in
      let grew : part (paste d (10816 + 8 * m.selections) e 8) 10816 (8 * (m.selections + 1)) ≡ part d 10816 (8 * m.selections) ++ e = grown d e 10816 8 m.selections inside l in
      let long : length (part d 10816 (8 * m.selections)) ≡ 8 * m.selections = part_length d 10816 (8 * m.selections) (omega arith) in
      let m' : Made = record { large = m.large; atoms = m.atoms; weights = m.weights; nodes = m.nodes; specifications = m.specifications; selections = m.selections + 1; revisions = m.revisions; pool = m.pool; start = m.start; len = m.len } in
      record {
        held = record { bounded = record { atoms = b.atoms; weights = b.weights; nodes = b.nodes; specifications = b.specifications; selections = omega arith; revisions = b.revisions; pool = b.pool; start = b.start }; room = ap length w ∙ length-paste d (10816 + 8 * m.selections) e 8 inside enough ∙ r };
        made =
            made_some m' d' fits
            ∙ ap (λ x. some (sections_in m' x)) w
            ∙ (λ i. some (record { atoms = m.atoms; weights = part_before d e (10816 + 8 * m.selections) 8 inside enough 64 (2 * m.weights) (omega arith) i; nodes = part_before d e (10816 + 8 * m.selections) 8 inside enough 576 (4 * m.nodes) (omega arith) i; specifications = part_before d e (10816 + 8 * m.selections) 8 inside enough 1600 (36 * m.specifications) (omega arith) i; selections = grew i; revisions = part_behind d e (10816 + 8 * m.selections) 8 inside enough 12864 (12 * m.revisions) (omega arith) i; pool = part_behind d e (10816 + 8 * m.selections) 8 inside enough 15936 m.pool (omega arith) i; sets = part_before d e (10816 + 8 * m.selections) 8 inside enough 32 32 (omega arith) i; start = m.start; len = m.len }))
            ∙ sym (ap (λ o. bind o (λ x. some (put_selections (sections_in m d) x))) (added_some 2048 e (part d 10816 (8 * m.selections)) (omega arith)))
            ∙ sym (ap (selection_in e) (made_some m d fits));
      }

-- ---- revisions

module _ (e : Bytes) (m : Made) (d : Bytes) (h : Held m d) (l : length e ≡ 12) where
  pub revision_full : m.large ≡ false → m.revisions ≡ 256 → Puts (revision_in e) m d (too_large m) d
  unfolding revision_in
  revision_full fits full =
      let r = h.room in
      let s : length (part d 12864 (12 * m.revisions)) ≡ 12 * m.revisions = part_length d 12864 (12 * m.revisions) (omega arith) in
      becomes_large (revision_in e) m d h
      (ap (revision_in e) (made_some m d fits) ∙ ap (λ o. bind o (λ x. some (put_revisions (sections_in m d) x))) (added_none 3072 e (part d 12864 (12 * m.revisions)) (omega arith)))

  pub revision_added : m.large ≡ false → (m.revisions ≡ 256 → ⊥) → (d' : Bytes) → d' ≡ paste d (12864 + 12 * m.revisions) e 12
      → Puts (revision_in e) m d (record { large = m.large; atoms = m.atoms; weights = m.weights; nodes = m.nodes; specifications = m.specifications; selections = m.selections; revisions = m.revisions + 1; pool = m.pool; start = m.start; len = m.len }) d'
  unfolding revision_in
  revision_added fits more d' w =
      let b = h.bounded in
      let r = h.room in
      let few = b.revisions in
      let less : m.revisions < 256 = omega arith in
      let inside : 12864 + 12 * m.revisions + 12 ≤ length d = omega arith in
      let enough : 12 ≤ length e = omega arith in
      let grew : part (paste d (12864 + 12 * m.revisions) e 12) 12864 (12 * (m.revisions + 1)) ≡ part d 12864 (12 * m.revisions) ++ e = grown d e 12864 12 m.revisions inside l in
      let long : length (part d 12864 (12 * m.revisions)) ≡ 12 * m.revisions = part_length d 12864 (12 * m.revisions) (omega arith) in
      let m' : Made = record { large = m.large; atoms = m.atoms; weights = m.weights; nodes = m.nodes; specifications = m.specifications; selections = m.selections; revisions = m.revisions + 1; pool = m.pool; start = m.start; len = m.len } in
      record {
        held = record { bounded = record { atoms = b.atoms; weights = b.weights; nodes = b.nodes; specifications = b.specifications; selections = b.selections; revisions = omega arith; pool = b.pool; start = b.start }; room = ap length w ∙ length-paste d (12864 + 12 * m.revisions) e 12 inside enough ∙ r };
        made =
            made_some m' d' fits
            ∙ ap (λ x. some (sections_in m' x)) w
            ∙ (λ i. some (record { atoms = m.atoms; weights = part_before d e (12864 + 12 * m.revisions) 12 inside enough 64 (2 * m.weights) (omega arith) i; nodes = part_before d e (12864 + 12 * m.revisions) 12 inside enough 576 (4 * m.nodes) (omega arith) i; specifications = part_before d e (12864 + 12 * m.revisions) 12 inside enough 1600 (36 * m.specifications) (omega arith) i; selections = part_before d e (12864 + 12 * m.revisions) 12 inside enough 10816 (8 * m.selections) (omega arith) i; revisions = grew i; pool = part_behind d e (12864 + 12 * m.revisions) 12 inside enough 15936 m.pool (omega arith) i; sets = part_before d e (12864 + 12 * m.revisions) 12 inside enough 32 32 (omega arith) i; start = m.start; len = m.len }))
            ∙ sym (ap (λ o. bind o (λ x. some (put_revisions (sections_in m d) x))) (added_some 3072 e (part d 12864 (12 * m.revisions)) (omega arith)))
            ∙ sym (ap (revision_in e) (made_some m d fits));
      }
