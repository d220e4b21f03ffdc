-- How many entries the lines make, and of what size.
use mathlib.Core.Path.{◌≡◌, refl, ap, ◌∙◌}
use mathlib.Core.Bool.{true}
use mathlib.Core.List.{List, [], ◌∷◌, map, flatten}
use Prim.Native.Nat.{ℕ, suc, ◌+◌, ◌*◌}
use lib.ListN.{length, length-map}
use Rattle.meaning.specs.Place.{two_bytes}
use Rattle.meaning.specs.Refusals.{all}
use Rattle.notation.specs.Lines.{Do, Select, Revise}
use Rattle.notation.specs.Built.{size, own, specifications, selections, revisions}
use Rattle.notation.specs.Making.{set_fits}
use Rattle.notation.proofs.MadeLists.{EntrySized, length_flatten, each_true}
use Rattle.notation.proofs.MadeDos.{sets_of, entry_length}

-- ---- how many

pub specifications_counted : (k : ℕ) (ds : List Do) → length (specifications k ds) ≡ length ds
unfolding specifications
specifications_counted k [] = refl
specifications_counted k (d ∷ ds) = ap suc (specifications_counted (k + size d.condition.tree) ds)

pub selections_counted : (k p : ℕ) (ss : List Select) → length (selections k p ss) ≡ length ss
unfolding selections
selections_counted k p [] = refl
selections_counted k p (s ∷ ss) = ap suc (selections_counted (k + size s.belief.tree + size s.goal.tree) (p + length s.plan) ss)

pub revisions_counted : (k p : ℕ) (rs : List Revise) → length (revisions k p rs) ≡ length rs
unfolding revisions
revisions_counted k p [] = refl
revisions_counted k p (r ∷ rs) = ap suc (revisions_counted (k + size r.condition.tree) (p + length r.head + length r.body) rs)

-- ---- of what size

pub weights_sized : (ws : List ℕ) → EntrySized 2 (map two_bytes ws)
weights_sized [] = tt
weights_sized (w ∷ ws) = (refl, weights_sized ws)

pub specifications_sized : (k : ℕ) (ds : List Do) → all set_fits (sets_of ds) ≡ true → EntrySized 36 (specifications k ds)
unfolding specifications flatten
specifications_sized k [] e = tt
specifications_sized k (d ∷ ds) e =
    let p : (set_fits d.add ≡ true) × (set_fits d.del ≡ true) × (all set_fits (sets_of ds) ≡ true) =
    each_true (set_fits d.add) (set_fits d.del) (all set_fits (sets_of ds)) e in
    (entry_length (own k d.condition.tree) d p.0 p.1, specifications_sized (k + size d.condition.tree) ds p.2)

pub selections_sized : (k p : ℕ) (ss : List Select) → EntrySized 8 (selections k p ss)
unfolding selections
selections_sized k p [] = tt
selections_sized k p (s ∷ ss) = (refl, selections_sized (k + size s.belief.tree + size s.goal.tree) (p + length s.plan) ss)

pub revisions_sized : (k p : ℕ) (rs : List Revise) → EntrySized 12 (revisions k p rs)
unfolding revisions
revisions_sized k p [] = tt
revisions_sized k p (r ∷ rs) = (refl, revisions_sized (k + size r.condition.tree) (p + length r.head + length r.body) rs)

-- ---- how many bytes

pub weights_length : (ws : List ℕ) → length (flatten (map two_bytes ws)) ≡ 2 * length ws
weights_length ws = length_flatten 2 (map two_bytes ws) (weights_sized ws) ∙ ap (λ n. 2 * n) (length-map ws two_bytes)

pub specifications_length : (k : ℕ) (ds : List Do) → all set_fits (sets_of ds) ≡ true → length (flatten (specifications k ds)) ≡ 36 * length ds
specifications_length k ds e =
    length_flatten 36 (specifications k ds) (specifications_sized k ds e) ∙ ap (λ n. 36 * n) (specifications_counted k ds)

pub selections_length : (k p : ℕ) (ss : List Select) → length (flatten (selections k p ss)) ≡ 8 * length ss
selections_length k p ss =
    length_flatten 8 (selections k p ss) (selections_sized k p ss) ∙ ap (λ n. 8 * n) (selections_counted k p ss)

pub revisions_length : (k p : ℕ) (rs : List Revise) → length (flatten (revisions k p rs)) ≡ 12 * length rs
revisions_length k p rs =
    length_flatten 12 (revisions k p rs) (revisions_sized k p rs) ∙ ap (λ n. 12 * n) (revisions_counted k p rs)
