-- What the atoms line and the action lines add to a card in the making.
use mathlib.Core.Path.{◌≡◌, refl}
use mathlib.Core.Bool.{true}
use mathlib.Core.List.{List, [], ◌∷◌, ◌++◌, map, flatten, append_assoc, append-nil}
use mathlib.Core.Option.{some}
use Prim.Native.Nat.{ℕ, ◌+◌, ◌*◌, ◌≤◌}
use native.Mathlib.Omega.{arith}
use lib.Dec.{leb}
use lib.ListN.{length, length-append}
use Rattle.paper.proofs.Relation.{both}
use Rattle.meaning.specs.Place.{two_bytes}
use Rattle.meaning.specs.Refusals.{all}
use Rattle.meaning.proofs.Every.{both_true}
use Rattle.notation.specs.Values.{atoms_said, action_said}
use Rattle.notation.specs.Making.{Sections, put_atoms, put_weights, item_in, items_in}
use Rattle.notation.proofs.MadeExactly.{Exactly, holds, exactly_as, exactly_if, exactly_when, and_then}
use Rattle.notation.proofs.MadeSections.{weight_in_lem, items_none}

-- ---- the atoms line

pub atoms_exactly : (n : ℕ) (m : Sections) → Exactly (leb n 65535 ≡ true) (put_atoms m n) (item_in (atoms_said n) (some m))
unfolding item_in
atoms_exactly n m =
    let one : Exactly (Unit {0}) (put_atoms m n) (some (put_atoms m n)) = holds tt refl in
    exactly_if (λ p. p.0) (λ p. (p, tt)) (exactly_when (leb n 65535) (λ _. one))

-- ---- the action lines

-- what the lines ask of a card that has j weights
pub record WeightsFit (j : ℕ) (ws : List ℕ) : Type 0 where
  pub numbers : all (λ w. leb w 65535) ws ≡ true
  pub entries : j + length ws ≤ 256

abbrev pub weights_made : List ℕ → Sections → Sections
weights_made ws m = put_weights m (m.weights ++ flatten (map two_bytes ws))

weights_fit : (j w : ℕ) (ws : List ℕ) → ((leb w 65535 ≡ true) × (j + 1 ≤ 256)) × WeightsFit (j + 1) ws → WeightsFit j (w ∷ ws)
weights_fit j w ws p = record {
  numbers = both_true (leb w 65535) (all (λ w. leb w 65535) ws) p.0.0 p.1.numbers;
  entries = omega (arith, p.1.entries);
}

weights_fit_each : (j w : ℕ) (ws : List ℕ) → WeightsFit j (w ∷ ws) → ((leb w 65535 ≡ true) × (j + 1 ≤ 256)) × WeightsFit (j + 1) ws
weights_fit_each j w ws p =
    let a : (leb w 65535 ≡ true) × (all (λ w. leb w 65535) ws ≡ true) = both (leb w 65535) (all (λ w. leb w 65535) ws) p.numbers in
    ((a.0, omega (arith, p.entries)), record { numbers = a.1; entries = omega (arith, p.entries) })

weights_put : (w : ℕ) (ws : List ℕ) (m : Sections) → weights_made ws (put_weights m (m.weights ++ two_bytes w)) ≡ weights_made (w ∷ ws) m
unfolding flatten
weights_put w ws m = simp append_assoc

pub weights_exactly : (ws : List ℕ) (j : ℕ) (m : Sections) → length m.weights ≡ 2 * j → j ≤ 256
    → Exactly (WeightsFit j ws) (weights_made ws m) (items_in (map action_said ws) (some m))
unfolding items_in item_in flatten
weights_exactly [] j m h u = holds (record { numbers = refl; entries = omega arith }) (rw (append-nil m.weights))
weights_exactly (w ∷ ws) j m h u =
    exactly_as (weights_put w ws m)
    (exactly_if (weights_fit j w ws) (weights_fit_each j w ws)
    (and_then (items_in (map action_said ws)) (items_none (map action_said ws))
    (exactly_when (leb w 65535) (λ _. weight_in_lem (two_bytes w) j m refl h))
    (λ p. weights_exactly ws (j + 1) (put_weights m (m.weights ++ two_bytes w))
    (rw (length-append m.weights (two_bytes w)) (omega (arith, h))) p.1)))
