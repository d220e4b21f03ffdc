-- A card put together from its parts (01, "The card, edition 1").
use mathlib.Core.List.{List, [], ◌∷◌, ◌++◌, map, flatten}
use Rattle.std.specs.Prelude.{ℕ, ◌+◌, ◌*◌, length}
use Rattle.meaning.specs.Sizes.{edition1_set, header_bytes, specification_bytes}
use Rattle.meaning.specs.Card.{Bytes}
use Rattle.meaning.specs.Place.{two_bytes}

-- A card from its number of atoms, its weights, its entries as their bytes, its pool, its initial sets and where its initial plan
-- starts in the pool and how long it is: 01, "The card, edition 1": "counts and offsets in a header", "The sections follow the
-- weights in the header's order with no gap; the card ends with the pool."
unfoldable pub assembled : ℕ → List ℕ → List Bytes → List Bytes → List Bytes → List Bytes → Bytes → Bytes → Bytes → ℕ → ℕ → Bytes
assembled atoms weights nodes specifications selections revisions pool beliefs goals start len =
    let nodes_at : ℕ = header_bytes edition1_set + 2 * length weights in
    let specifications_at : ℕ = nodes_at + 4 * length nodes in
    let selections_at : ℕ = specifications_at + specification_bytes edition1_set * length specifications in
    let revisions_at : ℕ = selections_at + 8 * length selections in
    let pool_at : ℕ = revisions_at + 12 * length revisions in
    0x33 ∷ 0x41
    ∷ (flatten (map two_bytes (
    1 ∷ atoms ∷ length weights
    ∷ length nodes ∷ nodes_at ∷ length specifications ∷ specifications_at
    ∷ length selections ∷ selections_at ∷ length revisions ∷ revisions_at
    ∷ length pool ∷ pool_at ∷ start ∷ len ∷ []))
    ++ (beliefs ++ (goals ++ (flatten (map two_bytes weights)
    ++ (flatten nodes ++ (flatten specifications
    ++ (flatten selections ++ (flatten revisions ++ pool))))))))
