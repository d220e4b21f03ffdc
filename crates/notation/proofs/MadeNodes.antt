-- The nodes of several trees, one behind the other.
use mathlib.Core.Path.{◌≡◌, refl, ap, ◌∙◌}
use mathlib.Core.List.{List, [], ◌∷◌, ◌++◌, flatten, append_assoc}
use Prim.Native.Nat.{ℕ, ◌+◌, ◌*◌}
use native.Mathlib.Nat.{add-zero, add_assoc}
use native.Mathlib.Omega.{arith}
use lib.ListN.{length, length-append}
use Rattle.meaning.specs.Trees.{Tree}
use Rattle.notation.specs.Built.{size, sizes, nodes_from, all_nodes}
use Rattle.notation.proofs.MadeLists.{EntrySized, sized_append, length_flatten}
use Rattle.notation.proofs.MadeTrees.{nodes_sized, nodes_counted}

pub sizes_append : (ts us : List Tree) → sizes (ts ++ us) ≡ sizes ts + sizes us
unfolding sizes
sizes_append [] us = omega arith
sizes_append (t ∷ ts) us = omega (arith, sizes_append ts us)

pub all_nodes_append : (k : ℕ) (ts us : List Tree) → all_nodes k (ts ++ us) ≡ all_nodes k ts ++ all_nodes (k + sizes ts) us
unfolding all_nodes sizes
all_nodes_append k [] us = rw (add-zero k)
all_nodes_append k (t ∷ ts) us =
    rw (all_nodes_append (k + size t) ts us, append_assoc, add_assoc)

pub all_nodes_sized : (k : ℕ) (ts : List Tree) → EntrySized 4 (all_nodes k ts)
unfolding all_nodes
all_nodes_sized k [] = tt
all_nodes_sized k (t ∷ ts) = sized_append 4 (nodes_from k t) (all_nodes (k + size t) ts) (nodes_sized k t) (all_nodes_sized (k + size t) ts)

pub all_nodes_counted : (k : ℕ) (ts : List Tree) → length (all_nodes k ts) ≡ sizes ts
unfolding all_nodes sizes
all_nodes_counted k [] = refl
all_nodes_counted k (t ∷ ts) = rw length-append (omega (arith, nodes_counted k t, all_nodes_counted (k + size t) ts))

pub all_nodes_length : (k : ℕ) (ts : List Tree) → length (flatten (all_nodes k ts)) ≡ 4 * sizes ts
all_nodes_length k ts = length_flatten 4 (all_nodes k ts) (all_nodes_sized k ts) ∙ ap (λ n. 4 * n) (all_nodes_counted k ts)
