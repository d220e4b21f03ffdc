-- A set's bytes over zeros.
use mathlib.Core.Path.{◌≡◌, sym, ap, ◌∙◌}
use mathlib.Core.List.{◌++◌}
use Prim.Native.Nat.{ℕ, ◌+◌, ◌-◌, ◌≤◌}
use native.Mathlib.Nat.{zero-add}
use lib.ListN.{length, take, drop, replicate}
use lib.Seq.{paste}
use Rattle.meaning.specs.Card.{Bytes, part, widened}
use Rattle.std.proofs.lemmas.List.{drop-replicate}
use Rattle.meaning.proofs.Parts.{length_part}

-- n bytes over zeros
pub copy_set : (b : Bytes) (at n : ℕ) → at + n ≤ length b → paste (replicate 32 0) 0 (drop at b) n ≡ widened (part b at n)
unfolding part widened
copy_set b at n h =
    let e : 0 + n ≡ n = zero-add n in
    ap (λ k. take n (drop at b) ++ drop k (replicate 32 0)) e
    ∙ ap (λ (x : Bytes). take n (drop at b) ++ x) (drop-replicate n 32 0)
    ∙ ap (λ k. take n (drop at b) ++ replicate (32 - k) 0) (sym (length_part b at n h))
