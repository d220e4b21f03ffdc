-- An entry lies within its section, whatever its size.
use Prim.Native.Nat.{ℕ, suc, ◌+◌, ◌*◌, ◌≤◌, ◌<◌}
use native.Mathlib.Nat.{mul-le-mul_left, mul-suc}
use native.Mathlib.Omega.{arith}
use mathlib.Core.Path.{◌≡◌}
use Rattle.meaning.specs.declared.Section.{Section}
use Rattle.meaning.specs.Card.{entry_at}
use Rattle.meaning.specs.Refusals.{end_of}

pub entry_within : (size : ℕ) (s : Section) (i : ℕ) → i < s.count → entry_at size s i + size ≤ end_of size s
entry_within size s i h =
    let e : size * suc i ≤ size * s.count = mul-le-mul_left size h in
    let f : size * suc i ≡ size * i + size = mul-suc size i in
    omega arith
