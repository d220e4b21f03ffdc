-- What its header's rows leave of a place.
use Rattle.std.specs.Prelude.{◌≡◌, ◌+◌, ◌≤◌, length}
use Rattle.meaning.specs.declared.Layout.{Layout}
use Rattle.meaning.specs.Sizes.{set_bytes, plan_at}
use Rattle.meaning.specs.Card.{Bytes, number_at}

-- "Exactly 44 + L bytes", L at most 1,024, and a phase of at most 2
pub record Sized (l : Layout) (p : Bytes) : Type 0 where
  pub fits : number_at p 4 ≤ 1024
  pub phase : number_at p 8 ≤ 2
  pub ends : length p ≡ plan_at (set_bytes l) + number_at p 4
