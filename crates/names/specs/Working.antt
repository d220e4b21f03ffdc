-- What the functions inside the crate rely on.
use Rattle.std.specs.Prelude.{ℕ, ◌+◌, ◌*◌, ◌≤◌, length}
use Rattle.meaning.specs.Card.{Bytes}
use Rattle.names.specs.Sheets.{offset_at}

-- a sheet of no bytes, or one whose offsets of an action's name are there and do not fall
abbrev pub Holds : Bytes → ℕ → Type 0
Holds s a = 1 ≤ length s → (2 * a + 6 ≤ length s) × (offset_at s a ≤ offset_at s (a + 1))

-- two sheets that hold an action's name
pub record SheetsReady (shed master : Bytes) (a : ℕ) : Type 0 where
  pub own : Holds shed a
  pub other : Holds master a
  pub small : a ≤ 256
