use mathlib.Core.Path.{◌≡◌, refl}
use mathlib.Core.Bool.{false}
use mathlib.Core.List.{List, [], ◌∷◌}
use Prim.Native.Nat.{ℕ}
use denote.Enum.Declared.{tag_of}
use types.Run.{OneOf, miss}
use Rattle.door.specs.declared.asked.Asked.{Asked}
use Rattle.door.specs.contracts.asked.Asked.{the_type}
use Rattle.listing.specs.Looking.{look_by}

abbrev others : List ℕ
others = 1 ∷ 2 ∷ 3 ∷ []

not_enabled : (a : Asked) → OneOf others (tag_of the_type a) → false ≡ (look_by a).enabled
not_enabled Asked.Enabled h = absurd (miss others 0 tt h)
not_enabled Asked.NoRule h = refl
not_enabled Asked.Front h = refl
not_enabled (Asked.Condition n) h = refl
