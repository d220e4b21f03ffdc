-- The kinds of a program's entries, by name (02, Wish 6).
use Rattle.std.specs.Prelude.{[], ◌∷◌, ℕ, get_or}

-- 02, Wish 6: "0 execute, 1 apply a, 2 select a, 3 while the plan is not empty do b, 4 while belief condition a holds do b, 5 a
-- then b, 6 a or b"
pub data EntryKind : Type 0 where
  Execute Apply Select WhilePlan WhileBelief Then Or : EntryKind

-- The kind of a number. A kind that there is not is read as execute, and refused (entry_good).
abbrev pub entry_kind : ℕ → EntryKind
entry_kind k = get_or (Execute ∷ Apply ∷ Select ∷ WhilePlan ∷ WhileBelief ∷ Then ∷ Or ∷ []) k Execute
