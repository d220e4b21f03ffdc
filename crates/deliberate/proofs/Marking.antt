-- Which entries have a first move, by one pass over them.
use mathlib.Core.Path.{◌≡◌, refl, ap, ap₂, ◌∙◌, sym}
use mathlib.Core.Bool.{Bool, true, false, ◌||◌}
use mathlib.Core.List.{List, [], ◌∷◌, ◌++◌}
use mathlib.Core.Option.{Option, none, some}
use Prim.Native.Nat.{ℕ, ◌<◌}
use Rattle.std.specs.Prelude as Std
use Rattle.paper.specs.Atoms.{Atoms, ◌∈◌}
use Rattle.paper.specs.Language.{𝐁, Query, Agent, Config}
use Rattle.paper.specs.Transitions.{Choice}
use Rattle.paper.specs.Next.{is_some, enabled}
use Rattle.meaning.specs.declared.Layout.{Layout}
use Rattle.meaning.specs.declared.Configuration.{Configuration}
use Rattle.meaning.specs.Card.{Bytes, condition, conditions, agent_for}
use Rattle.meaning.specs.Refusals.{containing}
use Rattle.meaning.specs.Configurations.{state_of}
use Rattle.sets.proofs.Members.{passing_below}
use Rattle.door.specs.Asking.{chosen}
use Rattle.deliberation.specs.Programs.{not_empty_plan, holds, 𝒲}
use Rattle.deliberation.specs.Kinds.{EntryKind, Execute, Apply, Select, WhilePlan, WhileBelief, Then, Or, entry_kind}
use Rattle.deliberation.specs.FirstMove.{Move, by_choice, lowest_action, if_enabled, idles, followed_by, left_else_right}
use Rattle.deliberation.specs.Entries.{entry_of, entry_count, move_of, move_at}
use Rattle.deliberation.specs.Theorems.{EntryLaws, executes, applies, selects, while_plan, while_belief, does_both, does_one}
use Rattle.deliberation.proofs.Good.{move_at_lem}
use Rattle.program.specs.GoodProgram.{GoodProgram}
use Rattle.deliberate.specs.First.{movable_of, Movable}

pub at_some : (o : Option Choice) → Std.is_some (chosen o) ≡ is_some o
at_some none = refl
at_some (some k) = refl

-- ---- whether there is a move, by whether the parts have one

module _ {R : Type 0} where
  pub takes_some : (o : Option Choice) (r : R) → is_some (by_choice o r) ≡ is_some o
  takes_some none r = refl
  takes_some (some k) r = refl

  idles_some : (t : Bool) (r r' : R) → is_some (idles t r r') ≡ true
  idles_some true r r' = refl
  idles_some false r r' = refl

  pub followed_some : (f : R → R) (o : Option (Move R)) → is_some (followed_by f o) ≡ is_some o
  followed_some f none = refl
  followed_some f (some m) = refl

  either_some : (o u : Option (Move R)) → is_some (left_else_right o u) ≡ is_some o || is_some u
  either_some none u = refl
  either_some (some m) u = refl

named_some : (A : Agent) (s : Config) (k : Choice) → is_some (by_choice {R = List ℕ} (if_enabled A s k) []) ≡ enabled A s k
unfolding if_enabled
named_some A s k = go (enabled A s k) refl
  where
    go : (t : Bool) → enabled A s k ≡ t → is_some (by_choice {R = List ℕ} (if_enabled A s k) []) ≡ enabled A s k
    go true e = rw (e, if_enabled)
    go false e = rw (e, if_enabled)

module _ (A : Agent) (βs : List (Query 𝐁)) (s : Config) where
  some_of : (i : ℕ) (κ : EntryKind) (a b : ℕ) (q : ℕ → Option (Move (List ℕ))) → is_some (move_of A βs s i κ a b q) ≡ movable_of A s κ a b (λ j. is_some (q j))
  some_of i Execute a b q = takes_some (lowest_action A s) []
  some_of i Apply a b q = named_some A s (Choice.revise a)
  some_of i Select a b q = named_some A s (Choice.select a)
  some_of i WhilePlan a b q = idles_some (𝒲 not_empty_plan s) (b ∷ i ∷ []) []
  some_of i WhileBelief a b q = idles_some (𝒲 (holds (condition βs a)) s) (b ∷ i ∷ []) []
  some_of i Then a b q = followed_some (λ ns. ns ++ (b ∷ [])) (q a)
  some_of i Or a b q = either_some (q a) (q b)

  by_parts : {n m : ℕ} {C : ℕ → Type 0} {i a b : ℕ} {κ : EntryKind} (q q' : ℕ → Bool) → EntryLaws n m C i a b κ → ((j : ℕ) → j < i → q j ≡ q' j)
      → movable_of A s κ a b q ≡ movable_of A s κ a b q'
  by_parts q q' executes f = refl
  by_parts q q' (applies h) f = refl
  by_parts q q' (selects h) f = refl
  by_parts q q' (while_plan l) f = refl
  by_parts q q' (while_belief h l) f = refl
  by_parts {a = a} q q' (does_both h l) f = f a h
  by_parts {a = a} {b = b} q q' (does_one h l) f = ap₂ ◌||◌ (f a h) (f b l)

selected : {n m : ℕ} {C : ℕ → Type 0} {i a b : ℕ} → EntryLaws n m C i a b Select → a < m
selected (selects h) = h

-- both parts are lower
pub then_lower : {n m : ℕ} {C : ℕ → Type 0} {i a b : ℕ} → EntryLaws n m C i a b Then → (a < i) × (b < i)
then_lower (does_both f g) = (f, g)

pub or_lower : {n m : ℕ} {C : ℕ → Type 0} {i a b : ℕ} → EntryLaws n m C i a b Or → (a < i) × (b < i)
or_lower (does_one f g) = (f, g)

-- the set of the entries below n that have a first move, and whether entry n has one
module _ (l : Layout) (b p : Bytes) (c : Configuration) (n : ℕ) (movable : Atoms) (marked : Movable l b p c n movable) where
  abbrev has : ℕ → Bool
  has j = is_some (move_at l b p (state_of c).mental j)

  pub movable_next : GoodProgram l b p → n < entry_count p
      → movable_of (agent_for l b) (state_of c).mental (entry_kind (entry_of p n).kind) (entry_of p n).a (entry_of p n).b (λ j. j ∈ movable) ≡ has n
  movable_next good h =
      let A = agent_for l b in
      let βs = conditions 𝐁 l b in
      let s = (state_of c).mental in
      let x = entry_of p n in
      by_parts A βs s _ _ (good.entries n h).names (passing_below has n movable marked)
      ∙ sym (some_of A βs s n (entry_kind x.kind) x.a x.b (move_at l b p s))
      ∙ ap is_some (sym (move_at_lem (containing 2 l b) l p good.good n h A βs s))
