-- Which refusals carry a number: that of a condition the node, that of a text the place, that of a sheet which it is.
use mathlib.Core.Path.{◌≡◌, refl}
use Prim.Native.Nat.{ℕ}
use Rattle.meaning.specs.declared.Refusal.{Refusal}
use Rattle.meaning.specs.Refusals.{carried}

pub data Carries : Refusal → Type 0 where
  nothing : {r : Refusal} → carried r ≡ 0 → Carries r
  a_node : {n : ℕ} → Carries (Refusal.Condition n)
  a_place : {p : ℕ} → Carries (Refusal.Text p)
  a_sheet : {k : ℕ} → Carries (Refusal.Sheet k)

pub carries : (r : Refusal) → Carries r
unfolding carried
carries (Refusal.Condition n) = a_node
carries Refusal.Short = nothing refl
carries Refusal.Mark = nothing refl
carries Refusal.Count = nothing refl
carries Refusal.Offsets = nothing refl
carries Refusal.Weight = nothing refl
carries Refusal.Node = nothing refl
carries Refusal.Rule = nothing refl
carries Refusal.ActionByte = nothing refl
carries Refusal.Atom = nothing refl
carries Refusal.Configuration = nothing refl
carries Refusal.NoRule = nothing refl
carries Refusal.Front = nothing refl
carries Refusal.PlanFull = nothing refl
carries Refusal.NoRoom = nothing refl
carries (Refusal.Text p) = a_place
carries Refusal.Nested = nothing refl
carries Refusal.Large = nothing refl
carries Refusal.Program = nothing refl
carries (Refusal.Sheet k) = a_sheet
carries Refusal.NoAction = nothing refl
carries Refusal.OpenOrHeavy = nothing refl
