-- An entry's kind by its number and its name: what is known of the one follows for the other.
use Prim.Native.Nat.{ℕ, zero, suc, ◌≤◌, ◌<◌}
use native.Mathlib.Omega.{arith}
use Rattle.deliberation.specs.Kinds.{EntryKind, Execute, Apply, Select, WhilePlan, WhileBelief, Then, Or, entry_kind}
use Rattle.deliberation.specs.Theorems.{EntryLaws, executes, applies, selects, while_plan, while_belief, does_both, does_one}

-- the numbers of the kinds
pub data Named : ℕ → EntryKind → Type 0 where
  is_execute : Named 0 Execute
  is_apply : Named 1 Apply
  is_select : Named 2 Select
  is_while_plan : Named 3 WhilePlan
  is_while_belief : Named 4 WhileBelief
  is_then : Named 5 Then
  is_or : Named 6 Or

pub named : (k : ℕ) → k < 7 → Named k (entry_kind k)
named zero h = is_execute
named (suc zero) h = is_apply
named (suc (suc zero)) h = is_select
named (suc (suc (suc zero))) h = is_while_plan
named (suc (suc (suc (suc zero)))) h = is_while_belief
named (suc (suc (suc (suc (suc zero))))) h = is_then
named (suc (suc (suc (suc (suc (suc zero)))))) h = is_or
named (suc (suc (suc (suc (suc (suc (suc k))))))) h = absurd (omega arith)

-- ---- the law of an entry, by the number of its kind

-- from 3 on there is a second part
pub second_lower : {r s : ℕ} {C : ℕ → Type 0} {i a b k : ℕ} {κ : EntryKind} → Named k κ → 3 ≤ k → EntryLaws r s C i a b κ → b < i
second_lower is_execute h e = absurd (omega arith)
second_lower is_apply h e = absurd (omega arith)
second_lower is_select h e = absurd (omega arith)
second_lower is_while_plan h (while_plan l) = l
second_lower is_while_belief h (while_belief c l) = l
second_lower is_then h (does_both f l) = l
second_lower is_or h (does_one f l) = l

-- it follows from one that names fewer rules and conditions
pub entry_laws : {r s r' s' : ℕ} {C C' : ℕ → Type 0} {i a b : ℕ} {κ : EntryKind} → (a < r → a < r') → (a < s → a < s') → ((n : ℕ) → C n → C' n)
    → EntryLaws r s C i a b κ → EntryLaws r' s' C' i a b κ
entry_laws f g h executes = executes
entry_laws f g h (applies e) = applies (f e)
entry_laws f g h (selects e) = selects (g e)
entry_laws f g h (while_plan l) = while_plan l
entry_laws f g h (while_belief c l) = while_belief (h _ c) l
entry_laws f g h (does_both k l) = does_both k l
entry_laws f g h (does_one k l) = does_one k l
