-- A choice as the code tells it, and back.
use mathlib.Core.Path.{◌≡◌, refl, ap, ◌∙◌, sym}
use mathlib.Core.Option.{Option, some, none}
use Prim.Native.Nat.{ℕ, zero, suc, ◌+◌, ◌*◌, ◌-◌, ◌/◌, ◌%◌, ◌<◌}
use native.Mathlib.Omega.{arith}
use Rattle.std.specs.Prelude as Std
use Rattle.std.specs.Prelude.{Some, None}
use Rattle.paper.specs.Transitions.{Choice, select, act, revise}
use Rattle.runs.specs.declared.Kind.{Kind}
use Rattle.runs.specs.Kinds.{kind_number}
use Rattle.runs.specs.Order as Order
use Rattle.door.specs.declared.asked.Choice as Told
use Rattle.meaning.specs.Calls as Calls
use Rattle.meaning.specs.Calls.{choice}
use Rattle.door.specs.Asking.{choice_at, choice_of, told, chosen}

abbrev pub Chosen : Type 0
Chosen = Std.Option Told.Choice

pub kind_lt : (κ : Kind) → kind_number κ < 3
kind_lt Kind.Selection = omega arith
kind_lt Kind.Action = omega arith
kind_lt Kind.Revision = omega arith

pub told_at : (κ : Kind) (n : ℕ) → told (choice_at (kind_number κ) n) ≡ record { kind = κ; number = n }
told_at Kind.Selection n = refl
told_at Kind.Action n = refl
told_at Kind.Revision n = refl

-- a choice that was told is the choice
pub told_back : (k : Choice) → choice_of (told k) ≡ k
told_back (select n) = refl
told_back (act n) = refl
told_back (revise n) = refl

pub choice_back : (k : Choice) (t : Told.Choice) → told k ≡ t → choice_of t ≡ k
choice_back k t e = ap choice_of (sym e) ∙ told_back k

-- the choice that was told of one that there may be, and none
pub told_some : (o : Option Choice) (t : Told.Choice) → Some t ≡ chosen o → o ≡ some (choice_of t)
told_some none t e = absurd (let z : ◌≡◌ {A = ℕ} 0 1 = cc in omega arith)
told_some (some k) t e = let u : told k ≡ t = cc in ap some (sym (choice_back k t u))

pub told_none : (o : Option Choice) → None ≡ chosen o → o ≡ none
told_none none e = refl
told_none (some k) e = absurd (let z : ◌≡◌ {A = ℕ} 0 1 = cc in omega arith)

-- its kind by its number
pub told_kind : (k : Choice) → kind_number (told k).kind ≡ Order.kind k
unfolding Order.kind
told_kind (select n) = refl
told_kind (act n) = refl
told_kind (revise n) = refl

pub action_told : (k : Choice) → Order.kind k ≡ 1 → (told k).kind ≡ Kind.Action
unfolding Order.kind
action_told (select n) e = absurd (omega arith)
action_told (act n) e = refl
action_told (revise n) e = absurd (omega arith)

-- ---- a choice by its code

pub code_at : (κ : Kind) (n : ℕ) → 256 * kind_number κ + n ≡ Order.code (choice_at (kind_number κ) n)
unfolding Order.code Order.kind Order.number
code_at Kind.Selection n = refl
code_at Kind.Action n = refl
code_at Kind.Revision n = refl

-- a known kind is a choice, and another is none
pub choice_known : (κ : Kind) (n : ℕ) → Calls.choice_of (kind_number κ) n ≡ some (choice_at (kind_number κ) n)
choice_known Kind.Selection n = refl
choice_known Kind.Action n = refl
choice_known Kind.Revision n = refl

pub choice_unknown : (k n : ℕ) → 2 < k → Calls.choice_of k n ≡ none
choice_unknown k n h = let e : k ≡ suc (suc (suc (k - 3))) = omega arith in rw e

pub told_code : (code : ℕ) (κ : Kind) → code / 256 ≡ kind_number κ → Some (record { kind = κ; number = code % 256 }) ≡ chosen (choice code)
unfolding choice
told_code code κ e = ap Some (sym (told_at κ (code % 256))) ∙ sym (ap chosen (ap (λ k. Calls.choice_of k (code % 256)) e ∙ choice_known κ (code % 256)))

pub no_code : (code : ℕ) → 2 < code / 256 → None ≡ chosen (choice code)
unfolding choice
no_code code h = sym (ap chosen (choice_unknown (code / 256) (code % 256) h))

-- its number is of one byte
numbered : (k n : ℕ) (t : Told.Choice) → Some t ≡ chosen (Calls.choice_of k n) → t.number ≡ n
numbered zero n t e = cc
numbered (suc zero) n t e = cc
numbered (suc (suc zero)) n t e = cc
numbered (suc (suc (suc k))) n t e = absurd (let z : ◌≡◌ {A = ℕ} 0 1 = cc in omega arith)

pub number_lt : (code : ℕ) (t : Told.Choice) → Some t ≡ chosen (choice code) → t.number < 256
unfolding choice
number_lt code t e = let n = numbered (code / 256) (code % 256) t e in omega arith
