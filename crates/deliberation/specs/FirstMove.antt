-- The first move of a program: the one of the meta-level transitions that is made (02, Wish 6).
use Rattle.std.specs.Prelude.{Bool, true, false}
use Rattle.std.proofs.Math.Option.{Option, none, some}
use Rattle.paper.specs.Language.{Agent, Config}
use Rattle.paper.specs.Transitions.{Choice}
use Rattle.paper.specs.Next.{enabled}
use Rattle.runs.specs.Order.{of_kind, first}
use Rattle.deliberation.specs.Programs.{Prog, execute, apply, select, while◌doing◌od, ◌⨾◌, ◌⊕◌, Rest, E, still, ◌⨾'◌, 𝒲}
use Rattle.deliberation.specs.MetaTransitions.{Label, idle, taking}

-- A move: its label, and what remains of the program after it, as a term or as entry numbers.
pub record Move (R : Type 0) : Type 0 where
  pub label : Label
  pub remaining : R

-- A move that takes a choice, if there is one, after which r remains. Serves first_move and move_of.
abbrev pub by_choice : {R : Type 0} → Option Choice → R → Option (Move R)
by_choice none r = none
by_choice (some k) r = some (record { label = taking k; remaining = r })

-- 02, Wish 6: "Execute takes the lowest enabled specification."
unfoldable pub lowest_action : Agent → Config → Option Choice
lowest_action A s = first (enabled A s) (of_kind A 1)

-- A named rule, if it is enabled. 02, Wish 6: "apply a named revision rule", "for a named selection rule".
unfoldable pub if_enabled : Agent → Config → Choice → Option Choice
if_enabled A s k = elim (enabled A s k) [ true ↦ some k | false ↦ none ]

-- 000, Definition 13: a while has an idle move, whatever its condition says: after it r remains if the condition holds, and else
-- r'.
abbrev pub idles : {R : Type 0} → Bool → R → R → Option (Move R)
idles true r r' = some (record { label = idle; remaining = r })
idles false r r' = some (record { label = idle; remaining = r' })

-- 000, Definition 14: the move of a sequence is one of its left; what then remains is what remains of the left, and the right.
abbrev pub followed_by : {R : Type 0} → (R → R) → Option (Move R) → Option (Move R)
followed_by f none = none
followed_by f (some m) = some (record { label = m.label; remaining = f m.remaining })

-- 02, Wish 6: "Choice takes the left if it has a first move, idle or not, fitting or not, else the right."
abbrev pub left_else_right : {R : Type 0} → Option (Move R) → Option (Move R) → Option (Move R)
left_else_right none right = right
left_else_right (some m) right = some m

-- 02, Wish 6: "a first move" of a program in a configuration, or none. Whether the plan that it leaves fits is not asked.
unfoldable pub first_move : Agent → Config → Prog → Option (Move Rest)
first_move A s execute = by_choice (lowest_action A s) E
first_move A s (apply ρ) = by_choice (if_enabled A s (Choice.revise ρ)) E
first_move A s (select ρ) = by_choice (if_enabled A s (Choice.select ρ)) E
first_move A s (while b doing P od) = idles (𝒲 b s) (still (P ⨾ while b doing P od)) E
first_move A s (P₁ ⨾ P₂) = followed_by (λ P₁'. still (P₁' ⨾' P₂)) (first_move A s P₁)
first_move A s (P₁ ⊕ P₂) = left_else_right (first_move A s P₁) (first_move A s P₂)
