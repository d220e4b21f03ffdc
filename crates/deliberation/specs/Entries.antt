-- A program's bytes: its entries, when they are refused (row 19), the programs that they stand for, and their first moves.
use Rattle.std.specs.Prelude.{Bool, true, not, ◌&&◌, List, [], ◌∷◌, ◌++◌, map, ℕ, ◌+◌, ◌*◌, ◌-◌, ◌/◌, ◌%◌, ltb, eqb, length, get_or}
use Rattle.std.proofs.Math.Option.{Option, none}
use Rattle.paper.specs.Language.{𝐁, Query, Agent, Config}
use Rattle.paper.specs.Transitions.{Choice}
use Rattle.runs.specs.Order.{numbers}
use Rattle.meaning.specs.declared.Refusal.{Refusal}
use Rattle.meaning.specs.Answers.{Answer}
use Rattle.meaning.specs.declared.Layout.{Layout}
use Rattle.meaning.specs.declared.Node.{Node}
use Rattle.meaning.specs.declared.Configuration.{Configuration}
use Rattle.meaning.specs.Card.{Bytes, node_from, layout, pass, condition, conditions, agent_for}
use Rattle.meaning.specs.Refusals.{Row, ◌given_when◌, first_given, and_then, every, within, containing, condition_good, card_answer, configuration_table}
use Rattle.deliberation.specs.Programs.{not_empty_plan, holds, Prog, execute, apply, select, while◌doing◌od, ◌⨾◌, ◌⊕◌, Rest, E, still, 𝒲}
use Rattle.deliberation.specs.Kinds.{EntryKind, Execute, Apply, Select, WhilePlan, WhileBelief, Then, Or, entry_kind}
use Rattle.deliberation.specs.FirstMove.{Move, by_choice, lowest_action, if_enabled, idles, followed_by, left_else_right}

-- ---- the entries

-- 02, Wish 6: "A program is 1 to 128 entries shaped like nodes": entry i of a program.
unfoldable pub entry_of : Bytes → ℕ → Node
entry_of p i = node_from p (4 * i)

-- How many entries there are.
abbrev pub entry_count : Bytes → ℕ
entry_count p = length p / 4

-- The entries in their order.
unfoldable pub entries_of : Bytes → List Node
entries_of p = map (entry_of p) (numbers 0 (entry_count p))

-- ---- row 19

-- 02, Wish 6: "1 to 128 entries", of 4 bytes each and no byte more.
abbrev pub length_good : ℕ → Bool
length_good n = within 1 128 (n / 4) && eqb (n % 4) 0

-- Entry i of a program for a card, by its kind: 02, Wish 6: "unused bytes are 0, part numbers are lower than their own."; "naming
-- an unknown rule or node". gs tells the nodes that contain a goal atom: such a node is no belief condition.
abbrev pub kind_good : List Bool → Layout → ℕ → EntryKind → ℕ → ℕ → Bool
kind_good gs l i Execute a b = eqb a 0 && eqb b 0
kind_good gs l i Apply a b = ltb a l.revisions.count && eqb b 0
kind_good gs l i Select a b = ltb a l.selections.count && eqb b 0
kind_good gs l i WhilePlan a b = eqb a 0 && ltb b i
kind_good gs l i WhileBelief a b = condition_good l gs a && ltb b i
kind_good gs l i Then a b = ltb a i && ltb b i
kind_good gs l i Or a b = ltb a i && ltb b i

-- The same with its kind, one of the seven, and the fourth byte: 02, Wish 6: "unused bytes are 0".
abbrev pub entry_good : List Bool → Layout → ℕ → Node → Bool
entry_good gs l i e = (ltb e.kind 7 && kind_good gs l i (entry_kind e.kind) e.a e.b) && eqb e.zero 0

-- Not 02, Wish 6: "19 a program breaking these rules or naming an unknown rule or node", of every entry, used or not.
unfoldable pub program_good : List Bool → Layout → Bytes → Bool
program_good gs l p = length_good (length p) && every (entry_count p) (λ i. entry_good gs l i (entry_of p i))

-- 02, Wish 6: "19 a program breaking these rules"; b is the card.
unfoldable pub program_table : Bytes → List (Row Bytes)
program_table b = (Refusal.Program given_when (λ p. not (program_good (containing 2 (layout b) b) (layout b) p))) ∷ []

-- Numbers that a deliberation may go on from, where there are so many entries: each, and how many stand behind it, come to less
-- than that (docs/DECISIONS.md, "Numbers that are gone on from"). No number at all is good.
abbrev pub numbers_good : ℕ → List ℕ → Bool
numbers_good entries [] = true
numbers_good entries (n ∷ ns) = ltb (n + length ns) entries && numbers_good entries ns

-- 02, Wish 6: "19 a program breaking these rules", of the numbers of program p that are given with it.
unfoldable pub numbers_table : Bytes → List (Row (List ℕ))
numbers_table p = (Refusal.Program given_when (λ ns. not (numbers_good (entry_count p) ns))) ∷ []

-- 02, Wish 6: "19 …, after 9 and before 13.", of a program and of the numbers that are given with it.
unfoldable pub go_on_answer : Bytes → Bytes → List ℕ → Configuration → Answer
go_on_answer b p ns c =
    and_then (card_answer b) (and_then (first_given (program_table b) p) (and_then (first_given (numbers_table p) ns) (first_given (configuration_table (layout b)) c)))

-- 02, Wish 6: "A program is 1 to 128 entries …, the last one the whole": what remains before the first move.
abbrev pub whole : Bytes → List ℕ
whole p = (entry_count p - 1) ∷ []

-- The same of the whole program.
abbrev pub deliberate_answer : Bytes → Bytes → Configuration → Answer
deliberate_answer b p c = go_on_answer b p (whole p) c

-- ---- what the entries stand for

-- The program of an entry, from those of its parts: 02, Wish 6: "execute", "apply a", "select a", "while the plan is not empty do
-- b", "while belief condition a holds do b", "a then b", "a or b". βs are the conditions of the card's nodes.
abbrev pub prog_of : List (Query 𝐁) → EntryKind → ℕ → ℕ → (ℕ → Prog) → Prog
prog_of βs Execute a b prog = execute
prog_of βs Apply a b prog = apply a
prog_of βs Select a b prog = select a
prog_of βs WhilePlan a b prog = while not_empty_plan doing prog b od
prog_of βs WhileBelief a b prog = while holds (condition βs a) doing prog b od
prog_of βs Then a b prog = prog a ⨾ prog b
prog_of βs Or a b prog = prog a ⊕ prog b

-- The program that entry n stands for, by one pass from the lowest upward: 02, Wish 6: "part numbers are lower than their own".
unfoldable pub program : List (Query 𝐁) → List Node → ℕ → Prog
program βs es n = get_or (pass (λ i e prog. prog_of βs (entry_kind e.kind) e.a e.b prog) execute es) n execute

-- 02, Wish 6: "the remaining program as entry numbers, the next first": x, y, z stand for x; (y; z), and no number for E.
unfoldable pub standing : List (Query 𝐁) → List Node → List ℕ → Rest
standing βs es [] = E
standing βs es (n ∷ ns) = still (elim (standing βs es ns) [ E ↦ program βs es n | still P ↦ program βs es n ⨾ P ])

-- ---- their first moves

-- The first move of entry i, as first_move has it of a program, with what remains as entry numbers: of execute, apply and select
-- nothing; of a while that holds its body and itself; of a sequence what remains of its left, then its right: 02, Wish 6: "a
-- sequence is one number until a move is made in it"; of a choice what remains of the part that is taken.
abbrev pub move_of : Agent → List (Query 𝐁) → Config → ℕ → EntryKind → ℕ → ℕ → (ℕ → Option (Move (List ℕ))) → Option (Move (List ℕ))
move_of A βs s i Execute a b move = by_choice (lowest_action A s) []
move_of A βs s i Apply a b move = by_choice (if_enabled A s (Choice.revise a)) []
move_of A βs s i Select a b move = by_choice (if_enabled A s (Choice.select a)) []
move_of A βs s i WhilePlan a b move = idles (𝒲 not_empty_plan s) (b ∷ i ∷ []) []
move_of A βs s i WhileBelief a b move = idles (𝒲 (holds (condition βs a)) s) (b ∷ i ∷ []) []
move_of A βs s i Then a b move = followed_by (λ ns. ns ++ (b ∷ [])) (move a)
move_of A βs s i Or a b move = left_else_right (move a) (move b)

-- The first move of entry n, by one pass from the lowest upward.
unfoldable pub first_move_of : Agent → List (Query 𝐁) → Config → List Node → ℕ → Option (Move (List ℕ))
first_move_of A βs s es n = get_or (pass (λ i e move. move_of A βs s i (entry_kind e.kind) e.a e.b move) none es) n none

-- The same of a program's bytes under a card.
abbrev pub move_at : Layout → Bytes → Bytes → Config → ℕ → Option (Move (List ℕ))
move_at l b p s n = first_move_of (agent_for l b) (conditions 𝐁 l b) s (entries_of p) n
