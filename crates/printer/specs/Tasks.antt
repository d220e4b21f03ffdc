-- The tasks of the writer: what is still to be written, in parts that stand on a stack.
use Rattle.std.specs.Prelude.{◌≡◌, true, false, List, [], ◌∷◌, ◌++◌, ℕ, zero, suc, max, ◌+◌, ◌*◌, ◌/◌, ◌%◌, ◌≤◌, ◌<◌, ltb, length, get_or}
use Rattle.meaning.specs.declared.Layout.{Layout}
use Rattle.meaning.specs.Kinds.{NodeKind, True, Believes, HasGoal, Not, And, Or, Unknown}
use Rattle.meaning.specs.Card.{Bytes, tree_at}
use Rattle.notation.specs.Built.{size}
use Rattle.notation.specs.Printing.{decimal, text_as, depth_as}
use Rattle.printer.specs.declared.write.Parts.{Parts}

-- A task is one number: 256 times its kind, and a byte, a node's number or a number to be written.
abbrev pub task_of : ℕ → ℕ → ℕ
task_of kind value = 256 * kind + value

-- What a task of a kind writes: 0 the byte; 1 a node as an or-list, 2 as an and-list, 3 as a unit; 4 a number.
abbrev pub text_of_kind : Layout → Bytes → ℕ → ℕ → Bytes
text_of_kind l b zero x = x ∷ []
text_of_kind l b (suc zero) n = text_as 0 (tree_at l b n)
text_of_kind l b (suc (suc zero)) n = text_as 1 (tree_at l b n)
text_of_kind l b (suc (suc (suc zero))) n = text_as 2 (tree_at l b n)
text_of_kind l b (suc (suc (suc (suc k)))) n = decimal n

unfoldable pub task_text : Layout → Bytes → ℕ → Bytes
task_text l b t = text_of_kind l b (t / 256) (t % 256)

-- How much work a task is: a byte is written; anything else is taken apart first.
abbrev pub work_of_kind : ℕ → ℕ → ℕ
work_of_kind zero n = 1
work_of_kind (suc k) n = 2 * n

unfoldable pub work : Layout → Bytes → ℕ → ℕ
work l b t = work_of_kind (t / 256) (length (task_text l b t))

-- How high the stack grows at most while a task is done, the task counted: by one for each node of the text, for each bracket or
-- `!` that nests in it and for each of three digits.
abbrev pub height_of_kind : Layout → Bytes → ℕ → ℕ → ℕ
height_of_kind l b zero x = 1
height_of_kind l b (suc zero) n = size (tree_at l b n) + depth_as 0 (tree_at l b n) + 3
height_of_kind l b (suc (suc zero)) n = size (tree_at l b n) + depth_as 1 (tree_at l b n) + 3
height_of_kind l b (suc (suc (suc zero))) n = size (tree_at l b n) + depth_as 2 (tree_at l b n) + 3
height_of_kind l b (suc (suc (suc (suc k)))) n = length (decimal n)

unfoldable pub height : Layout → Bytes → ℕ → ℕ
height l b t = height_of_kind l b (t / 256) (t % 256)

-- A task that writes a node's text names a node of the card.
pub record GoodTask (l : Layout) (t : ℕ) : Type 0 where
  pub known : 1 ≤ t / 256 → t / 256 ≤ 3 → t % 256 < l.nodes.count

-- ---- several tasks, the next first

abbrev pub texts : Layout → Bytes → List ℕ → Bytes
texts l b [] = []
texts l b (t ∷ ts) = task_text l b t ++ texts l b ts

abbrev pub works : Layout → Bytes → List ℕ → ℕ
works l b [] = 0
works l b (t ∷ ts) = work l b t + works l b ts

abbrev pub heights : Layout → Bytes → List ℕ → ℕ
heights l b [] = 0
heights l b (t ∷ ts) = max (height l b t + length ts) (heights l b ts)

pub data AllGood (l : Layout) : List ℕ → Type 0 where
  none : AllGood l []
  more : {t : ℕ} {ts : List ℕ} → GoodTask l t → AllGood l ts → AllGood l (t ∷ ts)

-- Tasks that write together what one does, with less work and no higher a stack.
pub record Splits (l : Layout) (b : Bytes) (t : ℕ) (ts : List ℕ) : Type 0 where
  pub text : texts l b ts ≡ task_text l b t
  pub less : works l b ts < work l b t
  pub low : heights l b ts ≤ height l b t
  pub good : AllGood l ts

-- the tasks on a stack, from its top down
abbrev pub tasks : List ℕ → ℕ → List ℕ
tasks s zero = []
tasks s (suc k) = get_or s k 0 ∷ tasks s k

-- ---- what a task is taken apart into

abbrev pub listed : Parts → List ℕ
listed (Parts.One x) = x ∷ []
listed (Parts.Two x y) = x ∷ (y ∷ [])
listed (Parts.Three x y z) = x ∷ (y ∷ (z ∷ []))

-- a node without brackets, by its kind and its children
abbrev pub node_parts : NodeKind → ℕ → ℕ → List ℕ
node_parts True a b = 84 ∷ []
node_parts Believes a b = 66 ∷ (task_of 4 a ∷ [])
node_parts HasGoal a b = 71 ∷ (task_of 4 a ∷ [])
node_parts Not a b = 33 ∷ (task_of 3 a ∷ [])
node_parts And a b = task_of 2 a ∷ (38 ∷ (task_of 3 b ∷ []))
node_parts Or a b = task_of 1 a ∷ (124 ∷ (task_of 2 b ∷ []))
node_parts Unknown a b = 84 ∷ []

-- a number: its last digit behind the others
abbrev pub number_parts : ℕ → List ℕ
number_parts n = elim (ltb n 10) [ true ↦ (48 + n) ∷ [] | false ↦ task_of 4 (n / 10) ∷ ((48 + n % 10) ∷ []) ]
