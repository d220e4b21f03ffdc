-- A reader as a function: what stands at the front of a text, and what is left of it. The code is proved against it on all bytes;
-- it gives what the grammar derives wherever that derives anything.
use Rattle.std.specs.Prelude.{Bool, true, ◌&&◌, List, [], ◌∷◌, ◌++◌, ℕ, zero, suc, ◌+◌, ◌-◌, ◌*◌, eqb, length, drop}
use Prim.Native.Char.{code}
use Rattle.paper.specs.Next.{if}
use Rattle.meaning.specs.Trees.{Tree, true, believes, goal, and, or}
use Rattle.meaning.specs.Card.{Bytes}
use Rattle.notation.specs.Words.{LF}
use Rattle.notation.specs.Conditions.{Condition, plain, negated, bracketed, joined}
use Rattle.notation.specs.Lines.{Do, Select, Revise, Begin}
use Rattle.notation.specs.Scanning.{digit}

-- ---- numbers and lists

-- "{ digit }", behind digits that have the value n: the value of them all, and what is left
unfoldable pub digits_value : ℕ → Bytes → ℕ
digits_value n [] = n
digits_value n (x ∷ t) = if (digit x) (digits_value (10 * n + (x - code "0")) t) n

unfoldable pub digits_rest : Bytes → Bytes
digits_rest [] = []
digits_rest (x ∷ t) = if (digit x) (digits_rest t) (x ∷ t)

-- "number = digit { digit }"
abbrev pub number_value : Bytes → ℕ
number_value t = digits_value 0 t

-- whether a space and a digit come
abbrev pub list_goes_on : Bytes → Bool
list_goes_on [] = Bool.false
list_goes_on (x ∷ []) = Bool.false
list_goes_on (x ∷ (y ∷ t)) = eqb x (code " ") && digit y

-- "list = { " " number }", of at most f numbers
unfoldable pub list_values : ℕ → Bytes → List ℕ
list_values zero t = []
list_values (suc f) t = if (list_goes_on t) (number_value (drop 1 t) ∷ list_values f (digits_rest (drop 1 t))) []

unfoldable pub list_rest : ℕ → Bytes → Bytes
list_rest zero t = t
list_rest (suc f) t = if (list_goes_on t) (list_rest f (digits_rest (drop 1 t))) t

abbrev pub list_of : Bytes → List ℕ
list_of t = list_values (length t) t

abbrev pub behind_list : Bytes → Bytes
behind_list t = list_rest (length t) t

-- what is left behind the line's end
unfoldable pub behind_line : Bytes → Bytes
behind_line [] = []
behind_line (x ∷ t) = if (eqb x LF) t (behind_line t)

-- ---- conditions

-- What is read, and what is left of the text; or brackets and "!" nest deeper than is left.
pub data Read (X : Type 0) : Type 0 where
  nested : Read X
  got : X → Bytes → Read X

abbrev pub then : {X Y : Type 0} → Read X → (X → Bytes → Read Y) → Read Y
then nested f = nested
then (got x t) f = f x t

-- "{ "&" unit }" and "{ "|" and-list }": more of what one reads, each behind an operator, at most f of them
unfoldable pub more : ℕ → (Tree → Tree → Tree) → (Bytes → Read Condition) → ℕ → Condition → Bytes → Read Condition
more x op one zero c t = got c t
more x op one (suc f) c [] = got c []
more x op one (suc f) c (y ∷ t) = if (eqb y x) (then (one t) (λ d r. more x op one f (joined op c d) r)) (got c (y ∷ t))

-- one, and more of it
abbrev pub several : ℕ → (Tree → Tree → Tree) → (Bytes → Read Condition) → Bytes → Read Condition
several x op one t = then (one t) (λ c r. more x op one (length r) c r)

-- "and-list = unit { "&" unit }", by how a unit is read
abbrev pub and_list_by : (Bytes → Read Condition) → Bytes → Read Condition
and_list_by unit t = several (code "&") and unit t

-- "or-list = and-list { "|" and-list }"
abbrev pub or_list_by : (Bytes → Read Condition) → Bytes → Read Condition
or_list_by unit t = several (code "|") or (and_list_by unit) t

-- "!" and "(", behind them, by how a unit is read inside
abbrev pub in_not : (Bytes → Read Condition) → Bytes → Read Condition
in_not unit t = then (unit t) (λ c r. got (negated c) r)

abbrev pub in_brackets : (Bytes → Read Condition) → Bytes → Read Condition
in_brackets unit t = then (or_list_by unit t) (λ c r. got (bracketed c) (drop 1 r))

-- a unit by its first byte x, with what "!" and "(" lead to
abbrev pub unit_by : Read Condition → Read Condition → ℕ → Bytes → Read Condition
unit_by negation brackets x t =
    if (eqb x (code "T")) (got (plain true) t)
    (if (eqb x (code "B")) (got (plain (believes (number_value t))) (digits_rest t))
    (if (eqb x (code "G")) (got (plain (goal (number_value t))) (digits_rest t)) (if (eqb x (code "!")) negation brackets)))

-- what the first byte and the bytes behind it lead to
abbrev pub by_first : (ℕ → Bytes → Read Condition) → Bytes → Read Condition
by_first f [] = nested
by_first f (x ∷ t) = f x t

-- "unit = "T" | "B" number | "G" number | "!" unit | "(" or-list ")"", with how many may still nest
unfoldable pub unit_of : ℕ → Bytes → Read Condition
unit_of zero = by_first (unit_by nested nested)
unit_of (suc left) = by_first (λ x t. unit_by (in_not (unit_of left) t) (in_brackets (unit_of left) t) x t)

abbrev pub and_list_of : ℕ → Bytes → Read Condition
and_list_of left t = and_list_by (unit_of left) t

abbrev pub or_list_of : ℕ → Bytes → Read Condition
or_list_of left t = or_list_by (unit_of left) t

-- 02, Wish 2: "brackets and `!` together may nest 32 deep"
abbrev pub condition_of : Bytes → Read Condition
condition_of t = or_list_of 32 t

-- ---- lines

-- What a line says, if it is no note.
pub data Item : Type 0 where
  atoms_said action_said : ℕ → Item
  do_said : Do → Item
  select_said : Select → Item
  revise_said : Revise → Item
  begin_said : Begin → Item

-- with how many may nest in a condition:
-- "do " number " if " condition " add" list " del" list end"
unfoldable pub do_item_at : ℕ → Bytes → Read (List Item)
do_item_at left t =
    let n = drop 3 t in
    then (or_list_of left (drop 4 (digits_rest n))) (λ c r.
    let a = drop 4 r in
    let d = drop 4 (behind_list a) in
    got (do_said (record { action = number_value n; condition = c; add = list_of a; del = list_of d }) ∷ []) (behind_line (behind_list d)))

-- "select if " condition " goal " condition " plan" list end"
unfoldable pub select_item_at : ℕ → Bytes → Read (List Item)
select_item_at left t =
    then (or_list_of left (drop 10 t)) (λ b r.
    then (or_list_of left (drop 6 r)) (λ g s.
    let p = drop 5 s in
    got (select_said (record { belief = b; goal = g; plan = list_of p }) ∷ []) (behind_line (behind_list p))))

-- "revise" list " if " condition " to" list end"
unfoldable pub revise_item_at : ℕ → Bytes → Read (List Item)
revise_item_at left t =
    let h = drop 6 t in
    then (or_list_of left (drop 4 (behind_list h))) (λ c r.
    let b = drop 3 r in
    got (revise_said (record { head = list_of h; condition = c; body = list_of b }) ∷ []) (behind_line (behind_list b)))

-- "begin beliefs" list " goals" list " plan" list end"
unfoldable pub begin_item : Bytes → Read (List Item)
begin_item t =
    let b = drop 13 t in
    let g = drop 6 (behind_list b) in
    let p = drop 5 (behind_list g) in
    got (begin_said (record { beliefs = list_of b; goals = list_of g; plan = list_of p }) ∷ []) (behind_line (behind_list p))

-- "atoms " number end" and "action " number end", which the second byte tells apart
abbrev pub second_byte : Bytes → ℕ
second_byte [] = 0
second_byte (x ∷ []) = 0
second_byte (x ∷ (y ∷ t)) = y

unfoldable pub number_item : Bytes → Read (List Item)
number_item t =
    if (eqb (second_byte t) (code "t"))
    (got (atoms_said (number_value (drop 6 t)) ∷ []) (behind_line (digits_rest (drop 6 t))))
    (got (action_said (number_value (drop 7 t)) ∷ []) (behind_line (digits_rest (drop 7 t))))

-- a line, by its first byte x
unfoldable pub line_at : ℕ → ℕ → Bytes → Read (List Item)
line_at left x t =
    if (eqb x (code "a")) (number_item t)
    (if (eqb x (code "d")) (do_item_at left t)
    (if (eqb x (code "s")) (select_item_at left t)
    (if (eqb x (code "r")) (revise_item_at left t) (if (eqb x (code "b")) (begin_item t) (got [] (behind_line t))))))

-- the lines of a text, at most f of them
unfoldable pub items_at : ℕ → ℕ → Bytes → Read (List Item)
items_at left zero t = got [] t
items_at left (suc f) [] = got [] []
items_at left (suc f) (x ∷ t) = then (line_at left x (x ∷ t)) (λ is r. then (items_at left f r) (λ js s. got (is ++ js) s))

-- ---- 32 deep

abbrev pub do_item : Bytes → Read (List Item)
do_item t = do_item_at 32 t

abbrev pub select_item : Bytes → Read (List Item)
select_item t = select_item_at 32 t

abbrev pub revise_item : Bytes → Read (List Item)
revise_item t = revise_item_at 32 t

abbrev pub line_by : ℕ → Bytes → Read (List Item)
line_by x t = line_at 32 x t

abbrev pub items_of : ℕ → Bytes → Read (List Item)
items_of f t = items_at 32 f t
