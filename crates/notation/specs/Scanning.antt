-- A text is judged byte by byte: the states of a scan, and the next state for a byte.
use Rattle.std.specs.Prelude.{Bool, true, false, ◌&&◌, [], ◌∷◌, ℕ, zero, suc, eqb, leb}
use Rattle.std.proofs.Math.Option.{Option, none, some}
use Prim.Native.Char.{code}
use Rattle.meaning.specs.Card.{Bytes}
use Rattle.notation.specs.Words.{word, LF}

-- Where a line begins: before the atoms line, before a line of a kind from this one on, behind the begin line.
pub data Start : Type 0 where
  first actions dos selects revises ending : Start

-- What is still to come; the state behind it comes last.
pub data ScanState : Type 0 where
  -- lines from here on
  lines : Start → ScanState
  -- the rest of a word
  rest : Bytes → ScanState → ScanState
  -- a number, and the rest of one
  number : ScanState → ScanState
  digits : ScanState → ScanState
  -- a list and then a space and a word; the same behind a space
  list : Bytes → ScanState → ScanState
  spaced : Bytes → ScanState → ScanState
  -- a list and then the end of its line; the same behind a space
  list_end : ScanState → ScanState
  spaced_end : ScanState → ScanState
  -- the end of a line; a remark up to LF
  end : ScanState → ScanState
  remark : ScanState → ScanState
  -- a unit in n brackets of a condition, behind which a space and a word come; and what may come behind a unit
  unit : ℕ → Bytes → ScanState → ScanState
  after : ℕ → Bytes → ScanState → ScanState

abbrev pub digit : ℕ → Bool
digit x = leb (code "0") x && leb x (code "9")

-- ---- the lines, behind the first byte

abbrev pub atoms_line : ScanState
atoms_line = rest (word "toms ") (number (end (lines actions)))

abbrev pub action_line : ScanState
action_line = rest (word "ction ") (number (end (lines actions)))

abbrev pub do_line : ScanState
do_line = rest (word "o ") (number (rest (word " if ") (unit 0 (word "add") (list (word "del") (list_end (lines dos))))))

abbrev pub select_line : ScanState
select_line = rest (word "elect if ") (unit 0 (word "goal ") (unit 0 (word "plan") (list_end (lines selects))))

abbrev pub revise_line : ScanState
revise_line = rest (word "evise") (list (word "if ") (unit 0 (word "to") (list_end (lines revises))))

abbrev pub begin_line : ScanState
begin_line = rest (word "egin beliefs") (list (word "goals") (list (word "plan") (list_end (lines ending))))

-- ---- the next state

abbrev pub when : Bool → ScanState → Option ScanState → Option ScanState
when true q o = some q
when false q o = o

-- a line that may stand here, by its first byte
abbrev pub from_begin : ℕ → Option ScanState
from_begin x = when (eqb x (code "b")) begin_line none

abbrev pub from_revise : ℕ → Option ScanState
from_revise x = when (eqb x (code "r")) revise_line (from_begin x)

abbrev pub from_select : ℕ → Option ScanState
from_select x = when (eqb x (code "s")) select_line (from_revise x)

abbrev pub from_do : ℕ → Option ScanState
from_do x = when (eqb x (code "d")) do_line (from_select x)

abbrev pub line : Start → ℕ → Option ScanState
line first x = when (eqb x (code "a")) atoms_line none
line actions x = when (eqb x (code "a")) action_line (from_do x)
line dos x = from_do x
line selects x = from_select x
line revises x = from_revise x
line ending x = none

unfoldable pub step : ScanState → ℕ → Option ScanState
step (lines s) x = when (eqb x LF) (lines s) (when (eqb x (code "#")) (remark (lines s)) (line s x))
step (rest [] k) x = step k x
step (rest (c ∷ w) k) x = when (eqb x c) (rest w k) none
step (number k) x = when (digit x) (digits k) none
step (digits k) x = when (digit x) (digits k) (step k x)
step (list w k) x = when (eqb x (code " ")) (spaced w k) none
step (spaced [] k) x = when (digit x) (digits (list [] k)) (step k x)
step (spaced (c ∷ w) k) x = when (digit x) (digits (list (c ∷ w) k)) (when (eqb x c) (rest w k) none)
step (list_end k) x = when (eqb x LF) k (when (eqb x (code " ")) (spaced_end k) none)
step (spaced_end k) x = when (digit x) (digits (list_end k)) (when (eqb x (code "#")) (remark k) none)
step (end k) x = when (eqb x LF) k (when (eqb x (code " ")) (rest (word "#") (remark k)) none)
step (remark k) x = when (eqb x LF) k (some (remark k))
step (unit n w k) x =
    when (eqb x (code "T")) (after n w k)
    (when (eqb x (code "B")) (number (after n w k))
    (when (eqb x (code "G")) (number (after n w k))
    (when (eqb x (code "!")) (unit n w k) (when (eqb x (code "(")) (unit (suc n) w k) none))))
step (after zero w k) x = when (eqb x (code "&")) (unit zero w k) (when (eqb x (code "|")) (unit zero w k) (when (eqb x (code " ")) (rest w k) none))
step (after (suc n) w k) x =
    when (eqb x (code "&")) (unit (suc n) w k) (when (eqb x (code "|")) (unit (suc n) w k) (when (eqb x (code ")")) (after n w k) none))

-- ---- where a text may end

abbrev pub ended : Start → Bool
ended first = false
ended actions = false
ended dos = false
ended selects = false
ended revises = false
ended ending = true

unfoldable pub accepts : ScanState → Bool
accepts (lines s) = ended s
accepts (rest [] k) = accepts k
accepts (rest (c ∷ w) k) = false
accepts (number k) = false
accepts (digits k) = accepts k
accepts (list w k) = false
accepts (spaced [] k) = accepts k
accepts (spaced (c ∷ w) k) = false
accepts (list_end k) = false
accepts (spaced_end k) = false
accepts (end k) = false
accepts (remark k) = false
accepts (unit n w k) = false
accepts (after n w k) = false

-- ---- a scan from a state on: nothing, or the place where it goes wrong

abbrev pub later : Option ℕ → Option ℕ
later none = none
later (some p) = some (suc p)

abbrev pub at-end : Bool → Option ℕ
at-end true = none
at-end false = some 0

abbrev pub next : Option ScanState → (ScanState → Option ℕ) → Option ℕ
next none f = some 0
next (some q) f = later (f q)

unfoldable pub judge : Bytes → ScanState → Option ℕ
judge [] q = at-end (accepts q)
judge (x ∷ t) q = next (step q x) (judge t)
