-- What may follow in a state of a scan.
use mathlib.Core.Path.{◌≡◌}
use mathlib.Core.Bool.{Bool, true, false}
use mathlib.Core.List.{List, [], ◌∷◌, ◌++◌}
use Prim.Native.Nat.{ℕ, zero, suc}
use Prim.Native.Char.{code}
use Rattle.meaning.specs.Card.{Bytes}
use Rattle.notation.specs.Words.{LF, Digits, Number, Numbers}
use Rattle.notation.specs.Conditions.{Condition, Unit}
use Rattle.notation.specs.Lines.{Do, Select, Revise, Begin, Remark, Note, End, AtomsLine, ActionLine, DoLine, SelectLine, ReviseLine, BeginLine}
use Rattle.notation.specs.Scanning.{Start, first, actions, dos, selects, revises, ending, ScanState, lines, rest, number, digits, list, spaced, list_end, spaced_end, end, remark, unit, after, digit}

-- a text that does not begin with a digit
abbrev pub goes_on : Bytes → Bool
goes_on [] = false
goes_on (x ∷ t) = digit x

abbrev pub Stops : Bytes → Type 0
Stops t = goes_on t ≡ false

-- what may come behind a unit of an or-list
pub data More : Bytes → Type 0 where
  nothing : More []
  and_unit : {u v : Bytes} {c : Condition} → Unit u c → More v → More (code "&" ∷ (u ++ v))
  or_unit : {u v : Bytes} {c : Condition} → Unit u c → More v → More (code "|" ∷ (u ++ v))

-- ---- lines from a start on

-- whether a line of a kind may stand here
abbrev pub doable : Start → Bool
doable first = false
doable actions = true
doable dos = true
doable selects = false
doable revises = false
doable ending = false

abbrev pub selectable : Start → Bool
selectable first = false
selectable actions = true
selectable dos = true
selectable selects = true
selectable revises = false
selectable ending = false

abbrev pub revisable : Start → Bool
revisable first = false
revisable actions = true
revisable dos = true
revisable selects = true
revisable revises = true
revisable ending = false

pub data LinesFrom : Start → Bytes → Type 0 where
  finished : LinesFrom ending []
  noted : {s : Start} {u t : Bytes} → Note u → LinesFrom s t → LinesFrom s (u ++ t)
  counted : {u t : Bytes} {n : ℕ} → AtomsLine u n → LinesFrom actions t → LinesFrom first (u ++ t)
  weighed : {u t : Bytes} {n : ℕ} → ActionLine u n → LinesFrom actions t → LinesFrom actions (u ++ t)
  done : {s : Start} {u t : Bytes} {d : Do} → doable s ≡ true → DoLine u d → LinesFrom dos t → LinesFrom s (u ++ t)
  selected : {s : Start} {u t : Bytes} {d : Select} → selectable s ≡ true → SelectLine u d → LinesFrom selects t → LinesFrom s (u ++ t)
  revised : {s : Start} {u t : Bytes} {d : Revise} → revisable s ≡ true → ReviseLine u d → LinesFrom revises t → LinesFrom s (u ++ t)
  begun : {s : Start} {u t : Bytes} {d : Begin} → revisable s ≡ true → BeginLine u d → LinesFrom ending t → LinesFrom s (u ++ t)

-- ---- states

-- more of a condition, and then what Z has
abbrev pub Behind : (Bytes → Type 0) → Bytes → Type 0
Behind Z t = (u : Bytes) × ((z : Bytes) × ((t ≡ u ++ z) × (More u × Z z)))

-- behind a unit in n brackets: their ends, and then a space and a word
unfoldable pub After : ℕ → Bytes → (Bytes → Type 0) → Bytes → Type 0
After zero w K t = Behind (λ z. (v : Bytes) × ((z ≡ code " " ∷ (w ++ v)) × K v)) t
After (suc n) w K t = Behind (λ z. (v : Bytes) × ((z ≡ code ")" ∷ v) × After n w K v)) t

unfoldable pub Lang : ScanState → Bytes → Type 0
Lang (lines s) t = LinesFrom s t
Lang (rest w k) t = (v : Bytes) × ((t ≡ w ++ v) × Lang k v)
Lang (number k) t = (u : Bytes) × ((v : Bytes) × ((n : ℕ) × ((t ≡ u ++ v) × (Number u n × (Stops v × Lang k v)))))
Lang (digits k) t = (u : Bytes) × ((v : Bytes) × ((n : ℕ) × ((t ≡ u ++ v) × (Digits u 0 n × (Stops v × Lang k v)))))
Lang (list w k) t = (u : Bytes) × ((v : Bytes) × ((ns : List ℕ) × ((t ≡ u ++ (code " " ∷ (w ++ v))) × (Numbers u ns × (Stops (w ++ v) × Lang k v)))))
Lang (spaced w k) t =
    (u : Bytes) × ((v : Bytes) × ((ns : List ℕ) × ((code " " ∷ t ≡ u ++ (code " " ∷ (w ++ v))) × (Numbers u ns × (Stops (w ++ v) × Lang k v)))))
Lang (list_end k) t = (u : Bytes) × ((e : Bytes) × ((v : Bytes) × ((ns : List ℕ) × ((t ≡ u ++ (e ++ v)) × (Numbers u ns × (End e × Lang k v))))))
Lang (spaced_end k) t =
    (u : Bytes) × ((e : Bytes) × ((v : Bytes) × ((ns : List ℕ) × ((code " " ∷ t ≡ u ++ (e ++ v)) × (Numbers u ns × (End e × Lang k v))))))
Lang (end k) t = (e : Bytes) × ((v : Bytes) × ((t ≡ e ++ v) × (End e × Lang k v)))
Lang (remark k) t = (u : Bytes) × ((v : Bytes) × ((t ≡ u ++ (LF ∷ v)) × (Remark u × Lang k v)))
Lang (unit n w k) t = (u : Bytes) × ((v : Bytes) × ((c : Condition) × ((t ≡ u ++ v) × (Unit u c × After n w (Lang k) v))))
Lang (after n w k) t = After n w (Lang k) t
