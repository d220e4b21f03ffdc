-- What a scan of a part of a text tells: for every state that comes behind the part.
use Rattle.std.specs.Prelude.{Result, Ok, Err, ◌≡◌, Bool, ◌||◌, ℕ, zero, suc, ◌+◌, ◌≤◌, ◌<◌, eqb, length, drop, get_or, ◌∷◌}
use Rattle.std.proofs.Math.Option.{Option, none, some}
use Rattle.meaning.specs.Card.{Bytes}
use Prim.Native.Char.{code}
use Rattle.notation.specs.Scanning.{Start, first, actions, dos, selects, revises, ending, ScanState, lines, rest, number, list, list_end, end, unit, after, judge}
use Rattle.notation.specs.Words.{word}
use Rattle.scan.specs.declared.scan.Wrong.{Wrong}
use Rattle.scan.specs.declared.condition.Opened.{Opened}
use Rattle.scan.specs.declared.lines.Stage.{Stage}
use Rattle.scan.specs.declared.lines.Staged.{Staged}

-- a place in the text, counted from where a part of it begins
abbrev pub from_there : ℕ → Option ℕ → Option ℕ
from_there n none = none
from_there n (some p) = some (n + p)

-- the scan of a text from a place on, in a state
abbrev pub scan_from : Bytes → ℕ → ScanState → Option ℕ
scan_from t n q = from_there n (judge (drop n t) q)

-- where a scan came to
abbrev pub place_of : Result ℕ Wrong → ℕ
place_of (Ok m) = m
place_of (Err e) = e.at

-- the part was scanned, and the scan goes on behind it in the state that comes then; or it went wrong
abbrev pub Scans : Bytes → ℕ → (ScanState → ScanState) → (ScanState → ScanState) → Result ℕ Wrong → Type 0
Scans t n part then (Ok m) = (n ≤ m) × (m ≤ length t) × ((k : ScanState) → scan_from t n (part k) ≡ scan_from t m (then k))
Scans t n part then (Err e) = (k : ScanState) → scan_from t n (part k) ≡ some e.at

-- a list was scanned: behind it the word of its line comes, or the line's end
abbrev pub ListOver : Bytes → ℕ → ℕ → Type 0
ListOver t n m =
    (n ≤ m)
    × (m ≤ length t)
    × ((c : ℕ) (w : Bytes) (k : ScanState) → scan_from t n (list (c ∷ w) k) ≡ scan_from t m (rest (code " " ∷ (c ∷ w)) k))
    × ((k : ScanState) → scan_from t n (list_end k) ≡ scan_from t m (end k))

-- ---- conditions: with n brackets open, and whatever word and state come behind

-- brackets are opened, and "!" passed over
abbrev pub Opens : Bytes → ℕ → ℕ → Opened → Type 0
Opens t at brackets r =
    (at ≤ r.at)
    × (r.at ≤ length t)
    × (r.brackets ≤ r.at)
    × ((r.at < length t) → (get_or t r.at 0 ≡ 33 → ⊥) × (get_or t r.at 0 ≡ 40 → ⊥))
    × ((w : Bytes) (k : ScanState) → scan_from t at (unit brackets w k) ≡ scan_from t r.at (unit r.brackets w k))

-- a unit that nothing is nested in
abbrev pub LeafOver : Bytes → ℕ → Result ℕ Wrong → Type 0
LeafOver t at r = (at ≤ place_of r) × ((n : ℕ) (w : Bytes) → Scans t at (unit n w) (after n w) r)

-- brackets are closed
abbrev pub Closes : Bytes → ℕ → ℕ → Opened → Type 0
Closes t at brackets r =
    (at ≤ r.at)
    × (r.at ≤ length t)
    × (r.brackets ≤ brackets)
    × ((r.at < length t) → (get_or t r.at 0 ≡ 41) → r.brackets ≡ 0)
    × ((w : Bytes) (k : ScanState) → scan_from t at (after brackets w k) ≡ scan_from t r.at (after r.brackets w k))

-- a unit, and the brackets that close behind it
abbrev pub UnitOver : Bytes → ℕ → ℕ → Result Opened Wrong → Type 0
UnitOver t at brackets (Ok r) =
    (at ≤ r.at)
    × (r.at ≤ length t)
    × (r.brackets ≤ r.at)
    × ((r.at < length t) → (get_or t r.at 0 ≡ 41) → r.brackets ≡ 0)
    × ((w : Bytes) (k : ScanState) → scan_from t at (unit brackets w k) ≡ scan_from t r.at (after r.brackets w k))
UnitOver t at brackets (Err e) = (w : Bytes) (k : ScanState) → scan_from t at (unit brackets w k) ≡ some e.at

-- a condition was scanned, behind which a space and a word come
abbrev pub ConditionOver : Bytes → ℕ → Result ℕ Wrong → Type 0
ConditionOver t at r = (w : Bytes) → Scans t at (unit 0 w) (rest (code " " ∷ w)) r

abbrev pub operator : ℕ → Bool
operator x = eqb x (code "&") || eqb x (code "|")

-- behind the last unit, with n brackets open
abbrev pub behind_last : ℕ → ℕ → Result ℕ Wrong
behind_last at zero = Ok at
behind_last at (suc n) = Err (record { at = at })

-- ---- lines

-- a word and a condition were scanned, behind which a space and a word come
abbrev pub WordCondition : Bytes → ℕ → Bytes → Result ℕ Wrong → Type 0
WordCondition t at v r = (w : Bytes) → Scans t at (λ k. rest v (unit 0 w k)) (rest (code " " ∷ w)) r

-- a word and a list were scanned, behind which a space and a word come
abbrev pub WordList : Bytes → ℕ → Bytes → Result ℕ Wrong → Type 0
WordList t at v r = (c : ℕ) (w : Bytes) → Scans t at (λ k. rest v (list (c ∷ w) k)) (rest (code " " ∷ (c ∷ w))) r

-- the lines behind their first byte, and what comes behind them
abbrev pub do_line_to : ScanState → ScanState
do_line_to k = rest (word "o ") (number (rest (word " if ") (unit 0 (word "add") (list (word "del") (list_end k)))))

abbrev pub select_line_to : ScanState → ScanState
select_line_to k = rest (word "elect if ") (unit 0 (word "goal ") (unit 0 (word "plan") (list_end k)))

abbrev pub revise_line_to : ScanState → ScanState
revise_line_to k = rest (word "evise") (list (word "if ") (unit 0 (word "to") (list_end k)))

abbrev pub begin_line_to : ScanState → ScanState
begin_line_to k = rest (word "egin beliefs") (list (word "goals") (list (word "plan") (list_end k)))

-- ---- the text

-- the stages of a text
abbrev pub start_of : Stage → Start
start_of Stage.First = first
start_of Stage.Actions = actions
start_of Stage.Dos = dos
start_of Stage.Selects = selects
start_of Stage.Revises = revises
start_of Stage.Ending = ending

-- the next line of a stage was scanned, from n on
abbrev pub NextLine : Bytes → ℕ → Stage → Result Staged Wrong → Type 0
NextLine t n stage (Ok r) =
    (n < r.at) × (r.at ≤ length t) × (scan_from t n (lines (start_of stage)) ≡ scan_from t r.at (lines (start_of r.stage)))
NextLine t n stage (Err e) = scan_from t n (lines (start_of stage)) ≡ some e.at

-- what a scan of a whole text found
abbrev pub found : {A : Type 0} → Result A Wrong → Option ℕ
found (Ok r) = none
found (Err e) = some e.at
