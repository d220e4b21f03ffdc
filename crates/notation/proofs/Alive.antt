-- Every state that a scan can be in has a text that may follow.
use mathlib.Core.Path.{◌≡◌, refl}
use mathlib.Core.Bool.{Bool, true, false}
use mathlib.Core.List.{[], ◌∷◌, ◌++◌}
use mathlib.Core.Option.{Option, none, some}
use Prim.Native.Nat.{ℕ, zero, suc}
use native.Mathlib.Omega.{arith}
use lib.Dec.{eqb}
use Rattle.meaning.specs.Card.{Bytes}
use Rattle.notation.specs.Words.{word, LF}
use Rattle.notation.specs.Words as Words
use Rattle.notation.specs.Conditions as Conditions
use Rattle.notation.specs.Lines as Lines
use Rattle.notation.specs.Scanning.{Start, first, actions, dos, selects, revises, ending, ScanState, lines, rest, number, digits, list, spaced, list_end, spaced_end, end, remark, unit, after, digit, when, from_begin, from_revise, from_select, from_do, line, step}
use Rattle.notation.proofs.Following.{Stops, LinesFrom, finished, counted, begun, revisable, nothing, After, Lang}

-- ---- a text for each state

abbrev pub begin_only : Bytes
begin_only = word "begin beliefs goals plan" ++ (LF ∷ [])

abbrev pub ends : Start → Bytes
ends first = word "atoms 0" ++ (LF ∷ begin_only)
ends actions = begin_only
ends dos = begin_only
ends selects = begin_only
ends revises = begin_only
ends ending = []

unfoldable pub closed : ℕ → Bytes → Bytes
closed zero t = 32 ∷ t
closed (suc n) t = 41 ∷ closed n t

unfoldable pub example : ScanState → Bytes
example (lines s) = ends s
example (rest w k) = w ++ example k
example (number k) = 48 ∷ example k
example (digits k) = example k
example (list w k) = 32 ∷ (w ++ example k)
example (spaced w k) = w ++ example k
example (list_end k) = LF ∷ example k
example (spaced_end k) = 35 ∷ (LF ∷ example k)
example (end k) = LF ∷ example k
example (remark k) = LF ∷ example k
example (unit n w k) = 84 ∷ closed n (w ++ example k)
example (after n w k) = closed n (w ++ example k)

-- what is asked of a state for that
unfoldable pub Alive : ScanState → Type 0
Alive (lines s) = Stops []
Alive (rest w k) = Alive k
Alive (number k) = Alive k × Stops (example k)
Alive (digits k) = Alive k × Stops (example k)
Alive (list w k) = Alive k × Stops (w ++ example k)
Alive (spaced w k) = Alive k × Stops (w ++ example k)
Alive (list_end k) = Alive k
Alive (spaced_end k) = Alive k
Alive (end k) = Alive k
Alive (remark k) = Alive k
Alive (unit n w k) = Alive k
Alive (after n w k) = Alive k

begins_so : (s : Start) → revisable s ≡ true → LinesFrom s begin_only
begins_so s m = begun {t = []} m (Lines.begins Words.none Words.none Words.none Lines.plain) finished

ends_so : (s : Start) → LinesFrom s (ends s)
ends_so first = counted {t = begin_only} (Lines.counts (Words.digits 0 (omega arith) Words.none) Lines.plain) (begins_so actions refl)
ends_so actions = begins_so actions refl
ends_so dos = begins_so dos refl
ends_so selects = begins_so selects refl
ends_so revises = begins_so revises refl
ends_so ending = finished

closed_so : (n : ℕ) (w : Bytes) (k : ScanState) → Lang k (example k) → After n w (Lang k) (closed n (w ++ example k))
unfolding After closed
closed_so zero w k l = ([], (32 ∷ (w ++ example k), (refl, (nothing, (example k, (refl, l))))))
closed_so (suc n) w k l = ([], (41 ∷ closed n (w ++ example k), (refl, (nothing, (closed n (w ++ example k), (refl, closed_so n w k l))))))

pub follows : (q : ScanState) → Alive q → Lang q (example q)
unfolding Lang example Alive
follows (lines s) a = ends_so s
follows (rest w k) a = (example k, (refl, follows k a))
follows (number k) (a, s) = (48 ∷ [], (example k, (0, (refl, (Words.digits 0 (omega arith) Words.none, (s, follows k a))))))
follows (digits k) (a, s) = ([], (example k, (0, (refl, (Words.none, (s, follows k a))))))
follows (list w k) (a, s) = ([], (example k, ([], (refl, (Words.none, (s, follows k a))))))
follows (spaced w k) (a, s) = ([], (example k, ([], (refl, (Words.none, (s, follows k a))))))
follows (list_end k) a = ([], (LF ∷ [], (example k, ([], (refl, (Words.none, (Lines.plain, follows k a)))))))
follows (spaced_end k) a = ([], (32 ∷ (35 ∷ (LF ∷ [])), (example k, ([], (refl, (Words.none, (Lines.remark Lines.none, follows k a)))))))
follows (end k) a = (LF ∷ [], (example k, (refl, (Lines.plain, follows k a))))
follows (remark k) a = ([], (example k, (refl, (Lines.none, follows k a))))
follows (unit n w k) a = (84 ∷ [], (closed n (w ++ example k), (_, (refl, (Conditions.T, closed_so n w k (follows k a))))))
follows (after n w k) a = closed_so n w k (follows k a)

-- ---- and so has the next state

unfoldable pub AliveBy : Option ScanState → Type 0
AliveBy none = Stops []
AliveBy (some q) = Alive q

alive_when : (b : Bool) (q : ScanState) (o : Option ScanState) → Alive q → AliveBy o → AliveBy (when b q o)
unfolding AliveBy
alive_when true q o a h = a
alive_when false q o a h = h

dead : AliveBy none
unfolding AliveBy
dead = refl

closed_stops : (n : ℕ) (t : Bytes) → Stops (closed n t)
unfolding closed
closed_stops zero t = refl
closed_stops (suc n) t = refl

module _ (x : ℕ) where
  alive_begin : AliveBy (from_begin x)
  unfolding Alive example
  alive_begin = alive_when (eqb x 98) _ _ (((refl, refl), refl)) dead

  alive_revise : AliveBy (from_revise x)
  unfolding Alive example
  alive_revise = alive_when (eqb x 114) _ _ (refl, refl) alive_begin

  alive_select : AliveBy (from_select x)
  unfolding Alive example
  alive_select = alive_when (eqb x 115) _ _ refl alive_revise

  alive_do : AliveBy (from_do x)
  unfolding Alive example
  alive_do = alive_when (eqb x 100) _ _ ((refl, refl), refl) alive_select

  alive_line : (s : Start) → AliveBy (line s x)
  unfolding Alive example
  alive_line first = alive_when (eqb x 97) _ _ (refl, refl) dead
  alive_line actions = alive_when (eqb x 97) _ _ (refl, refl) alive_do
  alive_line dos = alive_do
  alive_line selects = alive_select
  alive_line revises = alive_revise
  alive_line ending = dead

  pub alive_step : (q : ScanState) → Alive q → AliveBy (step q x)
  unfolding Alive AliveBy example step
  alive_step (lines s) a = alive_when (eqb x LF) _ _ refl (alive_when (eqb x 35) _ _ refl (alive_line s))
  alive_step (rest [] k) a = alive_step k a
  alive_step (rest (c ∷ w) k) a = alive_when (eqb x c) _ _ a dead
  alive_step (number k) a = alive_when (digit x) _ _ a dead
  alive_step (digits k) a = alive_when (digit x) _ _ a (alive_step k a.0)
  alive_step (list w k) a = alive_when (eqb x 32) _ _ a dead
  alive_step (spaced [] k) a = alive_when (digit x) _ _ (a, refl) (alive_step k a.0)
  alive_step (spaced (c ∷ w) k) a = alive_when (digit x) _ _ (a, refl) (alive_when (eqb x c) _ _ a.0 dead)
  alive_step (list_end k) a = alive_when (eqb x LF) _ _ a (alive_when (eqb x 32) _ _ a dead)
  alive_step (spaced_end k) a = alive_when (digit x) _ _ (a, refl) (alive_when (eqb x 35) _ _ a dead)
  alive_step (end k) a = alive_when (eqb x LF) _ _ a (alive_when (eqb x 32) _ _ a dead)
  alive_step (remark k) a = alive_when (eqb x LF) _ _ a a
  alive_step (unit n w k) a =
      let h : Alive (number (after n w k)) = (a, closed_stops n (w ++ example k)) in
      alive_when (eqb x 84) _ _ a (alive_when (eqb x 66) _ _ h (alive_when (eqb x 71) _ _ h (alive_when (eqb x 33) _ _ a (alive_when (eqb x 40) _ _ a dead))))
  alive_step (after zero w k) a = alive_when (eqb x 38) _ _ a (alive_when (eqb x 124) _ _ a (alive_when (eqb x 32) _ _ a dead))
  alive_step (after (suc n) w k) a = alive_when (eqb x 38) _ _ a (alive_when (eqb x 124) _ _ a (alive_when (eqb x 41) _ _ a dead))
