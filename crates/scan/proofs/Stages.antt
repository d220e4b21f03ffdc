-- Which line may stand where, by the stage of the text, and what it comes to.
use mathlib.Core.Path.{◌≡◌, refl, ap, sym, ◌∙◌}
use mathlib.Core.Bool.{false}
use mathlib.Core.Option.{Option, none, some}
use Prim.Native.Nat.{ℕ, ◌+◌, ◌<◌}
use lib.ListN.{length, get_or}
use native.Mathlib.Omega.{arith}
use borrow.Author.Tests.{ne_eqb}
use lib.Dec.{eqb}
use mathlib.Core.Logic.{◌⊎◌, ⊎_elim}
use Rattle.std.proofs.Common.{Result, Ok, Err}
use Rattle.std.specs.Result.{IsErrAnd}
use Rattle.meaning.specs.Card.{Bytes}
use Rattle.notation.specs.Scanning.{Start, first, actions, dos, selects, revises, ending, ScanState, lines, remark, atoms_line, action_line, from_begin, from_revise, from_select, from_do, do_line, select_line, revise_line, begin_line, when, line, step, accepts, at-end, judge}
use Rattle.scan.specs.declared.scan.Wrong.{Wrong}
use Rattle.scan.specs.declared.lines.Stage.{Stage}
use Rattle.scan.specs.declared.lines.Staged.{Staged}
use Rattle.scan.specs.Scans.{Scans, start_of, NextLine, found, scan_from, from_there}
use Rattle.scan.proofs.Scanning.{scan_on, scan_wrong, scan_short, up}
use Rattle.conditions.proofs.Numbers.{drop_none}

-- ---- the next line

pub next_failed : (t : Bytes) (n : ℕ) (stage : Stage) (r : Result Staged Wrong) (e : Wrong) → IsErrAnd r (λ y. y ≡ e) → scan_from t n (lines (start_of stage)) ≡ some e.at → NextLine t n stage r
next_failed t n stage (Ok x) e q f = absurd q
next_failed t n stage (Err y) e q f = f ∙ ap (λ (x : Wrong). some x.at) (sym q)

module _ (t : Bytes) (n : ℕ) (stage : Stage) (h : n < length t) (y : ℕ) (e : get_or t n 0 ≡ y) where
  pub next_on : (q : ScanState) → step (lines (start_of stage)) y ≡ some q → scan_from t n (lines (start_of stage)) ≡ scan_from t (n + 1) q
  next_on q s = scan_on t n (lines (start_of stage)) q h (ap (step (lines (start_of stage))) e ∙ s) ∙ up t n q h q

  pub next_none : step (lines (start_of stage)) y ≡ none → scan_from t n (lines (start_of stage)) ≡ some n
  next_none s = scan_wrong t n (lines (start_of stage)) h (ap (step (lines (start_of stage))) e ∙ s)

  pub next_over : (L : ScanState → ScanState) (s : Stage) → step (lines (start_of stage)) y ≡ some (L (lines (start_of s)))
      → (m : ℕ) → Scans t (n + 1) L (λ k. k) (Ok m) → NextLine t n stage (Ok (record { at = m; stage = s }))
  next_over L s g m b = (let a = b.0 in omega arith, b.1, next_on (L (lines (start_of s))) g ∙ b.2 (lines (start_of s)))

-- ---- which line may stand where

pub atoms : (s : Stage) → s ≡ Stage.First → step (lines (start_of s)) 97 ≡ some atoms_line
unfolding step
atoms s e = ap (λ (x : Stage). step (lines (start_of x)) 97) e

pub action : (s : Stage) → s ≡ Stage.Actions → step (lines (start_of s)) 97 ≡ some action_line
unfolding step
action s e = ap (λ (x : Stage). step (lines (start_of x)) 97) e

pub a_wrong : (s : Stage) → (s ≡ Stage.First → ⊥) → (s ≡ Stage.Actions → ⊥) → step (lines (start_of s)) 97 ≡ none
unfolding step
a_wrong Stage.First a b = absurd (a refl)
a_wrong Stage.Actions a b = absurd (b refl)
a_wrong Stage.Dos a b = refl
a_wrong Stage.Selects a b = refl
a_wrong Stage.Revises a b = refl
a_wrong Stage.Ending a b = refl

pub do_wrong : (s : Stage) → (s ≡ Stage.Actions → ⊥) → (s ≡ Stage.Dos → ⊥) → step (lines (start_of s)) 100 ≡ none
unfolding step
do_wrong Stage.First a b = refl
do_wrong Stage.Actions a b = absurd (a refl)
do_wrong Stage.Dos a b = absurd (b refl)
do_wrong Stage.Selects a b = refl
do_wrong Stage.Revises a b = refl
do_wrong Stage.Ending a b = refl

pub select_wrong : (s : Stage) → (s ≡ Stage.Actions → ⊥) → (s ≡ Stage.Dos → ⊥) → (s ≡ Stage.Selects → ⊥) → step (lines (start_of s)) 115 ≡ none
unfolding step
select_wrong Stage.First a b c = refl
select_wrong Stage.Actions a b c = absurd (a refl)
select_wrong Stage.Dos a b c = absurd (b refl)
select_wrong Stage.Selects a b c = absurd (c refl)
select_wrong Stage.Revises a b c = refl
select_wrong Stage.Ending a b c = refl

pub do_stage : (s : Stage) → (s ≡ Stage.Actions) ⊎ (s ≡ Stage.Dos) → step (lines (start_of s)) 100 ≡ some do_line
unfolding step
do_stage s = ⊎_elim (λ e. ap (λ (x : Stage). step (lines (start_of x)) 100) e) (λ e. ap (λ (x : Stage). step (lines (start_of x)) 100) e)

pub select_stage : (s : Stage) → (s ≡ Stage.Actions) ⊎ ((s ≡ Stage.Dos) ⊎ (s ≡ Stage.Selects)) → step (lines (start_of s)) 115 ≡ some select_line
unfolding step
select_stage s =
    ⊎_elim (λ e. ap (λ (x : Stage). step (lines (start_of x)) 115) e)
    (⊎_elim (λ e. ap (λ (x : Stage). step (lines (start_of x)) 115) e) (λ e. ap (λ (x : Stage). step (lines (start_of x)) 115) e))

pub revise : (s : Stage) → (s ≡ Stage.First → ⊥) → (s ≡ Stage.Ending → ⊥) → step (lines (start_of s)) 114 ≡ some revise_line
unfolding step
revise Stage.First a b = absurd (a refl)
revise Stage.Actions a b = refl
revise Stage.Dos a b = refl
revise Stage.Selects a b = refl
revise Stage.Revises a b = refl
revise Stage.Ending a b = absurd (b refl)

pub begin : (s : Stage) → (s ≡ Stage.First → ⊥) → (s ≡ Stage.Ending → ⊥) → step (lines (start_of s)) 98 ≡ some begin_line
unfolding step
begin Stage.First a b = absurd (a refl)
begin Stage.Actions a b = refl
begin Stage.Dos a b = refl
begin Stage.Selects a b = refl
begin Stage.Revises a b = refl
begin Stage.Ending a b = absurd (b refl)

pub both_wrong : (s : Stage) → (s ≡ Stage.First) ⊎ (s ≡ Stage.Ending) → (step (lines (start_of s)) 114 ≡ none) × (step (lines (start_of s)) 98 ≡ none)
unfolding step
both_wrong s = ⊎_elim
    (λ e. (ap (λ (x : Stage). step (lines (start_of x)) 114) e, ap (λ (x : Stage). step (lines (start_of x)) 98) e))
    (λ e. (ap (λ (x : Stage). step (lines (start_of x)) 114) e, ap (λ (x : Stage). step (lines (start_of x)) 98) e))

-- no line begins with another byte
module _ (x : ℕ) (a : eqb x 97 ≡ false) (d : eqb x 100 ≡ false) (s : eqb x 115 ≡ false) (r : eqb x 114 ≡ false) (b : eqb x 98 ≡ false) where
  no_begin : from_begin x ≡ none
  no_begin = λ i. when (b i) begin_line none

  no_revise : from_revise x ≡ none
  no_revise = (λ i. when (r i) revise_line (from_begin x)) ∙ no_begin

  no_select : from_select x ≡ none
  no_select = (λ i. when (s i) select_line (from_revise x)) ∙ no_revise

  no_do : from_do x ≡ none
  no_do = (λ i. when (d i) do_line (from_select x)) ∙ no_select

  no_line : (q : Start) → line q x ≡ none
  no_line first = λ i. when (a i) atoms_line none
  no_line actions = (λ i. when (a i) action_line (from_do x)) ∙ no_do
  no_line dos = no_do
  no_line selects = no_select
  no_line revises = no_revise
  no_line ending = refl

pub next_wrong : (t : Bytes) (n : ℕ) (stage : Stage) → n < length t → (get_or t n 0 ≡ 10 → ⊥) → (get_or t n 0 ≡ 35 → ⊥) → (get_or t n 0 ≡ 97 → ⊥) → (get_or t n 0 ≡ 100 → ⊥)
    → (get_or t n 0 ≡ 115 → ⊥) → (get_or t n 0 ≡ 114 → ⊥) → (get_or t n 0 ≡ 98 → ⊥) → scan_from t n (lines (start_of stage)) ≡ some n
unfolding step
next_wrong t n stage h e f a d s r b =
    let x = get_or t n 0 in
    let q = start_of stage in
    scan_wrong t n (lines q) h
    ((λ i. when (ne_eqb x 10 e i) (lines q) (when (ne_eqb x 35 f i) (remark (lines q)) (line q x)))
    ∙ no_line x (ne_eqb x 97 a) (ne_eqb x 100 d) (ne_eqb x 115 s) (ne_eqb x 114 r) (ne_eqb x 98 b) q)

-- ---- the whole text

from_first : (o : Option ℕ) → from_there 0 o ≡ o
from_first none = refl
from_first (some p) = ap some (let z : 0 + p ≡ p = omega arith in z)

module _ (t : Bytes) (n : ℕ) (stage : Stage) (so_far : scan_from t 0 (lines first) ≡ scan_from t n (lines (start_of stage))) where
  begins : judge t (lines first) ≡ scan_from t n (lines (start_of stage))
  begins = sym (from_first (judge t (lines first))) ∙ so_far

  pub text_wrong : (p : ℕ) → scan_from t n (lines (start_of stage)) ≡ some p → some p ≡ judge t (lines first)
  text_wrong p e = sym (begins ∙ e)

  pub text_failed : {A : Type 0} (r : Result A Wrong) (e : Wrong) → IsErrAnd r (λ y. y ≡ e) → scan_from t n (lines (start_of stage)) ≡ some e.at → found r ≡ judge t (lines first)
  text_failed (Ok x) e q f = absurd q
  text_failed (Err y) e q f = ap (λ (x : Wrong). some x.at) q ∙ text_wrong e.at f

  pub text_over : n ≡ length t → stage ≡ Stage.Ending → none ≡ judge t (lines first)
  unfolding judge accepts
  text_over e f = sym (begins ∙ ap (λ s. from_there n (judge s (lines (start_of stage)))) (drop_none t n e) ∙ ap (λ s. from_there n (at-end (accepts (lines (start_of s))))) f)

  pub text_short : n ≡ length t → (stage ≡ Stage.Ending → ⊥) → some n ≡ judge t (lines first)
  unfolding accepts
  text_short e f = sym (begins ∙ scan_short t n (lines (start_of stage)) e (go stage f))
    where
      go : (s : Stage) → (s ≡ Stage.Ending → ⊥) → accepts (lines (start_of s)) ≡ false
      go Stage.First f = refl
      go Stage.Actions f = refl
      go Stage.Dos f = refl
      go Stage.Selects f = refl
      go Stage.Revises f = refl
      go Stage.Ending f = absurd (f refl)
