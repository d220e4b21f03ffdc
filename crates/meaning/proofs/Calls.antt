-- What each call answers once the card is judged.
use mathlib.Core.Path.{◌≡◌, refl, sym, ap, ◌∙◌, subst}
use mathlib.Core.Bool.{true, false, not}
use mathlib.Core.List.{List, []}
use mathlib.Core.Option.{none, some}
use Prim.Native.Nat.{ℕ}
use lib.Dec.{leb}
use lib.ListN.{length}
use Rattle.runs.specs.declared.Verdict.{Verdict}
use Rattle.runs.specs.declared.Offender.{Offender}
use Rattle.runs.specs.Weight.{verdict}
use Rattle.meaning.specs.declared.Refusal.{Refusal}
use Rattle.meaning.specs.declared.Layout.{Layout}
use Rattle.meaning.specs.Answers.{Answer, Checked}
use Rattle.std.specs.Prelude.{Ok, Err}
use Rattle.meaning.specs.declared.Coming.{Coming}
use Rattle.meaning.specs.Card.{Bytes, layout, weight, agent, initial_plan, start}
use Rattle.runs.specs.declared.Ending.{Ending}
use Rattle.paper.specs.Language.{Agent}
use Rattle.paper.specs.Transitions.{Choice}
use Rattle.runs.specs.Order.{State, guide, enabled_codes}
use Rattle.runs.specs.Step.{Reached, nothing, full, to, step_by}
use Rattle.runs.specs.Run.{run}
use Rattle.meaning.specs.declared.Configuration.{Configuration}
use Rattle.meaning.specs.declared.Written.{Written}
use Rattle.meaning.specs.declared.Listed.{Listed}
use Rattle.meaning.specs.Configurations.{state_of, configuration_of, empty}
use Rattle.meaning.specs.Refusals.{card_answer, place_answer, ◌given_when◌, and_then, first_given, configuration_good, configuration_table, configuration_answer}
use Rattle.meaning.specs.Place.{place, placed}
use Rattle.meaning.specs.Why.{why_closed}
use Rattle.meaning.specs.Looking.{conditions_judged, goals_open}
use Rattle.meaning.specs.Calls.{checks, reply, loads, graded, grades, written, over, room_for, write_answer, writes, leaves, number_by, listed, lists, list_leaves, choice, takes, ran, runs, coming_by, coming_of, coming, nexts, saves, save_leaves, restores}
use Rattle.meaning.proofs.Tables.{given, not_given}

module _ (b : Bytes) where
  pub checks_good : card_answer b ≡ Ok tt → checks b ≡ Ok (layout b)
  unfolding checks
  checks_good e = rw (e, checks)

  pub checks_refused : (r : Refusal) → card_answer b ≡ Err r → checks b ≡ Err r
  unfolding checks
  checks_refused r e = rw (e, checks)

  pub loads_good : card_answer b ≡ Ok tt → loads b ≡ reply (Ok tt) (configuration_of (start b))
  unfolding loads
  loads_good e = rw (e, loads)

  pub loads_refused : (r : Refusal) → card_answer b ≡ Err r → loads b ≡ reply (Err r) empty
  unfolding loads
  loads_refused r e = rw (e, loads)

  pub grades_good : card_answer b ≡ Ok tt → grades b ≡ graded (Ok tt) (verdict (weight b) (agent b) (initial_plan b))
  unfolding grades
  grades_good e = rw (e, grades)

  pub grades_refused : (r : Refusal) → card_answer b ≡ Err r → grades b ≡ graded (Err r) (Verdict.Open Offender.InitialPlan)
  unfolding grades
  grades_refused r e = rw (e, grades)

  -- and back: what a checked card was answered with
  abbrev Judged : Checked → Type 0
  Judged (Ok l) = (card_answer b ≡ Ok tt) × (l ≡ layout b)
  Judged (Err r) = card_answer b ≡ Err r

  judged : Judged (checks b)
  judged = go (card_answer b) refl
    where
      go : (a : Answer) → card_answer b ≡ a → Judged (checks b)
      go (Ok _) e = subst Judged (sym (checks_good e)) (e, refl)
      go (Err r) e = subst Judged (sym (checks_refused r e)) e

  pub good_judged : (l : Layout) → checks b ≡ Ok l → (card_answer b ≡ Ok tt) × (l ≡ layout b)
  good_judged l e = subst Judged e judged

  pub refused_judged : (r : Refusal) → checks b ≡ Err r → card_answer b ≡ Err r
  refused_judged r e = subst Judged e judged

-- ---- the calls that are handed a configuration, on a good card

module _ (b : Bytes) (c : Configuration) (card : card_answer b ≡ Ok tt) where
  pub configuration_refused : configuration_good (layout b) c ≡ false → configuration_answer b c ≡ Err Refusal.Configuration
  unfolding configuration_answer configuration_table
  configuration_refused e = ap (λ a. and_then a (first_given (configuration_table (layout b)) c)) card ∙ given (Refusal.Configuration given_when (λ (x : Configuration). not (configuration_good (layout b) x))) [] c (ap not e)

  pub configuration_good_lem : configuration_good (layout b) c ≡ true → configuration_answer b c ≡ Ok tt
  unfolding configuration_answer configuration_table first_given
  configuration_good_lem e = ap (λ a. and_then a (first_given (configuration_table (layout b)) c)) card ∙ not_given (Refusal.Configuration given_when (λ (x : Configuration). not (configuration_good (layout b) x))) [] c (ap not e)

module _ (b : Bytes) (c : Configuration) where
  pub takes_refused : (code : ℕ) (r : Refusal) → configuration_answer b c ≡ Err r → takes b c code ≡ reply (Err r) c
  unfolding takes
  takes_refused code r e = rw (e, takes)

  pub runs_refused : (budget : ℕ) (r : Refusal) → configuration_answer b c ≡ Err r → runs b c budget ≡ record { answer = Err r; count = 0; ending = Ending.Spent; configuration = c }
  unfolding runs
  runs_refused budget r e = rw (e, runs)

  pub nexts_refused : (r : Refusal) → configuration_answer b c ≡ Err r → nexts b c ≡ record { answer = Err r; coming = Coming.Rest; configuration = c }
  unfolding nexts
  nexts_refused r e = rw (e, nexts)

module _ (b : Bytes) (c : Configuration) (good : configuration_answer b c ≡ Ok tt) where
  pub takes_nothing : (code : ℕ) → step_by (agent b) (state_of c) (choice code) ≡ nothing → takes b c code ≡ reply (Err (why_closed (layout b) b (state_of c).mental (choice code))) c
  unfolding takes
  takes_nothing code e = rw (good, takes, e)

  pub takes_full : (code : ℕ) → step_by (agent b) (state_of c) (choice code) ≡ full → takes b c code ≡ reply (Err Refusal.PlanFull) c
  unfolding takes
  takes_full code e = rw (good, takes, e)

  pub takes_to : (code : ℕ) (k : Choice) (s : State) → step_by (agent b) (state_of c) (choice code) ≡ to k s → takes b c code ≡ reply (Ok tt) (configuration_of s)
  unfolding takes
  takes_to code k s e = rw (good, takes, e)

  pub runs_good : (budget : ℕ) → runs b c budget ≡ ran (run (agent b) budget (state_of c))
  unfolding runs
  runs_good budget = rw (good, runs)

  pub nexts_good : nexts b c ≡ record { answer = Ok tt; coming = coming (agent b) (state_of c); configuration = c }
  unfolding nexts
  nexts_good = rw (good, nexts)

-- ---- next: of the guide's own choice

module _ (A : Agent) (s : State) where
  pub own_told : (k : Choice) → guide A s ≡ some k → {o : Reached} → step_by A s (guide A s) ≡ o → coming A s ≡ coming_by k o
  unfolding coming
  own_told k g e = ap (coming_of A s) g ∙ ap (coming_by k) (sym (ap (step_by A s) g) ∙ e)

  pub none_told : guide A s ≡ none → coming A s ≡ Coming.Rest
  unfolding coming
  none_told g = ap (coming_of A s) g

-- ---- list and save: xs is to be written to out

module _ (b : Bytes) (c : Configuration) (xs out : List ℕ) where
  pub written_done : write_answer b c xs out ≡ Ok tt → (writes b c xs out ≡ written (Ok tt) (length xs) c) × (leaves b c xs out ≡ over xs out)
  unfolding writes leaves
  written_done e = (rw (e, writes), rw (e, leaves))

  pub written_refused : (r : Refusal) → write_answer b c xs out ≡ Err r → (writes b c xs out ≡ written (Err r) 0 c) × (leaves b c xs out ≡ out)
  unfolding writes leaves
  written_refused r e = (rw (e, writes), rw (e, leaves))

  pub writes_refused : (r : Refusal) → configuration_answer b c ≡ Err r → (writes b c xs out ≡ written (Err r) 0 c) × (leaves b c xs out ≡ out)
  writes_refused r e = written_refused r (rw (e, write_answer))

  module _ (good : configuration_answer b c ≡ Ok tt) where
    pub writes_room : leb (length xs) (length out) ≡ true → (writes b c xs out ≡ written (Ok tt) (length xs) c) × (leaves b c xs out ≡ over xs out)
    writes_room e = written_done (rw (good, write_answer) (rw (e, room_for)))

    pub writes_no_room : leb (length xs) (length out) ≡ false → (writes b c xs out ≡ written (Err Refusal.NoRoom) 0 c) × (leaves b c xs out ≡ out)
    writes_no_room e = written_refused Refusal.NoRoom (rw (good, write_answer) (rw (e, room_for)))

-- what list and save answer alike
abbrev pub written_of : Listed → Written
written_of r = written r.answer r.count r.configuration

module _ (b : Bytes) (c : Configuration) (out : List ℕ) where
  abbrev codes : List ℕ
  codes = enabled_codes (agent b) (state_of c).mental

  -- list answers what save does of its place, and two numbers more
  pub lists_as : lists b c out ≡ listed (writes b c codes out) (conditions_judged (agent b) (state_of c).mental) (goals_open (state_of c).mental)
  unfolding lists
  lists_as = refl

  pub lists_written : (r : Listed) → r ≡ lists b c out → written_of r ≡ writes b c codes out
  lists_written r e = ap written_of (e ∙ lists_as)

  -- the two numbers
  pub lists_judged : (r : Listed) → r ≡ lists b c out → r.judged ≡ number_by r.answer (conditions_judged (agent b) (state_of c).mental)
  lists_judged r e =
      let f = e ∙ lists_as in
      ap (λ (x : Listed). x.judged) f ∙ ap (λ (x : Listed). number_by x.answer (conditions_judged (agent b) (state_of c).mental)) (sym f)

  pub lists_goals : (r : Listed) → r ≡ lists b c out → r.goals ≡ number_by r.answer (goals_open (state_of c).mental)
  lists_goals r e =
      let f = e ∙ lists_as in
      ap (λ (x : Listed). x.goals) f ∙ ap (λ (x : Listed). number_by x.answer (goals_open (state_of c).mental)) (sym f)

  pub lists_refused : (r : Refusal) → configuration_answer b c ≡ Err r → (lists b c out ≡ listed (written (Err r) 0 c) 0 0) × (list_leaves b c out ≡ out)
  unfolding list_leaves
  lists_refused r e =
      let (x, y) = writes_refused b c codes out r e in
      (lists_as ∙ ap (λ w. listed w (conditions_judged (agent b) (state_of c).mental) (goals_open (state_of c).mental)) x, y)

  pub saves_refused : (r : Refusal) → configuration_answer b c ≡ Err r → (saves b c out ≡ written (Err r) 0 c) × (save_leaves b c out ≡ out)
  unfolding saves save_leaves
  saves_refused r e = writes_refused b c (place (layout b) (state_of c)) out r e

-- ---- restore

pub restores_good : (b p : Bytes) → place_answer b p ≡ Ok tt → restores b p ≡ reply (Ok tt) (configuration_of (placed (layout b) p))
unfolding restores
restores_good b p e = rw (e, restores)

pub restores_refused : (b p : Bytes) (q : Refusal) → place_answer b p ≡ Err q → restores b p ≡ reply (Err q) empty
unfolding restores
restores_refused b p q e = rw (e, restores)
