-- What the calls answer: what they tell of an accepted card, program, numbers and configuration, their refusals in their order,
-- and demand 3.
use mathlib.Core.Path.{◌≡◌, refl, ap, ◌∙◌, sym, subst}
use mathlib.Core.Bool.{Bool, true, false, not}
use mathlib.Core.List.{List, [], ◌∷◌, ◌++◌, Memᴰ}
use Prim.Native.Nat.{ℕ, ◌-◌, ◌≤◌}
use native.Mathlib.Omega.{arith}
use lib.ListN.{length, replicate, length-take}
use lib.Seq.{take_at}
use Rattle.paper.specs.Language.{𝐁, Agent, Config}
use Rattle.paper.specs.Transitions.{Choice, Step}
use Rattle.runs.specs.Order.{State}
use Rattle.runs.specs.Run.{Chain, stay, ◌then◌}
use Rattle.runs.specs.Theorems.{NoneBelieved}
use Rattle.runs.proofs.Goals.{goal_law}
use Rattle.meaning.specs.declared.Refusal.{Refusal}
use Rattle.meaning.specs.Answers.{Answer}
use Rattle.std.specs.Prelude.{Ok, Err}
use Rattle.meaning.specs.declared.Layout.{Layout}
use Rattle.meaning.specs.declared.Configuration.{Configuration}
use Rattle.meaning.specs.Card.{Bytes, layout, conditions, agent}
use Rattle.meaning.specs.Configurations.{state_of, configuration_of}
use Rattle.meaning.specs.Refusals.{number_of, answer_number, Row, ◌given_when◌, first_given, and_then, card_answer, containing, configuration_good, configuration_table}
use Rattle.meaning.proofs.Tables.{done≢refused, given, not_given}
use Rattle.meaning.proofs.Accepted.{card_laws}
use Rattle.meaning.proofs.Configurations.{good, configuration_laws}
use Rattle.deliberation.specs.declared.Deliberated.{Deliberated}
use Rattle.deliberation.specs.Programs.{Rest}
use Rattle.deliberation.specs.MetaTransitions.{Computation, not_idle}
use Rattle.deliberation.specs.Entries.{entry_count, entries_of, program_good, program_table, numbers_good, numbers_table, go_on_answer, whole, deliberate_answer, standing, move_at}
use Rattle.deliberation.specs.Deliberate.{Outcome, deliberate, remaining_of, deliberated, refused, goes_on}
use Rattle.deliberation.specs.Theorems.{parts_of, numbers_in, stand_for, Followed, FollowedNumbers, EndsExactly, GoesOn, WholeLaw, Tells, TellsLaw, BoundedMovesLaw, RefusalLaw, DeterminedLaw}
use Rattle.deliberation.proofs.Good.{some_entries, most_entries}
use Rattle.deliberation.specs.Stacked.{nothing, put}
use Rattle.deliberation.proofs.Room.{stacked_length, stacked_known, stacked_good, good_stacked}
use Rattle.deliberation.proofs.Followed.{computation, chain, Kept, keeps, fits}
use Rattle.deliberation.proofs.Run.{Walked, walked, ends_exactly}

-- ---- the answer, by its two equations

module _ (b p : Bytes) (ns : List ℕ) (c : Configuration) (budget : ℕ) where
  abbrev pub outcome : Outcome
  outcome = deliberate (agent b) (conditions 𝐁 (layout b) b) (entries_of p) budget ns (state_of c)

  module _ (lent : Bytes) where
    pub goes_on_done : go_on_answer b p ns c ≡ Ok tt → goes_on b p ns c budget lent ≡ deliberated outcome
    unfolding goes_on
    goes_on_done e = rw (e, goes_on)

    pub goes_on_refused : (q : Refusal) → go_on_answer b p ns c ≡ Err q → goes_on b p ns c budget lent ≡ refused q c lent
    unfolding goes_on
    goes_on_refused q e = rw (e, goes_on)

-- ---- the checks, in their order

-- a table of one row
module _ {X : Type 0} (r : Refusal) (good : X → Bool) (x : X) where
  abbrev row : Row X
  row = r given_when (λ x. not (good x))

  bad_row : good x ≡ false → first_given (row ∷ []) x ≡ Err r
  bad_row e = given row [] x (rw e)

  good_row : good x ≡ true → first_given (row ∷ []) x ≡ Ok tt
  unfolding first_given
  good_row e = not_given row [] x (rw e)

module _ (b p : Bytes) (ns : List ℕ) (c : Configuration) where
  abbrev program_test : Bytes → Bool
  program_test = program_good (containing 2 (layout b) b) (layout b)

  abbrev numbers_test : List ℕ → Bool
  numbers_test = numbers_good (entry_count p)

  pub card_refused : (q : Refusal) → card_answer b ≡ Err q → go_on_answer b p ns c ≡ Err q
  unfolding go_on_answer
  card_refused q e = rw e

  module _ (card : card_answer b ≡ Ok tt) where
    pub program_refused : program_test p ≡ false → go_on_answer b p ns c ≡ Err Refusal.Program
    unfolding go_on_answer program_table
    program_refused e = rw (card, bad_row Refusal.Program program_test p e)

    module _ (program : program_test p ≡ true) where
      after_program : go_on_answer b p ns c ≡ and_then (first_given (numbers_table p) ns) (first_given (configuration_table (layout b)) c)
      unfolding go_on_answer program_table
      after_program = rw (card, good_row Refusal.Program program_test p program)

      bad_numbers : numbers_test ns ≡ false → go_on_answer b p ns c ≡ Err Refusal.Program
      unfolding numbers_table
      bad_numbers e = after_program ∙ rw (bad_row Refusal.Program numbers_test ns e)

      module _ (numbers : numbers_test ns ≡ true) where
        pub after_numbers : go_on_answer b p ns c ≡ first_given (configuration_table (layout b)) c
        unfolding numbers_table
        after_numbers = after_program ∙ rw (good_row Refusal.Program numbers_test ns numbers)

        pub configuration_refused : configuration_good (layout b) c ≡ false → go_on_answer b p ns c ≡ Err Refusal.Configuration
        unfolding configuration_table
        configuration_refused e = after_numbers ∙ bad_row Refusal.Configuration (configuration_good (layout b)) c e

        pub nothing_refused : configuration_good (layout b) c ≡ true → go_on_answer b p ns c ≡ Ok tt
        unfolding configuration_table
        nothing_refused e = after_numbers ∙ good_row Refusal.Configuration (configuration_good (layout b)) c e

    -- with a bad program too
    pub numbers_refused : numbers_test ns ≡ false → go_on_answer b p ns c ≡ Err Refusal.Program
    numbers_refused e = go (program_test p) refl
      where
        go : (t : Bool) → program_test p ≡ t → go_on_answer b p ns c ≡ Err Refusal.Program
        go true h = bad_numbers h e
        go false h = program_refused h

-- ---- what an accepted call has passed

pub record Passed (b p : Bytes) (ns : List ℕ) (c : Configuration) : Type 0 where
  pub card : card_answer b ≡ Ok tt
  pub program_good_lem : program_good (containing 2 (layout b) b) (layout b) p ≡ true
  pub numbers_good_lem : numbers_good (entry_count p) ns ≡ true
  pub configuration_good_lem : configuration_good (layout b) c ≡ true

pub passed : (b p : Bytes) (ns : List ℕ) (c : Configuration) → go_on_answer b p ns c ≡ Ok tt → Passed b p ns c
passed b p ns c e = by_card (card_answer b) refl
  where
    by_configuration : card_answer b ≡ Ok tt → program_test b p ns c p ≡ true → numbers_test b p ns c ns ≡ true → (t : Bool) → configuration_good (layout b) c ≡ t
        → Passed b p ns c
    by_configuration d g f true h = record { card = d; program_good_lem = g; numbers_good_lem = f; configuration_good_lem = h }
    by_configuration d g f false h = absurd (done≢refused (sym e ∙ configuration_refused b p ns c d g f h))

    by_numbers : card_answer b ≡ Ok tt → program_test b p ns c p ≡ true → (t : Bool) → numbers_test b p ns c ns ≡ t → Passed b p ns c
    by_numbers d g true h = by_configuration d g h (configuration_good (layout b) c) refl
    by_numbers d g false h = absurd (done≢refused (sym e ∙ numbers_refused b p ns c d h))

    by_program : card_answer b ≡ Ok tt → (t : Bool) → program_test b p ns c p ≡ t → Passed b p ns c
    by_program d true h = by_numbers d h (numbers_test b p ns c ns) refl
    by_program d false h = absurd (done≢refused (sym e ∙ program_refused b p ns c d h))

    by_card : (a : Answer) → card_answer b ≡ a → Passed b p ns c
    by_card (Ok _) h = by_program h (program_test b p ns c p) refl
    by_card (Err q) h = absurd (done≢refused (sym e ∙ card_refused b p ns c q h))

-- ---- what remains, as it is answered

pub numbers_back : (ns : List ℕ) → numbers_in (remaining_of ns) ≡ ns
unfolding remaining_of
numbers_back ns = take_at ns (replicate (128 - length ns) 0) (length ns) refl

length_back : (ns : List ℕ) → (remaining_of ns).length ≡ length ns
unfolding remaining_of
length_back ns = refl

plan_fits : (c : Configuration) → c.mind.length ≤ 1024 → length (state_of c).mental.π ≤ 1024
unfolding state_of
plan_fits c h = rw (length-take c.mind.length c.plan) (omega arith)

-- ---- what the answer tells

module _ (b p : Bytes) (ns : List ℕ) (c : Configuration) (budget : ℕ) (pass : Passed b p ns c) where
  abbrev gs : List Bool
  gs = containing 2 (layout b) b

  abbrev o : Outcome
  o = outcome b p ns c budget

  abbrev P : Rest
  P = stand_for b p ns

  walk : Walked gs (layout b) p pass.program_good_lem (agent b) (conditions 𝐁 (layout b) b) (entry_count p) (omega arith) budget P ns (state_of c) o
  walk =
      walked gs (layout b) p pass.program_good_lem (agent b) (conditions 𝐁 (layout b) b) (entry_count p) (omega arith) budget P ns (state_of c) refl
      (good_stacked (entry_count p) ns pass.numbers_good_lem)

  state_fits : length o.state.mental.π ≤ 1024
  state_fits = fits walk.followed (plan_fits c (good (layout b) c pass.configuration_good_lem).fits)

  -- the configuration that is answered stands for the state reached
  state_back : state_of (deliberated o).configuration ≡ o.state
  state_back = configuration_laws.of_state o.state state_fits

  moved : FollowedNumbers (agent b) (move_at (layout b) b p) ns (state_of c) walk.labels o.remaining o.state
  unfolding agent
  moved = walk.numbered

  tells : Tells b p ns c budget (deliberated o)
  tells =
      let w = walk in
      let ms = o.remaining in
      let back = sym state_back in
      let most = most_entries gs (layout b) p pass.program_good_lem in
      let long = stacked_length w.stacked in
      record {
        done = refl;
        labels = w.labels;
        rest = w.rest;
        computation = subst (λ (s : State). Computation (agent b) P (state_of c).mental w.labels w.rest s.mental) back (computation w.followed);
        followed = subst (Followed (agent b) P (state_of c) w.labels w.rest) back w.followed;
        counted = w.counted;
        ends = subst (λ s. EndsExactly (agent b) budget o.count w.rest s o.ending) back (ends_exactly w.because);
        remains = w.stands ∙ ap (λ ns. parts_of (stand_for b p ns)) (sym (numbers_back ms));
        numbered = rw (state_back, numbers_back ms) moved;
        room = rw (length_back ms) (omega arith);
        known = λ n i. stacked_known w.stacked n (subst (Memᴰ n) (numbers_back ms) i);
        accepted = rw (numbers_back ms) (stacked_good w.stacked);
        chain = subst (λ (s : State). Chain (agent b) (state_of c).mental (not_idle w.labels) s.mental) back (chain w.followed);
      }

pub tells_law : TellsLaw
tells_law b p ns c budget lent e r q =
    subst (Tells b p ns c budget) (sym (q ∙ goes_on_done b p ns c budget lent e)) (tells b p ns c budget (passed b p ns c e))

-- ---- what a done deliberation keeps

-- what each transition keeps whose plan fits, a done deliberation keeps
pub done_keeps : (b p : Bytes) (ns : List ℕ) (c : Configuration) (budget : ℕ) (lent : Bytes) → go_on_answer b p ns c ≡ Ok tt → (r : Deliberated)
    → GoesOn b p ns c budget lent r → (Q : State → Type 0) → Kept (agent b) Q → Q (state_of c) → (s : State) × ((r.configuration ≡ configuration_of s) × Q s)
done_keeps b p ns c budget lent e r q Q f h =
    let o = outcome b p ns c budget in (
      o.state,
      (ap (λ (x : Deliberated). x.configuration) (q ∙ goes_on_done b p ns c budget lent e), keeps Q f (walk b p ns c budget (passed b p ns c e)).followed h),
    )

-- no goal gets believed
pub none_believed : (b p : Bytes) (ns : List ℕ) (c : Configuration) (budget : ℕ) (lent : Bytes) → go_on_answer b p ns c ≡ Ok tt → (r : Deliberated)
    → GoesOn b p ns c budget lent r → NoneBelieved (state_of c).mental → NoneBelieved (state_of r.configuration).mental
none_believed b p ns c budget lent e r q h = (goal_law (agent b)).stays_so (tells_law b p ns c budget lent e r q).chain h

-- ---- demand 3

one_more_step : {A : Agent} {c c' c'' : Config} {ks : List Choice} {k : Choice} → Chain A c ks c' → Step A c' k c'' → Chain A c (ks ++ (k ∷ [])) c''
one_more_step stay t = ◌then◌ t stay
one_more_step (◌then◌ x r) t = ◌then◌ x (one_more_step r t)

pub bounded_moves_law : BoundedMovesLaw
bounded_moves_law b p ns c budget lent e r q v w =
    let t = tells_law b p ns c budget lent e r q in
    let law = (card_laws b (passed b p ns c e).card).graded in
    record {
      tells = t;
      without_selection = λ none. law.without_selection v w t.chain none;
      with_selections = law.with_selections v w t.chain;
      never_full = λ f. (
          let o = (t.ends.full.0 f).1.1.1 in
          let h : length o.reached.π ≤ 1024 = law.never_too_long v w (one_more_step t.chain o.leads) in
          let k = o.long in
          omega arith);
    }

-- ---- refusals

module _ (b p : Bytes) (ns : List ℕ) (c : Configuration) (budget : ℕ) (lent : Bytes) where
  abbrev told : Deliberated
  told = goes_on b p ns c budget lent

  -- the answer is that of the checks
  pub said : (a : Answer) → go_on_answer b p ns c ≡ a → told.answer ≡ a
  said (Ok _) e = ap (λ (r : Deliberated). r.answer) (goes_on_done b p ns c budget lent e)
  said (Err q) e = ap (λ (r : Deliberated). r.answer) (goes_on_refused b p ns c budget lent q e)

  handed_back : (q : Refusal) → told.answer ≡ Err q
      → (told.configuration ≡ c) × ((told.count ≡ 0) × ((told.remaining.length ≡ 0) × (told.remaining.numbers ≡ lent)))
  handed_back q e = go (go_on_answer b p ns c) refl
    where
      go : (a : Answer) → go_on_answer b p ns c ≡ a
          → (told.configuration ≡ c) × ((told.count ≡ 0) × ((told.remaining.length ≡ 0) × (told.remaining.numbers ≡ lent)))
      go (Ok _) h = absurd (done≢refused (sym (said (Ok tt) h) ∙ e))
      go (Err r) h = rw (goes_on_refused b p ns c budget lent r h) (refl, (refl, (refl, refl)))

pub refusal_law : RefusalLaw
unfolding answer_number number_of
refusal_law b p ns c budget lent r q =
    let say = said b p ns c budget lent in
    rw q
    (record {
      by_card = λ x e. say (Err x) (card_refused b p ns c x e);
      by_program = λ d e. ap answer_number (say (Err Refusal.Program) (program_refused b p ns c d e));
      by_numbers = λ d e. ap answer_number (say (Err Refusal.Program) (numbers_refused b p ns c d e));
      by_configuration = λ d g f e. ap answer_number (say (Err Refusal.Configuration) (configuration_refused b p ns c d g f e));
      otherwise = λ d g f e. say (Ok tt) (nothing_refused b p ns c d g f e);
      hands_back = handed_back b p ns c budget lent;
    })

pub determined_law : DeterminedLaw
determined_law b p ns c budget lent r r' e e' = e ∙ sym e'

-- ---- from the whole

pub whole_good : (gs : List Bool) (l : Layout) (p : Bytes) → program_good gs l p ≡ true → numbers_good (entry_count p) (whole p) ≡ true
whole_good gs l p good = let h = some_entries gs l p good in stacked_good (put (entry_count p - 1) [] (omega arith) nothing)

pub whole_law : WholeLaw
unfolding standing answer_number number_of
whole_law b p = record {
  stands_for = refl;
  refused_exactly = λ card c. (λ e. by_answer card c e (program_test b p (whole p) c p) refl, λ e. ap answer_number (program_refused b p (whole p) c card e));
}
  where
    by_good : card_answer b ≡ Ok tt → (c : Configuration) → answer_number (deliberate_answer b p c) ≡ 19 → program_test b p (whole p) c p ≡ true
        → (t : Bool) → configuration_good (layout b) c ≡ t → ⊥
    by_good card c e g true h = absurd (let z = sym e ∙ ap answer_number (nothing_refused b p (whole p) c card g (whole_good _ _ p g) h) in omega arith)
    by_good card c e g false h = absurd (let z = sym e ∙ ap answer_number (configuration_refused b p (whole p) c card g (whole_good _ _ p g) h) in omega arith)

    by_answer : card_answer b ≡ Ok tt → (c : Configuration) → answer_number (deliberate_answer b p c) ≡ 19 → (t : Bool) → program_test b p (whole p) c p ≡ t
        → program_test b p (whole p) c p ≡ false
    by_answer card c e true h = absurd (by_good card c e h (configuration_good (layout b) c) refl)
    by_answer card c e false h = h
