-- The calls: the numbers that are given and handed out, the checks in their order, and what is answered.
use mathlib.Core.Path.{◌≡◌, refl, ap, ap₂, ◌∙◌, sym, subst}
use mathlib.Core.Bool.{Bool, true, false, ◌&&◌}
use mathlib.Core.List.{List, ◌∷◌, ◌++◌, append-nil}
use Prim.Native.Nat.{ℕ, ◌+◌, ◌-◌, ◌≤◌, ◌<◌}
use native.Mathlib.Numerals.{add-one}
use native.Mathlib.Omega.{arith}
use lib.Dec.{ltb}
use lib.ListN.{length, take, drop, get_or, replicate, length-append, length-drop, drop_of_length-le}
use lib.Seq.{take_all, take_at, drop-cons, length-take-le, paste}
use Rattle.paper.specs.Language.{𝐁}
use Rattle.meaning.specs.declared.Refusal.{Refusal}
use Rattle.meaning.specs.Answers.{Answer}
use Rattle.std.specs.Prelude.{Ok, Err}
use Rattle.meaning.specs.declared.Layout.{Layout}
use Rattle.meaning.specs.declared.Standing.{Standing}
use Rattle.meaning.specs.declared.Configuration.{Configuration}
use Rattle.layout.specs.PlaceParts.{configured}
use Rattle.meaning.specs.Card.{Bytes, layout, conditions, agent_for, agent}
use Rattle.meaning.specs.Configurations.{state_of}
use Rattle.meaning.specs.Refusals.{containing, configuration_good}
use Rattle.meaning.specs.Calls.{checks}
use Rattle.meaning.proofs.Tables.{done≢refused}
use Rattle.meaning.proofs.Calls.{good_judged, refused_judged}
use Rattle.card.specs.Rows.{row_answer}
use Rattle.card.proofs.Rows.{row_done}
use Rattle.door.proofs.Accepting.{accepted_card}
use Rattle.deliberation.specs.declared.Deliberated.{Deliberated}
use Rattle.deliberation.specs.Entries.{entry_count, entries_of, program_good, numbers_good, go_on_answer}
use Rattle.deliberation.specs.Deliberate.{deliberate, remaining_of, deliberated, goes_on}
use Rattle.deliberation.specs.Stacked.{Stacked}
use Rattle.deliberation.proofs.Room.{stacked_length, good_stacked}
use Rattle.deliberation.proofs.Call.{goes_on_done, goes_on_refused, card_refused, program_refused, numbers_refused, configuration_refused, nothing_refused}
use Rattle.program.specs.GoodProgram.{GoodProgram}
use Rattle.program.proofs.GoodProgram.{good_program}
use Rattle.deliberate.specs.declared.call.DeliberatedInPlace.{DeliberatedInPlace}
use Rattle.deliberate.specs.Made.{Remains}
use Rattle.deliberate.specs.InPlace.{remains, refused_with, deliberated_with, Admits}

-- ---- given numbers

-- more numbers than entries are not good
pub too_many : (k : ℕ) (ns : List ℕ) → k < length ns → false ≡ numbers_good k ns
too_many k ns h = go (numbers_good k ns) refl
  where
    go : (t : Bool) → numbers_good k ns ≡ t → false ≡ numbers_good k ns
    go true e = absurd (let n = stacked_length (good_stacked k ns e) in omega arith)
    go false e = sym e

-- the numbers from i on, of which the first is not too high, or is
module _ (k : ℕ) (ns : List ℕ) (i : ℕ) (h : i < length ns) where
  split : drop i ns ≡ get_or ns i 0 ∷ drop (i + 1) ns
  split = drop-cons ns i 0 h ∙ ap (λ j. get_or ns i 0 ∷ drop j ns) (sym (add-one i))

  behind : length (drop (i + 1) ns) ≡ length ns - i - 1
  behind = let d = length-drop (i + 1) ns in omega arith

  first_of : numbers_good k (drop i ns) ≡ (ltb (get_or ns i 0 + length (drop (i + 1) ns)) k && numbers_good k (drop (i + 1) ns))
  first_of = ap (numbers_good k) split

pub none_left : (k : ℕ) (ns : List ℕ) (i : ℕ) → length ns ≤ i → numbers_good k (drop i ns) ≡ true
none_left k ns i h = ap (numbers_good k) (drop_of_length-le ns h)

-- ---- the numbers that are put, and those that are handed out

-- at the end of the lent ones
module _ (d d₁ ns : Bytes) (n : ℕ) (count : n ≡ length ns) (fits : n ≤ 128) (s : length d ≡ 128) (put-there : d₁ ≡ paste d (128 - n) (drop 0 ns) n) where
  front : length (take (128 - n) d) ≡ 128 - n
  front = length-take-le (128 - n) d (omega arith)

pub given_remains : (p stack ns : Bytes) (top : ℕ) → drop top stack ≡ ns → top ≤ 128 → length stack ≡ 128 → numbers_good (entry_count p) ns ≡ true → Remains p stack top
given_remains p stack ns top e h n g =
    record { room = n; within = h; stacked = subst (Stacked (entry_count p)) (sym e) (good_stacked (entry_count p) ns g) }

module _ (d d₁ d₂ : Bytes) (top : ℕ) (h : top ≤ 128) (s : length d ≡ 128) (moved : d₁ ≡ paste d 0 (drop top d) (128 - top)) where
  count : length (drop top d) ≡ 128 - top
  count = length-drop top d ∙ ap (λ k. k - top) s

  in_front : d₁ ≡ drop top d ++ drop (128 - top) d
  in_front =
      let n = count in
      let k : 0 + (128 - top) ≡ 128 - top = omega arith in
      moved ∙ ap₂ (λ (x : Bytes) j. x ++ drop j d) (take_all (128 - top) (drop top d) (omega arith)) k

  pub moved_length : length d₁ ≡ 128
  moved_length = omega (arith, count, ap length in_front ∙ length-append (drop top d) (drop (128 - top) d), length-drop (128 - top) d)

  pub handed_out : d₂ ≡ (take (128 - top) d₁ ++ replicate (128 - (128 - top)) 0) ++ drop 128 d₁ → remains (128 - top) d₂ ≡ remaining_of (drop top d)
  unfolding remaining_of
  handed_out cleared =
      let n = count in
      let m = moved_length in
      let w : length d₁ ≤ 128 = omega arith in
      let front : Bytes = take (128 - top) d₁ ++ replicate (128 - (128 - top)) 0 in
      let t : take (128 - top) d₁ ≡ drop top d = ap (take (128 - top)) in_front ∙ take_at (drop top d) (drop (128 - top) d) (128 - top) n in
      let q : d₂ ≡ drop top d ++ replicate (128 - length (drop top d)) 0 =
      cleared ∙ ap (λ (x : Bytes). front ++ x) (drop_of_length-le d₁ w) ∙ append-nil front ∙ ap₂ ◌++◌ t (ap (λ j. replicate (128 - j) 0) (sym n)) in
      λ i. record { length = sym n i; numbers = q i }

-- ---- the checks

-- a card that is good has a header, and the layout is what the header says
module _ (b : Bytes) (e : checks b ≡ Ok (layout b)) where
  pub has_header : 32 ≤ length b
  has_header = let g = (accepted_card b (layout b) e).layout in omega arith

  pub read_again : (p : Bytes) → GoodProgram (layout b) b p → (l : Layout) → l ≡ layout b → (checks b ≡ Ok l) × GoodProgram l b p
  read_again p g l q = (e ∙ ap Ok (sym q), subst (λ x. GoodProgram x b p) (sym q) g)

module _ (b p : Bytes) where
  module _ (l : Layout) (e : checks b ≡ Ok l) where
    says : l ≡ layout b
    says = (good_judged b l e).1

    program_accepted : (a : Answer) → a ≡ row_answer (program_good (containing 2 l b) l p) Refusal.Program → a ≡ Ok tt → GoodProgram l b p
    program_accepted a h f = good_program l b p (row_done _ Refusal.Program (sym h ∙ f))

    -- a program that is not good is refused, whatever else is given
    by_program : (a : Answer) → a ≡ row_answer (program_good (containing 2 l b) l p) Refusal.Program → (q : Refusal) → a ≡ Err q
        → (ns : List ℕ) (c : Configuration) → go_on_answer b p ns c ≡ Err q
    by_program a h q f ns c = go (program_good (containing 2 l b) l p) refl
      where
        go : (t : Bool) → program_good (containing 2 l b) l p ≡ t → go_on_answer b p ns c ≡ Err q
        go true g = absurd (done≢refused (sym (h ∙ ap (λ t. row_answer t Refusal.Program) g) ∙ f))
        go false g =
            program_refused b p ns c (good_judged b l e).0 (sym (ap (λ (x : Layout). program_good (containing 2 x b) x p) says) ∙ g)
            ∙ sym (h ∙ ap (λ t. row_answer t Refusal.Program) g)
            ∙ f

    -- what is found of the program, as it is told
    pub admits : (a : Answer) → a ≡ row_answer (program_good (containing 2 l b) l p) Refusal.Program → Admits b p a
    admits a h = record {
      good = λ f. (e ∙ ap Ok says, subst (λ x. GoodProgram x b p) says (program_accepted a h f));
      bad = by_program a h;
    }

    pub by_numbers : (ns : List ℕ) (c : Configuration) → numbers_good (entry_count p) ns ≡ false → go_on_answer b p ns c ≡ Err Refusal.Program
    by_numbers ns c g = numbers_refused b p ns c (good_judged b l e).0 g

    module _ (good : GoodProgram l b p) where
      good_there : program_good (containing 2 (layout b) b) (layout b) p ≡ true
      good_there = sym (ap (λ (x : Layout). program_good (containing 2 x b) x p) says) ∙ good.good

      pub by_configuration : (ns : List ℕ) (c : Configuration) → numbers_good (entry_count p) ns ≡ true → (a : Answer)
          → a ≡ row_answer (configuration_good l c) Refusal.Configuration → go_on_answer b p ns c ≡ a
      by_configuration ns c n a h = go (configuration_good l c) refl
        where
          same : configuration_good l c ≡ configuration_good (layout b) c
          same = ap (λ x. configuration_good x c) says

          go : (t : Bool) → configuration_good l c ≡ t → go_on_answer b p ns c ≡ a
          go true g = nothing_refused b p ns c (good_judged b l e).0 good_there n (sym same ∙ g) ∙ sym (h ∙ ap (λ t. row_answer t Refusal.Configuration) g)
          go false g = configuration_refused b p ns c (good_judged b l e).0 good_there n (sym same ∙ g) ∙ sym (h ∙ ap (λ t. row_answer t Refusal.Configuration) g)

    -- what the moves answer is what the call answers
    pub done_so : (ns : List ℕ) (c : Configuration) (budget : ℕ) (lent : Bytes) → go_on_answer b p ns c ≡ Ok tt → (x : Deliberated)
        → x ≡ deliberated (deliberate (agent_for l b) (conditions 𝐁 l b) (entries_of p) budget ns (state_of c)) → x ≡ goes_on b p ns c budget lent
    unfolding agent
    done_so ns c budget lent f x g =
        g
        ∙ ap (λ (y : Layout). deliberated (deliberate (agent_for y b) (conditions 𝐁 y b) (entries_of p) budget ns (state_of c))) says
        ∙ sym (goes_on_done b p ns c budget lent f)

  -- a card that is not good is refused, whatever else is given
  by_card : (q : Refusal) → checks b ≡ Err q → (ns : List ℕ) (c : Configuration) → go_on_answer b p ns c ≡ Err q
  by_card q e ns c = card_refused b p ns c q (refused_judged b q e)

  -- and so it is told
  pub admits_not : (q : Refusal) → checks b ≡ Err q → (a : Answer) → a ≡ Err q → Admits b p a
  admits_not q e a f = record {
    good = λ g. absurd (done≢refused (sym g ∙ f));
    bad = λ r g ns c. by_card q e ns c ∙ sym f ∙ g;
  }

  -- a refusal as it is answered
  pub refused_so : (ns : List ℕ) (σ γ : Bytes) (m : Standing) (plan : Bytes) (budget : ℕ) (lent : Bytes) (q : Refusal)
      → go_on_answer b p ns (configured σ γ m plan) ≡ Err q → (a : Answer) → a ≡ Err q
      → (r : DeliberatedInPlace) → r ≡ refused_with a m → deliberated_with r σ γ plan lent ≡ goes_on b p ns (configured σ γ m plan) budget lent
  refused_so ns σ γ m plan budget lent q e a f r g =
      ap (λ (x : DeliberatedInPlace). deliberated_with x σ γ plan lent) (g ∙ ap (λ x. refused_with x m) f)
      ∙ sym (goes_on_refused b p ns (configured σ γ m plan) budget lent q e)
