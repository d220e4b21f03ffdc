-- The list: the codes of the enabled choices, the conditions that are judged for them, and the open goals.
use mathlib.Core.Path.{◌≡◌, refl, ap, ap₂, ◌∙◌, sym}
use mathlib.Core.Bool.{Bool, true, false}
use mathlib.Core.List.{List, [], ◌∷◌, ◌++◌, append_assoc, append-nil}
use Prim.Native.Nat.{ℕ, zero, suc, ◌+◌, ◌-◌, ◌*◌, ◌%◌, ◌≤◌, ◌<◌}
use native.Mathlib.Nat.{zero-add, add-zero}
use native.Mathlib.Numerals.{add-one}
use native.Mathlib.Omega.{arith}
use borrow.Author.Tests.{le-leb, lt-leb}
use lib.ListN.{length, get_or, set, take, length-set}
use lib.Seq.{take-suc-set, length-take-le}
use Rattle.paper.specs.Language.{𝐁, Config}
use Rattle.paper.specs.Transitions.{◌⊨◌, select}
use Rattle.paper.specs.Next.{if}
use Rattle.runs.specs.Order.{numbers, enabled_codes}
use Rattle.meaning.specs.declared.Layout.{Layout}
use Rattle.meaning.specs.declared.Configuration.{Configuration}
use Rattle.meaning.specs.declared.SelectionEntry.{SelectionEntry}
use Rattle.meaning.specs.declared.Refusal.{Refusal}
use Rattle.meaning.specs.Answers.{Answer}
use Rattle.std.specs.Prelude.{Ok, Err}
use Rattle.meaning.specs.declared.Listed.{Listed}
use Rattle.meaning.specs.Sizes.{edition2_set}
use Rattle.meaning.specs.Card.{Bytes, conditions, condition, selection_at, agent_for, agent}
use Rattle.meaning.specs.Configurations.{state_of}
use Rattle.meaning.specs.Looking.{how_many, conditions_judged, size}
use Rattle.meaning.specs.Calls.{over, list_leaves}
use Rattle.layout.specs.Entries.{count_of}
use Rattle.layout.proofs.GoodLayout.{at_most_256}
use Rattle.demands.specs.CallContracts.{Lists}
use Rattle.card.specs.Rows.{row_answer}
use Rattle.door.specs.declared.asked.Asked.{Asked}
use Rattle.door.specs.Ready.{Ready}
use Rattle.door.specs.Admitted.{admitted}
use Rattle.door.proofs.Asking.{no_rule}
use Rattle.door.proofs.Accepting.{admitted_good}
use Rattle.door.proofs.Written.{NotWritten, refused_written, written_none, written_all}
use Rattle.listing.specs.declared.gather.Look.{Look}
use Rattle.listing.specs.Listed.{enabled_code, codes_of}
use Rattle.listing.specs.Looking.{judged_for, look_by, sum_of, judged_in, listed_with}
use Rattle.listing.proofs.Gathering.{codes_append, codes_yes, codes_no, codes_few, codes_same, enabled_at, all_codes}
use Rattle.listing.proofs.Answering.{refused_told, done_told}
use Rattle.listing.proofs.Looking.{asked_look, selection_judged, is_bare, not_bare, all_selecting, all_otherwise}
use Rattle.choices.proofs.Marked.{tells}
use Rattle.unpacked.specs.declared.tables.Tables.{Tables}
use Rattle.unpacked.specs.declared.configuration.Unpacked.{Unpacked}
use Rattle.unpacked.specs.Tables.{Tabled}
use Rattle.unpacked.specs.Truths.{packed, configuration_from}
use Rattle.unpacked.proofs.Values.{member_packed, length_packed}
use Rattle.plain.specs.declared.judge.Judgement.{Judgement}
use Rattle.plain.specs.Judging.{judgement_at, JudgedAll}
use Rattle.plain.specs.Asking.{AsksKind, judged_by, judged_selecting}
use Rattle.plain.specs.Calls.{codes_from}
use Rattle.plain.proofs.Asking.{answer_enabled}

-- ---- sums

sum_same : (f g : ℕ → ℕ) (n : ℕ) → ((i : ℕ) → i < n → f i ≡ g i) → sum_of f n ≡ sum_of g n
sum_same f g zero h = refl
sum_same f g (suc n) h = ap₂ ◌+◌ (sum_same f g n (λ i l. h i (omega arith))) (h n (omega arith))

-- more numbers, each of which is 0
sum_past : (f : ℕ → ℕ) (n m : ℕ) → ((i : ℕ) → i < m → f (n + i) ≡ 0) → sum_of f (n + m) ≡ sum_of f n
sum_past f n zero h = ap (sum_of f) (add-zero n)
sum_past f n (suc m) h =
    let e : n + suc m ≡ suc (n + m) = omega arith in
    ap (sum_of f) e ∙ ap₂ ◌+◌ (sum_past f n m (λ i l. h i (omega arith))) (h m (omega arith)) ∙ add-zero (sum_of f n)

-- ---- the codes of a kind behind others, one after another

-- of a code, by the answers of its kind
abbrev pub is_open : List Asked → ℕ → Bool
is_open answers k = (look_by (get_or answers (k % 256) Asked.NoRule)).enabled

-- the codes of the first i choices are behind those of before
pub record Added (answers : List Asked) (kind n : ℕ) (before : List ℕ) (i : ℕ) (codes : List ℕ) (count : ℕ) : Type 0 where
  pub many : count ≤ n + i
  pub room : length codes ≡ 768
  pub those : take count codes ≡ take n before ++ codes_of (is_open answers) (256 * kind) i

module _ (answers : List Asked) (kind : ℕ) where
  open_at : (i : ℕ) → i < 256 → is_open answers (256 * kind + i) ≡ (look_by (get_or answers i Asked.NoRule)).enabled
  open_at i h = let m : (256 * kind + i) % 256 ≡ i = omega arith in ap (λ n. (look_by (get_or answers n Asked.NoRule)).enabled) m

  module _ (n : ℕ) (before : List ℕ) where
    pub added_none : length before ≡ 768 → Added answers kind n before 0 before n
    unfolding codes_of numbers
    added_none h = record { many = omega arith; room = h; those = sym (append-nil (take n before)) }

    module _ (i : ℕ) (codes : List ℕ) (count : ℕ) (a : Added answers kind n before i codes count) (h : i < 256) where
      pub added_yes : n ≤ 512 → (look_by (get_or answers i Asked.NoRule)).enabled ≡ true → Added answers kind n before (i + 1) (set codes count (256 * kind + i)) (count + 1)
      added_yes s e = record {
        many = let m = a.many in omega arith;
        room = length-set codes count (256 * kind + i) ∙ a.room;
        those =
            ap (λ k. take k (set codes count (256 * kind + i))) (add-one count)
            ∙ take-suc-set codes count (256 * kind + i) (let m = a.many in let r = a.room in omega arith)
            ∙ ap (λ (xs : List ℕ). xs ++ ((256 * kind + i) ∷ [])) a.those
            ∙ append_assoc (take n before) (codes_of (is_open answers) (256 * kind) i) ((256 * kind + i) ∷ [])
            ∙ ap (λ (xs : List ℕ). take n before ++ xs) (sym (codes_yes (is_open answers) (256 * kind) i (open_at i h ∙ e)));
      }

      pub added_no : (look_by (get_or answers i Asked.NoRule)).enabled ≡ false → Added answers kind n before (i + 1) codes count
      added_no e = record {
        many = let m = a.many in omega arith;
        room = a.room;
        those =
            a.those
            ∙ ap (λ (xs : List ℕ). take n before ++ xs)
            (sym (codes_no (is_open answers) (256 * kind) i 1 (λ j g. (let z : 256 * kind + i + j ≡ 256 * kind + i = omega arith in ap (is_open answers) z ∙ open_at i h ∙ e))));
      }

-- ---- the kinds in a row

module _ (l : Layout) (b : Bytes) (c : Configuration) where
  abbrev here : Config
  here = (state_of c).mental

  module _ (kind : ℕ) (answers : List Asked) (asks : AsksKind l b c kind answers) where
    -- the answers have the codes of the enabled choices
    codes_asked : codes_from answers kind ≡ codes_of (enabled_code l b c) (256 * kind) 256
    codes_asked = codes_same (is_open answers) (enabled_code l b c) (256 * kind) 256 (λ i h.
        open_at answers kind i h ∙ answer_enabled l b c kind answers asks i h ∙ sym (enabled_at l b c kind i h))

    -- one kind more
    kind_more : (xs ys : List ℕ) → xs ≡ codes_of (enabled_code l b c) 0 (256 * kind) → ys ≡ xs ++ codes_from answers kind → ys ≡ codes_of (enabled_code l b c) 0 (256 * kind + 256)
    kind_more xs ys e f =
        f ∙ ap₂ ◌++◌ e (codes_asked ∙ ap (λ k. codes_of (enabled_code l b c) k 256) (sym (zero-add (256 * kind))))
        ∙ sym (codes_append (enabled_code l b c) 0 (256 * kind) 256)

    -- ---- how many conditions are judged for a kind but the selection rules

    past_none : (i : ℕ) → i < 256 → count_of l kind ≤ i → judged_by answers i ≡ 0
    past_none i h g = ap (λ (a : Asked). (look_by a).judged) (asks i h ∙ sym (no_rule l b here kind i g))

    judged_kind : (kind ≡ 0 → ⊥) → count_of l kind ≤ 256 → sum_of (judged_by answers) 256 ≡ judged_in l b c kind (count_of l kind)
    judged_kind z few =
        let n = count_of l kind in
        let e : n + (256 - n) ≡ 256 = omega arith in
        ap (sum_of (judged_by answers)) (sym e)
        ∙ sum_past (judged_by answers) n (256 - n) (λ i h. past_none (n + i) (omega arith) (omega arith))
        ∙ sum_same (judged_by answers) _ n (λ i h. (ap (λ (a : Asked). (look_by a).judged) (asks i (omega arith)) ∙ ap (λ (x : Look). x.judged) (asked_look l b c kind i z h)))

-- ---- how many in all

module _ (l : Layout) (b : Bytes) (c : Configuration) (ready : Ready l b c) where
  -- the codes of the three kinds in a row
  pub three_kinds : (selects acts revises : List Asked) → AsksKind l b c 0 selects → AsksKind l b c 1 acts → AsksKind l b c 2 revises → (xs ys zs : List ℕ)
      → xs ≡ codes_from selects 0 → ys ≡ xs ++ codes_from acts 1 → zs ≡ ys ++ codes_from revises 2 → zs ≡ enabled_codes (agent_for l b) (state_of c).mental
  unfolding codes_of numbers
  three_kinds selects acts revises s a r xs ys zs e f g =
      kind_more l b c 2 revises r ys zs (kind_more l b c 1 acts a xs ys (kind_more l b c 0 selects s [] xs refl e) f) g
      ∙ all_codes l b c (at_most_256 l b ready.card.layout)

  -- with an empty plan, by the tables and the judgements
  module _ (t : Tables) (tabled : Tabled l b t) (js : List Judgement) (judged : JudgedAll l b c js) (z : c.mind.length ≡ 0) where
    one_selection : (i : ℕ) → i < l.selections.count → judged_selecting t js i ≡ judged_for l b (state_of c).mental (select i)
    one_selection i h =
        let n = (selection_at l b i).belief in
        let held : (judgement_at js n).0 ≡ ((state_of c).mental ⊨ condition (conditions 𝐁 l b) n) = ap (λ (p : Bool × ℕ). p.0) (tells l b c (judgement_at js) ready judged 𝐁 n (ready.card.selections i h).belief) in
        ap (λ (e : SelectionEntry). if (judgement_at js e.belief).0 2 1) (tabled.selections i h)
        ∙ selection_judged l b c (is_bare l b c ready z) i (judgement_at js n).0 held

    pub judged_bare : sum_of (judged_selecting t js) l.selections.count ≡ conditions_judged (agent_for l b) (state_of c).mental
    judged_bare = sum_same (judged_selecting t js) _ l.selections.count one_selection ∙ all_selecting l b c (is_bare l b c ready z)

  -- with a plan, by what asking for the other kinds answers
  pub judged_planned : (c.mind.length ≡ 0 → ⊥) → (acts revises : List Asked) → AsksKind l b c 1 acts → AsksKind l b c 2 revises
      → sum_of (judged_by acts) 256 + sum_of (judged_by revises) 256 ≡ conditions_judged (agent_for l b) (state_of c).mental
  judged_planned z acts revises a r =
      let few = at_most_256 l b ready.card.layout in
      ap₂ ◌+◌ (judged_kind l b c 1 acts a (λ e. absurd (omega arith)) (few 1)) (judged_kind l b c 2 revises r (λ e. absurd (omega arith)) (few 2))
      ∙ all_otherwise l b c (not_bare l b c ready z)

-- ---- how many goals are open

pub goals_few : (v : List Bool) (n : ℕ) → how_many (λ k. get_or v k false) (numbers 0 n) ≤ n
unfolding codes_of
goals_few v n = codes_few (λ k. get_or v k false) 0 n

goals_open : (n : ℕ) (v : List Bool) → length v ≡ 8 * n → how_many (λ k. get_or v k false) (numbers 0 (8 * n)) ≡ size (packed n v)
unfolding size
goals_open n v h = sym (ap₂ (λ (t : ℕ → Bool) m. how_many t (numbers 0 (8 * m))) (λ i k. member_packed n v h k i) (length_packed n v))

-- ---- what list answers

module _ (b : Bytes) (c : Configuration) (out : List ℕ) where
  -- what is to be written
  abbrev all : List ℕ
  all = enabled_codes (agent b) (state_of c).mental

  -- "Any count in a refusal is 0."
  abbrev nothing : Answer → Listed
  nothing a = listed_with (record { answer = a; count = 0; judged = 0; goals = 0 }) c

  refused_so : (a : Answer) (q : Refusal) → a ≡ Err q → NotWritten b c all out a
      → (r : Listed) → r ≡ nothing a → Lists b c out r out
  unfolding list_leaves
  refused_so a q e f r g =
      let (w, x) = f (record { answer = a; count = 0 }) refl in
      (g ∙ refused_told b c out a q e w (record { answer = a; count = 0; judged = 0; goals = 0 }) refl, x)

  -- at the door
  pub list_refused : (q : Refusal) → admitted b c ≡ Err q → (a : Answer) → a ≡ Err q
      → (r : Listed) → r ≡ nothing a → Lists b c out r out
  list_refused q e a t = refused_so a q t (refused_written b c q e a t all out)

  module _ (l : Layout) (e : admitted b c ≡ Ok l) (u : Unpacked) (packs : configuration_from u ≡ c) (n : ℕ) (codes : List ℕ) (long : n ≤ length codes)
      (found : take n codes ≡ enabled_codes (agent_for l b) (state_of (configuration_from u)).mental)
    where
      the_codes : take n codes ≡ all
      unfolding agent
      the_codes = found ∙ ap₂ (λ (x : Layout) (d : Configuration). enabled_codes (agent_for x b) (state_of d).mental) (admitted_good b c l e).1 packs

      how_many_lem : n ≡ length all
      how_many_lem = sym (length-take-le n codes long) ∙ ap length the_codes

      -- row 12
      pub list_no_room : length out < n → (r : Listed) → r ≡ nothing (Err Refusal.NoRoom) → Lists b c out r out
      list_no_room h =
          refused_so (Err Refusal.NoRoom) Refusal.NoRoom refl
          (written_none b c (admitted_good b c l e).0 all out n how_many_lem (Err Refusal.NoRoom)
          (sym (ap (λ t. row_answer t Refusal.NoRoom) (lt-leb n (length out) h))) Refusal.NoRoom refl)

      -- done
      pub list_done : n ≤ length out → (j g : ℕ) → j ≡ conditions_judged (agent_for l b) (state_of (configuration_from u)).mental
          → length u.goals ≡ 256 → g ≡ how_many (λ k. get_or u.goals k false) (numbers 0 256) → (left : List ℕ) → left ≡ over (take n codes) out
          → Lists b c out (listed_with (record { answer = Ok tt; count = n; judged = j; goals = g }) c) left
      unfolding list_leaves
      list_done h j g k m o left f =
          let (good, says) = admitted_good b c l e in
          let (w, x) = written_all b c good all out n how_many_lem (Ok tt)
          (sym (ap (λ t. row_answer t Refusal.NoRoom) (le-leb n (length out) h))) refl left (f ∙ ap (λ xs. over xs out) the_codes) in (
            done_told b c out l says n j g w (k ∙ ap (λ (d : Configuration). conditions_judged (agent_for l b) (state_of d).mental) packs)
                (o ∙ goals_open edition2_set u.goals m ∙ ap (λ (d : Configuration). size d.mind.goals) packs),
            x,
          )
