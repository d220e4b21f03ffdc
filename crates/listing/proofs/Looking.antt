-- How many conditions are judged for a choice, for those of a kind and in all; and that the kinds that are passed over have no
-- enabled choice.
use mathlib.Core.Path.{◌≡◌, refl, ap, ap₂, ◌∙◌, sym}
use mathlib.Core.Logic.{◌⊎◌, ⊎_elim}
use mathlib.Core.Bool.{Bool, true, false}
use mathlib.Core.List.{List, [], ◌∷◌}
use Prim.Native.Nat.{ℕ, zero, suc, ◌+◌, ◌*◌, ◌/◌, ◌%◌, ◌≤◌, ◌<◌}
use native.Mathlib.Nat.{zero-add}
use native.Mathlib.Decide.{dec_lt}
use native.Mathlib.Numerals.{add-one}
use native.Mathlib.Omega.{arith}
use borrow.Author.Tests.{eq-eqb, ne_eqb, lt-ltb}
use lib.ListN.{length, take}
use Rattle.paper.specs.Language.{𝐁, Plan, Specification, Selection, Revision, Config}
use Rattle.paper.specs.Transitions.{◌⊨◌, Choice, select, act, revise}
use Rattle.paper.specs.Next.{if, is_empty, starts_with, is_prefix, enabled}
use Rattle.runs.specs.declared.Kind.{Kind}
use Rattle.runs.specs.Kinds.{kind_number}
use Rattle.runs.specs.Order.{numbers}
use Rattle.runs.proofs.Numbers.{length_made}
use Rattle.meaning.specs.declared.Layout.{Layout}
use Rattle.meaning.specs.declared.Configuration.{Configuration}
use Rattle.meaning.specs.declared.Span.{Span}
use Rattle.meaning.specs.Card.{Bytes, conditions, condition, plan, specification_at, selection_at, revision_at, specification_of, selection_of, revision_of, agent_of, agent_for}
use Rattle.meaning.specs.Configurations.{state_of}
use Rattle.meaning.specs.Looking.{how_many, conditions_judged}
use Rattle.meaning.proofs.AgentEntries.{selection_for, specification_for, revision_for}
use Rattle.meaning.proofs.Parts.{length_part}
use Rattle.meaning.proofs.Looking.{many_yes, many_no, many_both, many_made, judged_selecting_lem, judged_otherwise_lem}
use Rattle.layout.specs.Entries.{count_of}
use Rattle.card.specs.GoodCard.{GoodSpan}
use Rattle.door.specs.Ready.{Ready}
use Rattle.door.specs.Asking.{is_there, front_fits, conditions_of, asked_by, asked, choice_at}
use Rattle.door.proofs.Asking.{is_enabled, asked_enabled, past_last, empty_exactly}
use Rattle.choices.specs.Judged.{mark_at, Judged}
use Rattle.choices.proofs.Marked.{marked}
use Rattle.listing.specs.Listed.{enabled_code}
use Rattle.listing.specs.Looking.{goal_judged, judged_for, look_at, look_by, sum_of, judged_in}

-- ---- one choice

-- an action or a revision is no selection
pub not_selection : (κ : Kind) → (κ ≡ Kind.Action) ⊎ (κ ≡ Kind.Revision) → kind_number κ ≡ 0 → ⊥
not_selection Kind.Selection h e = ⊎_elim (λ u. let z : ◌≡◌ {A = ℕ} 0 1 = cc in omega arith) (λ u. let z : ◌≡◌ {A = ℕ} 0 1 = cc in omega arith) h
not_selection Kind.Action h e = omega arith
not_selection Kind.Revision h e = omega arith

module _ (l : Layout) (b : Bytes) (c : Configuration) where
  abbrev s : Config
  s = (state_of c).mental

  -- the plan, by its length
  pub is_bare : Ready l b c → c.mind.length ≡ 0 → is_empty s.π ≡ true
  unfolding state_of
  is_bare r z = empty_exactly c.plan c.mind.length (let y = r.room in omega arith) ∙ eq-eqb _ _ z

  pub not_bare : Ready l b c → (c.mind.length ≡ 0 → ⊥) → is_empty s.π ≡ false
  unfolding state_of
  not_bare r z = empty_exactly c.plan c.mind.length (let x = r.fits in let y = r.room in omega arith) ∙ ne_eqb _ _ z

  -- a selection rule with an empty plan, by whether its belief condition holds
  pub selection_judged : is_empty s.π ≡ true → (i : ℕ) (v : Bool) → v ≡ (s ⊨ condition (conditions 𝐁 l b) (selection_at l b i).belief) → if v 2 1 ≡ judged_for l b s (select i)
  selection_judged bare i v held = ap₂ (λ f h. if f (if h 2 1) 0) (sym bare) held

  pub selection_look : (marks : List ℕ) → Judged l b c marks → (i : ℕ) → i < l.selections.count → c.mind.length ≡ 0
      → (v : Bool) → v ≡ (mark_at marks (selection_at l b i).belief).0
      → record { enabled = enabled (agent_for l b) s (select i); judged = if v 2 1 } ≡ look_at l b c 0 i
  selection_look marks j i h z v e =
      let held : v ≡ (s ⊨ condition (conditions 𝐁 l b) (selection_at l b i).belief) = e ∙ ap (λ (p : Bool × ℕ). p.0) (marked l b c marks j 𝐁 _ (j.ready.card.selections i h).belief) in
      ap (λ n. record { enabled = enabled (agent_for l b) s (select i); judged = n }) (selection_judged (is_bare j.ready z) i v held)

  -- another choice that the card has, by what asking for it answers
  by_asked : (f : Bool) (h : Bool) (n : ℕ) → look_by (asked_by true f (h, n)) ≡ record { enabled = is_enabled (asked_by true f (h, n)); judged = if f 1 0 }
  by_asked true true n = refl
  by_asked true false n = refl
  by_asked false h n = refl

  is_there_lem : (kind i : ℕ) → i < count_of l kind → is_there l (choice_at kind i) ≡ true
  is_there_lem zero i h = lt-ltb i l.selections.count h
  is_there_lem (suc zero) i h = lt-ltb i l.specifications.count h
  is_there_lem (suc (suc kind)) i h = lt-ltb i l.revisions.count h

  one_judged : (kind i : ℕ) → (kind ≡ 0 → ⊥) → if (front_fits l b s (choice_at kind i)) 1 0 ≡ judged_for l b s (choice_at kind i)
  one_judged zero i h = absurd (h refl)
  one_judged (suc zero) i h = refl
  one_judged (suc (suc kind)) i h = refl

  pub asked_look : (kind i : ℕ) → (kind ≡ 0 → ⊥) → i < count_of l kind → look_by (asked l b s (choice_at kind i)) ≡ look_at l b c kind i
  unfolding asked
  asked_look kind i z h =
      let k = choice_at kind i in
      let f = front_fits l b s k in
      let p = conditions_of l b s k in
      let t = is_there_lem kind i h in
      ap (λ t. look_by (asked_by t f p)) t
      ∙ by_asked f p.0 p.1
      ∙ ap (λ t. record { enabled = is_enabled (asked_by t f p); judged = if f 1 0 }) (sym t)
      ∙ ap₂ (λ e n. record { enabled = e; judged = n }) (asked_enabled l b s k) (one_judged kind i z)

-- ---- the choices of a kind

module _ (l : Layout) (b : Bytes) (c : Configuration) (kind : ℕ) where
  pub judged_next : (i : ℕ) → judged_in l b c kind (i + 1) ≡ judged_in l b c kind i + judged_for l b (state_of c).mental (choice_at kind i)
  judged_next i = ap (judged_in l b c kind) (add-one i)

  pub judged_few : (n : ℕ) → judged_in l b c kind n ≤ 2 * n
  judged_few zero = omega arith
  judged_few (suc n) = let ih = judged_few n in let m = two (front_fits l b s k) (goal_judged l b s k) in omega arith
    where
      s : Config
      s = (state_of c).mental

      k : Choice
      k = choice_at kind n

      two : (f g : Bool) → if f (if g 2 1) 0 ≤ 2
      two true true = omega arith
      two true false = omega arith
      two false g = omega arith

-- ---- sums and counts

-- one number more
many_next : (t : ℕ → Bool) (n : ℕ) → how_many t (numbers 0 (suc n)) ≡ how_many t (numbers 0 n) + if (t n) 1 0
unfolding numbers
many_next t n =
    ap (λ m. how_many t (numbers 0 m)) (sym (add-one n))
    ∙ many_both t 0 n 1
    ∙ ap (λ m. how_many t (numbers 0 n) + m) (ap (λ k. how_many t (k ∷ [])) (zero-add n) ∙ one (t n) refl)
  where
    one : (v : Bool) → t n ≡ v → how_many t (n ∷ []) ≡ if v 1 0
    one true e = many_yes t n [] e
    one false e = many_no t n [] e

-- one for each that passes
sum_counts : (f : ℕ → ℕ) (t : ℕ → Bool) → ((i : ℕ) → f i ≡ if (t i) 1 0) → (n : ℕ) → sum_of f n ≡ how_many t (numbers 0 n)
unfolding numbers
sum_counts f t h zero = refl
sum_counts f t h (suc n) = ap₂ ◌+◌ (sum_counts f t h n) (h n) ∙ sym (many_next t n)

-- one for each, and one more for each that passes
sum_twice : (f : ℕ → ℕ) (t : ℕ → Bool) → ((i : ℕ) → f i ≡ 1 + if (t i) 1 0) → (n : ℕ) → sum_of f n ≡ n + how_many t (numbers 0 n)
unfolding numbers
sum_twice f t h zero = refl
sum_twice f t h (suc n) = let ih = sum_twice f t h n in let e = h n in let m = many_next t n in omega (arith, ih, e, m)

-- ---- all choices

module _ (l : Layout) (b : Bytes) (c : Configuration) where
  abbrev here : Config
  here = (state_of c).mental

  -- with an empty plan
  pub all_selecting : is_empty here.π ≡ true → judged_in l b c 0 (count_of l 0) ≡ conditions_judged (agent_for l b) here
  unfolding agent_for agent_of selection_of
  all_selecting e =
      let n = l.selections.count in
      let t : ℕ → Bool = λ i. here ⊨ condition (conditions 𝐁 l b) (selection_at l b i).belief in
      sum_twice _ t (λ i. (ap (λ f. if f (if (t i) 2 1) 0) e ∙ one_or_two (t i))) n
      ∙ ap₂ ◌+◌ (sym (length_made (selection_for l b) 0 n)) (sym (many_made (selection_for l b) (λ (r : Selection). here ⊨ r.β) (numbers 0 n)))
      ∙ sym (judged_selecting_lem (agent_for l b) here e)
    where
      one_or_two : (v : Bool) → if v 2 1 ≡ 1 + if v 1 0
      one_or_two true = refl
      one_or_two false = refl

  -- with a plan
  pub all_otherwise : is_empty here.π ≡ false → judged_in l b c 1 (count_of l 1) + judged_in l b c 2 (count_of l 2) ≡ conditions_judged (agent_for l b) here
  unfolding agent_for agent_of specification_of revision_of
  all_otherwise e =
      ap₂ ◌+◌
      (sum_counts _ (λ i. starts_with (specification_at l b i).action here.π) (λ i. refl) l.specifications.count
      ∙ sym (many_made (specification_for l b) (λ (x : Specification). starts_with x.a here.π) (numbers 0 l.specifications.count)))
      (sum_counts _ (λ i. is_prefix (plan l b (revision_at l b i).head) here.π) (λ i. refl) l.revisions.count
      ∙ sym (many_made (revision_for l b) (λ (x : Revision). is_prefix x.πₕ here.π) (numbers 0 l.revisions.count)))
      ∙ sym (judged_otherwise_lem (agent_for l b) here e)

  -- ---- the kinds that are passed over

  shut : (k : Choice) → front_fits l b here k ≡ false → enabled (agent_for l b) here k ≡ false
  unfolding asked
  shut k e = sym (asked_enabled l b here k) ∙ ap (λ f. is_enabled (asked_by (is_there l k) f (conditions_of l b here k))) e ∙ none (is_there l k)
    where
      none : (t : Bool) → is_enabled (asked_by t false (conditions_of l b here k)) ≡ false
      none true = refl
      none false = refl

  pub no_selection : is_empty here.π ≡ false → (i : ℕ) → i < 256 → enabled_code l b c (0 + i) ≡ false
  no_selection e i h =
      let d : (0 + i) / 256 ≡ 0 = omega arith in
      ap (λ k. enabled (agent_for l b) here (choice_at k ((0 + i) % 256))) d ∙ shut (select ((0 + i) % 256)) e

  module _ (r : Ready l b c) (z : c.mind.length ≡ 0) where
    bare : here.π ≡ []
    unfolding state_of
    bare = ap (λ n. take n c.plan) z

    -- a head is not empty
    no_prefix : (h : Plan) → 1 ≤ length h → is_prefix h [] ≡ false
    no_prefix [] g = absurd (omega arith)
    no_prefix (a ∷ h) g = refl

    head_long : (x : Span) → GoodSpan l 1 x → 1 ≤ length (plan l b x)
    unfolding plan
    head_long x q =
        let e = length_part b (l.pool.offset + x.start) x.length (let i = q.inside in let y = r.card.layout.ends in omega arith) in
        let m = q.some in
        omega arith

    none_otherwise : (kind n : ℕ) → 1 ≤ kind → enabled (agent_for l b) here (choice_at kind n) ≡ false
    none_otherwise zero n g = absurd (omega arith)
    none_otherwise (suc zero) n g = shut (act n) (ap (starts_with (specification_at l b n).action) bare)
    none_otherwise (suc (suc kind)) n g = elim (dec_lt n l.revisions.count) [
      | yes h ↦
          let q = (r.card.revisions n h).head in
          shut (revise n) (ap (is_prefix (plan l b (revision_at l b n).head)) bare ∙ no_prefix (plan l b (revision_at l b n).head) (head_long (revision_at l b n).head q))
      | no h ↦ past_last l b here 2 n (omega arith)
    ]

    pub no_other : (i : ℕ) → i < 512 → enabled_code l b c (256 + i) ≡ false
    no_other i h = none_otherwise ((256 + i) / 256) ((256 + i) % 256) (omega arith)
