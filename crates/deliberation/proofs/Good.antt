-- A program that is not refused: how many entries it has, where the parts of an entry are, and what a pass makes of each.
use mathlib.Core.Path.{◌≡◌, refl, ap, ap₂, ◌∙◌}
use mathlib.Core.Bool.{Bool, true, ◌&&◌}
use mathlib.Core.List.{List, [], ◌∷◌, ◌++◌}
use mathlib.Core.Option.{Option, none}
use Prim.Native.Nat.{ℕ, zero, suc, ◌*◌, ◌/◌, ◌%◌, ◌≤◌, ◌<◌}
use native.Mathlib.Nat.{zero-add, not-suc-le-zero}
use native.Mathlib.Omega.{arith}
use lib.Dec.{leb, ltb, eqb}
use lib.ListN.{length, get_or}
use borrow.Author.Tests.{ltb-true, lt-ltb, le-leb, eqb-true, eq-eqb}
use Rattle.paper.specs.Language.{𝐁, Query, Agent, Config}
use Rattle.paper.proofs.Relation.{both}
use Rattle.runs.proofs.Numbers.{length_made, made_at}
use Rattle.meaning.specs.declared.Layout.{Layout}
use Rattle.meaning.specs.declared.Node.{Node}
use Rattle.meaning.specs.Card.{Bytes, pass, condition}
use Rattle.meaning.specs.Refusals.{within, every, condition_good}
use Rattle.meaning.proofs.Accepted.{within_low, within_high}
use Rattle.meaning.proofs.Every.{both_true, every_at, every_of}
use Rattle.meaning.proofs.Pass.{pass_at}
use Rattle.deliberation.specs.Programs.{not_empty_plan, holds, Prog, execute, while◌doing◌od, ◌⨾◌, ◌⊕◌}
use Rattle.deliberation.specs.Kinds.{EntryKind, Execute, Apply, Select, WhilePlan, WhileBelief, Then, Or, entry_kind}
use Rattle.deliberation.specs.FirstMove.{Move, followed_by, left_else_right}
use Rattle.deliberation.specs.Entries.{entry_of, entry_count, entries_of, length_good, kind_good, entry_good, program_good, prog_of, program, move_of, first_move_of}
use Rattle.deliberation.specs.Theorems.{EntryLaws, executes, applies, selects, while_plan, while_belief, does_both, does_one, Unused, of_execute, of_apply, of_select, of_while_plan, of_while_belief, of_then, of_or}

module _ (gs : List Bool) (l : Layout) where
  -- what row 19 says of an entry, by its kind
  abbrev pub Rule : ℕ → ℕ → ℕ → EntryKind → Type 0
  Rule = EntryLaws l.revisions.count l.selections.count (λ n. condition_good l gs n ≡ true)

  rule : (i : ℕ) (κ : EntryKind) (a b : ℕ) → kind_good gs l i κ a b ≡ true → Rule i a b κ
  rule i Execute a b e = executes
  rule i Apply a b e = applies (ltb-true a l.revisions.count (both (ltb a l.revisions.count) _ e).0)
  rule i Select a b e = selects (ltb-true a l.selections.count (both (ltb a l.selections.count) _ e).0)
  rule i WhilePlan a b e = while_plan (ltb-true b i (both (eqb a 0) _ e).1)
  rule i WhileBelief a b e = let (h, k) = both (condition_good l gs a) _ e in while_belief h (ltb-true b i k)
  rule i Then a b e = let (h, k) = both (ltb a i) _ e in does_both (ltb-true a i h) (ltb-true b i k)
  rule i Or a b e = let (h, k) = both (ltb a i) _ e in does_one (ltb-true a i h) (ltb-true b i k)

  unused : (i : ℕ) (κ : EntryKind) (a b : ℕ) → kind_good gs l i κ a b ≡ true → Unused a b κ
  unused i Execute a b e = let (h, k) = both (eqb a 0) _ e in of_execute (eqb-true a 0 h) (eqb-true b 0 k)
  unused i Apply a b e = of_apply (eqb-true b 0 (both (ltb a l.revisions.count) _ e).1)
  unused i Select a b e = of_select (eqb-true b 0 (both (ltb a l.selections.count) _ e).1)
  unused i WhilePlan a b e = of_while_plan (eqb-true a 0 (both (eqb a 0) _ e).0)
  unused i WhileBelief a b e = of_while_belief
  unused i Then a b e = of_then
  unused i Or a b e = of_or

  -- and this is all
  kind_good_lem : {κ : EntryKind} (i a b : ℕ) → Rule i a b κ → Unused a b κ → kind_good gs l i κ a b ≡ true
  kind_good_lem i a b executes (of_execute e f) = both_true (eqb a 0) (eqb b 0) (eq-eqb a 0 e) (eq-eqb b 0 f)
  kind_good_lem i a b (applies h) (of_apply f) = both_true (ltb a l.revisions.count) (eqb b 0) (lt-ltb a l.revisions.count h) (eq-eqb b 0 f)
  kind_good_lem i a b (selects h) (of_select f) = both_true (ltb a l.selections.count) (eqb b 0) (lt-ltb a l.selections.count h) (eq-eqb b 0 f)
  kind_good_lem i a b (while_plan k) (of_while_plan e) = both_true (eqb a 0) (ltb b i) (eq-eqb a 0 e) (lt-ltb b i k)
  kind_good_lem i a b (while_belief h k) of_while_belief = both_true (condition_good l gs a) (ltb b i) h (lt-ltb b i k)
  kind_good_lem i a b (does_both h k) of_then = both_true (ltb a i) (ltb b i) (lt-ltb a i h) (lt-ltb b i k)
  kind_good_lem i a b (does_one h k) of_or = both_true (ltb a i) (ltb b i) (lt-ltb a i h) (lt-ltb b i k)

  -- an entry that keeps them is good
  pub entry_good_lem : (i : ℕ) (e : Node) → e.kind < 7 → Rule i e.a e.b (entry_kind e.kind) → Unused e.a e.b (entry_kind e.kind) → e.zero ≡ 0
      → entry_good gs l i e ≡ true
  entry_good_lem i e known r u z =
      both_true (ltb e.kind 7 && kind_good gs l i (entry_kind e.kind) e.a e.b) (eqb e.zero 0)
      (both_true (ltb e.kind 7) (kind_good gs l i (entry_kind e.kind) e.a e.b) (lt-ltb e.kind 7 known) (kind_good_lem i e.a e.b r u))
      (eq-eqb e.zero 0 z)

  -- and a program of 1 to 128 good entries
  pub program_good_lem : (p : Bytes) → 1 ≤ entry_count p → entry_count p ≤ 128 → length p ≡ 4 * entry_count p
      → ((i : ℕ) → i < entry_count p → entry_good gs l i (entry_of p i) ≡ true) → program_good gs l p ≡ true
  unfolding program_good
  program_good_lem p low high bytes entries =
      let none_left : length p % 4 ≡ 0 = omega arith in
      both_true (length_good (length p)) (every (entry_count p) (λ i. entry_good gs l i (entry_of p i)))
      (both_true (within 1 128 (length p / 4)) (eqb (length p % 4) 0)
      (both_true (leb 1 (length p / 4)) (leb (length p / 4) 128) (le-leb 1 (length p / 4) low) (le-leb (length p / 4) 128 high))
      (eq-eqb (length p % 4) 0 none_left))
      (every_of (λ i. entry_good gs l i (entry_of p i)) (entry_count p) entries)

-- what is right of a number if it is of all lower ones, is right of every one
pub from_lower : (Q : ℕ → Type 0) → ((i : ℕ) → ((j : ℕ) → j < i → Q j) → Q i) → (n i : ℕ) → i < n → Q i
from_lower Q f zero i h = absurd (not-suc-le-zero h)
from_lower Q f (suc n) i h = f i (λ j l. from_lower Q f n j (omega arith))

module _ (p : Bytes) where
  pub length-entries : length (entries_of p) ≡ entry_count p
  unfolding entries_of
  length-entries = length_made (entry_of p) 0 (entry_count p)

  pub entry_at : (i : ℕ) (d : Node) → i < entry_count p → get_or (entries_of p) i d ≡ entry_of p i
  unfolding entries_of
  entry_at i d h = made_at (entry_of p) 0 (entry_count p) i d h ∙ ap (entry_of p) (zero-add i)

-- ---- what is made of an entry looks at the parts that its kind has

module _ {r s : ℕ} {C : ℕ → Type 0} {i a b : ℕ} where
  program_parts : {κ : EntryKind} (βs : List (Query 𝐁)) (q q' : ℕ → Prog) → EntryLaws r s C i a b κ → ((j : ℕ) → j < i → q j ≡ q' j)
      → prog_of βs κ a b q ≡ prog_of βs κ a b q'
  program_parts βs q q' executes f = refl
  program_parts βs q q' (applies h) f = refl
  program_parts βs q q' (selects h) f = refl
  program_parts βs q q' (while_plan l) f = ap (λ P. while not_empty_plan doing P od) (f b l)
  program_parts βs q q' (while_belief h l) f = ap (λ P. while holds (condition βs a) doing P od) (f b l)
  program_parts βs q q' (does_both h l) f = ap₂ ◌⨾◌ (f a h) (f b l)
  program_parts βs q q' (does_one h l) f = ap₂ ◌⊕◌ (f a h) (f b l)

  move_parts : {κ : EntryKind} (A : Agent) (βs : List (Query 𝐁)) (c : Config) (q q' : ℕ → Option (Move (List ℕ))) → EntryLaws r s C i a b κ
      → ((j : ℕ) → j < i → q j ≡ q' j) → move_of A βs c i κ a b q ≡ move_of A βs c i κ a b q'
  move_parts A βs c q q' executes f = refl
  move_parts A βs c q q' (applies h) f = refl
  move_parts A βs c q q' (selects h) f = refl
  move_parts A βs c q q' (while_plan l) f = refl
  move_parts A βs c q q' (while_belief h l) f = refl
  move_parts A βs c q q' (does_both h l) f = ap (followed_by (λ ns. ns ++ (b ∷ []))) (f a h)
  move_parts A βs c q q' (does_one h l) f = ap₂ left_else_right (f a h) (f b l)

-- ---- a program that is not refused

module _ (gs : List Bool) (l : Layout) (p : Bytes) (good : program_good gs l p ≡ true) where
  length_good_lem : length_good (length p) ≡ true
  unfolding program_good
  length_good_lem = (both (length_good (length p)) _ good).0

  pub some_entries : 1 ≤ entry_count p
  some_entries = within_low 1 128 (length p / 4) (both (within 1 128 (length p / 4)) _ length_good_lem).0

  pub most_entries : entry_count p ≤ 128
  most_entries = within_high 1 128 (length p / 4) (both (within 1 128 (length p / 4)) _ length_good_lem).0

  pub no_byte_more : length p ≡ 4 * entry_count p
  no_byte_more = let h : length p % 4 ≡ 0 = eqb-true _ _ (both (within 1 128 (length p / 4)) _ length_good_lem).1 in omega arith

  module _ (i : ℕ) (h : i < entry_count p) where
    abbrev x : Node
    x = entry_of p i

    abbrev κ : EntryKind
    κ = entry_kind x.kind

    good_entry : entry_good gs l i x ≡ true
    unfolding program_good
    good_entry = every_at (λ i. entry_good gs l i (entry_of p i)) (entry_count p) i (both (length_good (length p)) _ good).1 h

    good_kind : ltb x.kind 7 && kind_good gs l i κ x.a x.b ≡ true
    good_kind = (both (ltb x.kind 7 && kind_good gs l i κ x.a x.b) _ good_entry).0

    pub entry_known : x.kind < 7
    entry_known = ltb-true x.kind 7 (both (ltb x.kind 7) _ good_kind).0

    pub entry_rule : Rule gs l i x.a x.b κ
    entry_rule = rule gs l i κ x.a x.b (both (ltb x.kind 7) _ good_kind).1

    pub entry_unused : Unused x.a x.b κ
    entry_unused = unused gs l i κ x.a x.b (both (ltb x.kind 7) _ good_kind).1

    pub entry_zero : x.zero ≡ 0
    entry_zero = eqb-true _ _ (both (ltb x.kind 7 && kind_good gs l i κ x.a x.b) _ good_entry).1

    module _ {X : Type 0} (make : ℕ → EntryKind → ℕ → ℕ → (ℕ → X) → X) (other : X)
        (in_parts : (q q' : ℕ → X) → Rule gs l i x.a x.b κ → ((j : ℕ) → j < i → q j ≡ q' j) → make i κ x.a x.b q ≡ make i κ x.a x.b q') where
      abbrev made : List X
      made = pass (λ i n q. make i (entry_kind n.kind) n.a n.b q) other (entries_of p)

      made_of : get_or made i other ≡ make i κ x.a x.b (λ j. get_or made j other)
      made_of =
          let e : get_or (entries_of p) i x ≡ x = entry_at p i x h in
          let s = pass_at (λ i n q. make i (entry_kind n.kind) n.a n.b q) other (entries_of p) i x (rw (length-entries p) h)
          (rw e (λ q q' same. in_parts q q' entry_rule same)) in
          rw e at s

    -- the program of entry i, from those of its parts
    pub program_at : (βs : List (Query 𝐁)) → program βs (entries_of p) i ≡ prog_of βs κ x.a x.b (program βs (entries_of p))
    unfolding program
    program_at βs = made_of (λ i. prog_of βs) execute (program_parts βs)

    -- the first move of entry i, from those of its parts
    pub move_at_lem : (A : Agent) (βs : List (Query 𝐁)) (c : Config)
        → first_move_of A βs c (entries_of p) i ≡ move_of A βs c i κ x.a x.b (λ j. first_move_of A βs c (entries_of p) j)
    unfolding first_move_of
    move_at_lem A βs c = made_of (move_of A βs c) none (move_parts A βs c)
