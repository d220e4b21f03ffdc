-- The guide's own choice, found by asking one number after the other and one kind after the other.
use mathlib.Core.Path.{◌≡◌, refl, ap, ◌∙◌, sym}
use mathlib.Core.Bool.{Bool, true, false}
use mathlib.Core.List.{List, [], ◌∷◌, ◌++◌, map}
use Prim.Native.Nat.{ℕ, zero, suc, ◌+◌, ◌-◌, ◌%◌, ◌≤◌, ◌<◌}
use native.Mathlib.Nat.{sub-zero, add-zero}
use native.Mathlib.Omega.{arith}
use borrow.Author.Count.{below_more}
use Rattle.paper.specs.Language.{Agent, Config}
use Rattle.paper.specs.Transitions.{Choice, select, act, revise}
use mathlib.Core.Option.{some}
use Rattle.paper.specs.Next.{enabled}
use Rattle.runs.proofs.Numbers.{made_next}
use Rattle.runs.specs.Order.{numbers, of_kind, in_turn, first}
use Rattle.runs.specs.declared.Kind.{Kind}
use Rattle.runs.specs.Kinds.{kind_number}
use Rattle.runs.proofs.Order.{first_yes, first_no}
use Rattle.meaning.specs.declared.Layout.{Layout}
use Rattle.meaning.specs.Card.{Bytes, agent_of, agent_for}
use Rattle.meaning.proofs.Accepted.{length-entries}
use Rattle.layout.specs.Entries.{count_of}
use Rattle.std.specs.Prelude.{Some, None}
use Rattle.door.specs.declared.asked.Choice as Told
use Rattle.door.specs.Asking.{choice_at, chosen}
use Rattle.door.proofs.Told.{Chosen, told_at}
use Rattle.meaning.proofs.AgentEntries.{selection_for, specification_for, revision_for}

-- the first enabled of some choices, as the code tells it
abbrev pub first_enabled : Agent → Config → List Choice → Chosen
first_enabled A c ks = chosen (first (enabled A c) ks)

abbrev or_else : Chosen → Chosen → Chosen
or_else (Some k) b = Some k
or_else None b = b

module _ (A : Agent) (c : Config) where
  here : (k : Choice) (ks : List Choice) → enabled A c k ≡ true → first_enabled A c (k ∷ ks) ≡ chosen (some k)
  here k ks e = ap chosen (first_yes (enabled A c) k ks e)

  later : (k : Choice) (ks : List Choice) → enabled A c k ≡ false → first_enabled A c (k ∷ ks) ≡ first_enabled A c ks
  later k ks e = ap chosen (first_no (enabled A c) k ks e)

  -- ---- one number after the other

  module _ (f : ℕ → Choice) (n : ℕ) where
    abbrev pub Left : ℕ → Type 0
    Left i = first_enabled A c (map f (numbers i (n - i))) ≡ first_enabled A c (map f (numbers 0 n))

    pub left_start : Left 0
    left_start = rw sub-zero

    pub left_turn : (i : ℕ) → i < n → enabled A c (f i) ≡ false → Left i → Left (i + 1)
    left_turn i h g e = sym (ap (first_enabled A c) (made_next f i n h) ∙ later (f i) (map f (numbers (i + 1) (n - (i + 1)))) g) ∙ e

    left_found : (i : ℕ) → i < n → enabled A c (f i) ≡ true → Left i → chosen (some (f i)) ≡ first_enabled A c (map f (numbers 0 n))
    left_found i h g e = sym (ap (first_enabled A c) (made_next f i n h) ∙ here (f i) (map f (numbers (i + 1) (n - (i + 1)))) g) ∙ e

    left_none : (i : ℕ) → n ≤ i → Left i → None ≡ first_enabled A c (map f (numbers 0 n))
    unfolding numbers
    left_none i h e = let z : n - i ≡ 0 = omega arith in sym (rw z) ∙ e

  -- ---- one kind after the other

  pub first_append : (ks hs : List Choice) → first_enabled A c (ks ++ hs) ≡ or_else (first_enabled A c ks) (first_enabled A c hs)
  first_append [] hs = refl
  first_append (k ∷ ks) hs = go (enabled A c k) refl (first_append ks hs)
    where
      go : (t : Bool) → enabled A c k ≡ t → first_enabled A c (ks ++ hs) ≡ or_else (first_enabled A c ks) (first_enabled A c hs)
          → first_enabled A c (k ∷ (ks ++ hs)) ≡ or_else (first_enabled A c (k ∷ ks)) (first_enabled A c hs)
      go true e ih = here k (ks ++ hs) e ∙ sym (ap (λ x. or_else x (first_enabled A c hs)) (here k ks e))
      go false e ih = later k (ks ++ hs) e ∙ ih ∙ ap (λ x. or_else x (first_enabled A c hs)) (sym (later k ks e))

-- ---- the choices of a card's agent

module _ (l : Layout) (b : Bytes) where
  pub of_kind_lem : (kind : ℕ) → of_kind (agent_for l b) kind ≡ map (choice_at kind) (numbers 0 (count_of l kind))
  unfolding of_kind agent_for agent_of
  of_kind_lem zero = ap (λ n. map select (numbers 0 n)) (length-entries (selection_for l b) l.selections)
  of_kind_lem (suc zero) = ap (λ n. map act (numbers 0 n)) (length-entries (specification_for l b) l.specifications)
  of_kind_lem (suc (suc kind)) = ap (λ n. map revise (numbers 0 n)) (length-entries (revision_for l b) l.revisions)

-- ---- the numbers of a kind, one after the other

module _ (l : Layout) (b : Bytes) (c : Config) (κ : Kind) where
  abbrev kind : ℕ
  kind = kind_number κ

  abbrev pub LeftOf : ℕ → Type 0
  LeftOf i = Left (agent_for l b) c (choice_at kind) (count_of l kind) i

  pub found_of_kind : (i : ℕ) → i < count_of l kind → enabled (agent_for l b) c (choice_at kind i) ≡ true → LeftOf i
      → Some (record { kind = κ; number = i }) ≡ first_enabled (agent_for l b) c (of_kind (agent_for l b) kind)
  found_of_kind i h g e = ap Some (sym (told_at κ i)) ∙ left_found (agent_for l b) c (choice_at kind) (count_of l kind) i h g e ∙ ap (first_enabled (agent_for l b) c) (sym (of_kind_lem l b kind))

  pub none_of_kind : (i : ℕ) → count_of l kind ≤ i → LeftOf i → None ≡ first_enabled (agent_for l b) c (of_kind (agent_for l b) kind)
  none_of_kind i h e = left_none (agent_for l b) c (choice_at kind) (count_of l kind) i h e ∙ ap (first_enabled (agent_for l b) c) (sym (of_kind_lem l b kind))

-- ---- the three kinds in turn

module _ (A : Agent) (c : Config) (p : ℕ) where
  -- what each of the three kinds has first
  abbrev first_kind : Chosen
  first_kind = first_enabled A c (of_kind A (p % 3))

  abbrev second_kind : Chosen
  second_kind = first_enabled A c (of_kind A ((p + 1) % 3))

  abbrev third_kind : Chosen
  third_kind = first_enabled A c (of_kind A ((p + 2) % 3))

  in_turn_lem : first_enabled A c (in_turn A p) ≡ or_else first_kind (or_else second_kind third_kind)
  unfolding in_turn
  in_turn_lem = first_append A c (of_kind A (p % 3)) _ ∙ ap (or_else first_kind) (first_append A c (of_kind A ((p + 1) % 3)) (of_kind A ((p + 2) % 3)))

  -- what the t-th of the three has first
  abbrev pub nth : ℕ → Chosen
  nth t = first_enabled A c (of_kind A ((p + t) % 3))

  -- the kinds before the t-th have nothing
  abbrev pub Tried : ℕ → Type 0
  Tried t = (k : ℕ) → k < t → nth k ≡ None

  nth_first : nth 0 ≡ first_kind
  nth_first = ap (λ n. first_enabled A c (of_kind A (n % 3))) (add-zero p)

  past_first : nth 0 ≡ None → or_else second_kind third_kind ≡ first_enabled A c (in_turn A p)
  past_first e = ap (λ x. or_else x (or_else second_kind third_kind)) (sym e ∙ nth_first) ∙ sym in_turn_lem

  past_second : nth 0 ≡ None → second_kind ≡ None → third_kind ≡ first_enabled A c (in_turn A p)
  past_second e f = ap (λ x. or_else x third_kind) (sym f) ∙ past_first e

  pub found_in_turn : (t : ℕ) → t < 3 → Tried t → (a : Chosen) → a ≡ nth t → (x : Told.Choice) → a ≡ Some x → a ≡ first_enabled A c (in_turn A p)
  found_in_turn zero h tried a e x f = f ∙ ap (λ x. or_else x (or_else second_kind third_kind)) (sym f ∙ e ∙ nth_first) ∙ sym in_turn_lem
  found_in_turn (suc zero) h tried a e x f = f ∙ ap (λ x. or_else x third_kind) (sym f ∙ e) ∙ past_first (tried 0 (omega arith))
  found_in_turn (suc (suc zero)) h tried a e x f = e ∙ past_second (tried 0 (omega arith)) (tried 1 (omega arith))
  found_in_turn (suc (suc (suc t))) h tried a e x f = absurd (omega arith)

  pub none_in_turn : Tried 3 → None ≡ first_enabled A c (in_turn A p)
  none_in_turn tried = sym (tried 2 (omega arith)) ∙ past_second (tried 0 (omega arith)) (tried 1 (omega arith))

  -- one kind more
  pub tried_more : (t : ℕ) → Tried t → nth t ≡ None → Tried (t + 1)
  tried_more t tried e = below_more (λ (k : ℕ). nth k ≡ None) t tried e
