-- The first move is one of the relation's transitions, and there is none exactly if the relation has none.
use mathlib.Core.Path.{◌≡◌, refl, ap, ◌∙◌, sym, subst}
use mathlib.Core.Logic.{◌↔◌}
use mathlib.Core.Bool.{Bool, true, false}
use mathlib.Core.List.{map}
use mathlib.Core.Option.{Option, none, some}
use Prim.Native.Nat.{ℕ, zero, suc, ◌+◌, ◌≤◌, ◌<◌}
use native.Mathlib.Nat.{zero-add}
use native.Mathlib.Decide.{ℕ_discrete}
use native.Mathlib.Omega.{arith}
use lib.ListN.{length}
use Rattle.paper.specs.Language.{Agent, Config}
use Rattle.paper.specs.Transitions.{Choice, Step, execute}
use Rattle.paper.specs.Next.{enabled}
use Rattle.paper.proofs.Relation.{none≢some, some_inj, false≢true, enabled_exactly}
use Rattle.runs.specs.Order.{numbers, of_kind, first}
use Rattle.runs.proofs.Order.{entry_lt, first_yes, first_no}
use Rattle.deliberation.specs.Programs.{Prog, apply, select, while◌doing◌od, ◌⨾◌, ◌⊕◌, Rest, E, still, ◌⨾'◌, 𝒲}
use Rattle.deliberation.specs.MetaTransitions.{Label, taking, MetaStep, action_execution, rule_application, rule_selection, while_tt, while_ff, in_sequence, choice_left, choice_right}
use Rattle.deliberation.specs.FirstMove.{Move, lowest_action, if_enabled, idles, left_else_right, first_move}
use Rattle.deliberation.proofs.Moves.{takes_some, takes_none, idles_holds, idles_fails, idles_none, followed_some, followed_none, either_left, either_none}
use Rattle.deliberation.specs.Theorems.{NoTransition, FirstMoveLaw, WayOutLaw}

-- ---- the lowest number of a list of choices that passes a test

module _ (t : Choice → Bool) (f : ℕ → Choice) where
  -- the first of the m numbers from k on: it passes, and none before it does
  record Lowest (k m : ℕ) (c : Choice) : Type 0 where
    number : ℕ
    is_it : c ≡ f number
    passes : t (f number) ≡ true
    before : (i : ℕ) → k ≤ i → i < number → t (f i) ≡ false

  lowest_of : (k m : ℕ) (c : Choice) → first t (map f (numbers k m)) ≡ some c → Lowest k m c
  unfolding numbers
  lowest_of k zero c e = absurd (none≢some e)
  lowest_of k (suc m) c e = go (t (f k)) refl (lowest_of (suc k) m c)
    where
      go : (b : Bool) → t (f k) ≡ b → (first t (map f (numbers (suc k) m)) ≡ some c → Lowest (suc k) m c) → Lowest k (suc m) c
      go true h ih =
          let q = some_inj (sym (first_yes t (f k) (map f (numbers (suc k) m)) h) ∙ e) in
          record { number = k; is_it = sym q; passes = h; before = λ i l j. absurd (omega arith) }
      go false h ih =
          let r = ih (sym (first_no t (f k) (map f (numbers (suc k) m)) h) ∙ e) in
          record {
            number = r.number;
            is_it = r.is_it;
            passes = r.passes;
            before = λ i l j. elim (ℕ_discrete i k) [ yes q ↦ rw q h | no n ↦ r.before i (omega arith) j ];
          }

  none_of : (k m : ℕ) → first t (map f (numbers k m)) ≡ none → (i : ℕ) → k ≤ i → i < k + m → t (f i) ≡ false
  unfolding numbers
  none_of k zero e i l j = absurd (omega arith)
  none_of k (suc m) e i l j = go (t (f k)) refl (none_of (suc k) m)
    where
      go : (b : Bool) → t (f k) ≡ b → (first t (map f (numbers (suc k) m)) ≡ none → (i : ℕ) → suc k ≤ i → i < suc k + m → t (f i) ≡ false) → t (f i) ≡ false
      go true h ih = absurd (none≢some (sym e ∙ first_yes t (f k) (map f (numbers (suc k) m)) h))
      go false h ih = elim (ℕ_discrete i k) [
        | yes q ↦ rw q h
        | no n ↦ ih (sym (first_no t (f k) (map f (numbers (suc k) m)) h) ∙ e) i (omega arith) (omega arith)
      ]

-- ---- execute, apply and select

not_enabled : {A : Agent} {s s' : Config} {k : Choice} → enabled A s k ≡ false → Step A s k s' → ⊥
not_enabled {A} {s} {s'} {k} h x = false≢true (sym h ∙ (enabled_exactly A s k).1 (s', x))

module _ (A : Agent) (s : Config) where
  lower_closed : (n : ℕ) → lowest_action A s ≡ some (Choice.act n) → (i : ℕ) → i < n → (s' : Config) → Step A s (Choice.act i) s' → ⊥
  unfolding lowest_action of_kind
  lower_closed n e i h s' x =
      let r = lowest_of (enabled A s) Choice.act 0 (length A.AS) (Choice.act n) e in
      let q : n ≡ r.number = act_number r.is_it in
      not_enabled (r.before i (omega arith) (omega arith)) x
    where
      act_number : {m n : ℕ} → Choice.act m ≡ Choice.act n → m ≡ n
      act_number e = cc

  lowest_step : (k : Choice) → lowest_action A s ≡ some k → (n : ℕ) × ((k ≡ Choice.act n) × ((s' : Config) × Step A s (Choice.act n) s'))
  unfolding lowest_action of_kind
  lowest_step k e =
      let r = lowest_of (enabled A s) Choice.act 0 (length A.AS) k e in
      (r.number, (r.is_it, (enabled_exactly A s (Choice.act r.number)).0 r.passes))

  no_lowest : lowest_action A s ≡ none → (n : ℕ) (s' : Config) → Step A s (Choice.act n) s' → ⊥
  unfolding lowest_action of_kind
  no_lowest e n s' x = not_enabled (none_of (enabled A s) Choice.act 0 (length A.AS) e n (omega arith) (rw zero-add (act_lt x))) x
    where
      act_lt : {s s' : Config} {n : ℕ} → Step A s (Choice.act n) s' → n < length A.AS
      act_lt (execute {n = n} e p) = entry_lt A.AS n e

  if_enabled_lem : (k : Choice) → enabled A s k ≡ true → if_enabled A s k ≡ some k
  unfolding if_enabled
  if_enabled_lem k e = rw (e, if_enabled)

  if_not : (k : Choice) → enabled A s k ≡ false → if_enabled A s k ≡ none
  unfolding if_enabled
  if_not k e = rw (e, if_enabled)

  enabled_step : (k j : Choice) → if_enabled A s k ≡ some j → (j ≡ k) × ((s' : Config) × Step A s k s')
  enabled_step k j e = go (enabled A s k) refl
    where
      go : (b : Bool) → enabled A s k ≡ b → (j ≡ k) × ((s' : Config) × Step A s k s')
      go true h = (some_inj (sym e ∙ if_enabled_lem k h), (enabled_exactly A s k).0 h)
      go false h = absurd (none≢some (sym (if_not k h) ∙ e))

  no_enabled : (k : Choice) → if_enabled A s k ≡ none → (s' : Config) → Step A s k s' → ⊥
  no_enabled k e s' x = none≢some (sym e ∙ if_enabled_lem k ((enabled_exactly A s k).1 (s', x)))

-- ---- the first move is a transition

abbrev One : Agent → Config → Prog → Move Rest → Type 0
One A s P m = (s' : Config) × MetaStep A P s m.label m.remaining s'

pub is_one : (A : Agent) (s : Config) (P : Prog) (m : Move Rest) → first_move A s P ≡ some m → One A s P m
unfolding first_move
is_one A s Prog.execute m e =
    let (k, (f, q)) = takes_some (lowest_action A s) E m e in
    let (n, (i, (s', x))) = lowest_step A s k f in
    subst (One A s Prog.execute) q (rw i (s', action_execution x))
is_one A s (apply ρ) m e =
    let (k, (f, q)) = takes_some (if_enabled A s (Choice.revise ρ)) E m e in
    let (i, (s', x)) = enabled_step A s (Choice.revise ρ) k f in
    subst (One A s (apply ρ)) q (rw i (s', rule_application x))
is_one A s (select ρ) m e =
    let (k, (f, q)) = takes_some (if_enabled A s (Choice.select ρ)) E m e in
    let (i, (s', x)) = enabled_step A s (Choice.select ρ) k f in
    subst (One A s (select ρ)) q (rw i (s', rule_selection x))
is_one A s (while b doing P od) m e = go (𝒲 b s) refl e
  where
    go : (t : Bool) → 𝒲 b s ≡ t → idles t (still (P ⨾ while b doing P od)) E ≡ some m → One A s (while b doing P od) m
    go true h e = subst (One A s (while b doing P od)) (some_inj (sym (idles_holds (still (P ⨾ while b doing P od)) E) ∙ e)) (s, while_tt h)
    go false h e = subst (One A s (while b doing P od)) (some_inj (sym (idles_fails (still (P ⨾ while b doing P od)) E) ∙ e)) (s, while_ff h)
is_one A s (P₁ ⨾ P₂) m e =
    let (n, (f, q)) = followed_some (λ P₁'. still (P₁' ⨾' P₂)) (first_move A s P₁) m e in
    let (s', x) = is_one A s P₁ n f in
    subst (One A s (P₁ ⨾ P₂)) q (s', in_sequence x)
is_one A s (P₁ ⊕ P₂) m e = go (first_move A s P₁) refl e (is_one A s P₁ m) (is_one A s P₂ m)
  where
    go : (o : Option (Move Rest)) → first_move A s P₁ ≡ o → left_else_right o (first_move A s P₂) ≡ some m
        → (first_move A s P₁ ≡ some m → One A s P₁ m) → (first_move A s P₂ ≡ some m → One A s P₂ m) → One A s (P₁ ⊕ P₂) m
    go none h e l r = let (s', x) = r e in (s', choice_right x)
    go (some n) h e l r = let (s', x) = l (h ∙ sym (either_left n (first_move A s P₂)) ∙ e) in (s', choice_left x)

-- ---- and there is none only if the relation has none

pub not_none : {A : Agent} {P : Prog} {s s' : Config} {x : Label} {P' : Rest} → MetaStep A P s x P' s' → first_move A s P ≡ none → ⊥
unfolding first_move
not_none {A} (action_execution {s = s} {s' = s'} {n = n} x) e = no_lowest A s (takes_none (lowest_action A s) E e) n s' x
not_none {A} (rule_application {s = s} {s' = s'} {ρ = ρ} x) e = no_enabled A s (Choice.revise ρ) (takes_none (if_enabled A s (Choice.revise ρ)) E e) s' x
not_none {A} (rule_selection {s = s} {s' = s'} {ρ = ρ} x) e = no_enabled A s (Choice.select ρ) (takes_none (if_enabled A s (Choice.select ρ)) E e) s' x
not_none (while_tt {s = s} {b = b} {P = P} h) e = idles_none (𝒲 b s) (still (P ⨾ while b doing P od)) E e
not_none (while_ff {s = s} {b = b} {P = P} h) e = idles_none (𝒲 b s) (still (P ⨾ while b doing P od)) E e
not_none {A} (in_sequence {s = s} {P₁ = P₁} {P₂ = P₂} x) e = not_none x (followed_none (λ P₁'. still (P₁' ⨾' P₂)) (first_move A s P₁) e)
not_none {A} (choice_left {s = s} {P₁ = P₁} {P₂ = P₂} x) e = not_none x (either_none (first_move A s P₁) (first_move A s P₂) e).0
not_none {A} (choice_right {s = s} {P₁ = P₁} {P₂ = P₂} x) e = not_none x (either_none (first_move A s P₁) (first_move A s P₂) e).1

pub none_exactly : (A : Agent) (s : Config) (P : Prog) → (first_move A s P ≡ none) ↔ NoTransition A P s
none_exactly A s P = (λ e x P' s' t. not_none t e, λ h. go h (first_move A s P) refl)
  where
    go : NoTransition A P s → (o : Option (Move Rest)) → first_move A s P ≡ o → first_move A s P ≡ none
    go h none e = e
    go h (some m) e = let (s', x) = is_one A s P m e in absurd (h m.label m.remaining s' x)

pub first_move_law : FirstMoveLaw
first_move_law A s P = record { is_one = is_one A s P; none_exactly = none_exactly A s P }

-- ---- which of them it is

module _ (A : Agent) (s : Config) where
  pub lowest : (m : Move Rest) (n : ℕ) → first_move A s Prog.execute ≡ some m → m.label ≡ taking (Choice.act n)
      → (i : ℕ) → i < n → (s' : Config) → Step A s (Choice.act i) s' → ⊥
  unfolding first_move
  lowest m n e x =
      let (k, (f, q)) = takes_some (lowest_action A s) E m e in
      let z : k ≡ Choice.act n = taking_inj (ap (λ (y : Move Rest). y.label) q ∙ x) in
      lower_closed A s n (f ∙ ap {B = Option Choice} (λ j. some j) z)
    where
      taking_inj : {j k : Choice} → taking j ≡ taking k → j ≡ k
      taking_inj e = cc

  pub left : (P₁ P₂ : Prog) (x : Label) (P₁' : Rest) (s' : Config) → MetaStep A P₁ s x P₁' s' → first_move A s (P₁ ⊕ P₂) ≡ first_move A s P₁
  unfolding first_move
  left P₁ P₂ x P₁' s' t = go (first_move A s P₁) refl
    where
      go : (o : Option (Move Rest)) → first_move A s P₁ ≡ o → left_else_right (first_move A s P₁) (first_move A s P₂) ≡ first_move A s P₁
      go none e = absurd (not_none t e)
      go (some m) e = rw e (either_left m (first_move A s P₂))

  pub right : (P₁ P₂ : Prog) → NoTransition A P₁ s → first_move A s (P₁ ⊕ P₂) ≡ first_move A s P₂
  unfolding first_move
  right P₁ P₂ h = rw ((none_exactly A s P₁).1 h)

  pub in_first : (P₁ P₂ : Prog) (m : Move Rest) → first_move A s P₁ ≡ some m
      → first_move A s (P₁ ⨾ P₂) ≡ some (record { label = m.label; remaining = still (m.remaining ⨾' P₂) })
  unfolding first_move
  in_first P₁ P₂ m e = rw (e, first_move)

pub way_out_law : WayOutLaw
way_out_law A s = record { lowest = lowest A s; left = left A s; right = right A s; sequence = in_first A s }
