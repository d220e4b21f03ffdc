-- The relation and the function agree, and a choice has at most one outcome.
use mathlib.Core.Path.{◌≡◌, refl, ap, ◌∙◌, sym, subst}
use mathlib.Core.Logic.{◌↔◌}
use mathlib.Core.Bool.{Bool, true, false, ◌&&◌}
use mathlib.Core.List.{[], ◌∷◌, ◌++◌}
use mathlib.Core.Option.{Option, none, some}
use Prim.Native.Nat.{ℕ}
use native.Mathlib.Omega.{arith}
use lib.Dec.{T, eqb, eqb→eq, eqb_refl}
use lib.ListN.{length, drop, get_elem?}
use Rattle.paper.specs.Language.{Plan, Letter, Query, Specification, Selection, Revision, Agent, Config, ⟨◌/◌/◌⟩}
use Rattle.paper.specs.Transitions.{◌⊨◌, Choice, select, act, revise, Entry, σ', γ', Step, execute, apply_PS, apply_PR}
use Rattle.paper.specs.Next.{is_empty, starts_with, is_prefix, can_select, selected, can_act, acted, can_revise, revised, outcome, next, is_some, enabled}
use Rattle.paper.specs.Theorems.{AgreeLaw}

-- ---- truth values and options

pub T→≡ : (b : Bool) → T b → b ≡ true
T→≡ true t = refl
T→≡ false t = absurd t

pub ≡→T : (b : Bool) → b ≡ true → T b
≡→T b e = rw e tt

pub false≢true : ◌≡◌ {A = Bool} false true → ⊥
false≢true e = let z : ◌≡◌ {A = ℕ} 0 1 = cc in omega arith

pub both : (a b : Bool) → a && b ≡ true → (a ≡ true) × (b ≡ true)
both true b e = (refl, e)
both false b e = absurd (false≢true e)

pub none≢some : {X : Type 0} {x : X} → ◌≡◌ {A = Option X} none (some x) → ⊥
none≢some e = let z : ◌≡◌ {A = ℕ} 0 1 = cc in omega arith

pub some_inj : {X : Type 0} {x y : X} → some x ≡ some y → x ≡ y
some_inj e = cc

-- ---- plans

prefix-append : (h π : Plan) → is_prefix h (h ++ π) ≡ true
prefix-append [] π = refl
prefix-append (a ∷ h) π = rw (T→≡ (eqb a a) (eqb_refl a)) (prefix-append h π)

drop_append : (h π : Plan) → drop (length h) (h ++ π) ≡ π
drop_append [] π = refl
drop_append (a ∷ h) π = drop_append h π

pub prefix_split : (h π : Plan) → is_prefix h π ≡ true → π ≡ h ++ drop (length h) π
prefix_split [] π e = refl
prefix_split (a ∷ h) [] e = absurd (false≢true e)
prefix_split (a ∷ h) (b ∷ π) e =
    let (s, t) = both (eqb a b) (is_prefix h π) e in
    let q : a ≡ b = eqb→eq a b (≡→T _ s) in
    let i : π ≡ h ++ drop (length h) π = prefix_split h π t in
    cc

empty_is : (π : Plan) → is_empty π ≡ true → π ≡ []
empty_is [] e = refl
empty_is (a ∷ π) e = absurd (false≢true e)

first-is : (a : ℕ) (π : Plan) → starts_with a π ≡ true → π ≡ a ∷ drop 1 π
first-is a [] e = absurd (false≢true e)
first-is a (b ∷ π) e = let q : a ≡ b = eqb→eq a b (≡→T _ e) in rw q

-- ---- from the relation to the function

module _ {R : Type 0} (can : Config → R → Bool) (done : Config → R → Config) where
  pub outcome_yes : (c : Config) (r : R) → can c r ≡ true → outcome can done c (some r) ≡ some (done c r)
  unfolding outcome
  outcome_yes c r e = rw (e, outcome)

  pub outcome_no : (c : Config) (r : R) → can c r ≡ false → outcome can done c (some r) ≡ none
  unfolding outcome
  outcome_no c r e = rw (e, outcome)

pub sound : {A : Agent} {c c' : Config} {k : Choice} → Step A c k c' → next A c k ≡ some c'
unfolding next can_act acted can_select selected can_revise revised
sound (execute {σ = σ} {γ = γ} {π = π} {s = s} e p) =
    let c = ⟨ σ / s.a ∷ π / γ ⟩ in
    rw e (outcome_yes can_act acted c s (rw (T→≡ (eqb s.a s.a) (eqb_refl s.a)) (T→≡ (c ⊨ s.β) p)))
sound (apply_PS {σ = σ} {γ = γ} {r = r} e p q) =
    let c = ⟨ σ / [] / γ ⟩ in
    rw e (outcome_yes can_select selected c r (rw (T→≡ (c ⊨ r.β) p) (let g = T→≡ (c ⊨ r.κ) q in cc)))
sound (apply_PR {σ = σ} {γ = γ} π {r = r} e p) =
    let c = ⟨ σ / r.πₕ ++ π / γ ⟩ in
    let s : outcome can_revise revised c (some r) ≡ some (revised c r) = outcome_yes can_revise revised c r (rw (prefix-append r.πₕ π) (let b = T→≡ (c ⊨ r.β) p in cc)) in
    rw e (s ∙ ap {B = Option Config} (λ ρ. some ⟨ σ / r.πb ++ ρ / γ ⟩) (drop_append r.πₕ π))

-- ---- and back

module _ {R : Type 0} (can : Config → R → Bool) (done : Config → R → Config) (c c' : Config) where
  outcome_some : (o : Option R) → outcome can done c o ≡ some c' → (r : R) × (o ≡ some r) × (can c r ≡ true) × (done c r ≡ c')
  unfolding outcome
  outcome_some none e = absurd (none≢some e)
  outcome_some (some r) e = go (can c r) refl e
    where
      go : (b : Bool) → can c r ≡ b → elim b as (λ x. Option Config) [ true ↦ some (done c r) | false ↦ none ] ≡ some c'
          → (x : R) × (some r ≡ some x) × (can c x ≡ true) × (done c x ≡ c')
      go true h e = (r, refl, h, some_inj e)
      go false h e = absurd (none≢some e)

-- a query that holds of c holds of the same configuration in another form
holds_at : {L : Letter} (φ : Query L) {c d : Config} → c ≡ d → (c ⊨ φ) ≡ true → T (d ⊨ φ)
holds_at φ {c} z e = subst (λ x. T (x ⊨ φ)) z (≡→T (c ⊨ φ) e)

selected_step : (A : Agent) (c : Config) (n : ℕ) (r : Selection) → Entry A.PS n r → can_select c r ≡ true → Step A c (select n) (selected c r)
unfolding can_select selected
selected_step A c n r e h =
    let (p, q) = both (is_empty c.π) _ h in
    let (b, g) = both (c ⊨ r.β) (c ⊨ r.κ) q in
    let z : c ≡ ⟨ c.σ / [] / c.γ ⟩ = λ i. ⟨ c.σ / empty_is c.π p i / c.γ ⟩ in
    subst (λ x. Step A x (select n) ⟨ c.σ / r.π / c.γ ⟩) (sym z)
    (apply_PS e (holds_at r.β z b) (holds_at r.κ z g))

acted_step : (A : Agent) (c : Config) (n : ℕ) (s : Specification) → Entry A.AS n s → can_act c s ≡ true → Step A c (act n) (acted c s)
unfolding can_act acted
acted_step A c n s e h =
    let (p, q) = both (starts_with s.a c.π) _ h in
    let z : c ≡ ⟨ c.σ / s.a ∷ drop 1 c.π / c.γ ⟩ = λ i. ⟨ c.σ / first-is s.a c.π p i / c.γ ⟩ in
    subst (λ x. Step A x (act n) ⟨ σ' c.σ s / drop 1 c.π / γ' c.σ c.γ s ⟩) (sym z)
    (execute e (holds_at s.β z q))

revised_step : (A : Agent) (c : Config) (n : ℕ) (r : Revision) → Entry A.PR n r → can_revise c r ≡ true → Step A c (revise n) (revised c r)
unfolding can_revise revised
revised_step A c n r e h =
    let (p, q) = both (is_prefix r.πₕ c.π) _ h in
    let rest = drop (length r.πₕ) c.π in
    let z : c ≡ ⟨ c.σ / r.πₕ ++ rest / c.γ ⟩ = λ i. ⟨ c.σ / prefix_split r.πₕ c.π p i / c.γ ⟩ in
    subst (λ x. Step A x (revise n) ⟨ c.σ / r.πb ++ rest / c.γ ⟩) (sym z)
    (apply_PR rest e (holds_at r.β z q))

pub complete : (A : Agent) (c c' : Config) (k : Choice) → next A c k ≡ some c' → Step A c k c'
unfolding next
complete A c c' (select n) h =
    let (r, e, p, q) = outcome_some can_select selected c c' (get_elem? A.PS n) h in
    rw (← q) (selected_step A c n r e p)
complete A c c' (act n) h =
    let (s, e, p, q) = outcome_some can_act acted c c' (get_elem? A.AS n) h in
    rw (← q) (acted_step A c n s e p)
complete A c c' (revise n) h =
    let (r, e, p, q) = outcome_some can_revise revised c c' (get_elem? A.PR n) h in
    rw (← q) (revised_step A c n r e p)

pub unique : {A : Agent} {c c' c'' : Config} {k : Choice} → Step A c k c' → Step A c k c'' → c' ≡ c''
unique p q = some_inj (sym (sound p) ∙ sound q)

-- ---- enabled

is_some_lem : {X : Type 0} (o : Option X) → is_some o ≡ true → (x : X) × (o ≡ some x)
is_some_lem none e = absurd (false≢true e)
is_some_lem (some x) e = (x, refl)

pub enabled_exactly : (A : Agent) (c : Config) (k : Choice) → (enabled A c k ≡ true) ↔ ((c' : Config) × Step A c k c')
unfolding enabled
enabled_exactly A c k = (λ e. (let (c', h) = is_some_lem (next A c k) e in (c', complete A c c' k h)), λ s. rw (sound s.1))

pub agree : AgreeLaw
agree A = record { none_missing = sound; none_added = complete A; unique = unique; enabled_exactly = enabled_exactly A }
