-- 000's theorems of its interpreter: Proposition 1, Lemma 1 and the finite part of Theorem 1.
use mathlib.Core.Path.{◌≡◌, refl, ap, ◌∙◌, sym, subst}
use mathlib.Core.Logic.{◌⊎◌, inl, inr, ⊎_elim}
use mathlib.Core.Bool.{true, false, not}
use mathlib.Core.List.{List, [], ◌∷◌, ◌++◌, map}
use Prim.Native.Nat.{ℕ, zero, suc, ◌+◌, ◌≤◌, ◌<◌}
use native.Mathlib.Nat.{zero-add}
use native.Mathlib.Decide.{ℕ_discrete}
use native.Mathlib.Omega.{arith}
use lib.ListN.{length}
use Rattle.paper.specs.Language.{Plan, Agent, Config}
use Rattle.paper.specs.Transitions.{Choice, Step, apply_PS, apply_PR}
use Rattle.paper.specs.Transitions as Transitions
use Rattle.paper.specs.Next.{is_empty}
use Rattle.paper.proofs.Relation.{false≢true}
use Rattle.runs.specs.Order.{numbers}
use Rattle.runs.specs.Run.{Chain, stay, ◌then◌}
use Rattle.runs.specs.Weight.{is_selection, selections}
use Rattle.runs.proofs.Order.{entry_lt}
use Rattle.deliberation.specs.Programs.{Bexp, Prog, execute, apply, select, while◌doing◌od, ◌⨾◌, ◌⊕◌, Rest, E, still, ◌⨾'◌, 𝒲}
use Rattle.deliberation.specs.MetaTransitions.{Label, idle, taking, MetaStep, action_execution, rule_application, rule_selection, while_tt, while_ff, in_sequence, choice_left, choice_right, Computation, as_it_is, ◌and_then◌, not_idle}
use Rattle.deliberation.specs.Interpreter.{or_one_of, any_move, interpreter}
use Rattle.deliberation.specs.Equivalence.{NoReactiveRules, NoSelection, Proposition1, Lemma1, Theorem1}
use Rattle.deliberation.proofs.Parts.{still_inj, still≢E}
use Rattle.deliberation.proofs.Followed.{object}

-- ---- Proposition 1

pub proposition_1 : (A : Agent) (s s' : Config) (n : ℕ) → Proposition1 A s s' n
proposition_1 A s s' n = record {
  executes = (λ t. action_execution t, λ t. object t);
  applies = (λ t. rule_application t, λ t. object t);
  selects = (λ t. rule_selection t, λ t. object t);
}

-- ---- transitions taken apart by the program

pub of_execute : {A : Agent} {s s' : Config} {x : Label} {R : Rest} → MetaStep A execute s x R s'
    → (n : ℕ) × ((x ≡ taking (Choice.act n)) × ((R ≡ E) × Step A s (Choice.act n) s'))
of_execute (action_execution {n = n} t) = (n, (refl, (refl, t)))

pub of_apply : {A : Agent} {s s' : Config} {x : Label} {R : Rest} {ρ : ℕ} → MetaStep A (apply ρ) s x R s'
    → (x ≡ taking (Choice.revise ρ)) × ((R ≡ E) × Step A s (Choice.revise ρ) s')
of_apply (rule_application t) = (refl, (refl, t))

pub of_select : {A : Agent} {s s' : Config} {x : Label} {R : Rest} {ρ : ℕ} → MetaStep A (select ρ) s x R s'
    → (x ≡ taking (Choice.select ρ)) × ((R ≡ E) × Step A s (Choice.select ρ) s')
of_select (rule_selection t) = (refl, (refl, t))

pub of_choice : {A : Agent} {s s' : Config} {x : Label} {R : Rest} {P Q : Prog} → MetaStep A (P ⊕ Q) s x R s'
    → MetaStep A P s x R s' ⊎ MetaStep A Q s x R s'
of_choice (choice_left t) = inl t
of_choice (choice_right t) = inr t

pub of_sequence : {A : Agent} {s s' : Config} {x : Label} {R : Rest} {P Q : Prog} → MetaStep A (P ⨾ Q) s x R s'
    → (R' : Rest) × (MetaStep A P s x R' s' × (R ≡ still (R' ⨾' Q)))
of_sequence (in_sequence {P₁' = R'} t) = (R', (t, refl))

pub of_while : {A : Agent} {s s' : Config} {x : Label} {R : Rest} {b : Bexp} {P : Prog} → MetaStep A (while b doing P od) s x R s'
    → (x ≡ idle) × ((s' ≡ s) × (((𝒲 b s ≡ true) × (R ≡ still (P ⨾ while b doing P od))) ⊎ ((𝒲 b s ≡ false) × (R ≡ E))))
of_while (while_tt h) = (refl, (refl, inl (h, refl)))
of_while (while_ff h) = (refl, (refl, inr (h, refl)))

-- ---- the choice between all moves

module _ {A : Agent} {s s' : Config} {x : Label} {R : Rest} where
  by_first : (P : Prog) (Qs : List Prog) → MetaStep A P s x R s' → MetaStep A (or_one_of P Qs) s x R s'
  unfolding or_one_of
  by_first P [] t = t
  by_first P (Q ∷ Qs) t = by_first (P ⊕ Q) Qs (choice_left t)

  by_rule : (k m i : ℕ) (P : Prog) → k ≤ i → i < k + m → MetaStep A (apply i) s x R s' → MetaStep A (or_one_of P (map apply (numbers k m))) s x R s'
  unfolding or_one_of numbers
  by_rule k zero i P h l t = absurd (omega arith)
  by_rule k (suc m) i P h l t = elim (ℕ_discrete i k) [
    | yes e ↦ by_first (P ⊕ apply k) (map apply (numbers (suc k) m)) (choice_right (subst (λ j. MetaStep A (apply j) s x R s') e t))
    | no n ↦ by_rule (suc k) m i (P ⊕ apply k) (omega arith) (omega arith) t
  ]

  -- it is one of them
  by_one : (k m : ℕ) (P : Prog) → MetaStep A (or_one_of P (map apply (numbers k m))) s x R s'
      → MetaStep A P s x R s' ⊎ ((ρ : ℕ) × MetaStep A (apply ρ) s x R s')
  unfolding or_one_of numbers
  by_one k zero P t = inl t
  by_one k (suc m) P t = ⊎_elim (λ u. ⊎_elim (λ v. inl v) (λ v. inr (k, v)) (of_choice u)) (λ u. inr u) (by_one (suc k) m (P ⊕ apply k) t)

-- ---- Lemma 1

not_empty : (π : Plan) → (π ≡ [] → ⊥) → not (is_empty π) ≡ true
not_empty [] h = absurd (h refl)
not_empty (a ∷ π) h = refl

is_empty_lem : (π : Plan) → not (is_empty π) ≡ false → π ≡ []
is_empty_lem [] e = refl
is_empty_lem (a ∷ π) e = absurd (false≢true (sym e))

cons≢[] : {X : Type 0} {x : X} {xs : List X} → ◌≡◌ {A = List X} (x ∷ xs) [] → ⊥
cons≢[] e = let z : ◌≡◌ {A = ℕ} 0 1 = cc in omega arith

nothing_before : {X : Type 0} (xs ys : List X) → xs ++ ys ≡ [] → xs ≡ []
nothing_before [] ys e = refl
nothing_before (x ∷ xs) ys e = absurd (cons≢[] e)

module _ (A : Agent) (heads : NoReactiveRules A) where
  -- 000: "both rule application and basic action execution require a non-empty plan"
  plan_there : {s s' : Config} {k : Choice} → Step A s k s' → NoSelection k → s.π ≡ [] → ⊥
  unfolding is_selection
  plan_there (Transitions.execute e p) h q = cons≢[] q
  plan_there (apply_PS e p r) h q = absurd (omega arith)
  plan_there (apply_PR π {n = n} {r = r} e p) h q = heads n r e (nothing_before r.πₕ π q)

  any_move_lem : {s s' : Config} {k : Choice} → Step A s k s' → NoSelection k → MetaStep A (any_move A) s (taking k) E s'
  unfolding is_selection any_move
  any_move_lem (Transitions.execute e p) h = by_first execute (map apply (numbers 0 (length A.PR))) (action_execution (Transitions.execute e p))
  any_move_lem (apply_PS e p r) h = absurd (omega arith)
  any_move_lem (apply_PR π {n = n} e p) h =
      by_rule 0 (length A.PR) n execute (omega arith) (rw zero-add (entry_lt A.PR n e)) (rule_application (apply_PR π e p))

  some_move : {s s' : Config} {x : Label} {R : Rest} → MetaStep A (any_move A) s x R s'
      → (k : Choice) × ((x ≡ taking k) × ((R ≡ E) × (NoSelection k × Step A s k s')))
  unfolding is_selection any_move
  some_move t =
      ⊎_elim
      (λ u. (let (n, (x, (r, v))) = of_execute u in (Choice.act n, (x, (r, (refl, v))))))
      (λ u. (let (ρ, w) = u in let (x, (r, v)) = of_apply w in (Choice.revise ρ, (x, (r, (refl, v))))))
      (by_one 0 (length A.PR) execute t)

  starts : {s : Config} → (s.π ≡ [] → ⊥) → MetaStep A (interpreter A) s idle (still (any_move A ⨾ interpreter A)) s
  unfolding interpreter 𝒲
  starts {s} h = while_tt (not_empty s.π h)

  ends : {s : Config} → s.π ≡ [] → MetaStep A (interpreter A) s idle E s
  unfolding interpreter 𝒲
  ends {s} h = let e : not (is_empty s.π) ≡ false = rw h in while_ff e

  forth : {s s' : Config} {k : Choice} → NoSelection k → Step A s k s'
      → MetaStep A (interpreter A) s idle (still (any_move A ⨾ interpreter A)) s
      × MetaStep A (any_move A ⨾ interpreter A) s (taking k) (still (interpreter A)) s'
  forth h t = (starts (plan_there t h), in_sequence (any_move_lem t h))

  back : {s s' : Config} {x : Label} {P' : Rest} → MetaStep A (any_move A ⨾ interpreter A) s x P' s'
      → (k : Choice) × ((x ≡ taking k) × ((P' ≡ still (interpreter A)) × (NoSelection k × Step A s k s')))
  back t =
      let (R, (u, e)) = of_sequence t in
      let (k, (x, (r, (h, v)))) = some_move u in
      (k, (x, (e ∙ ap (λ R. still (R ⨾' interpreter A)) r, (h, v))))

  idly : {s s' : Config} {x : Label} {P' : Rest} → MetaStep A (interpreter A) s x P' s'
      → (x ≡ idle) × ((s' ≡ s) × (((s.π ≡ [] → ⊥) × (P' ≡ still (any_move A ⨾ interpreter A))) ⊎ ((s.π ≡ []) × (P' ≡ E))))
  unfolding interpreter 𝒲
  idly {s} t =
      let (x, (e, w)) = of_while t in
      (x, (e, ⊎_elim (λ u. inl (plan_full s.π u.0, u.1)) (λ u. inr (is_empty_lem s.π u.0, u.1)) w))
    where
      plan_full : (π : Plan) → not (is_empty π) ≡ true → π ≡ [] → ⊥
      plan_full [] h e = false≢true h
      plan_full (a ∷ π) h e = cons≢[] e

  pub lemma_1 : Lemma1 A
  lemma_1 = record { forth = λ h t. forth h t; back = λ t. back t; idly = λ t. idly t }

  -- ---- Theorem 1

  finished : (s s' : Config) (ks : List Choice) → Chain A s ks s' → selections ks ≡ 0 → s'.π ≡ []
      → (xs : List Label) × (Computation A (still (interpreter A)) s xs E s' × (not_idle xs ≡ ks))
  unfolding selections not_idle
  finished s s' ks stay h e = (idle ∷ [], (◌and_then◌ (ends e) as_it_is, refl))
  finished s s' ks (◌then◌ {c' = c} {k = k} {ks = js} t r) h e =
      let none_here : is_selection k ≡ 0 = omega arith in
      let (xs, (u, q)) = finished c s' js r (omega arith) e in
      let (i, v) = forth none_here t in
      (idle ∷ taking k ∷ xs, (◌and_then◌ i (◌and_then◌ v u), ap (λ js. k ∷ js) q))

  -- where a computation of the interpreter stands
  data At (R : Rest) (s : Config) : Type 0 where
    gone : R ≡ E → s.π ≡ [] → At R s
    at_while : R ≡ still (interpreter A) → At R s
    at_choice : R ≡ still (any_move A ⨾ interpreter A) → At R s

  record Chained (s : Config) (xs : List Label) (s' : Config) : Type 0 where
    chain : Chain A s (not_idle xs) s'
    without : selections (not_idle xs) ≡ 0
    empty : s'.π ≡ []

  idle_first : {s s₁ s' : Config} {x : Label} {xs : List Label} → x ≡ idle → s₁ ≡ s → Chained s₁ xs s' → Chained s (x ∷ xs) s'
  unfolding not_idle
  idle_first {s' = s'} {xs = xs} x e r =
      rw x (record { chain = subst (λ c. Chain A c (not_idle xs) s') e r.chain; without = r.without; empty = r.empty })

  taken_first : {s s₁ s' : Config} {x : Label} {xs : List Label} (k : Choice) → x ≡ taking k → NoSelection k → Step A s k s₁ → Chained s₁ xs s'
      → Chained s (x ∷ xs) s'
  unfolding not_idle selections
  taken_first k x h t r =
      rw x (record { chain = ◌then◌ t r.chain; without = (let z = r.without in omega arith); empty = r.empty })

  chained : {R R' : Rest} {s s' : Config} {xs : List Label} → Computation A R s xs R' s' → R' ≡ E → At R s → Chained s xs s'
  unfolding not_idle selections
  chained as_it_is e (gone q h) = record { chain = stay; without = refl; empty = h }
  chained as_it_is e (at_while q) = absurd (still≢E (sym q ∙ e))
  chained as_it_is e (at_choice q) = absurd (still≢E (sym q ∙ e))
  chained (◌and_then◌ t r) e (gone q h) = absurd (still≢E q)
  chained (◌and_then◌ {s = s} {s' = c} {x = x} {P' = R} t r) e (at_while q) =
      let (y, (z, w)) = idly (subst (λ P. MetaStep A P s x R c) (still_inj q) t) in
      idle_first y z (chained r e (⊎_elim (λ u. at_choice u.1) (λ u. gone u.1 (ap (λ (d : Config). d.π) z ∙ u.0)) w))
  chained (◌and_then◌ {s = s} {s' = c} {x = x} {P' = R} t r) e (at_choice q) =
      let (k, (y, (z, (h, v)))) = back (subst (λ P. MetaStep A P s x R c) (still_inj q) t) in
      taken_first k y h v (chained r e (at_while z))

  pub theorem_1 : (s s' : Config) → Theorem1 A s s'
  theorem_1 s s' = record {
    forth = finished s s';
    back = λ xs u. (let r = chained u refl (at_while refl) in (r.chain, (r.without, r.empty)));
  }
