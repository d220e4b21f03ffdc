-- A program's parts: its transitions and its first move are those of its first part, whatever the nesting.
use mathlib.Core.Path.{◌≡◌, refl, ap, ◌∙◌, sym, subst}
use mathlib.Core.Bool.{Bool, true, false}
use mathlib.Core.List.{List, [], ◌∷◌, ◌++◌, append-nil, append_assoc}
use mathlib.Core.Option.{Option, none, some}
use Prim.Native.Nat.{ℕ}
use native.Mathlib.Omega.{arith}
use Rattle.paper.specs.Language.{Agent, Config}
use Rattle.paper.specs.Transitions.{Choice}
use Rattle.paper.proofs.Relation.{none≢some, some_inj}
use Rattle.deliberation.specs.Programs.{Prog, execute, apply, select, while◌doing◌od, ◌⨾◌, ◌⊕◌, Rest, E, still, ◌⨾'◌}
use Rattle.deliberation.specs.MetaTransitions.{Label, MetaStep, action_execution, rule_application, rule_selection, while_tt, while_ff, in_sequence, choice_left, choice_right}
use Rattle.deliberation.specs.FirstMove.{Move, by_choice, idles, followed_by, left_else_right, first_move}
use Rattle.deliberation.proofs.Moves.{idles_holds, idles_fails, either_left}
use Rattle.deliberation.specs.Theorems.{parts, parts_of, ◌≈◌, NestingLaw}

-- ---- a move with something made of what remains

module _ {R R' : Type 0} (f : R → R') where
  abbrev pub mapped : Option (Move R) → Option (Move R')
  mapped none = none
  mapped (some m) = some (record { label = m.label; remaining = f m.remaining })

  pub mapped_takes : (o : Option Choice) (r : R) → mapped (by_choice o r) ≡ by_choice o (f r)
  mapped_takes none r = refl
  mapped_takes (some k) r = refl

  pub mapped_idles : (b : Bool) (r r' : R) → mapped (idles b r r') ≡ idles b (f r) (f r')
  mapped_idles true r r' = ap mapped (idles_holds r r') ∙ sym (idles_holds (f r) (f r'))
  mapped_idles false r r' = ap mapped (idles_fails r r') ∙ sym (idles_fails (f r) (f r'))

  pub mapped_either : (o u : Option (Move R)) → mapped (left_else_right o u) ≡ left_else_right (mapped o) (mapped u)
  mapped_either none u = refl
  mapped_either (some m) u = ap mapped (either_left m u) ∙ sym (either_left _ (mapped u))

  pub mapped_none : (o : Option (Move R)) → mapped o ≡ none → o ≡ none
  mapped_none none e = refl
  mapped_none (some m) e = absurd (none≢some (sym e))

pub mapped_some : {R R' : Type 0} (f : R → R') (o : Option (Move R)) (m' : Move R') → mapped f o ≡ some m'
    → (m : Move R) × ((o ≡ some m) × ((m.label ≡ m'.label) × (f m.remaining ≡ m'.remaining)))
mapped_some f none m' e = absurd (none≢some e)
mapped_some f (some m) m' e = let q = some_inj e in (m, (refl, (ap (λ (x : Move _). x.label) q, ap (λ (x : Move _). x.remaining) q)))

pub mapped_followed : {R R' : Type 0} (f : R → R') (g : R → R) (o : Option (Move R)) → mapped f (followed_by g o) ≡ mapped (λ r. f (g r)) o
mapped_followed f g none = refl
mapped_followed f g (some m) = refl

pub mapped_twice : {R R' R'' : Type 0} (f : R' → R'') (g : R → R') (o : Option (Move R)) → mapped f (mapped g o) ≡ mapped (λ r. f (g r)) o
mapped_twice f g none = refl
mapped_twice f g (some m) = refl

pub mapped_same : {R R' : Type 0} (f g : R → R') → ((r : R) → f r ≡ g r) → (o : Option (Move R)) → mapped f o ≡ mapped g o
mapped_same f g h none = refl
mapped_same f g h (some m) = ap (λ r. some (record { label = m.label; remaining = r })) (h m.remaining)

-- ---- parts

pub still_inj : {P Q : Prog} → still P ≡ still Q → P ≡ Q
still_inj e = cc

pub still≢E : {P : Prog} → still P ≡ E → ⊥
still≢E e = let z : ◌≡◌ {A = ℕ} 0 1 = cc in omega arith

pub parts_after : (R : Rest) (P : Prog) → parts (R ⨾' P) ≡ parts_of R ++ parts P
unfolding parts
parts_after E P = refl
parts_after (still Q) P = refl

pub record SomeParts (ps : List Prog) : Type 0 where
  pub front : Prog
  pub behind : List Prog
  pub are : ps ≡ front ∷ behind

pub some_parts : (P : Prog) → SomeParts (parts P)
unfolding parts
some_parts execute = record { front = execute; behind = []; are = refl }
some_parts (apply ρ) = record { front = apply ρ; behind = []; are = refl }
some_parts (select ρ) = record { front = select ρ; behind = []; are = refl }
some_parts (while b doing P od) = record { front = while b doing P od; behind = []; are = refl }
some_parts (P₁ ⨾ P₂) = let r = some_parts P₁ in record { front = r.front; behind = r.behind ++ parts P₂; are = rw r.are }
some_parts (P₁ ⊕ P₂) = record { front = P₁ ⊕ P₂; behind = []; are = refl }

pub no_parts : (R : Rest) → parts_of R ≡ [] → R ≡ E
no_parts E e = refl
no_parts (still P) e = let r = some_parts P in let q : [] ≡ r.front ∷ r.behind = sym e ∙ r.are in absurd (let z : ◌≡◌ {A = ℕ} 0 1 = cc in omega arith)

-- ---- the first move, by parts

module _ (A : Agent) (s : Config) where
  -- the first move of parts: that of the first, with the others behind it
  abbrev pub head_move : List Prog → Option (Move (List Prog))
  head_move [] = none
  head_move (P ∷ Ps) = mapped (λ R. parts_of R ++ Ps) (first_move A s P)

  head-append : (Ps Qs : List Prog) → SomeParts Ps → mapped (λ Rs. Rs ++ Qs) (head_move Ps) ≡ head_move (Ps ++ Qs)
  head-append Ps Qs r =
      let P = r.front in
      let Rs = r.behind in
      rw r.are
      (mapped_twice (λ Rs. Rs ++ Qs) (λ R. parts_of R ++ Rs) (first_move A s P) ∙ mapped_same _ _ (λ R. append_assoc (parts_of R) Rs Qs) (first_move A s P))

  alone : (P : Prog) → mapped parts_of (first_move A s P) ≡ head_move (P ∷ [])
  alone P = mapped_same parts_of (λ R. parts_of R ++ []) (λ R. sym (append-nil (parts_of R))) (first_move A s P)

  pub sequence : (P₁ P₂ : Prog) → mapped parts_of (first_move A s (P₁ ⨾ P₂)) ≡ mapped (λ Rs. Rs ++ parts P₂) (mapped parts_of (first_move A s P₁))
  unfolding first_move
  sequence P₁ P₂ =
      mapped_followed parts_of (λ P₁'. still (P₁' ⨾' P₂)) (first_move A s P₁)
      ∙ mapped_same _ _ (λ R. parts_after R P₂) (first_move A s P₁)
      ∙ sym (mapped_twice (λ Rs. Rs ++ parts P₂) parts_of (first_move A s P₁))

  by_parts : (P : Prog) → mapped parts_of (first_move A s P) ≡ head_move (parts P)
  unfolding parts
  by_parts execute = alone execute
  by_parts (apply ρ) = alone (apply ρ)
  by_parts (select ρ) = alone (select ρ)
  by_parts (while b doing P od) = alone (while b doing P od)
  by_parts (P₁ ⨾ P₂) =
      sequence P₁ P₂ ∙ ap (mapped (λ Rs. Rs ++ parts P₂)) (by_parts P₁) ∙ head-append (parts P₁) (parts P₂) (some_parts P₁)
  by_parts (P₁ ⊕ P₂) = alone (P₁ ⊕ P₂)

  -- the first move of a program that begins with another is that one's
  pub first_in : (P Q : Prog) (Rs : List Prog) → parts P ≡ parts Q ++ Rs
      → mapped parts_of (first_move A s P) ≡ mapped (λ R. parts_of R ++ Rs) (first_move A s Q)
  first_in P Q Rs e =
      by_parts P ∙ ap head_move e ∙ sym (head-append (parts Q) Rs (some_parts Q))
      ∙ ap (mapped (λ Ps. Ps ++ Rs)) (sym (by_parts Q)) ∙ mapped_twice (λ Ps. Ps ++ Rs) parts_of (first_move A s Q)

-- ---- the transitions, by parts

record Fronted (A : Agent) (Ps : List Prog) (s : Config) (x : Label) (Rs : List Prog) (s' : Config) : Type 0 where
  front : Prog
  behind : List Prog
  are : Ps ≡ front ∷ behind
  left : Rest
  step : MetaStep A front s x left s'
  leaves : Rs ≡ parts_of left ++ behind

-- a transition of a program is one of its first part
to_front : {A : Agent} {P : Prog} {s s' : Config} {x : Label} {P' : Rest} → MetaStep A P s x P' s' → Fronted A (parts P) s x (parts_of P') s'
unfolding parts
to_front (action_execution t) = record { front = execute; behind = []; are = refl; left = E; step = action_execution t; leaves = refl }
to_front (rule_application {ρ = ρ} t) = record { front = apply ρ; behind = []; are = refl; left = E; step = rule_application t; leaves = refl }
to_front (rule_selection {ρ = ρ} t) = record { front = select ρ; behind = []; are = refl; left = E; step = rule_selection t; leaves = refl }
to_front (while_tt {b = b} {P = P} h) =
    record {
      front = while b doing P od;
      behind = [];
      are = refl;
      left = still (P ⨾ while b doing P od);
      step = while_tt h;
      leaves = sym (append-nil (parts P ++ ((while b doing P od) ∷ [])));
    }
to_front (while_ff {b = b} {P = P} h) = record { front = while b doing P od; behind = []; are = refl; left = E; step = while_ff h; leaves = refl }
to_front (in_sequence {P₂ = P₂} {P₁' = P₁'} t) =
    let r = to_front t in
    record {
      front = r.front;
      behind = r.behind ++ parts P₂;
      are = rw r.are;
      left = r.left;
      step = r.step;
      leaves = parts_after P₁' P₂ ∙ ap (λ Rs. Rs ++ parts P₂) r.leaves ∙ append_assoc (parts_of r.left) r.behind (parts P₂);
    }
to_front (choice_left {P₁ = P₁} {P₂ = P₂} {P₁' = P₁'} t) =
    record { front = P₁ ⊕ P₂; behind = []; are = refl; left = P₁'; step = choice_left t; leaves = sym (append-nil (parts_of P₁')) }
to_front (choice_right {P₁ = P₁} {P₂ = P₂} {P₂' = P₂'} t) =
    record { front = P₁ ⊕ P₂; behind = []; are = refl; left = P₂'; step = choice_right t; leaves = sym (append-nil (parts_of P₂')) }

module _ (A : Agent) (s s' : Config) (x : Label) (R : Rest) where
  abbrev From : Prog → List Prog → Type 0
  From P behind = (P' : Rest) × (MetaStep A P s x P' s' × (parts_of P' ≡ parts_of R ++ behind))

  only_part : (P Q : Prog) (Qs : List Prog) → P ∷ [] ≡ Q ∷ Qs → MetaStep A Q s x R s' → From P Qs
  only_part P Q Qs e t =
      let q : Q ≡ P = cc in
      let r : [] ≡ Qs = cc in
      (R, (subst (λ Q. MetaStep A Q s x R s') q t, rw (← r) (sym (append-nil (parts_of R)))))

  -- and a transition of its first part is one of the program
  from_front : (P Q : Prog) (Qs : List Prog) → parts P ≡ Q ∷ Qs → MetaStep A Q s x R s' → From P Qs
  unfolding parts
  from_front execute Q Qs e t = only_part execute Q Qs e t
  from_front (apply ρ) Q Qs e t = only_part (apply ρ) Q Qs e t
  from_front (select ρ) Q Qs e t = only_part (select ρ) Q Qs e t
  from_front (while b doing P od) Q Qs e t = only_part (while b doing P od) Q Qs e t
  from_front (P₁ ⨾ P₂) Q Qs e t =
      let r = some_parts P₁ in
      let w : (r.front ∷ r.behind) ++ parts P₂ ≡ Q ∷ Qs = ap (λ Ps. Ps ++ parts P₂) (sym r.are) ∙ e in
      let q : Q ≡ r.front = cc in
      let z : r.behind ++ parts P₂ ≡ Qs = cc in
      let (P₁', (u, l)) = from_front P₁ r.front r.behind r.are (subst (λ Q. MetaStep A Q s x R s') q t) in
      (still (P₁' ⨾' P₂), (in_sequence u, parts_after P₁' P₂ ∙ ap (λ Rs. Rs ++ parts P₂) l ∙ append_assoc (parts_of R) r.behind (parts P₂) ∙ ap (λ Rs. parts_of R ++ Rs) z))
  from_front (P₁ ⊕ P₂) Q Qs e t = only_part (P₁ ⊕ P₂) Q Qs e t

same : {A : Agent} {P Q : Prog} {s s' : Config} {x : Label} {P' : Rest} → still P ≈ still Q → MetaStep A P s x P' s'
    → (Q' : Rest) × (MetaStep A Q s x Q' s' × (P' ≈ Q'))
same {A} {Q = Q} {s = s} {s' = s'} {x = x} e t =
    let r = to_front t in
    let (Q', (u, l)) = from_front A s s' x r.left Q r.front r.behind (sym e ∙ r.are) r.step in
    (Q', (u, r.leaves ∙ sym l))

first_part : (A : Agent) (s : Config) (P Q : Prog) (Qs : List Prog) → parts P ≡ Q ∷ Qs → (m : Move Rest) → first_move A s Q ≡ some m
    → (m' : Move Rest) × ((first_move A s P ≡ some m') × ((m'.label ≡ m.label) × (parts_of m'.remaining ≡ parts_of m.remaining ++ Qs)))
first_part A s P Q Qs e m f =
    mapped_some parts_of (first_move A s P) _ (by_parts A s P ∙ ap (head_move A s) e ∙ ap (mapped (λ R. parts_of R ++ Qs)) f)

pub nesting_law : NestingLaw
nesting_law A = record { same_transitions = λ e t. same e t; first_part = first_part A }
