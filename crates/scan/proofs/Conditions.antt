-- A scan of a condition, byte by byte.
use mathlib.Core.Path.{◌≡◌, refl, ap, sym, ◌∙◌}
use mathlib.Core.Logic.{◌⊎◌, inl, inr, ⊎_elim}
use mathlib.Core.Bool.{Bool, true, false, ◌||◌}
use mathlib.Core.List.{◌∷◌}
use mathlib.Core.Option.{none, some}
use Prim.Native.Nat.{ℕ, zero, suc, ◌+◌, ◌≤◌, ◌<◌}
use native.Mathlib.Omega.{arith}
use borrow.Author.Tests.{ne_eqb, eqb-true, eqb-false}
use Rattle.paper.proofs.Relation.{false≢true}
use lib.Dec.{eqb}
use lib.ListN.{length, get_or}
use Rattle.meaning.specs.Card.{Bytes}
use Rattle.notation.specs.Scanning.{ScanState, rest, number, unit, after, when, step, accepts}
use Rattle.std.proofs.Common.{Result, Ok, Err}
use Rattle.std.specs.Result.{IsErrAnd}
use Rattle.scan.specs.declared.scan.Wrong.{Wrong}
use Rattle.scan.specs.declared.condition.Opened.{Opened}
use Rattle.scan.specs.Scans.{scan_from, Scans, UnitOver, operator, behind_last, ConditionOver}
use Rattle.scan.proofs.Scanning.{scan_on, scan_wrong, scan_short, up, alike, short_alike}

module _ (t : Bytes) (n : ℕ) (w : Bytes) (k : ScanState) where
  abbrev x : ℕ
  x = get_or t n 0

  pub unit_short : (i : ℕ) → n ≡ length t → scan_from t n (unit i w k) ≡ some n
  unfolding accepts
  unit_short i e = scan_short t n (unit i w k) e refl

  pub after_short : (i : ℕ) → n ≡ length t → scan_from t n (after (suc i) w k) ≡ some n
  unfolding accepts
  after_short i e = scan_short t n (after (suc i) w k) e refl

  pub condition_short : n ≡ length t → scan_from t n (after 0 w k) ≡ scan_from t n (rest (32 ∷ w) k)
  unfolding accepts
  condition_short e = short_alike t n (after 0 w k) (rest (32 ∷ w) k) e refl refl

  module _ (h : n < length t) where
    at_byte : (y : ℕ) → x ≡ y → (p q : ScanState) → step p y ≡ some q → scan_from t n p ≡ scan_from t (n + 1) q
    at_byte y e p q s = scan_on t n p q h (ap (step p) e ∙ s) ∙ up t n q h q

    pub unit_T : x ≡ 84 → (i : ℕ) → scan_from t n (unit i w k) ≡ scan_from t (n + 1) (after i w k)
    unfolding step
    unit_T e i = at_byte 84 e (unit i w k) (after i w k) refl

    unit_B : x ≡ 66 → (i : ℕ) → scan_from t n (unit i w k) ≡ scan_from t (n + 1) (number (after i w k))
    unfolding step
    unit_B e i = at_byte 66 e (unit i w k) (number (after i w k)) refl

    unit_G : x ≡ 71 → (i : ℕ) → scan_from t n (unit i w k) ≡ scan_from t (n + 1) (number (after i w k))
    unfolding step
    unit_G e i = at_byte 71 e (unit i w k) (number (after i w k)) refl

    pub unit_number : (x ≡ 66) ⊎ (x ≡ 71) → (i : ℕ) → scan_from t n (unit i w k) ≡ scan_from t (n + 1) (number (after i w k))
    unit_number e i = ⊎_elim (λ e. unit_B e i) (λ e. unit_G e i) e

    pub unit_not : x ≡ 33 → (i : ℕ) → scan_from t n (unit i w k) ≡ scan_from t (n + 1) (unit i w k)
    unfolding step
    unit_not e i = at_byte 33 e (unit i w k) (unit i w k) refl

    pub unit_open : x ≡ 40 → (i : ℕ) → scan_from t n (unit i w k) ≡ scan_from t (n + 1) (unit (i + 1) w k)
    unfolding step
    unit_open e i = at_byte 40 e (unit i w k) (unit (suc i) w k) refl ∙ (let p : suc i ≡ i + 1 = omega arith in λ j. scan_from t (n + 1) (unit (p j) w k))

    pub unit_wrong : (x ≡ 84 → ⊥) → (x ≡ 66 → ⊥) → (x ≡ 71 → ⊥) → (x ≡ 33 → ⊥) → (x ≡ 40 → ⊥) → (i : ℕ) → scan_from t n (unit i w k) ≡ some n
    unfolding step
    unit_wrong a b c d e i =
        scan_wrong t n (unit i w k) h
        (λ j. when (ne_eqb x 84 a j) (after i w k) (when (ne_eqb x 66 b j) (number (after i w k)) (when (ne_eqb x 71 c j) (number (after i w k)) (when (ne_eqb x 33 d j) (unit i w k) (when (ne_eqb x 40 e j) (unit (suc i) w k) none)))))

    pub after_and : x ≡ 38 → (i : ℕ) → scan_from t n (after i w k) ≡ scan_from t (n + 1) (unit i w k)
    unfolding step
    after_and e zero = at_byte 38 e (after zero w k) (unit zero w k) refl
    after_and e (suc i) = at_byte 38 e (after (suc i) w k) (unit (suc i) w k) refl

    pub after_or : x ≡ 124 → (i : ℕ) → scan_from t n (after i w k) ≡ scan_from t (n + 1) (unit i w k)
    unfolding step
    after_or e zero = at_byte 124 e (after zero w k) (unit zero w k) refl
    after_or e (suc i) = at_byte 124 e (after (suc i) w k) (unit (suc i) w k) refl

    pub after_close : x ≡ 41 → (i : ℕ) → scan_from t n (after (suc i) w k) ≡ scan_from t (n + 1) (after i w k)
    unfolding step
    after_close e i = at_byte 41 e (after (suc i) w k) (after i w k) refl

    pub after_wrong : (x ≡ 38 → ⊥) → (x ≡ 124 → ⊥) → (x ≡ 41 → ⊥) → (i : ℕ) → scan_from t n (after (suc i) w k) ≡ some n
    unfolding step
    after_wrong a b c i =
        scan_wrong t n (after (suc i) w k) h (λ j. when (ne_eqb x 38 a j) (unit (suc i) w k) (when (ne_eqb x 124 b j) (unit (suc i) w k) (when (ne_eqb x 41 c j) (after i w k) none)))

    -- behind the condition
    pub condition_over : (x ≡ 38 → ⊥) → (x ≡ 124 → ⊥) → scan_from t n (after 0 w k) ≡ scan_from t n (rest (32 ∷ w) k)
    unfolding step
    condition_over a b = alike t n (after 0 w k) (rest (32 ∷ w) k) h (λ j. when (ne_eqb x 38 a j) (unit 0 w k) (when (ne_eqb x 124 b j) (unit 0 w k) (when (eqb x 32) (rest w k) none)))

-- ---- it went wrong in a unit

pub unit_failed : (t : Bytes) (at brackets : ℕ) (r : Result Opened Wrong) (e : Wrong) → IsErrAnd r (λ y. y ≡ e)
    → ((w : Bytes) (k : ScanState) → scan_from t at (unit brackets w k) ≡ some e.at) → UnitOver t at brackets r
unit_failed t at brackets (Ok o) e q f = absurd q
unit_failed t at brackets (Err y) e q f = λ w k. f w k ∙ ap (λ (x : Wrong). some x.at) (sym q)

-- ---- behind the last unit

pub is_operator : (y : ℕ) → operator y ≡ true → (y ≡ 38) ⊎ (y ≡ 124)
is_operator y e = go (eqb y 38) refl
  where
    go : (b : Bool) → eqb y 38 ≡ b → (y ≡ 38) ⊎ (y ≡ 124)
    go true f = inl (eqb-true y 38 f)
    go false f = inr (eqb-true y 124 (sym (ap (λ b. b || eqb y 124) f) ∙ e))

no_operator : (y : ℕ) → operator y ≡ false → (y ≡ 38 → ⊥) × (y ≡ 124 → ⊥)
no_operator y e = go (eqb y 38) refl
  where
    go : (b : Bool) → eqb y 38 ≡ b → (y ≡ 38 → ⊥) × (y ≡ 124 → ⊥)
    go true f = absurd (false≢true (sym e ∙ ap (λ b. b || eqb y 124) f))
    go false f = (eqb-false y 38 f, eqb-false y 124 (sym (ap (λ b. b || eqb y 124) f) ∙ e))

module _ (t : Bytes) (at n i : ℕ) (later : at ≤ n) (inside : n ≤ length t) (so_far : (w : Bytes) (k : ScanState) → scan_from t at (unit 0 w k) ≡ scan_from t n (after i w k)) where
  pub over_short : n ≡ length t → ConditionOver t at (behind_last n i)
  over_short e w = go i so_far
    where
      go : (i : ℕ) → ((w : Bytes) (k : ScanState) → scan_from t at (unit 0 w k) ≡ scan_from t n (after i w k)) → Scans t at (unit 0 w) (rest (32 ∷ w)) (behind_last n i)
      go zero s = (later, inside, λ k. s w k ∙ condition_short t n w k e)
      go (suc i) s = λ k. s w k ∙ after_short t n w k i e

  pub over_there : n < length t → operator (get_or t n 0) ≡ false → (get_or t n 0 ≡ 41 → i ≡ 0) → ConditionOver t at (behind_last n i)
  over_there h e c w = go i so_far c
    where
      go : (i : ℕ) → ((w : Bytes) (k : ScanState) → scan_from t at (unit 0 w k) ≡ scan_from t n (after i w k)) → (get_or t n 0 ≡ 41 → i ≡ 0)
          → Scans t at (unit 0 w) (rest (32 ∷ w)) (behind_last n i)
      go zero s c = (later, inside, λ k. s w k ∙ condition_over t n w k h (no_operator _ e).0 (no_operator _ e).1)
      go (suc i) s c = λ k. s w k ∙ after_wrong t n w k h (no_operator _ e).0 (no_operator _ e).1 (λ f. (let z = c f in omega arith)) i

  pub over_on : n < length t → operator (get_or t n 0) ≡ true → (w : Bytes) (k : ScanState) → scan_from t at (unit 0 w k) ≡ scan_from t (n + 1) (unit i w k)
  over_on h e w k = so_far w k ∙ ⊎_elim (λ f. after_and t n w k h f i) (λ f. after_or t n w k h f i) (is_operator _ e)
