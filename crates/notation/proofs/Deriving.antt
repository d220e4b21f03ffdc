-- The next state is what may follow behind a byte: a text that begins with it may follow in a state exactly if the rest may follow
-- in the next, and none may if there is no next state.
use mathlib.Core.Path.{◌≡◌, refl, ap, sym, ◌∙◌, subst}
use mathlib.Core.Logic.{◌↔◌}
use mathlib.Core.Bool.{Bool, true, false}
use mathlib.Core.List.{List, [], ◌∷◌, ◌++◌, append_assoc}
use mathlib.Core.Option.{Option, none, some}
use Prim.Native.Nat.{ℕ, ◌+◌, ◌-◌, ◌*◌, ◌≤◌}
use native.Mathlib.Omega.{arith}
use borrow.Author.Tests.{eqb-true, leb-true, le-leb}
use lib.Dec.{eqb, leb, eqb_refl}
use Rattle.paper.proofs.Relation.{T→≡}
use Rattle.paper.proofs.Relation.{both}
use Rattle.meaning.specs.Card.{Bytes}
use Rattle.meaning.proofs.Every.{both_true}
use Rattle.notation.specs.Words.{Digits, Number, Numbers}
use Rattle.notation.specs.Words as Words
use Rattle.notation.specs.Scanning.{ScanState, rest, number, digits, list, spaced, digit, when, step}
use Rattle.notation.proofs.Following.{Stops, Lang}

-- ---- bytes

head_of : Bytes → ℕ
head_of [] = 0
head_of (x ∷ t) = x

tail_of : Bytes → Bytes
tail_of [] = []
tail_of (x ∷ t) = t

pub same_head : {x y : ℕ} {t u : Bytes} → x ∷ t ≡ y ∷ u → x ≡ y
unfolding head_of
same_head e = ap head_of e

pub same_tail : {x y : ℕ} {t u : Bytes} → x ∷ t ≡ y ∷ u → t ≡ u
unfolding tail_of
same_tail e = ap tail_of e

pub not_cons : {x : ℕ} {t : Bytes} → ◌≡◌ {A = Bytes} (x ∷ t) [] → ⊥
not_cons e = let z : ◌≡◌ {A = ℕ} 0 1 = cc in omega arith

pub eqb_same : {x y : ℕ} → x ≡ y → eqb x y ≡ true
eqb_same {x} {y} e = subst (λ z. eqb x z ≡ true) e (T→≡ (eqb x x) (eqb_refl x))

-- ---- digits

pub is_digit : (d : ℕ) → d ≤ 9 → digit (48 + d) ≡ true
is_digit d h = both_true _ _ (le-leb 48 (48 + d) (omega arith)) (le-leb (48 + d) 57 (omega arith))

pub digit_of : (x : ℕ) → digit x ≡ true → (d : ℕ) × ((d ≤ 9) × (x ≡ 48 + d))
digit_of x e =
    let (l, h) = both (leb 48 x) _ e in
    let a : 48 ≤ x = leb-true 48 x l in
    let b : x ≤ 57 = leb-true x 57 h in
    (x - 48, (omega arith, omega arith))

-- ---- what a state asks of the rest

abbrev pub By : Option ScanState → Bytes → Type 0
By none t = ⊥
By (some q) t = Lang q t

module _ (q : ScanState) (o : Option ScanState) (t : Bytes) where
  pub by_yes : {b : Bool} → b ≡ true → Lang q t → By (when b q o) t
  by_yes e h = subst (λ (b : Bool). By (when b q o) t) (sym e) h

  pub by_no : {b : Bool} → b ≡ false → By o t → By (when b q o) t
  by_no e h = subst (λ (b : Bool). By (when b q o) t) (sym e) h

  pub split : {R : Type 0} (b : Bool) → (b ≡ true → Lang q t → R) → (b ≡ false → By o t → R) → By (when b q o) t → R
  split true f g h = f refl h
  split false f g h = g refl h

-- what a state that comes last asks, which is shown before
abbrev pub Derives : ScanState → Type 0
Derives k = (x : ℕ) (t : Bytes) → Lang k (x ∷ t) ↔ By (step k x) t

-- ---- words

module _ (k : ScanState) where
  rest_none : Derives k → Derives (rest [] k)
  unfolding Lang step
  rest_none ih x t = (λ (v, (e, h)). (ih x t).0 (subst (Lang k) (sym e) h), λ h. (x ∷ t, (refl, (ih x t).1 h)))

  rest_more : (c : ℕ) (w : Bytes) → Derives (rest (c ∷ w) k)
  unfolding Lang step
  rest_more c w x t = (
    λ (v, (e, h)). by_yes (rest w k) none t (eqb_same (same_head e)) (v, (same_tail e, h)),
    split (rest w k) none t (eqb x c) (λ e (v, (f, h)). (v, ((λ i. eqb-true x c e i ∷ f i), h))) (λ e h. absurd h),
  )

  -- ---- numbers

  -- digits are digits whatever stands before them
  pub rebased : {u : Bytes} {a m : ℕ} (b : ℕ) → Digits u a m → (m' : ℕ) × Digits u b m'
  rebased b Words.none = (b, Words.none)
  rebased b (Words.more d h r) = let (m', r') = rebased (10 * b + d) r in (m', Words.more d h r')

  pub number_more : Derives (number k)
  unfolding Lang step
  number_more x t = (λ (u, (v, (n, (e, (h, (s, l)))))). go u v n e h s l, split (digits k) none t (digit x) (λ e h. back e h) (λ e h. absurd h))
    where
      go : (u v : Bytes) (n : ℕ) → x ∷ t ≡ u ++ v → Number u n → Stops v → Lang k v → By (when (digit x) (digits k) none) t
      go _ v n e (Words.digits {u} d h r) s l =
          let (m, r') = rebased 0 r in
          by_yes (digits k) none t (ap digit (same_head e) ∙ is_digit d h) (u, (v, (m, (same_tail e, (r', (s, l))))))

      back : digit x ≡ true → Lang (digits k) t → Lang (number k) (x ∷ t)
      back f (u, (v, (n, (e, (r, (s, l)))))) =
          let (d, (h, g)) = digit_of x f in
          let (m, r') = rebased d r in
          ((48 + d) ∷ u, (v, (m, ((λ i. g i ∷ e i), (Words.digits d h r', (s, l))))))

  pub digits_more : Derives k → Derives (digits k)
  unfolding Lang step
  digits_more ih x t = (λ (u, (v, (n, (e, (h, (s, l)))))). go u v n e h s l, split (digits k) (step k x) t (digit x) (λ e h. back e h) (λ e h. ([], (x ∷ t, (0, (refl, (Words.none, (e, (ih x t).1 h))))))))
    where
      go : (u v : Bytes) (n : ℕ) → x ∷ t ≡ u ++ v → Digits u 0 n → Stops v → Lang k v → By (when (digit x) (digits k) (step k x)) t
      go _ v n e Words.none s l = by_no (digits k) (step k x) t (subst Stops (sym e) s) ((ih x t).0 (subst (Lang k) (sym e) l))
      go _ v n e (Words.more {u} d h r) s l =
          let (m, r') = rebased 0 r in
          by_yes (digits k) (step k x) t (ap digit (same_head e) ∙ is_digit d h) (u, (v, (m, (same_tail e, (r', (s, l))))))

      back : digit x ≡ true → Lang (digits k) t → Lang (digits k) (x ∷ t)
      back f (u, (v, (n, (e, (r, (s, l)))))) =
          let (d, (h, g)) = digit_of x f in
          let (m, r') = rebased (10 * 0 + d) r in
          ((48 + d) ∷ u, (v, (m, ((λ i. g i ∷ e i), (Words.more d h r', (s, l))))))

  pub derive_rest : Derives k → (w : Bytes) → Derives (rest w k)
  derive_rest ih [] = rest_none ih
  derive_rest ih (c ∷ w) = rest_more c w

-- ---- lists

-- a list begins with a space, and so does what comes behind it
space_first : {u t : Bytes} {x : ℕ} {ns : List ℕ} (y : Bytes) → Numbers u ns → x ∷ t ≡ u ++ (32 ∷ y) → x ≡ 32
space_first y Words.none e = same_head e
space_first y (Words.more n ns) e = same_head e

space_stops : {u : Bytes} (y : Bytes) {ns : List ℕ} → Numbers u ns → Stops (u ++ (32 ∷ y))
space_stops y Words.none = refl
space_stops y (Words.more n ns) = refl

module _ (w : Bytes) (k : ScanState) where
  pub list_more : Derives (list w k)
  unfolding Lang step
  list_more x t = (
    λ (u, (v, (ns, (e, (h, (s, l)))))).
        let f = space_first (w ++ v) h e in
        by_yes (spaced w k) none t (eqb_same f) (u, (v, (ns, ((λ i. sym f i ∷ t) ∙ e, (h, (s, l)))))),
    split (spaced w k) none t (eqb x 32)
        (λ f (u, (v, (ns, (e, (h, (s, l)))))). (u, (v, (ns, ((λ i. eqb-true x 32 f i ∷ t) ∙ e, (h, (s, l)))))))
        (λ f h. absurd h),
  )

  spaced_step : (w : Bytes) (x : ℕ) → step (spaced w k) x ≡ when (digit x) (digits (list w k)) (step (rest w k) x)
  unfolding step
  spaced_step [] x = refl
  spaced_step (c ∷ w) x = refl

  pub spaced_more : Derives k → Derives (spaced w k)
  unfolding Lang
  spaced_more ih x t = (
    λ (u, (v, (ns, (e, (h, (s, l)))))). subst (λ o. By o t) (sym (spaced_step w x)) (go u v ns e h s l),
    λ b. split (digits (list w k)) (step (rest w k) x) t (digit x) back leave (subst (λ o. By o t) (spaced_step w x) b),
  )
    where
      go : (u v : Bytes) (ns : List ℕ) → 32 ∷ (x ∷ t) ≡ u ++ (32 ∷ (w ++ v)) → Numbers u ns → Stops (w ++ v) → Lang k v → By (when (digit x) (digits (list w k)) (step (rest w k) x)) t
      go _ v _ e Words.none s l =
          let f = same_tail e in
          by_no (digits (list w k)) (step (rest w k) x) t (subst Stops (sym f) s) ((derive_rest k ih w x t).0 (v, (f, l)))
      go _ v _ e (Words.more {v = u2} {ns = ns} (Words.digits {u = u1} d h r) m) s l =
          let f = same_tail e in
          let (n, r') = rebased k 0 r in
          by_yes (digits (list w k)) (step (rest w k) x) t (ap digit (same_head f) ∙ is_digit d h)
          (u1, (u2 ++ (32 ∷ (w ++ v)), (n, (same_tail f ∙ append_assoc u1 u2 (32 ∷ (w ++ v)), (r', (space_stops (w ++ v) m, (u2, (v, (ns, (refl, (m, (s, l))))))))))))

      back : digit x ≡ true → Lang (digits (list w k)) t → Lang (spaced w k) (x ∷ t)
      back f (u1, (y, (n, (e, (r, (st, (u2, (v, (ns, (e2, (m, (s, l)))))))))))) =
          let (d, (h, g)) = digit_of x f in
          let (n', r') = rebased k d r in
          let p : t ≡ (u1 ++ u2) ++ (32 ∷ (w ++ v)) = e ∙ ap (λ z. u1 ++ z) e2 ∙ sym (append_assoc u1 u2 (32 ∷ (w ++ v))) in
          (32 ∷ ((48 + d) ∷ (u1 ++ u2)), (v, (n' ∷ ns, ((λ i. 32 ∷ (g i ∷ p i)), (Words.more (Words.digits d h r') m, (s, l))))))

      leave : digit x ≡ false → By (step (rest w k) x) t → Lang (spaced w k) (x ∷ t)
      leave f b = let (v, (e, l)) = (derive_rest k ih w x t).1 b in ([], (v, ([], ((λ i. 32 ∷ e i), (Words.none, (subst Stops e f, l))))))
