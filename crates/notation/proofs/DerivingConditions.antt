-- The same of conditions: a unit in brackets, and what comes behind one.
use mathlib.Core.Path.{◌≡◌, refl, ap, sym, ◌∙◌, subst}
use mathlib.Core.Logic.{◌↔◌}
use mathlib.Core.Bool.{true, false}
use mathlib.Core.List.{[], ◌∷◌, ◌++◌, append_assoc}
use mathlib.Core.Option.{Option, none}
use Prim.Native.Nat.{ℕ, zero, suc}
use borrow.Author.Tests.{eqb-true}
use lib.Dec.{eqb}
use Rattle.meaning.specs.Trees.{and, or}
use Rattle.meaning.specs.Card.{Bytes}
use Rattle.notation.specs.Conditions.{Condition, joined, Unit, T, B, G, !, brackets, units, AndMore, last_unit, next_unit, OrList, and_lists, OrMore, last_list, next_list}
use Rattle.notation.specs.Scanning.{ScanState, rest, number, unit, after, digit, when, step}
use Rattle.notation.proofs.Following.{Stops, More, nothing, and_unit, or_unit, Behind, After, Lang}
use Rattle.notation.proofs.Deriving.{same_head, same_tail, eqb_same, By, by_yes, by_no, split, Derives}

-- ---- an or-list is a unit and more

more_append : {u v : Bytes} → More u → More v → More (u ++ v)
more_append nothing m = m
more_append {v = v} (and_unit {u = u} {v = w} x r) m = subst More (λ i. 38 ∷ sym (append_assoc u w v) i) (and_unit x (more_append r m))
more_append {v = v} (or_unit {u = u} {v = w} x r) m = subst More (λ i. 124 ∷ sym (append_assoc u w v) i) (or_unit x (more_append r m))

and_more : {u : Bytes} {c d : Condition} → AndMore u c d → More u
and_more last_unit = nothing
and_more (next_unit x r) = and_unit x (and_more r)

-- a unit and what comes behind it
pub record Split (u : Bytes) : Type 0 where
  pub unit_bytes : Bytes
  pub more_bytes : Bytes
  pub condition : Condition
  pub whole : u ≡ unit_bytes ++ more_bytes
  pub begins : Unit unit_bytes condition
  pub goes_on : More more_bytes

or_more : {u : Bytes} {c d : Condition} → OrMore u c d → More u
or_more last_list = nothing
or_more (next_list {v = v} (units {u = x} {v = y} a r) m) = subst More (λ i. 124 ∷ sym (append_assoc x y v) i) (or_unit a (more_append (and_more r) (or_more m)))

pub split_list : {u : Bytes} {c : Condition} → OrList u c → Split u
split_list (and_lists {v = v} (units {u = x} {v = y} {c = c} a r) m) =
    record { unit_bytes = x; more_bytes = y ++ v; condition = c; whole = append_assoc x y v; begins = a; goes_on = more_append (and_more r) (or_more m) }

-- and back: the rest of an and-list, and of the or-list
record UnitParts (m : Bytes) (c : Condition) : Type 0 where
  ands : Bytes
  ors : Bytes
  left : Condition
  whole : m ≡ ands ++ ors
  and_part : AndMore ands c left
  or_part : (l : Condition) → (e : Condition) × OrMore ors l e

parts : {m : Bytes} → More m → (c : Condition) → UnitParts m c
parts nothing c = record { ands = []; ors = []; left = c; whole = refl; and_part = last_unit; or_part = λ l. (l, last_list) }
parts (and_unit {u = u} {c = d} x r) c =
    let p = parts r (joined and c d) in
    record {
      ands = 38 ∷ (u ++ p.ands);
      ors = p.ors;
      left = p.left;
      whole = λ i. 38 ∷ (ap (λ z. u ++ z) p.whole ∙ sym (append_assoc u p.ands p.ors)) i;
      and_part = next_unit x p.and_part;
      or_part = p.or_part;
    }
parts (or_unit {u = u} {c = d} x r) c =
    let p = parts r d in
    record {
      ands = [];
      ors = 124 ∷ ((u ++ p.ands) ++ p.ors);
      left = c;
      whole = λ i. 124 ∷ (ap (λ z. u ++ z) p.whole ∙ sym (append_assoc u p.ands p.ors)) i;
      and_part = last_unit;
      or_part = λ l. (let (e, o) = p.or_part (joined or l p.left) in (e, next_list (units x p.and_part) o));
    }

pub join_list : {u m : Bytes} {c : Condition} → Unit u c → More m → (e : Condition) × OrList (u ++ m) e
join_list {u} {m} {c} x r =
    let p = parts r c in
    let (e, o) = p.or_part p.left in
    (e, subst (λ z. OrList z e) (append_assoc u p.ands p.ors ∙ ap (λ z. u ++ z) (sym p.whole)) (and_lists (units x p.and_part) o))

-- ---- behind a unit

-- what comes behind more of a condition begins with a byte that is no digit and no operator
record Tail (Z : Bytes → Type 0) : Type 0 where
  byte : ℕ
  plain : (digit byte ≡ false) × (eqb byte 38 ≡ false) × (eqb byte 124 ≡ false)
  begins : (z : Bytes) → Z z → (v : Bytes) × (z ≡ byte ∷ v)

module _ {Z : Bytes → Type 0} (tail : Tail Z) where
  behind_stops : (v : Bytes) → Behind Z v → Stops v
  behind_stops v (u, (z, (e, (m, h)))) = go m e
    where
      go : {u : Bytes} → More u → v ≡ u ++ z → Stops v
      go nothing e = let (y, f) = tail.begins z h in subst Stops (sym (e ∙ f)) tail.plain.0
      go (and_unit x r) e = subst Stops (sym e) refl
      go (or_unit x r) e = subst Stops (sym e) refl

  module _ (q : ScanState) (p : Option ScanState) (x : ℕ) (t : Bytes)
      (begun : Lang q t ↔ ((u : Bytes) × ((v : Bytes) × ((c : Condition) × ((t ≡ u ++ v) × (Unit u c × Behind Z v))))))
      (ended : Z (x ∷ t) ↔ By p t) where
    behind_more : Behind Z (x ∷ t) ↔ By (when (eqb x 38) q (when (eqb x 124) q p)) t
    behind_more = (λ (u, (z, (e, (m, h)))). go m e h, split q (when (eqb x 124) q p) t (eqb x 38) (λ f. back_and f) (λ f. split q p t (eqb x 124) (λ g. back_or g) (λ g h. ([], (x ∷ t, (refl, (nothing, ended.1 h)))))))
      where
        go : {u z : Bytes} → More u → x ∷ t ≡ u ++ z → Z z → By (when (eqb x 38) q (when (eqb x 124) q p)) t
        go {z = z} nothing e h =
            let (v, f) = tail.begins z h in
            let g = same_head (e ∙ f) in
            by_no q (when (eqb x 124) q p) t (ap (λ y. eqb y 38) g ∙ tail.plain.1)
            (by_no q p t (ap (λ y. eqb y 124) g ∙ tail.plain.2) (ended.0 (subst Z (sym e) h)))
        go {z = z} (and_unit {u = u} {v = v} {c = c} y r) e h =
            by_yes q (when (eqb x 124) q p) t (eqb_same (same_head e)) (begun.1 (u, (v ++ z, (c, (same_tail e ∙ append_assoc u v z, (y, (v, (z, (refl, (r, h))))))))))
        go {z = z} (or_unit {u = u} {v = v} {c = c} y r) e h =
            by_no q (when (eqb x 124) q p) t (ap (λ y. eqb y 38) (same_head e))
            (by_yes q p t (eqb_same (same_head e)) (begun.1 (u, (v ++ z, (c, (same_tail e ∙ append_assoc u v z, (y, (v, (z, (refl, (r, h)))))))))))

        back_and : eqb x 38 ≡ true → Lang q t → Behind Z (x ∷ t)
        back_and f l =
            let (u, (y, (c, (e, (h, (v, (z, (e2, (r, i))))))))) = begun.0 l in
            (38 ∷ (u ++ v), (z, ((λ j. eqb-true x 38 f j ∷ (e ∙ ap (λ s. u ++ s) e2 ∙ sym (append_assoc u v z)) j), (and_unit h r, i))))

        back_or : eqb x 124 ≡ true → Lang q t → Behind Z (x ∷ t)
        back_or f l =
            let (u, (y, (c, (e, (h, (v, (z, (e2, (r, i))))))))) = begun.0 l in
            (124 ∷ (u ++ v), (z, ((λ j. eqb-true x 124 f j ∷ (e ∙ ap (λ s. u ++ s) e2 ∙ sym (append_assoc u v z)) j), (or_unit h r, i))))

module _ (w : Bytes) (k : ScanState) where
  leaves : Tail (λ z. (v : Bytes) × ((z ≡ 32 ∷ (w ++ v)) × Lang k v))
  leaves = record { byte = 32; plain = (refl, refl, refl); begins = λ z (v, (e, l)). (w ++ v, e) }

  closes : (n : ℕ) → Tail (λ z. (v : Bytes) × ((z ≡ 41 ∷ v) × After n w (Lang k) v))
  closes n = record { byte = 41; plain = (refl, refl, refl); begins = λ z (v, (e, l)). (v, e) }

  after_stops : (n : ℕ) (v : Bytes) → After n w (Lang k) v → Stops v
  unfolding After
  after_stops zero v h = behind_stops leaves v h
  after_stops (suc n) v h = behind_stops (closes n) v h

  pub after_more : (n : ℕ) → Derives (after n w k)
  unfolding Lang After step
  after_more zero x t =
      behind_more leaves (unit zero w k) (when (eqb x 32) (rest w k) none) x t (λ h. h, λ h. h) (
        λ (v, (e, l)). by_yes (rest w k) none t (eqb_same (same_head e)) (v, (same_tail e, l)),
        split (rest w k) none t (eqb x 32) (λ f (v, (e, l)). (v, ((λ i. eqb-true x 32 f i ∷ e i), l))) (λ f h. absurd h),
      )
  after_more (suc n) x t =
      behind_more (closes n) (unit (suc n) w k) (when (eqb x 41) (after n w k) none) x t (λ h. h, λ h. h) (
        λ (v, (e, l)). by_yes (after n w k) none t (eqb_same (same_head e)) (subst (After n w (Lang k)) (sym (same_tail e)) l),
        split (after n w k) none t (eqb x 41) (λ f l. (t, ((λ i. eqb-true x 41 f i ∷ t), l))) (λ f h. absurd h),
      )

-- ---- a unit

module _ (w : Bytes) (k : ScanState) where
  pub unit_more : (n : ℕ) → Derives (unit n w k)
  unfolding Lang After step
  unit_more n x t = (λ (u, (v, (c, (e, (h, a))))). go v h e a, split (after n w k) o1 t (eqb x 84) is_T (λ f. split (number (after n w k)) o2 t (eqb x 66) is_B (λ f. split (number (after n w k)) o3 t (eqb x 71) is_G (λ f. split (unit n w k) o4 t (eqb x 33) is_not (λ f. split (unit (suc n) w k) none t (eqb x 40) is_open (λ f h. absurd h))))))
    where
      o4 : Option ScanState
      o4 = when (eqb x 40) (unit (suc n) w k) none

      o3 : Option ScanState
      o3 = when (eqb x 33) (unit n w k) o4

      o2 : Option ScanState
      o2 = when (eqb x 71) (number (after n w k)) o3

      o1 : Option ScanState
      o1 = when (eqb x 66) (number (after n w k)) o2

      go : {u : Bytes} {c : Condition} (v : Bytes) → Unit u c → x ∷ t ≡ u ++ v → After n w (Lang k) v → By (when (eqb x 84) (after n w k) o1) t
      go v T e a = by_yes (after n w k) o1 t (eqb_same (same_head e)) (subst (After n w (Lang k)) (sym (same_tail e)) a)
      go v (B {u = u} {n = m} h) e a =
          let f = same_head e in
          by_no (after n w k) o1 t (ap (λ y. eqb y 84) f) (by_yes (number (after n w k)) o2 t (eqb_same f) (u, (v, (m, (same_tail e, (h, (after_stops w k n v a, a)))))))
      go v (G {u = u} {n = m} h) e a =
          let f = same_head e in
          by_no (after n w k) o1 t (ap (λ y. eqb y 84) f)
          (by_no (number (after n w k)) o2 t (ap (λ y. eqb y 66) f) (by_yes (number (after n w k)) o3 t (eqb_same f) (u, (v, (m, (same_tail e, (h, (after_stops w k n v a, a))))))))
      go v (! {u = u} {c = c} h) e a =
          let f = same_head e in
          by_no (after n w k) o1 t (ap (λ y. eqb y 84) f)
          (by_no (number (after n w k)) o2 t (ap (λ y. eqb y 66) f)
          (by_no (number (after n w k)) o3 t (ap (λ y. eqb y 71) f) (by_yes (unit n w k) o4 t (eqb_same f) (u, (v, (c, (same_tail e, (h, a))))))))
      go v (brackets {u = u} {c = c} h) e a =
          let f = same_head e in
          let s = split_list h in
          let p : t ≡ s.unit_bytes ++ (s.more_bytes ++ (41 ∷ v)) =
          same_tail e ∙ append_assoc u (41 ∷ []) v ∙ ap (λ z. z ++ (41 ∷ v)) s.whole ∙ append_assoc s.unit_bytes s.more_bytes (41 ∷ v) in
          by_no (after n w k) o1 t (ap (λ y. eqb y 84) f)
          (by_no (number (after n w k)) o2 t (ap (λ y. eqb y 66) f)
          (by_no (number (after n w k)) o3 t (ap (λ y. eqb y 71) f)
          (by_no (unit n w k) o4 t (ap (λ y. eqb y 33) f)
          (by_yes (unit (suc n) w k) none t (eqb_same f)
          (s.unit_bytes, (s.more_bytes ++ (41 ∷ v), (s.condition, (p, (s.begins, (s.more_bytes, (41 ∷ v, (refl, (s.goes_on, (v, (refl, a)))))))))))))))

      is_T : eqb x 84 ≡ true → After n w (Lang k) t → Lang (unit n w k) (x ∷ t)
      is_T f a = (84 ∷ [], (t, (_, ((λ i. eqb-true x 84 f i ∷ t), (T, a)))))

      is_B : eqb x 66 ≡ true → Lang (number (after n w k)) t → Lang (unit n w k) (x ∷ t)
      is_B f (u, (v, (m, (e, (h, (s, a)))))) = (66 ∷ u, (v, (_, ((λ i. eqb-true x 66 f i ∷ e i), (B h, a)))))

      is_G : eqb x 71 ≡ true → Lang (number (after n w k)) t → Lang (unit n w k) (x ∷ t)
      is_G f (u, (v, (m, (e, (h, (s, a)))))) = (71 ∷ u, (v, (_, ((λ i. eqb-true x 71 f i ∷ e i), (G h, a)))))

      is_not : eqb x 33 ≡ true → Lang (unit n w k) t → Lang (unit n w k) (x ∷ t)
      is_not f (u, (v, (c, (e, (h, a))))) = (33 ∷ u, (v, (_, ((λ i. eqb-true x 33 f i ∷ e i), (! h, a)))))

      is_open : eqb x 40 ≡ true → Lang (unit (suc n) w k) t → Lang (unit n w k) (x ∷ t)
      is_open f (u, (y, (c, (e, (h, (m, (z, (e2, (r, (v, (e3, a))))))))))) =
          let (d, o) = join_list h r in
          let p : t ≡ ((u ++ m) ++ (41 ∷ [])) ++ v =
          e ∙ ap (λ s. u ++ s) (e2 ∙ ap (λ s. m ++ s) e3) ∙ sym (append_assoc u m (41 ∷ v)) ∙ sym (append_assoc (u ++ m) (41 ∷ []) v) in
          (40 ∷ ((u ++ m) ++ (41 ∷ [])), (v, (_, ((λ i. eqb-true x 40 f i ∷ p i), (brackets o, a)))))
