-- The same of lines: by its first byte a line goes on as its kind does.
use mathlib.Core.Path.{◌≡◌, refl, ap, sym, ◌∙◌, subst}
use mathlib.Core.Bool.{true}
use mathlib.Core.List.{List, [], ◌∷◌, ◌++◌, append_assoc}
use mathlib.Core.Option.{none}
use Prim.Native.Nat.{ℕ, zero}
use borrow.Author.Tests.{eqb-true}
use lib.Dec.{eqb}
use Rattle.paper.proofs.Relation.{false≢true}
use Rattle.meaning.specs.Card.{Bytes}
use Rattle.notation.specs.Words.{word, LF}
use Rattle.notation.specs.Conditions.{Condition, OrList}
use Rattle.notation.specs.Lines as Lines
use Rattle.notation.specs.Lines.{Do, Select, Revise, Begin, empty, remark, End, AtomsLine, counts, ActionLine, weighs, DoLine, does, SelectLine, selects, ReviseLine, revises, BeginLine, begins}
use Rattle.notation.specs.Scanning.{Start, ScanState, lines, list, list_end, unit, atoms_line, action_line, do_line, select_line, revise_line, begin_line, when, line, step}
use Rattle.notation.specs.Scanning as Scan
use Rattle.notation.proofs.Following.{Stops, LinesFrom, finished, noted, counted, weighed, done, selected, revised, begun, doable, selectable, revisable, After, Lang}
use Rattle.notation.proofs.Deriving.{same_head, same_tail, not_cons, By, split, Derives}
use Rattle.notation.proofs.DerivingConditions.{split_list, join_list}

-- ---- parts that come one behind the other

abbrev chain : List Bytes → Bytes → Bytes
chain [] last = last
chain (p ∷ ps) last = p ++ chain ps last

chained : (ps : List Bytes) (last r : Bytes) → chain ps last ++ r ≡ chain ps (last ++ r)
chained [] last r = refl
chained (p ∷ ps) last r = append_assoc p (chain ps last) r ∙ ap (λ z. p ++ z) (chained ps last r)

end_stops : {e : Bytes} (v : Bytes) → End e → Stops (e ++ v)
end_stops v Lines.plain = refl
end_stops v (Lines.remark r) = refl

-- a condition, a space and a word
module _ (w : Bytes) (k : ScanState) where
  condition_lang : {u : Bytes} {c : Condition} (v : Bytes) → OrList u c → Lang k v → Lang (unit zero w k) (u ++ (32 ∷ (w ++ v)))
  unfolding Lang After
  condition_lang {u} v o l =
      let s = split_list o in
      let p : u ++ (32 ∷ (w ++ v)) ≡ s.unit_bytes ++ (s.more_bytes ++ (32 ∷ (w ++ v))) =
      ap (λ z. z ++ (32 ∷ (w ++ v))) s.whole ∙ append_assoc s.unit_bytes s.more_bytes (32 ∷ (w ++ v)) in
      (s.unit_bytes, (s.more_bytes ++ (32 ∷ (w ++ v)), (s.condition, (p, (s.begins, (s.more_bytes, (32 ∷ (w ++ v), (refl, (s.goes_on, (v, (refl, l)))))))))))

  condition_of : {t : Bytes} → Lang (unit zero w k) t → (u : Bytes) × ((v : Bytes) × ((c : Condition) × ((t ≡ u ++ (32 ∷ (w ++ v))) × (OrList u c × Lang k v))))
  unfolding Lang After
  condition_of (u, (y, (c, (e, (h, (m, (z, (e2, (r, (v, (e3, l))))))))))) =
      let (d, o) = join_list h r in
      (u ++ m, (v, (d, (e ∙ ap (λ s. u ++ s) (e2 ∙ ap (λ s. m ++ s) e3) ∙ sym (append_assoc u m (32 ∷ (w ++ v))), (o, l)))))

-- ---- each kind of line, behind its first byte, and then the lines from a start on

module _ (t : Bytes) where
  atoms_lang : (u v : Bytes) (n : ℕ) → 97 ∷ t ≡ u ++ v → AtomsLine u n → LinesFrom Scan.actions v → Lang atoms_line t
  unfolding Lang
  atoms_lang _ v _ p (counts {u} {e} {n} h g) f =
      let q = p ∙ chained (word "atoms " ∷ u ∷ []) e v in
      (u ++ (e ++ v), (same_tail q, (u, (e ++ v, (n, (refl, (h, (end_stops v g, (e, (v, (refl, (g, f))))))))))))

  atoms_of : Lang atoms_line t → LinesFrom Scan.first (97 ∷ t)
  unfolding Lang
  atoms_of (y, (p, (u, (z, (n, (p2, (h, (st, (e, (v, (p3, (g, f)))))))))))) =
      subst (LinesFrom Scan.first) (chained (word "atoms " ∷ u ∷ []) e v ∙ (λ i. 97 ∷ sym (p ∙ ap (λ z. word "toms " ++ z) (p2 ∙ ap (λ z. u ++ z) p3)) i)) (counted (counts h g) f)

  action_lang : (u v : Bytes) (n : ℕ) → 97 ∷ t ≡ u ++ v → ActionLine u n → LinesFrom Scan.actions v → Lang action_line t
  unfolding Lang
  action_lang _ v _ p (weighs {u} {e} {n} h g) f =
      let q = p ∙ chained (word "action " ∷ u ∷ []) e v in
      (u ++ (e ++ v), (same_tail q, (u, (e ++ v, (n, (refl, (h, (end_stops v g, (e, (v, (refl, (g, f))))))))))))

  action_of : Lang action_line t → LinesFrom Scan.actions (97 ∷ t)
  unfolding Lang
  action_of (y, (p, (u, (z, (n, (p2, (h, (st, (e, (v, (p3, (g, f)))))))))))) =
      subst (LinesFrom Scan.actions) (chained (word "action " ∷ u ∷ []) e v ∙ (λ i. 97 ∷ sym (p ∙ ap (λ z. word "ction " ++ z) (p2 ∙ ap (λ z. u ++ z) p3)) i)) (weighed (weighs h g) f)

  do_lang : (y r : Bytes) (d : Do) → 100 ∷ t ≡ y ++ r → DoLine y d → LinesFrom Scan.dos r → Lang do_line t
  unfolding Lang
  do_lang _ r _ p (does {u} {v} {w} {x} {e} {n} {c} {ns} {ms} h o hs gs g) f =
      let q = p ∙ chained (word "do " ∷ u ∷ word " if " ∷ v ∷ word " add" ∷ w ∷ word " del" ∷ x ∷ []) e r in
      let y5 = x ++ (e ++ r) in
      let y4 = w ++ (word " del" ++ y5) in
      let y3 = v ++ (word " add" ++ y4) in
      let l5 : Lang (list_end (lines Scan.dos)) y5 = (x, (e, (r, (ms, (refl, (gs, (g, f))))))) in
      let l4 : Lang (list (word "del") (list_end (lines Scan.dos))) y4 = (w, (y5, (ns, (refl, (hs, (refl, l5)))))) in
      let l3 = condition_lang (word "add") (list (word "del") (list_end (lines Scan.dos))) y4 o l4 in
      (u ++ (word " if " ++ y3), (same_tail q, (u, (word " if " ++ y3, (n, (refl, (h, (refl, (y3, (refl, l3))))))))))

  do_of : (s : Start) → doable s ≡ true → Lang do_line t → LinesFrom s (100 ∷ t)
  unfolding Lang
  do_of s may (y, (p, (u, (z, (n, (p2, (h, (st, (y3, (p3, l)))))))))) =
      let (v, (y4, (c, (p4, (o, (w, (y5, (ns, (p5, (hs, (st2, (x, (e, (r, (ms, (p6, (gs, (g, f)))))))))))))))))) = condition_of (word "add") (list (word "del") (list_end (lines Scan.dos))) l in
      let q : t ≡ chain (word "o " ∷ u ∷ word " if " ∷ v ∷ word " add" ∷ w ∷ word " del" ∷ x ∷ []) (e ++ r) =
      p ∙ ap (λ z. word "o " ++ z) (p2 ∙ ap (λ z. u ++ z) (p3 ∙ ap (λ z. word " if " ++ z) (p4 ∙ ap (λ z. v ++ (word " add" ++ z)) (p5 ∙ ap (λ z. w ++ (word " del" ++ z)) p6)))) in
      subst (LinesFrom s) (chained (word "do " ∷ u ∷ word " if " ∷ v ∷ word " add" ∷ w ∷ word " del" ∷ x ∷ []) e r ∙ (λ i. 100 ∷ sym q i)) (done may (does h o hs gs g) f)

  select_lang : (y r : Bytes) (d : Select) → 115 ∷ t ≡ y ++ r → SelectLine y d → LinesFrom Scan.selects r → Lang select_line t
  unfolding Lang
  select_lang _ r _ p (selects {u} {v} {w} {e} {b} {g} {ps} o o2 hs h) f =
      let q = p ∙ chained (word "select if " ∷ u ∷ word " goal " ∷ v ∷ word " plan" ∷ w ∷ []) e r in
      let y3 = w ++ (e ++ r) in
      let y2 = v ++ (word " plan" ++ y3) in
      let l3 : Lang (list_end (lines Scan.selects)) y3 = (w, (e, (r, (ps, (refl, (hs, (h, f))))))) in
      let l2 = condition_lang (word "plan") (list_end (lines Scan.selects)) y3 o2 l3 in
      (u ++ (word " goal " ++ y2), (same_tail q, condition_lang (word "goal ") (unit zero (word "plan") (list_end (lines Scan.selects))) y2 o l2))

  select_of : (s : Start) → selectable s ≡ true → Lang select_line t → LinesFrom s (115 ∷ t)
  unfolding Lang
  select_of s may (y, (p, l)) =
      let (u, (y2, (b, (p2, (o, l2))))) = condition_of (word "goal ") (unit zero (word "plan") (list_end (lines Scan.selects))) l in
      let (v, (y3, (g, (p3, (o2, (w, (e, (r, (ps, (p4, (hs, (h, f)))))))))))) = condition_of (word "plan") (list_end (lines Scan.selects)) l2 in
      let q : t ≡ chain (word "elect if " ∷ u ∷ word " goal " ∷ v ∷ word " plan" ∷ w ∷ []) (e ++ r) =
      p ∙ ap (λ z. word "elect if " ++ z) (p2 ∙ ap (λ z. u ++ (word " goal " ++ z)) (p3 ∙ ap (λ z. v ++ (word " plan" ++ z)) p4)) in
      subst (LinesFrom s) (chained (word "select if " ∷ u ∷ word " goal " ∷ v ∷ word " plan" ∷ w ∷ []) e r ∙ (λ i. 115 ∷ sym q i)) (selected may (selects o o2 hs h) f)

  revise_lang : (y r : Bytes) (d : Revise) → 114 ∷ t ≡ y ++ r → ReviseLine y d → LinesFrom Scan.revises r → Lang revise_line t
  unfolding Lang
  revise_lang _ r _ p (revises {u} {v} {w} {e} {c} {hs} {bs} ns o ms h) f =
      let q = p ∙ chained (word "revise" ∷ u ∷ word " if " ∷ v ∷ word " to" ∷ w ∷ []) e r in
      let y3 = w ++ (e ++ r) in
      let y2 = v ++ (word " to" ++ y3) in
      let l3 : Lang (list_end (lines Scan.revises)) y3 = (w, (e, (r, (bs, (refl, (ms, (h, f))))))) in
      let l2 = condition_lang (word "to") (list_end (lines Scan.revises)) y3 o l3 in
      (u ++ (word " if " ++ y2), (same_tail q, (u, (y2, (hs, (refl, (ns, (refl, l2))))))))

  revise_of : (s : Start) → revisable s ≡ true → Lang revise_line t → LinesFrom s (114 ∷ t)
  unfolding Lang
  revise_of s may (y, (p, (u, (y2, (hs, (p2, (ns, (st, l)))))))) =
      let (v, (y3, (c, (p3, (o, (w, (e, (r, (bs, (p4, (ms, (h, f)))))))))))) = condition_of (word "to") (list_end (lines Scan.revises)) l in
      let q : t ≡ chain (word "evise" ∷ u ∷ word " if " ∷ v ∷ word " to" ∷ w ∷ []) (e ++ r) =
      p ∙ ap (λ z. word "evise" ++ z) (p2 ∙ ap (λ z. u ++ (word " if " ++ z)) (p3 ∙ ap (λ z. v ++ (word " to" ++ z)) p4)) in
      subst (LinesFrom s) (chained (word "revise" ∷ u ∷ word " if " ∷ v ∷ word " to" ∷ w ∷ []) e r ∙ (λ i. 114 ∷ sym q i)) (revised may (revises ns o ms h) f)

  begin_lang : (y r : Bytes) (d : Begin) → 98 ∷ t ≡ y ++ r → BeginLine y d → LinesFrom Scan.ending r → Lang begin_line t
  unfolding Lang
  begin_lang _ r _ p (begins {u} {v} {w} {e} {bs} {gs} {ps} h1 h2 h3 h) f =
      let q = p ∙ chained (word "begin beliefs" ∷ u ∷ word " goals" ∷ v ∷ word " plan" ∷ w ∷ []) e r in
      let y3 = w ++ (e ++ r) in
      let y2 = v ++ (word " plan" ++ y3) in
      let l3 : Lang (list_end (lines Scan.ending)) y3 = (w, (e, (r, (ps, (refl, (h3, (h, f))))))) in
      let l2 : Lang (list (word "plan") (list_end (lines Scan.ending))) y2 = (v, (y3, (gs, (refl, (h2, (refl, l3)))))) in
      (u ++ (word " goals" ++ y2), (same_tail q, (u, (y2, (bs, (refl, (h1, (refl, l2))))))))

  begin_of : (s : Start) → revisable s ≡ true → Lang begin_line t → LinesFrom s (98 ∷ t)
  unfolding Lang
  begin_of s may (y, (p, (u, (y2, (bs, (p2, (h1, (st, (v, (y3, (gs, (p3, (h2, (st2, (w, (e, (r, (ps, (p4, (h3, (h, f))))))))))))))))))))) =
      let q : t ≡ chain (word "egin beliefs" ∷ u ∷ word " goals" ∷ v ∷ word " plan" ∷ w ∷ []) (e ++ r) =
      p ∙ ap (λ z. word "egin beliefs" ++ z) (p2 ∙ ap (λ z. u ++ (word " goals" ++ z)) (p3 ∙ ap (λ z. v ++ (word " plan" ++ z)) p4)) in
      subst (LinesFrom s) (chained (word "begin beliefs" ∷ u ∷ word " goals" ∷ v ∷ word " plan" ∷ w ∷ []) e r ∙ (λ i. 98 ∷ sym q i)) (begun may (begins h1 h2 h3 h) f)

-- ---- the first byte of a line

module _ {x : ℕ} {t : Bytes} (r : Bytes) where
  atoms_head : {u : Bytes} {n : ℕ} → AtomsLine u n → x ∷ t ≡ u ++ r → x ≡ 97
  atoms_head (counts h g) e = same_head e

  action_head : {u : Bytes} {n : ℕ} → ActionLine u n → x ∷ t ≡ u ++ r → x ≡ 97
  action_head (weighs h g) e = same_head e

  do_head : {u : Bytes} {d : Do} → DoLine u d → x ∷ t ≡ u ++ r → x ≡ 100
  do_head (does h o hs gs g) e = same_head e

  select_head : {u : Bytes} {d : Select} → SelectLine u d → x ∷ t ≡ u ++ r → x ≡ 115
  select_head (selects o o2 hs h) e = same_head e

  revise_head : {u : Bytes} {d : Revise} → ReviseLine u d → x ∷ t ≡ u ++ r → x ≡ 114
  revise_head (revises ns o ms h) e = same_head e

  begin_head : {u : Bytes} {d : Begin} → BeginLine u d → x ∷ t ≡ u ++ r → x ≡ 98
  begin_head (begins h1 h2 h3 h) e = same_head e

-- ---- lines

module _ (x : ℕ) (t : Bytes) where
  -- with the byte that a line begins with
  at_byte : (s : Start) (y : ℕ) → x ≡ y → By (step (lines s) y) t → By (step (lines s) x) t
  at_byte s y e h = subst (λ z. By (step (lines s) z) t) (sym e) h

  module _ {y : Bytes} (e : x ∷ t ≡ y) (z : ℕ) (f : x ≡ z) where
    moved : z ∷ t ≡ y
    moved = (λ i. sym f i ∷ t) ∙ e

  line_by : {s : Start} {y : Bytes} → LinesFrom s y → x ∷ t ≡ y → By (step (lines s) x) t
  unfolding Lang step
  line_by finished e = absurd (not_cons e)
  line_by {s} (noted empty f) e = at_byte s 10 (same_head e) (subst (LinesFrom s) (sym (same_tail e)) f)
  line_by {s} (noted {t = r} (remark {u} h) f) e = at_byte s 35 (same_head e) (u, (r, (same_tail e ∙ append_assoc u (LF ∷ []) r, (h, f))))
  line_by (counted {u = u} {t = r} {n = n} l f) e = let h = atoms_head r l e in at_byte Scan.first 97 h (atoms_lang t u r n (moved e 97 h) l f)
  line_by (weighed {u = u} {t = r} {n = n} l f) e = let h = action_head r l e in at_byte Scan.actions 97 h (action_lang t u r n (moved e 97 h) l f)
  line_by {s} (done {u = u} {t = r} {d = d} may l f) e = let h = do_head r l e in at_byte s 100 h (go s may (do_lang t u r d (moved e 100 h) l f))
    where
      go : (s : Start) → doable s ≡ true → Lang do_line t → By (step (lines s) 100) t
      go Scan.first m h = absurd (false≢true m)
      go Scan.actions m h = h
      go Scan.dos m h = h
      go Scan.selects m h = absurd (false≢true m)
      go Scan.revises m h = absurd (false≢true m)
      go Scan.ending m h = absurd (false≢true m)
  line_by {s} (selected {u = u} {t = r} {d = d} may l f) e = let h = select_head r l e in at_byte s 115 h (go s may (select_lang t u r d (moved e 115 h) l f))
    where
      go : (s : Start) → selectable s ≡ true → Lang select_line t → By (step (lines s) 115) t
      go Scan.first m h = absurd (false≢true m)
      go Scan.actions m h = h
      go Scan.dos m h = h
      go Scan.selects m h = h
      go Scan.revises m h = absurd (false≢true m)
      go Scan.ending m h = absurd (false≢true m)
  line_by {s} (revised {u = u} {t = r} {d = d} may l f) e = let h = revise_head r l e in at_byte s 114 h (go s may (revise_lang t u r d (moved e 114 h) l f))
    where
      go : (s : Start) → revisable s ≡ true → Lang revise_line t → By (step (lines s) 114) t
      go Scan.first m h = absurd (false≢true m)
      go Scan.actions m h = h
      go Scan.dos m h = h
      go Scan.selects m h = h
      go Scan.revises m h = h
      go Scan.ending m h = absurd (false≢true m)
  line_by {s} (begun {u = u} {t = r} {d = d} may l f) e = let h = begin_head r l e in at_byte s 98 h (go s may (begin_lang t u r d (moved e 98 h) l f))
    where
      go : (s : Start) → revisable s ≡ true → Lang begin_line t → By (step (lines s) 98) t
      go Scan.first m h = absurd (false≢true m)
      go Scan.actions m h = h
      go Scan.dos m h = h
      go Scan.selects m h = h
      go Scan.revises m h = h
      go Scan.ending m h = absurd (false≢true m)

  -- and back
  module _ (s : Start) where
    at_head : (y : ℕ) → eqb x y ≡ true → LinesFrom s (y ∷ t) → LinesFrom s (x ∷ t)
    at_head y e h = subst (λ z. LinesFrom s (z ∷ t)) (sym (eqb-true x y e)) h

    of_begin : revisable s ≡ true → By (Scan.from_begin x) t → LinesFrom s (x ∷ t)
    of_begin m = split begin_line none t (eqb x 98) (λ e h. at_head 98 e (begin_of t s m h)) (λ e h. absurd h)

    of_revise : revisable s ≡ true → By (Scan.from_revise x) t → LinesFrom s (x ∷ t)
    of_revise m = split revise_line (Scan.from_begin x) t (eqb x 114) (λ e h. at_head 114 e (revise_of t s m h)) (λ e h. of_begin m h)

    of_select : selectable s ≡ true → revisable s ≡ true → By (Scan.from_select x) t → LinesFrom s (x ∷ t)
    of_select m r = split select_line (Scan.from_revise x) t (eqb x 115) (λ e h. at_head 115 e (select_of t s m h)) (λ e h. of_revise r h)

    of_do : doable s ≡ true → selectable s ≡ true → revisable s ≡ true → By (Scan.from_do x) t → LinesFrom s (x ∷ t)
    of_do d m r = split do_line (Scan.from_select x) t (eqb x 100) (λ e h. at_head 100 e (do_of t s d h)) (λ e h. of_select m r h)

  of_line : (s : Start) → By (line s x) t → LinesFrom s (x ∷ t)
  of_line Scan.first h = split atoms_line none t (eqb x 97) (λ e h. at_head Scan.first 97 e (atoms_of t h)) (λ e h. absurd h) h
  of_line Scan.actions h = split action_line (Scan.from_do x) t (eqb x 97) (λ e h. at_head Scan.actions 97 e (action_of t h)) (λ e h. of_do Scan.actions refl refl refl h) h
  of_line Scan.dos h = of_do Scan.dos refl refl refl h
  of_line Scan.selects h = of_select Scan.selects refl refl h
  of_line Scan.revises h = of_revise Scan.revises refl h
  of_line Scan.ending h = absurd h

pub lines_more : (s : Start) → Derives (lines s)
unfolding Lang step
lines_more s x t = (
  λ f. line_by x t f refl,
  split (lines s) (when (eqb x 35) (Scan.remark (lines s)) (line s x)) t (eqb x LF)
      (λ e h. at_head x t s 10 e (noted empty h))
      (λ e. split (Scan.remark (lines s)) (line s x) t (eqb x 35)
      (λ e (u, (v, (p, (r, h)))). at_head x t s 35 e (subst (LinesFrom s) (λ i. 35 ∷ (append_assoc u (LF ∷ []) v ∙ sym p) i) (noted (remark r) h)))
      (λ e h. of_line x t s h)),
)
