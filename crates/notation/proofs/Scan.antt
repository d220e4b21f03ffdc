-- A text is derived exactly if a scan of it ends well; and where a scan goes wrong, some text goes on up to there and none further.
use mathlib.Core.Path.{◌≡◌, refl, sym, ◌∙◌, subst}
use mathlib.Core.Logic.{◌↔◌}
use mathlib.Core.Bool.{Bool, true, false}
use mathlib.Core.List.{List, [], ◌∷◌, ◌++◌}
use mathlib.Core.Option.{Option, none, some}
use Prim.Native.Nat.{ℕ, zero, suc, ◌≤◌, ◌<◌}
use native.Mathlib.Omega.{arith}
use lib.ListN.{length, take}
use Rattle.paper.proofs.Relation.{false≢true}
use Rattle.meaning.specs.Card.{Bytes}
use Rattle.notation.specs.Words as Words
use Rattle.notation.specs.Lines as Lines
use Rattle.notation.specs.Conditions as Conditions
use Rattle.notation.specs.Scanning.{Start, ScanState, lines, rest, number, digits, list, spaced, list_end, spaced_end, end, remark, unit, after, step, ended, accepts, later, at-end, next, judge}
use Rattle.notation.specs.Scanning as Scan
use Rattle.notation.proofs.Following.{LinesFrom, finished, noted, Behind, More, After, Lang}
use Rattle.notation.proofs.Following as Following
use Rattle.notation.proofs.Deriving.{not_cons, same_head, same_tail, By, Derives, derive_rest, number_more, digits_more, list_more, spaced_more}
use Rattle.notation.proofs.DerivingEnds.{remark_more, end_more, list_end_more, spaced_end_more}
use Rattle.notation.proofs.DerivingConditions.{after_more, unit_more}
use Rattle.notation.proofs.DerivingLines.{lines_more}
use Rattle.notation.proofs.Alive.{example, Alive, AliveBy, follows, alive_step}

pub derive : (q : ScanState) → Derives q
derive (lines s) = lines_more s
derive (rest w k) = derive_rest k (derive k) w
derive (number k) = number_more k
derive (digits k) = digits_more k (derive k)
derive (list w k) = list_more w k
derive (spaced w k) = spaced_more w k (derive k)
derive (list_end k) = list_end_more k
derive (spaced_end k) = spaced_end_more k
derive (end k) = end_more k
derive (remark k) = remark_more k
derive (unit n w k) = unit_more w k n
derive (after n w k) = after_more w k n

-- ---- where a text may end

-- no bytes are no bytes and a byte more
never : (u : Bytes) (x : ℕ) (v : Bytes) → ◌≡◌ {A = Bytes} [] (u ++ (x ∷ v)) → ⊥
never [] x v e = not_cons (sym e)
never (y ∷ u) x v e = not_cons (sym e)

-- two bytes are not one
not_two : {x y z : ℕ} {t : Bytes} → x ∷ [] ≡ y ∷ (z ∷ t) → ⊥
not_two e = not_cons (sym (same_tail e))

lines_end : {s : Start} {y : Bytes} → LinesFrom s y → [] ≡ y → ended s ≡ true
lines_end finished e = refl
lines_end (noted Lines.empty f) e = absurd (not_cons (sym e))
lines_end (noted (Lines.remark r) f) e = absurd (not_cons (sym e))
lines_end (Following.counted (Lines.counts h g) f) e = absurd (not_cons (sym e))
lines_end (Following.weighed (Lines.weighs h g) f) e = absurd (not_cons (sym e))
lines_end (Following.done m (Lines.does h o hs gs g) f) e = absurd (not_cons (sym e))
lines_end (Following.selected m (Lines.selects o o2 hs h) f) e = absurd (not_cons (sym e))
lines_end (Following.revised m (Lines.revises ns o ms h) f) e = absurd (not_cons (sym e))
lines_end (Following.begun m (Lines.begins h1 h2 h3 h) f) e = absurd (not_cons (sym e))

ends_lines : (s : Start) → ended s ≡ true → LinesFrom s []
ends_lines Scan.first e = absurd (false≢true e)
ends_lines Scan.actions e = absurd (false≢true e)
ends_lines Scan.dos e = absurd (false≢true e)
ends_lines Scan.selects e = absurd (false≢true e)
ends_lines Scan.revises e = absurd (false≢true e)
ends_lines Scan.ending e = finished

-- behind a unit something comes
behind_never : {Z : Bytes → Type 0} → (Z [] → ⊥) → Behind Z [] → ⊥
behind_never {Z} n (u, (z, (e, (m, h)))) = go m e
  where
    go : {u : Bytes} → More u → [] ≡ u ++ z → ⊥
    go Following.nothing e = n (subst Z (sym e) h)
    go (Following.and_unit x r) e = not_cons (sym e)
    go (Following.or_unit x r) e = not_cons (sym e)

after_never : (n : ℕ) (w : Bytes) (k : ScanState) → After n w (Lang k) [] → ⊥
unfolding After
after_never zero w k h = behind_never (λ (v, (e, l)). not_cons (sym e)) h
after_never (suc n) w k h = behind_never (λ (v, (e, l)). not_cons (sym e)) h

-- no bytes may follow in a state exactly if it accepts
module _ (v : Bytes) where
  number_never : {u : Bytes} {n : ℕ} → Words.Number u n → [] ≡ u ++ v → ⊥
  number_never (Words.digits d h r) e = not_cons (sym e)

  end_never : {e : Bytes} → Lines.End e → [] ≡ e ++ v → ⊥
  end_never Lines.plain e = not_cons (sym e)
  end_never (Lines.remark r) e = not_cons (sym e)

  list_end_never : {u d : Bytes} {ns : List ℕ} → Words.Numbers u ns → Lines.End d → [] ≡ u ++ (d ++ v) → ⊥
  list_end_never Words.none g e = end_never g e
  list_end_never (Words.more n ns) g e = not_cons (sym e)

  spaced_end_never : {u d : Bytes} {ns : List ℕ} → Words.Numbers u ns → Lines.End d → 32 ∷ [] ≡ u ++ (d ++ v) → ⊥
  spaced_end_never Words.none Lines.plain e = let z : ◌≡◌ {A = ℕ} 32 10 = same_head e in omega arith
  spaced_end_never Words.none (Lines.remark r) e = not_two e
  spaced_end_never (Words.more (Words.digits d h r) ns) g e = not_two e

  spaced_nothing : {u : Bytes} (w : Bytes) {ns : List ℕ} → Words.Numbers u ns → 32 ∷ [] ≡ u ++ (32 ∷ (w ++ v)) → [] ≡ w ++ v
  spaced_nothing w Words.none e = same_tail e
  spaced_nothing w (Words.more (Words.digits d h r) ns) e = absurd (not_two e)

  digits_nothing : {u : Bytes} {n m : ℕ} → Words.Digits u n m → [] ≡ u ++ v → [] ≡ v
  digits_nothing Words.none e = e
  digits_nothing (Words.more d h r) e = absurd (not_cons (sym e))

  unit_never : {u : Bytes} {c : Conditions.Condition} → Conditions.Unit u c → [] ≡ u ++ v → ⊥
  unit_never Conditions.T e = not_cons (sym e)
  unit_never (Conditions.B h) e = not_cons (sym e)
  unit_never (Conditions.G h) e = not_cons (sym e)
  unit_never (Conditions.! h) e = not_cons (sym e)
  unit_never (Conditions.brackets h) e = not_cons (sym e)

pub nothing_left : (q : ScanState) → Lang q [] ↔ (accepts q ≡ true)
unfolding Lang accepts
nothing_left (lines s) = (λ f. lines_end f refl, ends_lines s)
nothing_left (rest [] k) = (λ (v, (e, l)). (nothing_left k).0 (subst (Lang k) (sym e) l), λ a. ([], (refl, (nothing_left k).1 a)))
nothing_left (rest (c ∷ w) k) = (λ (v, (e, l)). absurd (not_cons (sym e)), λ a. absurd (false≢true a))
nothing_left (number k) = (λ (u, (v, (n, (e, (h, r))))). absurd (number_never v h e), λ a. absurd (false≢true a))
nothing_left (digits k) = (
  λ (u, (v, (n, (e, (h, (s, l)))))). (nothing_left k).0 (subst (Lang k) (sym (digits_nothing v h e)) l),
  λ a. ([], ([], (0, (refl, (Words.none, (refl, (nothing_left k).1 a)))))),
)
nothing_left (list w k) = (λ (u, (v, (ns, (e, h)))). absurd (never u 32 (w ++ v) e), λ a. absurd (false≢true a))
nothing_left (spaced [] k) = (
  λ (u, (v, (ns, (e, (h, (s, l)))))). (nothing_left k).0 (subst (Lang k) (sym (spaced_nothing v [] h e)) l),
  λ a. ([], ([], ([], (refl, (Words.none, (refl, (nothing_left k).1 a)))))),
)
nothing_left (spaced (c ∷ w) k) = (λ (u, (v, (ns, (e, (h, r))))). absurd (not_cons (sym (spaced_nothing v (c ∷ w) h e))), λ a. absurd (false≢true a))
nothing_left (list_end k) = (λ (u, (d, (v, (ns, (e, (h, (g, l))))))). absurd (list_end_never v h g e), λ a. absurd (false≢true a))
nothing_left (spaced_end k) = (λ (u, (d, (v, (ns, (e, (h, (g, l))))))). absurd (spaced_end_never v h g e), λ a. absurd (false≢true a))
nothing_left (end k) = (λ (d, (v, (e, (g, l)))). absurd (end_never v g e), λ a. absurd (false≢true a))
nothing_left (remark k) = (λ (u, (v, (e, r))). absurd (never u 10 v e), λ a. absurd (false≢true a))
nothing_left (unit n w k) = (λ (u, (v, (c, (e, (h, a))))). absurd (unit_never v h e), λ a. absurd (false≢true a))
nothing_left (after n w k) = (λ h. absurd (after_never n w k h), λ a. absurd (false≢true a))

-- ---- where a scan goes wrong

pub record Wrong (q : ScanState) (t : Bytes) (p : ℕ) : Type 0 where
  pub not_there : Lang q t → ⊥
  pub inside : p ≤ length t
  pub before : Alive q → (v : Bytes) × Lang q (take p t ++ v)
  pub there : p < length t → (v : Bytes) → Lang q (take (suc p) t ++ v) → ⊥

abbrev pub ScanJudged : ScanState → Bytes → Option ℕ → Type 0
ScanJudged q t none = Lang q t
ScanJudged q t (some p) = Wrong q t p

by_step : (q : ScanState) (x : ℕ) {o : Option ScanState} (t : Bytes) → step q x ≡ o → Lang q (x ∷ t) ↔ By o t
by_step q x t e = subst (λ o. Lang q (x ∷ t) ↔ By o t) e (derive q x t)

pub judged : (t : Bytes) (q : ScanState) → ScanJudged q t (judge t q)
unfolding judge AliveBy
judged [] q = go (accepts q) refl
  where
    go : (b : Bool) → accepts q ≡ b → ScanJudged q [] (at-end b)
    go true e = (nothing_left q).1 e
    go false e = record {
      not_there = λ l. false≢true (sym e ∙ (nothing_left q).0 l);
      inside = omega arith;
      before = λ a. (example q, follows q a);
      there = λ h. absurd (omega arith);
    }
judged (x ∷ t) q = go (step q x) refl (judged t)
  where
    on : (q' : ScanState) → step q x ≡ some q' → (o : Option ℕ) → ScanJudged q' t o → ScanJudged q (x ∷ t) (later o)
    on q' e none l = (by_step q x t e).1 l
    on q' e (some p) w = record {
      not_there = λ l. w.not_there ((by_step q x t e).0 l);
      inside = (let h = w.inside in omega arith);
      before = λ a. (let (v, l) = w.before (subst AliveBy e (alive_step x q a)) in (v, (by_step q x (take p t ++ v) e).1 l));
      there = λ h v l. w.there (omega arith) v ((by_step q x (take (suc p) t ++ v) e).0 l);
    }

    go : (o : Option ScanState) → step q x ≡ o → ((q' : ScanState) → ScanJudged q' t (judge t q')) → ScanJudged q (x ∷ t) (next o (judge t))
    go none e ih = record {
      not_there = λ l. (by_step q x t e).0 l;
      inside = omega arith;
      before = λ a. (example q, follows q a);
      there = λ h v l. (by_step q x v e).0 l;
    }
    go (some q') e ih = on q' e (judge t q') (ih q')
