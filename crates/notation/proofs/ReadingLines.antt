-- The reader as a function reads the line that the grammar derives, if its conditions do not nest too deep.
use mathlib.Core.Path.{◌≡◌, refl, ap, ◌∙◌}
use mathlib.Core.Bool.{Bool, true}
use mathlib.Core.List.{List, [], ◌∷◌, ◌++◌, append_assoc}
use Prim.Native.Nat.{ℕ}
use lib.Dec.{leb}
use lib.ListN.{drop}
use Rattle.meaning.specs.Card.{Bytes}
use Rattle.meaning.specs.Refusals.{all}
use Rattle.notation.specs.Words.{word}
use Rattle.notation.specs.Words as Words
use Rattle.notation.specs.Conditions.{Condition}
use Rattle.notation.specs.Lines.{Do, Select, Revise, Begin, End, AtomsLine, ActionLine, DoLine, SelectLine, ReviseLine, BeginLine, counts, weighs, does, selects, revises, begins}
use Rattle.notation.specs.Values.{Read, got, then, Item, atoms_said, action_said, do_said, select_said, revise_said, begin_said, number_value, digits_rest, list_of, behind_list, behind_line, or_list_of, number_item, do_item_at, select_item_at, revise_item_at, begin_item}
use Rattle.notation.proofs.ReadingTests.{within, then_within}
use Rattle.notation.proofs.ReadingNumbers.{number_read, number_left}
use Rattle.notation.proofs.ReadingLists.{ListStops, list_read, list_left}
use Rattle.notation.proofs.ReadingConditions.{OrStops, or_list_read}
use Rattle.notation.proofs.ReadingEnds.{behind_end, end_stops}

-- whether conditions nest no deeper than may be
abbrev pub fit : ℕ → List Condition → Bool
fit left cs = all (λ c. leb c.depth left) cs

-- ---- lists and what comes behind them

-- a list that a line's end follows
module _ {w e : Bytes} {ns : List ℕ} (z : Bytes) (r : Words.Numbers w ns) (h : End e) where
  last_list : list_of (w ++ (e ++ z)) ≡ ns
  last_list = list_read (e ++ z) (end_stops z h) r

  behind_last : behind_line (behind_list (w ++ (e ++ z))) ≡ z
  behind_last = ap behind_line (list_left (e ++ z) (end_stops z h) r) ∙ behind_end z h

-- ---- numbers

module _ {u e : Bytes} {n : ℕ} (z : Bytes) (h : Words.Number u n) (k : End e) where
  number_said : number_value (u ++ (e ++ z)) ≡ n
  number_said = number_read (e ++ z) h (end_stops z k).no_digit

  behind_number : behind_line (digits_rest (u ++ (e ++ z))) ≡ z
  behind_number = ap behind_line (number_left (e ++ z) h (end_stops z k).no_digit) ∙ behind_end z k

pub atoms_read : {t : Bytes} {n : ℕ} (z : Bytes) → AtomsLine t n → number_item (t ++ z) ≡ got (atoms_said n ∷ []) z
unfolding number_item
atoms_read z (counts {u = u} {e = e} h k) =
    ap (λ t. got (atoms_said (number_value t) ∷ []) (behind_line (digits_rest t))) (append_assoc u e z)
    ∙ (λ i. got (atoms_said (number_said z h k i) ∷ []) (behind_number z h k i))

pub action_read : {t : Bytes} {n : ℕ} (z : Bytes) → ActionLine t n → number_item (t ++ z) ≡ got (action_said n ∷ []) z
unfolding number_item
action_read z (weighs {u = u} {e = e} h k) =
    ap (λ t. got (action_said (number_value t) ∷ []) (behind_line (digits_rest t))) (append_assoc u e z)
    ∙ (λ i. got (action_said (number_said z h k i) ∷ []) (behind_number z h k i))

-- ---- words

-- a word of a line begins with a space and a letter, and stops whatever stands before it
module _ (t : Bytes) where
  add_stops : OrStops (word " add" ++ t)
  add_stops = record { and_stops = record { no_digit = refl; no_and = refl }; no_or = refl }

  goal_stops : OrStops (word " goal " ++ t)
  goal_stops = record { and_stops = record { no_digit = refl; no_and = refl }; no_or = refl }

  plan_stops : OrStops (word " plan" ++ t)
  plan_stops = record { and_stops = record { no_digit = refl; no_and = refl }; no_or = refl }

  to_stops : OrStops (word " to" ++ t)
  to_stops = record { and_stops = record { no_digit = refl; no_and = refl }; no_or = refl }

  del_ends : ListStops (word " del" ++ t)
  del_ends = record { no_number = refl; no_digit = refl }

  if_ends : ListStops (word " if " ++ t)
  if_ends = record { no_number = refl; no_digit = refl }

  goals_ends : ListStops (word " goals" ++ t)
  goals_ends = record { no_number = refl; no_digit = refl }

  plan_ends : ListStops (word " plan" ++ t)
  plan_ends = record { no_number = refl; no_digit = refl }

-- ---- a do line

-- what is made of a number, a condition and what comes behind it
do_made : ℕ → Condition → Bytes → Read (List Item)
do_made n c r =
    let a = drop 4 r in
    let d = drop 4 (behind_list a) in
    got (do_said (record { action = n; condition = c; add = list_of a; del = list_of d }) ∷ []) (behind_line (behind_list d))

module _ {w x e : Bytes} {ns ms : List ℕ} (n : ℕ) (c : Condition) (z : Bytes) (r : Words.Numbers w ns) (s : Words.Numbers x ms) (h : End e) where
  do_made_lem : do_made n c (word " add" ++ (w ++ (word " del" ++ (x ++ (e ++ z))))) ≡ got (do_said (record { action = n; condition = c; add = ns; del = ms }) ∷ []) z
  unfolding do_made
  do_made_lem =
      let del = word " del" ++ (x ++ (e ++ z)) in
      let stops = del_ends (x ++ (e ++ z)) in
      (λ i. (let d = drop 4 (list_left del stops r i) in
      got (do_said (record { action = n; condition = c; add = list_read del stops r i; del = list_of d }) ∷ []) (behind_line (behind_list d))))
      ∙ (λ i. got (do_said (record { action = n; condition = c; add = ns; del = last_list z s h i }) ∷ []) (behind_last z s h i))

do_words : (u v w x e z : Bytes)
    → (u ++ (word " if " ++ (v ++ (word " add" ++ (w ++ (word " del" ++ (x ++ e))))))) ++ z ≡ u ++ (word " if " ++ (v ++ (word " add" ++ (w ++ (word " del" ++ (x ++ (e ++ z)))))))
do_words u v w x e z = simp append_assoc

pub do_read : {t : Bytes} {d : Do} (left : ℕ) (z : Bytes) → DoLine t d → do_item_at left (t ++ z) ≡ within (fit left (d.condition ∷ [])) (do_said d ∷ []) z
unfolding do_item_at do_made
do_read left z (does {u = u} {v = v} {w = w} {x = x} {e = e} {n = n} {c = c} hn hc hw hx he) =
    let add = word " add" ++ (w ++ (word " del" ++ (x ++ (e ++ z)))) in
    ap (λ t. do_item_at left (word "do " ++ t)) (do_words u v w x e z)
    ∙ (λ i. then (or_list_of left (drop 4 (number_left (word " if " ++ (v ++ add)) hn refl i))) (do_made (number_read (word " if " ++ (v ++ add)) hn refl i)))
    ∙ ap (λ q. then q (do_made n)) (or_list_read hc left add (add_stops _))
    ∙ then_within (leb c.depth left) true c add _ z (do_made n) (do_made_lem n c z hw hx he)

-- ---- a select line

select_made : Condition → Condition → Bytes → Read (List Item)
select_made b g s =
    let p = drop 5 s in
    got (select_said (record { belief = b; goal = g; plan = list_of p }) ∷ []) (behind_line (behind_list p))

module _ {w e : Bytes} {ps : List ℕ} (b g : Condition) (z : Bytes) (r : Words.Numbers w ps) (h : End e) where
  select_made_lem : select_made b g (word " plan" ++ (w ++ (e ++ z))) ≡ got (select_said (record { belief = b; goal = g; plan = ps }) ∷ []) z
  unfolding select_made
  select_made_lem = λ i. got (select_said (record { belief = b; goal = g; plan = last_list z r h i }) ∷ []) (behind_last z r h i)

select_words : (u v w e z : Bytes)
    → (u ++ (word " goal " ++ (v ++ (word " plan" ++ (w ++ e))))) ++ z ≡ u ++ (word " goal " ++ (v ++ (word " plan" ++ (w ++ (e ++ z)))))
select_words u v w e z = simp append_assoc

pub select_read : {t : Bytes} {d : Select} (left : ℕ) (z : Bytes) → SelectLine t d
    → select_item_at left (t ++ z) ≡ within (fit left (d.belief ∷ (d.goal ∷ []))) (select_said d ∷ []) z
unfolding select_item_at select_made
select_read left z (selects {u = u} {v = v} {w = w} {e = e} {b = b} {g = g} hb hg hp he) =
    let plan = word " plan" ++ (w ++ (e ++ z)) in
    let goal = word " goal " ++ (v ++ plan) in
    ap (λ t. select_item_at left (word "select if " ++ t)) (select_words u v w e z)
    ∙ ap (λ q. then q (λ b r. then (or_list_of left (drop 6 r)) (select_made b))) (or_list_read hb left goal (goal_stops _))
    ∙ then_within (leb b.depth left) (fit left (g ∷ [])) b goal _ z (λ b r. then (or_list_of left (drop 6 r)) (select_made b))
    (ap (λ q. then q (select_made b)) (or_list_read hg left plan (plan_stops _))
    ∙ then_within (leb g.depth left) true g plan _ z (select_made b) (select_made_lem b g z hp he))

-- ---- a revise line

revise_made : List ℕ → Condition → Bytes → Read (List Item)
revise_made hs c r =
    let b = drop 3 r in
    got (revise_said (record { head = hs; condition = c; body = list_of b }) ∷ []) (behind_line (behind_list b))

module _ {w e : Bytes} {bs : List ℕ} (hs : List ℕ) (c : Condition) (z : Bytes) (r : Words.Numbers w bs) (h : End e) where
  revise_made_lem : revise_made hs c (word " to" ++ (w ++ (e ++ z))) ≡ got (revise_said (record { head = hs; condition = c; body = bs }) ∷ []) z
  unfolding revise_made
  revise_made_lem = λ i. got (revise_said (record { head = hs; condition = c; body = last_list z r h i }) ∷ []) (behind_last z r h i)

revise_words : (u v w e z : Bytes)
    → (u ++ (word " if " ++ (v ++ (word " to" ++ (w ++ e))))) ++ z ≡ u ++ (word " if " ++ (v ++ (word " to" ++ (w ++ (e ++ z)))))
revise_words u v w e z = simp append_assoc

pub revise_read : {t : Bytes} {d : Revise} (left : ℕ) (z : Bytes) → ReviseLine t d
    → revise_item_at left (t ++ z) ≡ within (fit left (d.condition ∷ [])) (revise_said d ∷ []) z
unfolding revise_item_at revise_made
revise_read left z (revises {u = u} {v = v} {w = w} {e = e} {c = c} {hs = hs} hh hc hb he) =
    let to = word " to" ++ (w ++ (e ++ z)) in
    let if = word " if " ++ (v ++ to) in
    let stops = if_ends (v ++ to) in
    ap (λ t. revise_item_at left (word "revise" ++ t)) (revise_words u v w e z)
    ∙ (λ i. then (or_list_of left (drop 4 (list_left if stops hh i))) (revise_made (list_read if stops hh i)))
    ∙ ap (λ q. then q (revise_made hs)) (or_list_read hc left to (to_stops _))
    ∙ then_within (leb c.depth left) true c to _ z (revise_made hs) (revise_made_lem hs c z hb he)

-- ---- the begin line

begin_words : (u v w e z : Bytes)
    → (u ++ (word " goals" ++ (v ++ (word " plan" ++ (w ++ e))))) ++ z ≡ u ++ (word " goals" ++ (v ++ (word " plan" ++ (w ++ (e ++ z)))))
begin_words u v w e z = simp append_assoc

pub begin_read : {t : Bytes} {d : Begin} (z : Bytes) → BeginLine t d → begin_item (t ++ z) ≡ got (begin_said d ∷ []) z
unfolding begin_item
begin_read z (begins {u = u} {v = v} {w = w} {e = e} {bs = bs} {gs = gs} hb hg hp he) =
    let plan = word " plan" ++ (w ++ (e ++ z)) in
    let goals = word " goals" ++ (v ++ plan) in
    let a = goals_ends (v ++ plan) in
    let b = plan_ends (w ++ (e ++ z)) in
    ap (λ t. begin_item (word "begin beliefs" ++ t)) (begin_words u v w e z)
    ∙ (λ i. (let g = drop 6 (list_left goals a hb i) in
    let p = drop 5 (behind_list g) in
    got (begin_said (record { beliefs = list_read goals a hb i; goals = list_of g; plan = list_of p }) ∷ []) (behind_line (behind_list p))))
    ∙ (λ i. (let p = drop 5 (list_left plan b hg i) in
    got (begin_said (record { beliefs = bs; goals = list_read plan b hg i; plan = list_of p }) ∷ []) (behind_line (behind_list p))))
    ∙ (λ i. got (begin_said (record { beliefs = bs; goals = gs; plan = last_list z hp he i }) ∷ []) (behind_last z hp he i))
