-- What each line says, read part by part, and what it makes of the card.
use mathlib.Core.Path.{◌≡◌, refl, ap, sym, ◌∙◌, subst}
use mathlib.Core.Bool.{Bool, true, false, ◌&&◌, and-eq-true_iff}
use mathlib.Core.List.{List, [], ◌∷◌, ◌++◌}
use mathlib.Core.Option.{Option, none}
use Prim.Native.Nat.{ℕ, ◌+◌, ◌-◌, ◌≤◌, ◌<◌}
use native.Mathlib.Decide.{dec_le}
use native.Mathlib.Omega.{arith}
use borrow.Author.Tests.{le-leb, lt-leb, eq-eqb, ne_eqb}
use lib.Dec.{leb, eqb}
use lib.ListN.{length, drop}
use Rattle.meaning.specs.Card.{Bytes}
use Rattle.meaning.specs.Place.{two_bytes}
use Rattle.notation.specs.Conditions.{Condition}
use Rattle.notation.specs.Built.{set_of}
use Rattle.notation.specs.Values.{Read, nested, got, then, number_value, digits_rest, list_of, behind_list, behind_line, condition_of, do_item_at, select_item_at}
use Rattle.notation.specs.Values.{revise_item_at, do_item, select_item, revise_item, begin_item, number_item, second_byte, Item, do_said, select_said, revise_said}
use Rattle.notation.specs.Making.{when, set_fits, last_node, made_nodes, pool_size, tree_in, plan_in, specification_in, selection_in, revision_in, weight_in, do_in}
use Rattle.notation.specs.Making.{select_in, revise_in, begin_in, item_in, items_in}
use Rattle.notation.specs.Making as Making
use Rattle.conditions.specs.Reads.{TextAt, capped, ReadsNumber}
use Rattle.conditions.specs.declared.number.Numeral.{Numeral}
use Rattle.lines.specs.declared.made.Made.{Made}
use Rattle.lines.specs.declared.lists.SetRead.{SetRead}
use Rattle.conditions.specs.declared.read.Nested.{Nested}
use Rattle.std.proofs.Common.{Result, Ok, Err}
use Rattle.std.specs.Prelude.{IsErr}
use Rattle.paper.proofs.Relation.{false≢true}
use Rattle.lines.specs.declared.parts.Placed.{Placed}
use Rattle.lines.specs.InPlace.{made_in}
use Rattle.lines.specs.Lines.{Change, Held, Puts, StepsOver, ReadsPart, Skips, BehindLine, ReadsSet, condition_in, last_in, pool_in, specification, specified}
use Rattle.lines.specs.Lines.{effects, behind_effects, plan_selected, behind_plan, body_revised, behind_body, start_in, start_planned, selection, revision}
use Rattle.lines.specs.Lines.{too_large, AtomsRead, with_atoms, behind_number, weighed}
use Rattle.lines.proofs.Sections.{becomes_large}
use Rattle.lines.proofs.Placing.{if_yes, if_no}
use Rattle.lines.proofs.Telling.{made_last, made_pool, atoms_capped, atoms_in, atoms_put}

-- ---- one part behind another

module _ {X Y : Type 0} (add : X → Change) (add' : Y → Change) (t : Bytes) (low low' : ℕ) (m m₀ : Made) (d d₀ : Bytes) where
  pub then_nested : (read : Read X) (k : X → Bytes → Read Y) (d' : Bytes) → ReadsPart add t low read m d (Err (record {})) d'
      → (r : Result Placed Nested) → IsErr r → ReadsPart add' t low' (then read k) m₀ d₀ r d'
  then_nested nested k d' q (Ok p) f = absurd (false≢true f)
  then_nested nested k d' q (Err x) f = q
  then_nested (got x rest) k d' q r f = absurd q

  pub then_at : (read : Read X) (k : X → Bytes → Read Y) (n : ℕ) (m₁ : Made) (d₁ : Bytes) (r : Result Placed Nested) (d' : Bytes) → ReadsPart add t low read m d (Ok (record { next = n; made = m₁ })) d₁
      → ((x : X) (rest : Bytes) → StepsOver t low rest (add x) m d n m₁ d₁ → ReadsPart add' t low' (k x rest) m₀ d₀ r d')
      → ReadsPart add' t low' (then read k) m₀ d₀ r d'
  then_at nested k n m₁ d₁ r d' q f = absurd q
  then_at (got x rest) k n m₁ d₁ r d' q f = f x rest q

-- where a part that was read ends, and what is held there
pub line_at : {X : Type 0} (add : X → Change) (t : Bytes) (low : ℕ) (read : Read X) (m : Made) (d : Bytes) (n : ℕ) (m₁ : Made) (d₁ : Bytes)
    → ReadsPart add t low read m d (Ok (record { next = n; made = m₁ })) d₁ → (n ≤ length t) × (low ≤ n) × Held m₁ d₁
line_at add t low nested m d n m₁ d₁ q = absurd q
line_at add t low (got x rest) m d n m₁ d₁ q = (q.place.0, q.on, q.puts.held)

when_same : {X : Type 0} (b : Bool) (x y : Option X) → (b ≡ true → x ≡ y) → when b x ≡ when b y
when_same true x y f = f refl
when_same false x y f = refl

-- ---- what comes behind a line's condition

abbrev do_then : Bytes → Condition → Bytes → Read (List Item)
do_then t c r =
    let a = drop 4 r in
    let d = drop 4 (behind_list a) in
    got (do_said (record { action = number_value (drop 3 t); condition = c; add = list_of a; del = list_of d }) ∷ []) (behind_line (behind_list d))

abbrev goal_then : Condition → Condition → Bytes → Read (List Item)
goal_then b g s = got (select_said (record { belief = b; goal = g; plan = list_of (drop 5 s) }) ∷ []) (behind_line (behind_list (drop 5 s)))

abbrev belief_then : Condition → Bytes → Read (List Item)
belief_then b r = then (condition_of (drop 6 r)) (goal_then b)

abbrev revise_then : Bytes → Condition → Bytes → Read (List Item)
revise_then t c r = got (revise_said (record { head = list_of (drop 6 t); condition = c; body = list_of (drop 3 r) }) ∷ []) (behind_line (behind_list (drop 3 r)))

-- ---- do lines

module _ (t : Bytes) (at s₁ s₂ : ℕ) (a e : SetRead) (next : ℕ) (v : ℕ) (m : Made) (d : Bytes) (h : Held m d) (m' : Made) (d' : Bytes) where
  pub effects_steps : Skips t at 4 s₁ → ReadsSet t s₁ a → Skips t a.next 4 s₂ → ReadsSet t s₂ e → BehindLine t e.next next
      → Puts (specified v (a.fits && e.fits) (last_in m) a.set e.set) m d m' d'
      → StepsOver t at (behind_effects (drop at t)) (effects v (drop at t)) m d next m' d'
  unfolding effects
  effects_steps k₁ r₁ k₂ r₂ b p =
      let T : Bytes = drop at t in
      let q₁ : drop s₁ t ≡ drop 4 T = k₁.2.1 in
      let q₂ : drop a.next t ≡ behind_list (drop 4 T) = r₁.1.1 ∙ ap behind_list q₁ in
      let q₃ : drop s₂ t ≡ drop 4 (behind_list (drop 4 T)) = k₂.2.1 ∙ ap (drop 4) q₂ in
      let q₄ : drop e.next t ≡ behind_list (drop 4 (behind_list (drop 4 T))) = r₂.1.1 ∙ ap behind_list q₃ in
      let add : List ℕ = list_of (drop 4 T) in
      let del : List ℕ = list_of (drop 4 (behind_list (drop 4 T))) in
      let fa : a.fits ≡ set_fits add = r₁.2 ∙ ap (λ (x : Bytes). set_fits (list_of x)) q₁ in
      let fe : e.fits ≡ set_fits del = r₂.2 ∙ ap (λ (x : Bytes). set_fits (list_of x)) q₃ in
      let o₁ = k₁.0 in let o₂ = r₁.0 in let o₃ = k₂.0 in let o₄ = r₂.0 in let o₅ = b.0 in
      record {
        place = (b.2.0, b.2.1 ∙ ap behind_line q₄);
        on = omega arith;
        puts = record {
          held = p.held;
          made =
              p.made
              ∙ when_same (leb v 255 && (a.fits && e.fits)) (specification_in (specification v (last_in m) a.set e.set) (made_in m d))
              (specification_in (specification v (last_node (made_nodes (made_in m d))) (set_of add) (set_of del)) (made_in m d)) (λ w.
              let both = (and-eq-true_iff a.fits e.fits).0 ((and-eq-true_iff (leb v 255) (a.fits && e.fits)).0 w).1 in
              let sa : a.set ≡ set_of add = r₁.3 both.0 ∙ ap (λ (x : Bytes). set_of (list_of x)) q₁ in
              let se : e.set ≡ set_of del = r₂.3 both.1 ∙ ap (λ (x : Bytes). set_of (list_of x)) q₃ in
              λ i. specification_in (specification v (sym (made_last m d h) i) (sa i) (se i)) (made_in m d))
              ∙ (λ i. when (leb v 255 && (fa i && fe i)) (specification_in (specification v (last_node (made_nodes (made_in m d))) (set_of add) (set_of del)) (made_in m d)));
        };
      }

-- an action's number that is 65,536 where it is greater
effects_capped : (n : ℕ) (t : Bytes) (o : Option Making.Sections) → effects (capped n) t o ≡ effects n t o
unfolding effects
effects_capped n t o = elim (dec_le n 65535) [
  | yes l ↦ (let e : capped n ≡ n = omega arith in ap (λ v. effects v t o) e)
  | no l ↦ gone (capped n) (lt-leb (capped n) 255 (omega arith)) ∙ sym (gone n (lt-leb n 255 (omega arith)))
]
  where
    gone : (v : ℕ) → leb v 255 ≡ false → effects v t o ≡ none
    gone v e =
        ap (λ b. when (b && (set_fits (list_of (drop 4 t)) && set_fits (list_of (drop 4 (behind_list (drop 4 t))))))
        (specification_in (specification v (last_node (made_nodes o)) (set_of (list_of (drop 4 t))) (set_of (list_of (drop 4 (behind_list (drop 4 t)))))) o)) e

module _ (t : Bytes) (at s₁ : ℕ) (num : Numeral) (s₂ : ℕ) (m : Made) (d : Bytes) (inside : at < length t)
    (k₁ : Skips t at 3 s₁) (r : ReadsNumber t s₁ num) (k₂ : Skips t num.next 4 s₂) where
  do_there : drop s₂ t ≡ drop 4 (digits_rest (drop 3 (drop at t)))
  do_there = k₂.2.1 ∙ ap (drop 4) (r.2.1 ∙ ap digits_rest k₁.2.1)

  pub do_nested : (res : Result Placed Nested) → IsErr res → (d₁ : Bytes) → ReadsPart condition_in t s₂ (condition_of (drop s₂ t)) m d (Err (record {})) d₁
      → ReadsPart items_in t (at + 1) (do_item (drop at t)) m d res d₁
  unfolding do_item_at
  do_nested res bad d₁ l = then_nested condition_in items_in t s₂ (at + 1) m m d d (condition_of (drop 4 (digits_rest (drop 3 (drop at t))))) (do_then (drop at t)) d₁ (subst (λ (x : Bytes). ReadsPart condition_in t s₂ (condition_of x) m d (Err (record {})) d₁) do_there l) res bad

  pub do_over : (n : ℕ) (m₁ : Made) (d₁ : Bytes) → ReadsPart condition_in t s₂ (condition_of (drop s₂ t)) m d (Ok (record { next = n; made = m₁ })) d₁
      → (next : ℕ) (m₂ : Made) (d₂ : Bytes) → StepsOver t n (behind_effects (drop n t)) (effects num.value (drop n t)) m₁ d₁ next m₂ d₂
      → ReadsPart items_in t (at + 1) (do_item (drop at t)) m d (Ok (record { next = next; made = m₂ })) d₂
  unfolding do_item_at items_in item_in do_in effects
  do_over n m₁ d₁ l next m₂ d₂ st =
      then_at condition_in items_in t s₂ (at + 1) m m d d (condition_of (drop 4 (digits_rest (drop 3 (drop at t))))) (do_then (drop at t)) n m₁ d₁ (Ok (record { next = next; made = m₂ })) d₂
      (subst (λ (x : Bytes). ReadsPart condition_in t s₂ (condition_of x) m d (Ok (record { next = n; made = m₁ })) d₁) do_there l)
      (λ c rest tr.
      let e : drop n t ≡ rest = tr.place.1 in
      let v : ℕ = number_value (drop 3 (drop at t)) in
      let ev : num.value ≡ capped v = r.0 ∙ ap (λ (x : Bytes). capped (number_value x)) k₁.2.1 in
      let o₁ = k₁.1 inside (omega arith) in let o₂ = r.1 in let o₃ = k₂.0 in let o₄ = tr.on in let o₅ = st.on in
      record {
        place = (st.place.0, st.place.1 ∙ ap behind_effects e);
        on = omega arith;
        puts = record {
          held = st.puts.held;
          made = st.puts.made ∙ (λ i. effects (ev i) (e i) (tr.puts.made i)) ∙ effects_capped v rest (tree_in c.tree (made_in m d));
        };
      })

-- ---- select lines

module _ (t : Bytes) (at s : ℕ) (n : ℕ) (m : Made) (d : Bytes) (h : Held m d) (m₁ : Made) (d₁ : Bytes) (next : ℕ) (m₂ : Made) (d₂ : Bytes) where
  pub selected_steps : (belief goal start len : ℕ) → Skips t at 5 s → StepsOver t s (behind_list (drop s t)) (plan_in (list_of (drop s t))) m d n m₁ d₁ → BehindLine t n next
      → goal ≡ last_in m → start ≡ pool_in m → len ≡ pool_in m₁ - pool_in m → Puts (selection_in (selection belief goal start len)) m₁ d₁ m₂ d₂
      → StepsOver t at (behind_plan (drop at t)) (plan_selected belief (drop at t)) m d next m₂ d₂
  unfolding plan_selected
  selected_steps belief goal start len k st b eg es el p =
      let q : drop s t ≡ drop 5 (drop at t) = k.2.1 in
      let mid : made_in m₁ d₁ ≡ plan_in (list_of (drop 5 (drop at t))) (made_in m d) = st.puts.made ∙ ap (λ (x : Bytes). plan_in (list_of x) (made_in m d)) q in
      let ps : pool_in m ≡ pool_size (made_in m d) = sym (made_pool m d h) in
      let pr : pool_in m₁ ≡ pool_size (plan_in (list_of (drop 5 (drop at t))) (made_in m d)) = sym (made_pool m₁ d₁ st.puts.held) ∙ ap pool_size mid in
      let o₁ = k.0 in let o₂ = st.on in let o₃ = b.0 in
      record {
        place = (b.2.0, b.2.1 ∙ ap behind_line (st.place.1 ∙ ap behind_list q));
        on = omega arith;
        puts = record {
          held = p.held;
          made =
              p.made
              ∙ (λ i. selection_in (selection belief (eg i) (es i) (el i)) (mid i))
              ∙ (λ i. selection_in (selection belief (sym (made_last m d h) i) (ps i) (pr i - ps i)) (plan_in (list_of (drop 5 (drop at t))) (made_in m d)));
        };
      }

module _ (t : Bytes) (at s₁ : ℕ) (m : Made) (d : Bytes) (inside : at < length t) (k₁ : Skips t at 10 s₁) where
  pub select_nested : (res : Result Placed Nested) → IsErr res → (d₁ : Bytes) → ReadsPart condition_in t s₁ (condition_of (drop s₁ t)) m d (Err (record {})) d₁
      → ReadsPart items_in t (at + 1) (select_item (drop at t)) m d res d₁
  unfolding select_item_at
  select_nested res bad d₁ l = then_nested condition_in items_in t s₁ (at + 1) m m d d (condition_of (drop 10 (drop at t))) belief_then d₁ (subst (λ (x : Bytes). ReadsPart condition_in t s₁ (condition_of x) m d (Err (record {})) d₁) k₁.2.1 l) res bad

  module _ (n : ℕ) (m₁ : Made) (d₁ : Bytes) (l₁ : ReadsPart condition_in t s₁ (condition_of (drop s₁ t)) m d (Ok (record { next = n; made = m₁ })) d₁) (s₂ : ℕ) (k₂ : Skips t n 6 s₂) where
    pub select_nested_2 : (res : Result Placed Nested) → IsErr res → (d₂ : Bytes) → ReadsPart condition_in t s₂ (condition_of (drop s₂ t)) m₁ d₁ (Err (record {})) d₂
        → ReadsPart items_in t (at + 1) (select_item (drop at t)) m d res d₂
    unfolding select_item_at
    select_nested_2 res bad d₂ l₂ =
        then_at condition_in items_in t s₁ (at + 1) m m d d (condition_of (drop 10 (drop at t))) belief_then n m₁ d₁ res d₂
        (subst (λ (x : Bytes). ReadsPart condition_in t s₁ (condition_of x) m d (Ok (record { next = n; made = m₁ })) d₁) k₁.2.1 l₁)
        (λ b rest tr.
        then_nested condition_in items_in t s₂ (at + 1) m₁ m d₁ d (condition_of (drop 6 rest)) (goal_then b) d₂
        (subst (λ (x : Bytes). ReadsPart condition_in t s₂ (condition_of x) m₁ d₁ (Err (record {})) d₂) (k₂.2.1 ∙ ap (drop 6) tr.place.1) l₂) res bad)

    pub select_over : (i : ℕ) (m₂ : Made) (d₂ : Bytes) → ReadsPart condition_in t s₂ (condition_of (drop s₂ t)) m₁ d₁ (Ok (record { next = i; made = m₂ })) d₂
        → (belief : ℕ) → belief ≡ last_in m₁ → (next : ℕ) (m₃ : Made) (d₃ : Bytes) → StepsOver t i (behind_plan (drop i t)) (plan_selected belief (drop i t)) m₂ d₂ next m₃ d₃
        → ReadsPart items_in t (at + 1) (select_item (drop at t)) m d (Ok (record { next = next; made = m₃ })) d₃
    unfolding select_item_at items_in item_in select_in plan_selected
    select_over i m₂ d₂ l₂ belief eb next m₃ d₃ st =
        then_at condition_in items_in t s₁ (at + 1) m m d d (condition_of (drop 10 (drop at t))) belief_then n m₁ d₁ (Ok (record { next = next; made = m₃ })) d₃
        (subst (λ (x : Bytes). ReadsPart condition_in t s₁ (condition_of x) m d (Ok (record { next = n; made = m₁ })) d₁) k₁.2.1 l₁)
        (λ b rest tr.
        then_at condition_in items_in t s₂ (at + 1) m₁ m d₁ d (condition_of (drop 6 rest)) (goal_then b) i m₂ d₂ (Ok (record { next = next; made = m₃ })) d₃
        (subst (λ (x : Bytes). ReadsPart condition_in t s₂ (condition_of x) m₁ d₁ (Ok (record { next = i; made = m₂ })) d₂) (k₂.2.1 ∙ ap (drop 6) tr.place.1) l₂)
        (λ g rest₂ tg.
        let e : drop i t ≡ rest₂ = tg.place.1 in
        let lb : belief ≡ last_node (made_nodes (tree_in b.tree (made_in m d))) = eb ∙ sym (made_last m₁ d₁ tr.puts.held) ∙ ap (λ o. last_node (made_nodes o)) tr.puts.made in
        let two : made_in m₂ d₂ ≡ tree_in g.tree (tree_in b.tree (made_in m d)) = tg.puts.made ∙ ap (tree_in g.tree) tr.puts.made in
        let o₁ = k₁.1 inside (omega arith) in let o₂ = tr.on in let o₃ = k₂.0 in let o₄ = tg.on in let o₅ = st.on in
        record {
          place = (st.place.0, st.place.1 ∙ ap behind_plan e);
          on = omega arith;
          puts = record { held = st.puts.held; made = st.puts.made ∙ (λ j. plan_selected (lb j) (e j) (two j)) };
        }))

-- ---- revise lines

module _ (t : Bytes) (at s : ℕ) (n : ℕ) (m : Made) (d : Bytes) (h : Held m d) (m₁ : Made) (d₁ : Bytes) (next : ℕ) (m₂ : Made) (d₂ : Bytes) where
  pub body_steps : (node head len body b : ℕ) → Skips t at 3 s → StepsOver t s (behind_list (drop s t)) (plan_in (list_of (drop s t))) m d n m₁ d₁ → BehindLine t n next
      → node ≡ last_in m → b ≡ pool_in m₁ - body → Puts (revision_in (revision node head len body b)) m₁ d₁ m₂ d₂
      → StepsOver t at (behind_body (drop at t)) (body_revised head len body (drop at t)) m d next m₂ d₂
  unfolding body_revised
  body_steps node head len body b k st w en eb p =
      let q : drop s t ≡ drop 3 (drop at t) = k.2.1 in
      let mid : made_in m₁ d₁ ≡ plan_in (list_of (drop 3 (drop at t))) (made_in m d) = st.puts.made ∙ ap (λ (x : Bytes). plan_in (list_of x) (made_in m d)) q in
      let pr : pool_in m₁ ≡ pool_size (plan_in (list_of (drop 3 (drop at t))) (made_in m d)) = sym (made_pool m₁ d₁ st.puts.held) ∙ ap pool_size mid in
      let o₁ = k.0 in let o₂ = st.on in let o₃ = w.0 in
      record {
        place = (w.2.0, w.2.1 ∙ ap behind_line (st.place.1 ∙ ap behind_list q));
        on = omega arith;
        puts = record {
          held = p.held;
          made =
              p.made
              ∙ (λ i. revision_in (revision (en i) head len body (eb i)) (mid i))
              ∙ (λ i. revision_in (revision (sym (made_last m d h) i) head len body (pr i - body)) (plan_in (list_of (drop 3 (drop at t))) (made_in m d)));
        };
      }

module _ (t : Bytes) (at s₁ : ℕ) (m : Made) (d : Bytes) (h : Held m d) (inside : at < length t) (k₁ : Skips t at 6 s₁) (n : ℕ) (m₁ : Made) (d₁ : Bytes)
    (p : StepsOver t s₁ (behind_list (drop s₁ t)) (plan_in (list_of (drop s₁ t))) m d n m₁ d₁) (s₂ : ℕ) (k₂ : Skips t n 4 s₂) where
  revise_there : drop s₂ t ≡ drop 4 (behind_list (drop 6 (drop at t)))
  revise_there = k₂.2.1 ∙ ap (drop 4) (p.place.1 ∙ ap behind_list k₁.2.1)

  pub revise_nested : (res : Result Placed Nested) → IsErr res → (d₂ : Bytes) → ReadsPart condition_in t s₂ (condition_of (drop s₂ t)) m₁ d₁ (Err (record {})) d₂
      → ReadsPart items_in t (at + 1) (revise_item (drop at t)) m d res d₂
  unfolding revise_item_at
  revise_nested res bad d₂ l = then_nested condition_in items_in t s₂ (at + 1) m₁ m d₁ d (condition_of (drop 4 (behind_list (drop 6 (drop at t))))) (revise_then (drop at t)) d₂ (subst (λ (x : Bytes). ReadsPart condition_in t s₂ (condition_of x) m₁ d₁ (Err (record {})) d₂) revise_there l) res bad

  pub revise_over : (i : ℕ) (m₂ : Made) (d₂ : Bytes) → ReadsPart condition_in t s₂ (condition_of (drop s₂ t)) m₁ d₁ (Ok (record { next = i; made = m₂ })) d₂
      → (head len body : ℕ) → head ≡ pool_in m → len ≡ pool_in m₁ - pool_in m → body ≡ pool_in m₁
      → (next : ℕ) (m₃ : Made) (d₃ : Bytes) → StepsOver t i (behind_body (drop i t)) (body_revised head len body (drop i t)) m₂ d₂ next m₃ d₃
      → ReadsPart items_in t (at + 1) (revise_item (drop at t)) m d (Ok (record { next = next; made = m₃ })) d₃
  unfolding revise_item_at items_in item_in revise_in body_revised
  revise_over i m₂ d₂ l head len body eh el eb next m₃ d₃ st =
      then_at condition_in items_in t s₂ (at + 1) m₁ m d₁ d (condition_of (drop 4 (behind_list (drop 6 (drop at t))))) (revise_then (drop at t)) i m₂ d₂ (Ok (record { next = next; made = m₃ })) d₃
      (subst (λ (x : Bytes). ReadsPart condition_in t s₂ (condition_of x) m₁ d₁ (Ok (record { next = i; made = m₂ })) d₂) revise_there l)
      (λ c rest tr.
      let e : drop i t ≡ rest = tr.place.1 in
      let one : made_in m₁ d₁ ≡ plan_in (list_of (drop 6 (drop at t))) (made_in m d) = p.puts.made ∙ ap (λ (x : Bytes). plan_in (list_of x) (made_in m d)) k₁.2.1 in
      let ps : pool_in m ≡ pool_size (made_in m d) = sym (made_pool m d h) in
      let pp : pool_in m₁ ≡ pool_size (plan_in (list_of (drop 6 (drop at t))) (made_in m d)) = sym (made_pool m₁ d₁ p.puts.held) ∙ ap pool_size one in
      let two : made_in m₂ d₂ ≡ tree_in c.tree (plan_in (list_of (drop 6 (drop at t))) (made_in m d)) = tr.puts.made ∙ ap (tree_in c.tree) one in
      let o₁ = k₁.1 inside (omega arith) in let o₂ = p.on in let o₃ = k₂.0 in let o₄ = tr.on in let o₅ = st.on in
      record {
        place = (st.place.0, st.place.1 ∙ ap behind_body e);
        on = omega arith;
        puts = record {
          held = st.puts.held;
          made =
              st.puts.made
              ∙ (λ j. body_revised (eh j) (el j) (eb j) (e j) (two j))
              ∙ (λ j. body_revised (ps j) (pp j - ps j) (pp j) rest (tree_in c.tree (plan_in (list_of (drop 6 (drop at t))) (made_in m d))));
        };
      })

-- ---- the begin line

module _ (t : Bytes) (at s : ℕ) (n : ℕ) (m : Made) (d : Bytes) (h : Held m d) (m₁ : Made) (d₁ : Bytes) (next : ℕ) (fits : Bool) (sets : Bytes)
    (k : Skips t at 5 s) (st : StepsOver t s (behind_list (drop s t)) (plan_in (list_of (drop s t))) m d n m₁ d₁) (b : BehindLine t n next) where
  start_there : made_in m₁ d₁ ≡ plan_in (list_of (drop 5 (drop at t))) (made_in m d)
  start_there = st.puts.made ∙ ap (λ (x : Bytes). plan_in (list_of x) (made_in m d)) k.2.1

  start_place : TextAt t next (behind_plan (drop at t))
  start_place = (b.2.0, b.2.1 ∙ ap behind_line (st.place.1 ∙ ap behind_list k.2.1))

  start_on : at ≤ next
  start_on = let o₁ = k.0 in let o₂ = st.on in let o₃ = b.0 in omega arith

  pub start_not : fits ≡ false → (m₂ : Made) → m₂ ≡ too_large m₁ → StepsOver t at (behind_plan (drop at t)) (start_planned fits sets (drop at t)) m d next m₂ d₁
  unfolding start_planned
  start_not e m₂ q =
      let gone = becomes_large (λ o. none) m₁ d₁ st.puts.held refl in
      record {
        place = start_place;
        on = start_on;
        puts = subst (λ x. Puts (start_planned fits sets (drop at t)) m d x d₁) (sym q) (record {
          held = gone.held;
          made = sym (ap (λ b. when b (start_in sets (pool_size (made_in m d)) (pool_size (plan_in (list_of (drop 5 (drop at t))) (made_in m d)) - pool_size (made_in m d)) (plan_in (list_of (drop 5 (drop at t))) (made_in m d)))) e);
        });
      }

  pub start_steps : fits ≡ true → (start len : ℕ) → start ≡ pool_in m → len ≡ pool_in m₁ - pool_in m → (m₂ : Made) (d₂ : Bytes) → Puts (start_in sets start len) m₁ d₁ m₂ d₂
      → StepsOver t at (behind_plan (drop at t)) (start_planned fits sets (drop at t)) m d next m₂ d₂
  unfolding start_planned
  start_steps e start len es el m₂ d₂ p =
      let ps : pool_in m ≡ pool_size (made_in m d) = sym (made_pool m d h) in
      let pr : pool_in m₁ ≡ pool_size (plan_in (list_of (drop 5 (drop at t))) (made_in m d)) = sym (made_pool m₁ d₁ st.puts.held) ∙ ap pool_size start_there in
      record {
        place = start_place;
        on = start_on;
        puts = record {
          held = p.held;
          made =
              p.made
              ∙ (λ i. start_in sets (es i) (el i) (start_there i))
              ∙ (λ i. start_in sets (ps i) (pr i - ps i) (plan_in (list_of (drop 5 (drop at t))) (made_in m d)))
              ∙ sym (ap (λ b. when b (start_in sets (pool_size (made_in m d)) (pool_size (plan_in (list_of (drop 5 (drop at t))) (made_in m d)) - pool_size (made_in m d)) (plan_in (list_of (drop 5 (drop at t))) (made_in m d)))) e);
        };
      }

module _ (t : Bytes) (at s₁ s₂ : ℕ) (b g : SetRead) (m : Made) (d : Bytes) (inside : at < length t) where
  pub begin_over : Skips t at 13 s₁ → ReadsSet t s₁ b → Skips t b.next 6 s₂ → ReadsSet t s₂ g
      → (next : ℕ) (m₁ : Made) (d₁ : Bytes) → StepsOver t g.next (behind_plan (drop g.next t)) (start_planned (b.fits && g.fits) (b.set ++ g.set) (drop g.next t)) m d next m₁ d₁
      → ReadsPart items_in t (at + 1) (begin_item (drop at t)) m d (Ok (record { next = next; made = m₁ })) d₁
  unfolding begin_item items_in item_in begin_in start_planned
  begin_over k₁ r₁ k₂ r₂ next m₁ d₁ st =
      let q₁ : drop s₁ t ≡ drop 13 (drop at t) = k₁.2.1 in
      let q₂ : drop s₂ t ≡ drop 6 (behind_list (drop 13 (drop at t))) = k₂.2.1 ∙ ap (drop 6) (r₁.1.1 ∙ ap behind_list q₁) in
      let q₃ : drop g.next t ≡ behind_list (drop 6 (behind_list (drop 13 (drop at t)))) = r₂.1.1 ∙ ap behind_list q₂ in
      let bs : List ℕ = list_of (drop 13 (drop at t)) in
      let gs : List ℕ = list_of (drop 6 (behind_list (drop 13 (drop at t)))) in
      let rest : Bytes = behind_list (drop 6 (behind_list (drop 13 (drop at t)))) in
      let fb : b.fits ≡ set_fits bs = r₁.2 ∙ ap (λ (x : Bytes). set_fits (list_of x)) q₁ in
      let fg : g.fits ≡ set_fits gs = r₂.2 ∙ ap (λ (x : Bytes). set_fits (list_of x)) q₂ in
      let p = plan_in (list_of (drop 5 rest)) (made_in m d) in
      let o₁ = k₁.1 inside (omega arith) in let o₂ = r₁.0 in let o₃ = k₂.0 in let o₄ = r₂.0 in let o₅ = st.on in
      record {
        place = (st.place.0, st.place.1 ∙ ap behind_plan q₃);
        on = omega arith;
        puts = record {
          held = st.puts.held;
          made =
              st.puts.made
              ∙ ap (λ (x : Bytes). start_planned (b.fits && g.fits) (b.set ++ g.set) x (made_in m d)) q₃
              ∙ when_same (b.fits && g.fits) (start_in (b.set ++ g.set) (pool_size (made_in m d)) (pool_size p - pool_size (made_in m d)) p)
              (start_in (set_of bs ++ set_of gs) (pool_size (made_in m d)) (pool_size p - pool_size (made_in m d)) p) (λ w.
              let both = (and-eq-true_iff b.fits g.fits).0 w in
              let sb : b.set ≡ set_of bs = r₁.3 both.0 ∙ ap (λ (x : Bytes). set_of (list_of x)) q₁ in
              let sg : g.set ≡ set_of gs = r₂.3 both.1 ∙ ap (λ (x : Bytes). set_of (list_of x)) q₂ in
              λ i. start_in (sb i ++ sg i) (pool_size (made_in m d)) (pool_size p - pool_size (made_in m d)) p)
              ∙ (λ i. when (fb i && fg i) (start_in (set_of bs ++ set_of gs) (pool_size (made_in m d)) (pool_size p - pool_size (made_in m d)) p));
        };
      }

-- ---- atoms and action lines

module _ (t : Bytes) (at s : ℕ) (num : Numeral) (next : ℕ) (m : Made) (inside : at < length t) where
  pub atoms_read : Skips t at 6 s → ReadsNumber t s num → BehindLine t num.next next → (m' : Made) → m' ≡ with_atoms m num.value
      → AtomsRead t at m (record { next = next; made = m' })
  atoms_read k r b m' e =
      let o₁ = k.1 inside (omega arith) in let o₂ = r.1 in let o₃ = b.0 in (
        omega arith,
        (b.2.0, b.2.1 ∙ ap behind_line (r.2.1 ∙ ap digits_rest k.2.1)),
        e ∙ ap (with_atoms m) (r.0 ∙ ap (λ (x : Bytes). capped (number_value x)) k.2.1) ∙ atoms_capped m (number_value (drop 6 (drop at t))),
      )

  module _ (d : Bytes) (h : Held m d) (k : Skips t at 7 s) (r : ReadsNumber t s num) (b : BehindLine t num.next next) where
    weight_place : TextAt t next (behind_number 7 (drop at t))
    weight_place = (b.2.0, b.2.1 ∙ ap behind_line (r.2.1 ∙ ap digits_rest k.2.1))

    weight_on : at + 1 ≤ next
    weight_on = let o₁ = k.1 inside (omega arith) in let o₂ = r.1 in let o₃ = b.0 in omega arith

    weight_value : num.value ≡ capped (number_value (drop 7 (drop at t)))
    weight_value = r.0 ∙ ap (λ (x : Bytes). capped (number_value x)) k.2.1

    pub weight_not : 65535 < num.value → (m' : Made) → m' ≡ too_large m → StepsOver t (at + 1) (behind_number 7 (drop at t)) (weighed (drop at t)) m d next m' d
    unfolding weighed
    weight_not l m' e =
        let v = weight_value in
        record {
          place = weight_place;
          on = weight_on;
          puts = subst (λ x. Puts (weighed (drop at t)) m d x d) (sym e) (becomes_large (weighed (drop at t)) m d h
              (if_no (leb (number_value (drop 7 (drop at t))) 65535) (weight_in (two_bytes (number_value (drop 7 (drop at t)))) (made_in m d)) none
              (lt-leb (number_value (drop 7 (drop at t))) 65535 (omega arith))));
        }

    pub weight_steps : num.value ≤ 65535 → (m' : Made) (d' : Bytes) → Puts (weight_in (two_bytes num.value)) m d m' d'
        → StepsOver t (at + 1) (behind_number 7 (drop at t)) (weighed (drop at t)) m d next m' d'
    unfolding weighed
    weight_steps l m' d' p =
        let v = weight_value in
        let w : num.value ≡ number_value (drop 7 (drop at t)) = omega arith in
        record {
          place = weight_place;
          on = weight_on;
          puts = record {
            held = p.held;
            made =
                p.made
                ∙ ap (λ x. weight_in (two_bytes x) (made_in m d)) w
                ∙ sym (if_yes (leb (number_value (drop 7 (drop at t))) 65535) (weight_in (two_bytes (number_value (drop 7 (drop at t)))) (made_in m d)) none
                (le-leb (number_value (drop 7 (drop at t))) 65535 (omega arith)));
          };
        }

module _ (t : Bytes) (at : ℕ) (m : Made) (d : Bytes) (h : Held m d) where
  pub atoms_over : second_byte (drop at t) ≡ 116 → (p : Placed) → AtomsRead t at m p → ReadsPart items_in t (at + 1) (number_item (drop at t)) m d (Ok (record { next = p.next; made = p.made })) d
  unfolding number_item items_in item_in
  atoms_over e p q =
      let n : ℕ = number_value (drop 6 (drop at t)) in
      let o = q.0 in
      subst (λ x. ReadsPart items_in t (at + 1) x m d (Ok (record { next = p.next; made = p.made })) d) (sym (if_yes (eqb (second_byte (drop at t)) 116) _ _ (eq-eqb _ 116 e)))
      (record { place = q.1; on = omega arith; puts = subst (λ x. Puts (atoms_in n) m d x d) (sym q.2) (atoms_put m d n h) })

  pub action_over : (second_byte (drop at t) ≡ 116 → ⊥) → (next : ℕ) (m' : Made) (d' : Bytes)
      → StepsOver t (at + 1) (behind_number 7 (drop at t)) (weighed (drop at t)) m d next m' d' → ReadsPart items_in t (at + 1) (number_item (drop at t)) m d (Ok (record { next = next; made = m' })) d'
  unfolding number_item items_in item_in weighed
  action_over e next m' d' st =
      subst (λ x. ReadsPart items_in t (at + 1) x m d (Ok (record { next = next; made = m' })) d') (sym (if_no (eqb (second_byte (drop at t)) 116) _ _ (ne_eqb _ 116 e))) st
