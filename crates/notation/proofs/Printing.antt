-- A printed text reads as its tree, and no text of that tree opens fewer brackets or nests less deep.
use mathlib.Core.Path.{◌≡◌, refl, ap, ◌∙◌, sym, subst}
use mathlib.Core.Bool.{Bool}
use mathlib.Core.Bool as Bool
use mathlib.Core.List.{[], ◌∷◌, ◌++◌, append-nil, append_assoc}
use Prim.Native.Nat.{ℕ, ◌<◌, suc, ◌+◌, ◌≤◌}
use Prim.Native.Char.{code}
use native.Mathlib.Omega.{arith}
use lib.Dec.{eqb, leb, ltb}
use lib.ListN.{length}
use Rattle.meaning.specs.declared.Refusal.{Refusal}
use Rattle.std.specs.Prelude.{Ok}
use Rattle.meaning.specs.declared.Layout.{Layout}
use borrow.Author.Tests.{ne_eqb, le-leb, lt-ltb}
use Rattle.meaning.specs.Trees.{Tree, true, believes, goal, and, or}
use Rattle.meaning.specs.Trees as Trees
use Rattle.meaning.specs.Card.{Bytes, layout, tree_at}
use Rattle.meaning.specs.Refusals.{Row, ◌given_when◌, first_given, and_then}
use Rattle.meaning.specs.Calls.{room_for, leaves_by}
use Rattle.meaning.proofs.Tables.{not_given}
use Rattle.notation.specs.Words.{word, Digits, Number, digits}
use Rattle.notation.specs.Words as Words
use Rattle.notation.specs.Conditions.{Condition, plain, joined, Unit, T, B, G, AndList, units, AndMore, last_unit, next_unit, OrList, and_lists, OrMore, last_list, next_list}
use Rattle.notation.specs.Conditions as Conditions
use Rattle.notation.specs.Built.{size}
use Rattle.notation.specs.Printing.{decimal, text_as, depth_as, deeper_if, decimal_in, depth_of, print_table, printed, print_answer, print_leaves}
use Rattle.notation.specs.Theorems.{brackets, PrintLaws, PrintsAny}
use Rattle.notation.specs.Cases.{print_cases, PrintCases}
use Rattle.notation.proofs.Decimals.{number_decimal}

-- ---- one more of a list

and_more : {v : Bytes} {c e : Condition} → AndMore v c e → {u : Bytes} {d : Condition} → Unit u d → AndMore (v ++ (word "&" ++ u)) c (joined and e d)
and_more (last_unit {c = c}) {u} {d} x = subst (λ (w : Bytes). AndMore (word "&" ++ w) c (joined and c d)) (append-nil u) (next_unit x last_unit)
and_more (next_unit {u = w} {v = v} y r) {u} x = rw (append_assoc w v (word "&" ++ u)) (next_unit y (and_more r x))

or_more : {v : Bytes} {c e : Condition} → OrMore v c e → {u : Bytes} {d : Condition} → AndList u d → OrMore (v ++ (word "|" ++ u)) c (joined or e d)
or_more (last_list {c = c}) {u} {d} x = subst (λ (w : Bytes). OrMore (word "|" ++ w) c (joined or c d)) (append-nil u) (next_list x last_list)
or_more (next_list {u = w} {v = v} y r) {u} x = rw (append_assoc w v (word "|" ++ u)) (next_list y (or_more r x))

and_behind : {v : Bytes} {c : Condition} → AndList v c → {u : Bytes} {d : Condition} → Unit u d → AndList (v ++ (word "&" ++ u)) (joined and c d)
and_behind (units {u = w} {v = v} y r) {u} x = rw (append_assoc w v (word "&" ++ u)) (units y (and_more r x))

or_behind : {v : Bytes} {c : Condition} → OrList v c → {u : Bytes} {d : Condition} → AndList u d → OrList (v ++ (word "|" ++ u)) (joined or c d)
or_behind (and_lists {u = w} {v = v} y r) {u} x = rw (append_assoc w v (word "|" ++ u)) (and_lists y (or_more r x))

one_unit : {u : Bytes} {c : Condition} → Unit u c → AndList u c
one_unit {u} {c} x = subst (λ (z : Bytes). AndList z c) (append-nil u) (units x last_unit)

one_list : {u : Bytes} {c : Condition} → AndList u c → OrList u c
one_list {u} {c} x = subst (λ (z : Bytes). OrList z c) (append-nil u) (and_lists x last_list)

-- ---- a printed text reads as its tree

abbrev read : ℕ → Tree → Condition
read w t = record { tree = t; depth = depth_as w t }

record Reads (t : Tree) : Type 0 where
  as_unit : Unit (text_as 2 t) (read 2 t)
  as_and : AndList (text_as 1 t) (read 1 t)
  as_or : OrList (text_as 0 t) (read 0 t)

-- of what is a unit in any place
of_unit : {t : Tree} → Unit (text_as 2 t) (read 2 t) → text_as 1 t ≡ text_as 2 t → text_as 0 t ≡ text_as 2 t → depth_as 1 t ≡ depth_as 2 t → depth_as 0 t ≡ depth_as 2 t → Reads t
of_unit {t} x e1 e0 d1 d0 = record {
  as_unit = x;
  as_and = rw (e1, d1) (one_unit x);
  as_or = rw (e0, d0) (one_list (one_unit x));
}

reads : (t : Tree) → Reads t
unfolding text_as depth_as
reads true = of_unit T refl refl refl refl
reads (believes n) = of_unit (B (number_decimal n)) refl refl refl refl
reads (goal n) = of_unit (G (number_decimal n)) refl refl refl refl
reads (Trees.not t) = of_unit (Conditions.! (reads t).as_unit) refl refl refl refl
reads (and l r) =
    let x = and_behind (reads l).as_and (reads r).as_unit in
    record { as_unit = Conditions.brackets (one_list x); as_and = x; as_or = one_list x }
reads (or l r) =
    let x = or_behind (reads l).as_or (reads r).as_and in
    record { as_unit = Conditions.brackets x; as_and = one_unit (Conditions.brackets x); as_or = x }

-- ---- brackets counted

both_brackets : (u v : Bytes) → brackets (u ++ v) ≡ brackets u + brackets v
unfolding brackets
both_brackets [] v = omega arith
both_brackets (x ∷ u) v = go (eqb x (code "(")) (both_brackets u v)
  where
    go : (b : Bool) → brackets (u ++ v) ≡ brackets u + brackets v → deeper_if b (brackets (u ++ v)) ≡ deeper_if b (brackets u) + brackets v
    go Bool.true e = omega arith
    go Bool.false e = e

-- a digit is none
digit_none : (d : ℕ) (u : Bytes) → brackets ((code "0" + d) ∷ u) ≡ brackets u
unfolding brackets
digit_none d u = ap (λ b. deeper_if b (brackets u)) (ne_eqb (code "0" + d) (code "(") (λ e. omega arith))

digits_none : {u : Bytes} {n m : ℕ} → Digits u n m → brackets u ≡ 0
unfolding brackets
digits_none Words.none = refl
digits_none (Words.more {u = u} d h r) = digit_none d u ∙ digits_none r

number_none : {u : Bytes} {n : ℕ} → Number u n → brackets u ≡ 0
number_none (digits {u = u} d h r) = digit_none d u ∙ digits_none r

decimal_none : (n : ℕ) → brackets (decimal n) ≡ 0
decimal_none n = number_none (number_decimal n)

one_bracket : (u : Bytes) → brackets (word "(" ++ (u ++ word ")")) ≡ suc (brackets u)
unfolding brackets
one_bracket u = let e = both_brackets u (word ")") in omega arith

-- ---- no text of the same tree nests less deep or opens fewer brackets

-- what is least where so much is wanted
record Least (w : ℕ) (u : Bytes) (c : Condition) : Type 0 where
  depth : depth_as w c.tree ≤ c.depth
  text : brackets (text_as w c.tree) ≤ brackets u

-- the more is wanted of a tree, the more there is, by one at most
pub record Wants (t : Tree) : Type 0 where
  pub depth_and : depth_as 0 t ≤ depth_as 1 t
  pub depth_unit : depth_as 1 t ≤ depth_as 2 t
  depth_one : depth_as 2 t ≤ suc (depth_as 0 t)
  text_and : brackets (text_as 0 t) ≤ brackets (text_as 1 t)
  text_unit : brackets (text_as 1 t) ≤ brackets (text_as 2 t)
  text_one : brackets (text_as 2 t) ≤ suc (brackets (text_as 0 t))

pub wants : (t : Tree) → Wants t
unfolding text_as depth_as
wants true = record { depth_and = omega arith; depth_unit = omega arith; depth_one = omega arith; text_and = omega arith; text_unit = omega arith; text_one = omega arith }
wants (believes n) = record { depth_and = omega arith; depth_unit = omega arith; depth_one = omega arith; text_and = omega arith; text_unit = omega arith; text_one = omega arith }
wants (goal n) = record { depth_and = omega arith; depth_unit = omega arith; depth_one = omega arith; text_and = omega arith; text_unit = omega arith; text_one = omega arith }
wants (Trees.not t) = record { depth_and = omega arith; depth_unit = omega arith; depth_one = omega arith; text_and = omega arith; text_unit = omega arith; text_one = omega arith }
wants (and l r) =
    let e = one_bracket (text_as 1 l ++ (word "&" ++ text_as 2 r)) in
    record { depth_and = omega arith; depth_unit = omega arith; depth_one = omega arith; text_and = omega arith; text_unit = omega arith; text_one = omega arith }
wants (or l r) =
    let e = one_bracket (text_as 0 l ++ (word "|" ++ text_as 1 r)) in
    record { depth_and = omega arith; depth_unit = omega arith; depth_one = omega arith; text_and = omega arith; text_unit = omega arith; text_one = omega arith }

least_B : {u : Bytes} (n : ℕ) → Least 2 (word "B" ++ u) (plain (believes n))
unfolding text_as depth_as brackets
least_B n = let e = decimal_none n in record { depth = omega arith; text = omega arith }

least_G : {u : Bytes} (n : ℕ) → Least 2 (word "G" ++ u) (plain (goal n))
unfolding text_as depth_as brackets
least_G n = let e = decimal_none n in record { depth = omega arith; text = omega arith }

least_not : {u : Bytes} {c : Condition} → Least 2 u c → Least 2 (word "!" ++ u) (Conditions.negated c)
unfolding text_as depth_as brackets
least_not m = let d = m.depth in record { depth = omega arith; text = m.text }

least_brackets : {u : Bytes} {c : Condition} → Least 0 u c → Least 2 (word "(" ++ (u ++ word ")")) (Conditions.bracketed c)
least_brackets {u} {c} m =
    let w = wants c.tree in
    let e = one_bracket u in
    record { depth = omega arith; text = omega arith }

least_and : (x : Bytes) {u : Bytes} {c d : Condition} → Least 1 x c → Least 2 u d → Least 1 (x ++ (word "&" ++ u)) (joined and c d)
unfolding text_as depth_as brackets
least_and x {u} {c} {d} m k =
    let e = both_brackets x (word "&" ++ u) in
    let f = both_brackets (text_as 1 c.tree) (word "&" ++ text_as 2 d.tree) in
    record { depth = omega arith; text = omega arith }

least_or : (x : Bytes) {u : Bytes} {c d : Condition} → Least 0 x c → Least 1 u d → Least 0 (x ++ (word "|" ++ u)) (joined or c d)
unfolding text_as depth_as brackets
least_or x {u} {c} {d} m k =
    let e = both_brackets x (word "|" ++ u) in
    let f = both_brackets (text_as 0 c.tree) (word "|" ++ text_as 1 d.tree) in
    record { depth = omega arith; text = omega arith }

fewer_and : {u : Bytes} {c : Condition} → Least 2 u c → Least 1 u c
fewer_and {u} {c} m = let w = wants c.tree in record { depth = omega arith; text = omega arith }

fewer_or : {u : Bytes} {c : Condition} → Least 1 u c → Least 0 u c
fewer_or {u} {c} m = let w = wants c.tree in record { depth = omega arith; text = omega arith }

least : {u : Bytes} {c : Condition} → OrList u c → Least 0 u c
unfolding text_as depth_as brackets
least r = elim r as
    (λ (u : Bytes) (c : Condition) (r : Unit u c). Least 2 u c)
    (λ (u : Bytes) (c : Condition) (r : AndList u c). Least 1 u c)
    (λ (v : Bytes) (c d : Condition) (r : AndMore v c d). (x : Bytes) → Least 1 x c → Least 1 (x ++ v) d)
    (λ (u : Bytes) (c : Condition) (r : OrList u c). Least 0 u c)
    (λ (v : Bytes) (c d : Condition) (r : OrMore v c d). (x : Bytes) → Least 0 x c → Least 0 (x ++ v) d) [
      | T ↦ record { depth = omega arith; text = omega arith }
      | B {n = n} h ↦ least_B n
      | G {n = n} h ↦ least_G n
      | Conditions.! (h → ih) ↦ least_not ih
      | Conditions.brackets (h → ih) ↦ least_brackets ih
      | units {u = u} (h → ih) (k → more) ↦ more u (fewer_and ih)
      | last_unit {c = c} ↦ λ x m. subst (λ (z : Bytes). Least 1 z c) (sym (append-nil x)) m
      | next_unit {u = u} {v = v} {e = e} (h → ih) (k → more) ↦ λ x m. subst (λ (z : Bytes). Least 1 z e) (append_assoc x (word "&" ++ u) v) (more (x ++ (word "&" ++ u)) (least_and x m ih))
      | and_lists {u = u} (h → ih) (k → more) ↦ more u (fewer_or ih)
      | last_list {c = c} ↦ λ x m. subst (λ (z : Bytes). Least 0 z c) (sym (append-nil x)) m
      | next_list {u = u} {v = v} {e = e} (h → ih) (k → more) ↦ λ x m. subst (λ (z : Bytes). Least 0 z e) (append_assoc x (word "|" ++ u) v) (more (x ++ (word "|" ++ u)) (least_or x m ih))
    ]

pub print_laws : PrintLaws
print_laws = record { same_tree = λ t. (reads t).as_or; fewest_brackets = λ r. (least r).text; least_depth = λ r. (least r).depth }

-- ---- the whole call, and the examples

-- no row holds
rows_pass : (l : Layout) (b : Bytes) (n : ℕ) → n < l.nodes.count → depth_of (tree_at l b n) ≤ 32 → size (tree_at l b n) ≤ 256 → first_given (print_table l b) n ≡ Ok tt
unfolding print_table first_given
rows_pass l b n known shallow few =
    let unknown : Row ℕ = Refusal.Rule given_when (λ n. Bool.not (ltb n l.nodes.count)) in
    let nested : Row ℕ = Refusal.Nested given_when (λ n. Bool.not (leb (depth_of (tree_at l b n)) 32)) in
    let large : Row ℕ = Refusal.Large given_when (λ n. Bool.not (leb (size (tree_at l b n)) 256)) in
    not_given unknown (nested ∷ (large ∷ [])) n (ap Bool.not (lt-ltb n l.nodes.count known))
    ∙ not_given nested (large ∷ []) n (ap Bool.not (le-leb (depth_of (tree_at l b n)) 32 shallow))
    ∙ not_given large [] n (ap Bool.not (le-leb (size (tree_at l b n)) 256 few))

pub prints_any : PrintsAny
unfolding printed print_answer print_leaves
prints_any b n out card known shallow few room =
    let fits : room_for (printed b n) out ≡ Ok tt = rw (le-leb (length (printed b n)) (length out) room, room_for) in
    let done : print_answer b n out ≡ Ok tt = (λ i. and_then (card i) (and_then (rows_pass (layout b) b n known shallow few i) (fits i))) in
    (done, ap (λ a. leaves_by a (printed b n) out) done, (reads (tree_at (layout b) b n)).as_or)

pub print_cases_lem : PrintCases
unfolding print_cases text_as decimal decimal_in
print_cases_lem = refl
