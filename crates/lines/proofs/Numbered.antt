-- Lists of numbers from a place of a text on, number by number, and what stands between them.
use mathlib.Core.Path.{◌≡◌, refl, ap, sym, ◌∙◌}
use mathlib.Core.Bool.{Bool, true, false}
use mathlib.Core.List.{List, [], ◌∷◌}
use mathlib.Core.Option.{Option}
use Prim.Native.Nat.{ℕ, zero, suc, ◌+◌, ◌-◌, ◌≤◌, ◌<◌}
use native.Mathlib.Omega.{arith}
use borrow.Author.Tests.{eq-eqb, ne_eqb, le-leb, lt-leb}
use lib.Dec.{leb}
use lib.ListN.{length, drop, get_or, length-drop}
use native.Mathlib.Decide.{dec_le}
use lib.Seq.{drop-drop}
use Rattle.paper.specs.Next.{if}
use Rattle.meaning.specs.Card.{Bytes}
use Rattle.notation.specs.Scanning.{digit}
use Rattle.notation.specs.Values.{number_value, digits_rest, list_goes_on, list_values, list_rest, list_of, behind_list, behind_line, second_byte}
use Rattle.notation.specs.Making.{when}
use Rattle.conditions.specs.Reads.{capped}
use Rattle.conditions.proofs.Numbers.{drop-cons, drop_none}

-- ---- the end of a line

module _ (t : Bytes) (n : ℕ) where
  pub line_none : n ≡ length t → behind_line (drop n t) ≡ drop n t
  unfolding behind_line
  line_none e = ap behind_line (drop_none t n e) ∙ sym (drop_none t n e)

  module _ (h : n < length t) where
    pub line_here : get_or t n 0 ≡ 10 → behind_line (drop n t) ≡ drop (n + 1) t
    unfolding behind_line
    line_here e = ap behind_line (drop-cons t n h) ∙ ap (λ b. if b (drop (n + 1) t) (behind_line (drop (n + 1) t))) (eq-eqb (get_or t n 0) 10 e)

    pub line_on : (get_or t n 0 ≡ 10 → ⊥) → behind_line (drop n t) ≡ behind_line (drop (n + 1) t)
    unfolding behind_line
    line_on e = ap behind_line (drop-cons t n h) ∙ ap (λ b. if b (drop (n + 1) t) (behind_line (drop (n + 1) t))) (ne_eqb (get_or t n 0) 10 e)

-- ---- lists

pub digits_shorter : (t : Bytes) → length (digits_rest t) ≤ length t
unfolding digits_rest
digits_shorter [] = omega arith
digits_shorter (x ∷ t) = go (digit x) (digits_shorter t)
  where
    go : (b : Bool) → length (digits_rest t) ≤ length t → length (if b (digits_rest t) (x ∷ t)) ≤ length (x ∷ t)
    go true h = omega arith
    go false h = omega arith

-- a list that goes on has two bytes
pub two_bytes_on : (t : Bytes) → list_goes_on t ≡ true → 2 ≤ length t
two_bytes_on [] e = absurd (let z : ◌≡◌ {A = ℕ} 0 1 = cc in omega arith)
two_bytes_on (x ∷ []) e = absurd (let z : ◌≡◌ {A = ℕ} 0 1 = cc in omega arith)
two_bytes_on (x ∷ (y ∷ t)) e = omega arith

-- it does not matter how many numbers may come, if they are enough
pub values_enough : (f g : ℕ) (t : Bytes) → length t ≤ f → length t ≤ g → list_values f t ≡ list_values g t
unfolding list_values
values_enough zero zero t h k = refl
values_enough zero (suc g) [] h k = refl
values_enough zero (suc g) (x ∷ t) h k = absurd (omega arith)
values_enough (suc f) zero [] h k = refl
values_enough (suc f) zero (x ∷ t) h k = absurd (omega arith)
values_enough (suc f) (suc g) [] h k = refl
values_enough (suc f) (suc g) (x ∷ t) h k =
    let l = digits_shorter t in
    ap (λ (ns : List ℕ). if (list_goes_on (x ∷ t)) (number_value t ∷ ns) []) (values_enough f g (digits_rest t) (omega arith) (omega arith))

pub rest_enough : (f g : ℕ) (t : Bytes) → length t ≤ f → length t ≤ g → list_rest f t ≡ list_rest g t
unfolding list_rest
rest_enough zero zero t h k = refl
rest_enough zero (suc g) [] h k = refl
rest_enough zero (suc g) (x ∷ t) h k = absurd (omega arith)
rest_enough (suc f) zero [] h k = refl
rest_enough (suc f) zero (x ∷ t) h k = absurd (omega arith)
rest_enough (suc f) (suc g) [] h k = refl
rest_enough (suc f) (suc g) (x ∷ t) h k =
    let l = digits_shorter t in
    ap (λ (r : Bytes). if (list_goes_on (x ∷ t)) r (x ∷ t)) (rest_enough f g (digits_rest t) (omega arith) (omega arith))

-- a number more
pub list_on : (t : Bytes) → list_goes_on t ≡ true → list_of t ≡ number_value (drop 1 t) ∷ list_of (digits_rest (drop 1 t))
unfolding list_values
list_on [] e = absurd (let z : ◌≡◌ {A = ℕ} 0 1 = cc in omega arith)
list_on (x ∷ t) e =
    ap (λ b. if b (number_value t ∷ list_values (length t) (digits_rest t)) []) e
    ∙ ap (λ (ns : List ℕ). number_value t ∷ ns) (values_enough (length t) (length (digits_rest t)) (digits_rest t) (digits_shorter t) (omega arith))

pub behind_on : (t : Bytes) → list_goes_on t ≡ true → behind_list t ≡ behind_list (digits_rest (drop 1 t))
unfolding list_rest
behind_on [] e = absurd (let z : ◌≡◌ {A = ℕ} 0 1 = cc in omega arith)
behind_on (x ∷ t) e =
    ap (λ b. if b (list_rest (length t) (digits_rest t)) (x ∷ t)) e
    ∙ rest_enough (length t) (length (digits_rest t)) (digits_rest t) (digits_shorter t) (omega arith)

-- no number more
pub list_over : (t : Bytes) → list_goes_on t ≡ false → list_of t ≡ []
unfolding list_values
list_over [] e = refl
list_over (x ∷ t) e = ap (λ b. if b (number_value t ∷ list_values (length t) (digits_rest t)) []) e

pub behind_over : (t : Bytes) → list_goes_on t ≡ false → behind_list t ≡ t
unfolding list_rest
behind_over [] e = refl
behind_over (x ∷ t) e = ap (λ b. if b (list_rest (length t) (digits_rest t)) (x ∷ t)) e

-- ---- from a place on

module _ (t : Bytes) (n : ℕ) where
  pub goes_inside : list_goes_on (drop n t) ≡ true → n + 1 < length t
  goes_inside e = omega (arith, two_bytes_on (drop n t) e, length-drop n t)

  module _ (e : list_goes_on (drop n t) ≡ true) (next : ℕ) (p : drop next t ≡ digits_rest (drop (n + 1) t)) where
    pub turn_list : list_of (drop n t) ≡ number_value (drop (n + 1) t) ∷ list_of (drop next t)
    turn_list =
        list_on (drop n t) e
        ∙ ap (λ (x : Bytes). number_value x ∷ list_of (digits_rest x)) (drop-drop 1 n t)
        ∙ ap (λ (x : Bytes). number_value (drop (n + 1) t) ∷ list_of x) (sym p)

    pub turn_behind : behind_list (drop n t) ≡ behind_list (drop next t)
    turn_behind = behind_on (drop n t) e ∙ ap (λ (x : Bytes). behind_list (digits_rest x)) (drop-drop 1 n t) ∙ ap behind_list (sym p)

-- ---- the second byte

module _ (t : Bytes) (at : ℕ) (h : at < length t) where
  pub second_none : length t - at < 2 → 0 ≡ second_byte (drop at t)
  second_none l = sym (ap second_byte (drop-cons t at h ∙ ap (λ (x : Bytes). get_or t at 0 ∷ x) (drop_none t (at + 1) (omega arith))))

  pub second_some : 2 ≤ length t - at → get_or t (at + 1) 0 ≡ second_byte (drop at t)
  second_some l = sym (ap second_byte (drop-cons t at h ∙ ap (λ (x : Bytes). get_or t at 0 ∷ x) (drop-cons t (at + 1) (omega arith))))

-- ---- a number that is 65,536 where it is greater

pub capped_when : {X : Type 0} (n room : ℕ) (g : ℕ → Option X) → room < 65536 → when (leb (capped n) room) (g (capped n)) ≡ when (leb n room) (g n)
capped_when n room g h = elim (dec_le n room) [
  | yes l ↦ (let e : capped n ≡ n = omega arith in ap (λ k. when (leb k room) (g k)) e)
  | no l ↦ ap (λ b. when b (g (capped n))) (lt-leb (capped n) room (omega arith)) ∙ sym (ap (λ b. when b (g n)) (lt-leb n room (omega arith)))
]

pub capped_leb : (n room : ℕ) → room < 65536 → leb (capped n) room ≡ leb n room
capped_leb n room h = elim (dec_le n room) [
  | yes l ↦ le-leb (capped n) room (omega arith) ∙ sym (le-leb n room l)
  | no l ↦ lt-leb (capped n) room (omega arith) ∙ sym (lt-leb n room (omega arith))
]
