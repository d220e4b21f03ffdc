-- Each refusal of the printer is given exactly when, in its order.
use mathlib.Core.Path.{◌≡◌, refl, ap, ◌∙◌, sym}
use mathlib.Core.Bool.{Bool, true, false, not}
use Prim.Native.Nat.{ℕ, ◌≤◌, ◌<◌}
use native.Mathlib.Omega.{arith}
use borrow.Author.Tests.{leb-true, leb-false, le-leb, lt-leb, ltb-true, ltb-false, lt-ltb, le-ltb}
use lib.Dec.{leb, ltb}
use lib.ListN.{length}
use Rattle.meaning.specs.declared.Refusal.{Refusal}
use Rattle.meaning.specs.Answers.{Answer}
use Rattle.std.specs.Prelude.{Ok, Err}
use Rattle.meaning.specs.Trees.{Tree}
use Rattle.meaning.specs.Card.{Bytes, layout, tree_at}
use Rattle.meaning.specs.Refusals.{number_of, answer_number, first_given, and_then, card_answer}
use Rattle.meaning.specs.Calls.{room_for}
use Rattle.meaning.proofs.Tables.{and_then_done}
use Rattle.notation.specs.Built.{size}
use Rattle.notation.specs.Printing.{depth_of, print_table, printed, print_answer}
use Rattle.notation.specs.Theorems.{KnownNode, PrintRefusalsLaw}
use Rattle.notation.proofs.Laws.{card_below, same_number}

-- ---- the answer by what each row asks: the node is known, its text is shallow, its nodes are few, and there is room

abbrev by : Bool → Bool → Bool → Bool → Answer
by false d f r = Err Refusal.Rule
by true false f r = Err Refusal.Nested
by true true false r = Err Refusal.Large
by true true true false = Err Refusal.NoRoom
by true true true true = Ok tt

in_order : (k d f r : Bool)
    → and_then (elim (not k) [ true ↦ Err Refusal.Rule | false ↦ elim (not d) [ true ↦ Err Refusal.Nested | false ↦ elim (not f) [ true ↦ Err Refusal.Large | false ↦ Ok tt ] ] ])
    (elim r [ true ↦ Ok tt | false ↦ Err Refusal.NoRoom ])
    ≡ by k d f r
in_order false d f r = refl
in_order true false f r = refl
in_order true true false r = refl
in_order true true true false = refl
in_order true true true true = refl

-- ---- which row it was, by the answer's number

by_unknown : (k d f r : Bool) → answer_number (by k d f r) ≡ 7 → k ≡ false
unfolding answer_number number_of
by_unknown false d f r e = refl
by_unknown true false f r e = absurd (omega arith)
by_unknown true true false r e = absurd (omega arith)
by_unknown true true true false e = absurd (omega arith)
by_unknown true true true true e = absurd (omega arith)

by_nested : (k d f r : Bool) → answer_number (by k d f r) ≡ 18 → (k ≡ true) × (d ≡ false)
unfolding answer_number number_of
by_nested false d f r e = absurd (omega arith)
by_nested true false f r e = (refl, refl)
by_nested true true false r e = absurd (omega arith)
by_nested true true true false e = absurd (omega arith)
by_nested true true true true e = absurd (omega arith)

by_large : (k d f r : Bool) → answer_number (by k d f r) ≡ 25 → (k ≡ true) × (d ≡ true) × (f ≡ false)
unfolding answer_number number_of
by_large false d f r e = absurd (omega arith)
by_large true false f r e = absurd (omega arith)
by_large true true false r e = (refl, refl, refl)
by_large true true true false e = absurd (omega arith)
by_large true true true true e = absurd (omega arith)

by_room : (k d f r : Bool) → answer_number (by k d f r) ≡ 12 → (k ≡ true) × (d ≡ true) × (f ≡ true) × (r ≡ false)
unfolding answer_number number_of
by_room false d f r e = absurd (omega arith)
by_room true false f r e = absurd (omega arith)
by_room true true false r e = absurd (omega arith)
by_room true true true false e = (refl, refl, refl, refl)
by_room true true true true e = absurd (omega arith)

by_done : (k d f r : Bool) → answer_number (by k d f r) ≡ 0 → (k ≡ true) × (d ≡ true) × (f ≡ true) × (r ≡ true)
unfolding answer_number number_of
by_done false d f r e = absurd (omega arith)
by_done true false f r e = absurd (omega arith)
by_done true true false r e = absurd (omega arith)
by_done true true true false e = absurd (omega arith)
by_done true true true true e = (refl, refl, refl, refl)

-- ---- the printer

module _ (b : Bytes) (n : ℕ) (out : Bytes) where
  abbrev tree : Tree
  tree = tree_at (layout b) b n

  abbrev known : Bool
  known = ltb n (layout b).nodes.count

  abbrev shallow : Bool
  shallow = leb (depth_of tree) 32

  abbrev few : Bool
  few = leb (size tree) 256

  abbrev room : Bool
  room = leb (length (printed b n)) (length out)

  answered : card_answer b ≡ Ok tt → print_answer b n out ≡ by known shallow few room
  unfolding print_answer print_table first_given
  answered card =
      ap (λ a. and_then a (and_then (first_given (print_table (layout b) b) n) (room_for (printed b n) out))) card ∙ in_order known shallow few room

  answered_as : card_answer b ≡ Ok tt → (k d f r : Bool) → known ≡ k → shallow ≡ d → few ≡ f → room ≡ r → print_answer b n out ≡ by k d f r
  answered_as card k d f r ek ed ef er = answered card ∙ (λ i. by (ek i) (ed i) (ef i) (er i))

  abbrev behind : Answer
  behind = and_then (first_given (print_table (layout b) b) n) (room_for (printed b n) out)

  -- a number that no card is refused with is answered of an accepted card
  accepted_then : (q : Refusal) → 10 ≤ number_of q → print_answer b n out ≡ Err q → card_answer b ≡ Ok tt
  unfolding print_answer answer_number
  accepted_then q above e = go (card_answer b) refl
    where
      go : (c : Answer) → card_answer b ≡ c → card_answer b ≡ Ok tt
      go (Ok _) h = h
      go (Err p) h =
          let same : number_of p ≡ number_of q = same_number (sym (ap (λ c. and_then c behind) h) ∙ e) in
          absurd (omega (arith, card_below b p h))

  -- what each row asked, by the answer
  asked : {x : Answer} {m : ℕ} → card_answer b ≡ Ok tt → answer_number x ≡ m → print_answer b n out ≡ x → answer_number (by known shallow few room) ≡ m
  asked card is e = same_number (sym (answered card) ∙ e) ∙ is

  card_refused : (q : Refusal) → card_answer b ≡ Err q → print_answer b n out ≡ Err q
  unfolding print_answer
  card_refused q e = ap (λ c. and_then c behind) e

  unknown_to : card_answer b ≡ Ok tt → print_answer b n out ≡ Err Refusal.Rule → (layout b).nodes.count ≤ n
  unfolding answer_number number_of
  unknown_to card e = ltb-false _ _ (by_unknown known shallow few room (asked card refl e))

  nested_to : print_answer b n out ≡ Err Refusal.Nested → KnownNode b n × (32 < depth_of tree)
  unfolding answer_number number_of
  nested_to e =
      let card = accepted_then Refusal.Nested (omega arith) e in
      let (k, d) = by_nested known shallow few room (asked card refl e) in
      ((card, ltb-true _ _ k), leb-false _ _ d)

  large_to : print_answer b n out ≡ Err Refusal.Large → KnownNode b n × ((depth_of tree ≤ 32) × (256 < size tree))
  unfolding answer_number number_of
  large_to e =
      let card = accepted_then Refusal.Large (omega arith) e in
      let (k, d, f) = by_large known shallow few room (asked card refl e) in
      ((card, ltb-true _ _ k), (leb-true _ _ d, leb-false _ _ f))

  room_to : print_answer b n out ≡ Err Refusal.NoRoom
      → KnownNode b n × ((depth_of tree ≤ 32) × ((size tree ≤ 256) × (length out < length (printed b n))))
  unfolding answer_number number_of
  room_to e =
      let card = accepted_then Refusal.NoRoom (omega arith) e in
      let (k, d, f, r) = by_room known shallow few room (asked card refl e) in
      ((card, ltb-true _ _ k), (leb-true _ _ d, (leb-true _ _ f, leb-false _ _ r)))

  done_to : print_answer b n out ≡ Ok tt → KnownNode b n × ((depth_of tree ≤ 32) × ((size tree ≤ 256) × (length (printed b n) ≤ length out)))
  unfolding print_answer answer_number
  done_to e =
      let card = (and_then_done (card_answer b) behind e).0 in
      let (k, d, f, r) = by_done known shallow few room (asked card refl e) in
      ((card, ltb-true _ _ k), (leb-true _ _ d, (leb-true _ _ f, leb-true _ _ r)))

pub print_refusals : PrintRefusalsLaw
print_refusals b n out = record {
  card_first = card_refused b n out;
  unknown_exactly = λ card. (unknown_to b n out card, λ h. answered_as b n out card false _ _ _ (le-ltb _ _ h) refl refl refl);
  nested_exactly = (nested_to b n out, λ ((card, h), d). answered_as b n out card true false _ _ (lt-ltb _ _ h) (lt-leb _ _ d) refl refl);
  large_exactly = (
    large_to b n out,
    λ ((card, h), (d, f)). answered_as b n out card true true false _ (lt-ltb _ _ h) (le-leb _ _ d) (lt-leb _ _ f) refl,
  );
  room_exactly = (
    room_to b n out,
    λ ((card, h), (d, (f, r))). answered_as b n out card true true true false (lt-ltb _ _ h) (le-leb _ _ d) (le-leb _ _ f) (lt-leb _ _ r),
  );
  done_exactly = (
    done_to b n out,
    λ ((card, h), (d, (f, r))). answered_as b n out card true true true true (lt-ltb _ _ h) (le-leb _ _ d) (le-leb _ _ f) (le-leb _ _ r),
  );
}
