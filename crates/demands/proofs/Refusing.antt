-- Demand 1: what each call may answer, and what a refusal hands back.
use mathlib.Core.Path.{◌≡◌, refl}
use mathlib.Core.List.{List, [], ◌∷◌, ◌++◌, Memᴰ}
use Prim.Native.Nat.{ℕ}
use Rattle.meaning.specs.declared.Refusal.{Refusal}
use Rattle.meaning.specs.Answers.{Answer, Checked}
use Rattle.std.specs.Prelude.{Err}
use Rattle.meaning.specs.declared.Configuration.{Configuration}
use Rattle.meaning.specs.declared.Reply.{Reply}
use Rattle.meaning.specs.declared.Graded.{Graded}
use Rattle.meaning.specs.declared.Written.{Written}
use Rattle.meaning.specs.declared.Ran.{Ran}
use Rattle.runs.specs.Order.{State}
use Rattle.meaning.specs.Card.{Bytes}
use Rattle.meaning.specs.Configurations.{empty}
use Rattle.meaning.specs.Refusals.{number_of, answer_number}
use Rattle.meaning.proofs.Tables.{done≢refused}
use Rattle.meaning.specs.Numbers.{checked_number}
use Rattle.demands.specs.Demands.{done_or_card, IsClosed, no_rule, front, condition}
use Rattle.demands.proofs.Among.{wider, card_among, configuration_among}
use Rattle.demands.proofs.Ways.{Checking, Replying, Grading, Writing, Taking, Running, good, refused, done, no_room, is_closed, plan_full}

-- ---- the number

-- a number among some is that of an answer equal to theirs
at_answer : {a a' : Answer} (ns : List ℕ) → a ≡ a' → Memᴰ (answer_number a) ns → Memᴰ (answer_number a') ns
at_answer ns e m = rw e at m

pub checked_among : (b : Bytes) (r : Checked) → Checking b r → Memᴰ (checked_number r) done_or_card
unfolding checked_number answer_number
checked_among b r (good h) = at_answer done_or_card h (card_among b)
checked_among b r (refused h) = at_answer done_or_card h (card_among b)

pub replied_among : (a : Answer) (s : State) (r : Reply) → Replying a s r → Memᴰ (answer_number a) done_or_card → Memᴰ (answer_number r.answer) done_or_card
replied_among a s r (done h) m = at_answer done_or_card h m
replied_among a s r (refused h) m = at_answer done_or_card h m

pub graded_among : (b : Bytes) (r : Graded) → Grading b r → Memᴰ (answer_number r.answer) done_or_card
graded_among b r (done h) = at_answer done_or_card h (card_among b)
graded_among b r (refused h) = at_answer done_or_card h (card_among b)

pub written_among : (b : Bytes) (c : Configuration) (xs out left : List ℕ) (r : Written) → Writing b c xs out r left
    → Memᴰ (answer_number r.answer) (done_or_card ++ (13 ∷ 12 ∷ []))
unfolding done_or_card answer_number number_of
written_among b c xs out left r (refused h) = wider (done_or_card ++ (13 ∷ [])) _ refl (at_answer _ h (configuration_among b c))
written_among b c xs out left r (no_room h l) = wider (12 ∷ []) _ refl (Memᴰ.head refl)
written_among b c xs out left r (done h l) = wider (0 ∷ []) _ refl (Memᴰ.head refl)

closed_among : {a : Answer} → IsClosed a → Memᴰ (answer_number a) (14 ∷ 15 ∷ 16 ∷ [])
unfolding answer_number number_of
closed_among no_rule = Memᴰ.head refl
closed_among front = Memᴰ.tail (Memᴰ.head refl)
closed_among condition = Memᴰ.tail (Memᴰ.tail (Memᴰ.head refl))

pub taken_among : (b : Bytes) (c : Configuration) (n : ℕ) (r : Reply) → Taking b c n r → Memᴰ (answer_number r.answer) (done_or_card ++ (13 ∷ 14 ∷ 15 ∷ 16 ∷ 11 ∷ []))
unfolding done_or_card answer_number number_of
taken_among b c n r (refused h) = wider (done_or_card ++ (13 ∷ [])) _ refl (at_answer _ h (configuration_among b c))
taken_among b c n r (is_closed h e w l) = wider (14 ∷ 15 ∷ 16 ∷ []) _ refl (closed_among w)
taken_among b c n r (plan_full h k c' m l) = wider (11 ∷ []) _ refl (Memᴰ.head refl)
taken_among b c n r (done h k c' m l) = wider (0 ∷ []) _ refl (Memᴰ.head refl)

pub ran_among : (b : Bytes) (c : Configuration) (budget : ℕ) (r : Ran) → Running b c budget r → Memᴰ (answer_number r.answer) (done_or_card ++ (13 ∷ []))
ran_among b c budget r (refused h) = at_answer _ h (configuration_among b c)
ran_among b c budget r (done h) = at_answer _ h (configuration_among b c)

-- ---- a refusal

pub replied_refused : (a : Answer) (s : State) (r : Reply) → Replying a s r → (q : Refusal) → r.answer ≡ Err q → r.configuration ≡ empty
replied_refused a s r (done h) q e = absurd (done≢refused e)
replied_refused a s r (refused h) q e = refl

pub graded_empty : (b : Bytes) (r : Graded) → Grading b r → r.configuration ≡ empty
graded_empty b r (done h) = refl
graded_empty b r (refused h) = refl

pub written_refused : (b : Bytes) (c : Configuration) (xs out left : List ℕ) (r : Written) → Writing b c xs out r left → (q : Refusal) → r.answer ≡ Err q
    → (left ≡ out) × ((r.configuration ≡ c) × (r.count ≡ 0))
written_refused b c xs out left r (refused h) q e = (refl, (refl, refl))
written_refused b c xs out left r (no_room h l) q e = (refl, (refl, refl))
written_refused b c xs out left r (done h l) q e = absurd (done≢refused e)

pub taken_refused : (b : Bytes) (c : Configuration) (n : ℕ) (r : Reply) → Taking b c n r → (q : Refusal) → r.answer ≡ Err q → r.configuration ≡ c
taken_refused b c n r (refused h) q e = refl
taken_refused b c n r (is_closed h k w l) q e = refl
taken_refused b c n r (plan_full h k c' m l) q e = refl
taken_refused b c n r (done h k c' m l) q e = absurd (done≢refused e)

pub ran_refused : (b : Bytes) (c : Configuration) (budget : ℕ) (r : Ran) → Running b c budget r → (q : Refusal) → r.answer ≡ Err q
    → (r.configuration ≡ c) × (r.count ≡ 0)
ran_refused b c budget r (refused h) q e = (refl, refl)
ran_refused b c budget r (done h) q e = absurd (done≢refused e)
