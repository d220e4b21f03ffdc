-- What reading a text answers (02, Wish 2; docs/TEXT.md, "Refusals"), and what the lent buffer then holds.
use Rattle.std.specs.Prelude.{◌≡◌, Bool, not, ◌&&◌, List, [], ◌∷◌, ◌++◌, ℕ, suc, ◌≤◌, ◌<◌, leb, length, take, Ok, Err}
use Rattle.meaning.specs.declared.Refusal.{Refusal}
use Rattle.meaning.specs.Answers.{Answer}
use Rattle.meaning.specs.Trees.{Tree, true, believes, goal, and, or}
use Rattle.meaning.specs.Trees as Trees
use Rattle.meaning.specs.Card.{Bytes}
use Rattle.meaning.specs.Refusals.{Row, ◌given_when◌, first_given, and_then, all, card_answer}
use Rattle.meaning.specs.Calls.{over, room_for}
use Rattle.notation.specs.Conditions as Conditions
use Rattle.notation.specs.Lines.{Said, Text, conditions, plans, sets}
use Rattle.notation.specs.Built.{pool, sizes, built}

-- ---- 17

-- 02, Wish 2: "The reader accepts exactly this grammar": the text is derived.
abbrev pub Derived : Bytes → Type 0
Derived t = (s : Said) × Text t s

-- A text of the grammar begins with these bytes.
abbrev pub Begins : Bytes → Type 0
Begins u = (v : Bytes) × Derived (u ++ v)

-- 02, Wish 2: "17 text, with the place of the first byte that no continuation could make right (the length, if it just ends)".
-- docs/TEXT.md: "no text begins with the bytes up to and including that place, and some text begins with those before it".
pub record WrongAt (t : Bytes) (p : ℕ) : Type 0 where
  pub not_derived : Derived t → ⊥
  pub inside : p ≤ length t
  pub before : Begins (take p t)
  pub there : p < length t → Begins (take (suc p) t) → ⊥

-- ---- 18 and 25

-- Not 02, Wish 2: "18 nested too deep": "brackets and `!` together may nest 32 deep".
abbrev pub shallow : Said → Bool
shallow s = all (λ c. leb c.depth 32) (conditions s)

-- docs/TEXT.md: "the atom of `B` or `G` over 255", not so in a tree.
abbrev pub atoms_fit : Tree → Bool
atoms_fit true = Bool.true
atoms_fit (believes n) = leb n 255
atoms_fit (goal n) = leb n 255
atoms_fit (Trees.not t) = atoms_fit t
atoms_fit (and l r) = atoms_fit l && atoms_fit r
atoms_fit (or l r) = atoms_fit l && atoms_fit r

-- Not 02, Wish 2: "25 a number too large for its field": docs/TEXT.md has each field.
unfoldable pub numbers_fit : Said → Bool
numbers_fit s =
    leb s.atoms 65535
    && (all (λ w. leb w 65535) s.weights
    && (all (λ d. leb d.action 255) s.dos
    && (all (λ c. atoms_fit c.tree) (conditions s)
    && (all (all (λ a. leb a 255)) (plans s)
    && all (all (λ a. leb a 127)) (sets s)))))

-- Not 02, Wish 2: "or more entries or pool bytes than edition 1 allows".
unfoldable pub entries_fit : Said → Bool
entries_fit s =
    leb (length s.weights) 256
    && (leb (length s.dos) 256
    && (leb (length s.selects) 256
    && (leb (length s.revises) 256
    && (leb (sizes (Conditions.trees_of (conditions s))) 256
    && leb (length (pool s)) 8192))))

-- ---- the answer

-- 02, Wish 2: "18 nested too deep; 25 a number too large for its field, or more entries or pool bytes than edition 1 allows"
unfoldable pub text_table : List (Row Said)
text_table =
    (Refusal.Nested given_when (λ s. not (shallow s)))
    ∷ (Refusal.Large given_when (λ s. not (numbers_fit s && entries_fit s)))
    ∷ []

-- 02, Wish 2: "then 3 and 5 to 9 as for the card it would build; 12."
unfoldable pub said_answer : Said → Bytes → Answer
said_answer s out = and_then (first_given text_table s) (and_then (card_answer (built s)) (room_for (built s) out))

-- What reading a text answers: the number, how many bytes the card has, and what the lent buffer holds. 02, Wish 2: "Refusals, in
-- this order: 17 text, …"; 01, "Numbers the guide may answer": "Any count in a refusal is 0. No lent buffer is written."
pub data Reads (t out : Bytes) : Answer → ℕ → Bytes → Type 0 where
  no_text : {p : ℕ} → WrongAt t p → Reads t out (Err (Refusal.Text p)) 0 out
  refused : {s : Said} {q : Refusal} → Text t s → said_answer s out ≡ Err q → Reads t out (Err q) 0 out
  done : {s : Said} → Text t s → said_answer s out ≡ Ok tt → Reads t out (Ok tt) (length (built s)) (over (built s) out)
