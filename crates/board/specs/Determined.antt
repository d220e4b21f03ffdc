-- The contract of each of the functions for C, by the one name that its `ensures` cites, and that it leaves one answer
-- (proved in proofs/). n is the return value. What is lent to be written is named as it is left: c for a configuration's six
-- parts, left for a list, a place, a card or a text, the others as in include/rigtemple.h. What is lent to be read stays as it is.
use Rattle.std.specs.Prelude.{◌≡◌, List, ℕ}
use Rattle.meaning.specs.Answers.{Answer}
use Rattle.meaning.specs.declared.Configuration.{Configuration}
use Rattle.meaning.specs.Card.{Bytes}
use Rattle.meaning.specs.Calls.{checks, loads, grades, lists, list_leaves, takes, runs, nexts, saves, save_leaves, restores}
use Rattle.meaning.specs.BoundedCalls.{bounded_takes, bounded_runs}
use Rattle.meaning.specs.Refusals.{answer_number}
use Rattle.meaning.specs.Numbers.{checked_number}
use Rattle.notation.specs.Reading.{Reads}
use Rattle.notation.specs.Printing as Printing
use Rattle.deliberation.specs.Deliberate.{goes_on, deliberates}
use Rattle.names.specs.Naming.{Question, names}
use Rattle.board.specs.Header.{whole, replied, took, graded_as, listed_as, looked_as, wrote, read_as, ran_to, next_as, deliberated_to, named_as}

-- ---- the contracts

-- 01, "What the guide does": "check a card": the answer's number.
abbrev pub Checks : Bytes → ℕ → Type 0
Checks card n = n ≡ checked_number (checks card)

-- 01, "What the guide does": "load it": the answer's number, and "the card's initial beliefs, goals and plan with phase 0".
abbrev pub Loads : Bytes → ℕ → Configuration → Type 0
Loads card n c = replied (loads card) n c

-- 01, "What the guide does": "grade the card": the answer's number, and "the verdict carries the first offender".
abbrev pub Grades : Bytes → ℕ → ℕ → ℕ → ℕ → Type 0
Grades card n verdict offender number = graded_as (grades card) n verdict offender number

-- 01, "What the guide does": "list the enabled moves": of a configuration d, into a list. "the answer tells how many, and what
-- lies after them stays"
abbrev pub Lists : Bytes → Configuration → List ℕ → ℕ → List ℕ → ℕ → Type 0
Lists card d list n left count = listed_as (lists card d list) (list_leaves card d list) n count left

-- 02, Wish 11: "The listing reports that number", and "how many goals are open": the same call, with both.
abbrev pub ListLooks : Bytes → Configuration → List ℕ → ℕ → List ℕ → ℕ → ℕ → ℕ → Type 0
ListLooks card d list n left count judged goals = looked_as (lists card d list) (list_leaves card d list) n count judged goals left

-- 01, "What the guide does": "take a chosen move": from a configuration d. "A refusal answers the number and the configuration
-- as it came in"; 02, Wish 1: "16 a condition is false, with the node"
abbrev pub Takes : Bytes → Configuration → ℕ → ℕ → Configuration → ℕ → Type 0
Takes card d choice n c node = took (takes card d choice) n c node

-- 01, "What the guide does": "run by itself": from a configuration d. "the configuration reached, how many transitions were
-- taken, and one of three endings"
abbrev pub Runs : Bytes → Configuration → ℕ → ℕ → Configuration → ℕ → ℕ → Type 0
Runs card d budget n c count ending = ran_to (runs card d budget) n c count ending

-- 02, Wish 10: "a chosen move for bounded cards": from a configuration d. In the header's numbers 11 has one, which no answer of
-- these calls is (every_call/specs/EveryCall.antt `take_bounded_listed`).
abbrev pub BoundedTakes : Bytes → Configuration → ℕ → ℕ → Configuration → ℕ → Type 0
BoundedTakes card d choice n c node = took (bounded_takes card d choice) n c node

-- 02, Wish 10: "a run … for bounded cards": from a configuration d. "the configuration reached, how many transitions were taken",
-- and one of two endings.
abbrev pub BoundedRuns : Bytes → Configuration → ℕ → ℕ → Configuration → ℕ → ℕ → Type 0
BoundedRuns card d budget n c count ending = ran_to (bounded_runs card d budget) n c count ending

-- 00, the card: "The guide shows the next move.": of a configuration d, and which it is.
abbrev pub Nexts : Bytes → Configuration → ℕ → ℕ → ℕ → Type 0
Nexts card d n coming choice = next_as (nexts card d) n coming choice

-- 02, Wish 6: a program under a card, from a configuration d. "The answer holds the remaining program as entry numbers, the next
-- first": remaining, of which length are such, and zeros behind them. In a refusal none of the lent bytes is written.
abbrev pub Deliberates : Bytes → Bytes → Configuration → ℕ → Bytes → ℕ → Configuration → ℕ → ℕ → Bytes → ℕ → Type 0
Deliberates card program d budget lent n c count ending remaining length =
    deliberated_to (deliberates card program d budget lent) n c count ending remaining length

-- the same from given numbers that remain of the program
abbrev pub GoesOn : Bytes → Bytes → List ℕ → Configuration → ℕ → Bytes → ℕ → Configuration → ℕ → ℕ → Bytes → ℕ → Type 0
GoesOn card program numbers d budget lent n c count ending remaining length =
    deliberated_to (goes_on card program numbers d budget lent) n c count ending remaining length

-- 01, "What the guide does": "save a place": of a configuration d, into a place. "Saving writes 44 + L bytes and no others."
abbrev pub Saves : Bytes → Configuration → Bytes → ℕ → Bytes → ℕ → Type 0
Saves card d place n left count = wrote (saves card d place) (save_leaves card d place) n count left

-- 01, "What the guide does": "and restore it": the configuration, or in a refusal "the empty one (no atoms, empty plan, phase 0)".
abbrev pub Restores : Bytes → Bytes → ℕ → Configuration → Type 0
Restores card place n c = replied (restores card place) n c

-- 02, Wish 2: "The reader accepts exactly this grammar and builds an edition 1 card", into a lent card. "17 text, with the place of
-- the first byte that no continuation could make right"
abbrev pub ReadsText : Bytes → Bytes → ℕ → Bytes → ℕ → ℕ → Type 0
ReadsText text card n left count place = (x : Answer) × Reads text card x count left × read_as x n place

-- 02, Wish 2: "a printer writes any condition of at most 256 printed nodes nested within the limit back as text": of a node, into a
-- lent text.
abbrev pub Prints : Bytes → ℕ → Bytes → ℕ → Bytes → ℕ → Type 0
Prints card node text n left count =
    (x : Answer) × Printing.Prints card node text x count left × (n ≡ answer_number x)

-- 02, Wish 8: "hands back the part of the shed's sheet that holds its name, or the part of the master sheet": asked of both sheets
-- for an action.
abbrev pub Names : Bytes → Question → ℕ → ℕ → ℕ → ℕ → Type 0
Names card asked n sheet start length = named_as (names card asked) n sheet start length

-- ---- one answer

-- 01, "What the contracts settle": "For each public function and each input, refusals too, the contract determines the answer
-- and every byte and number in lent buffers afterwards; equality of any two conforming answers is proved".
pub record DeterminedParts : Type 0 where
  pub check : (card : Bytes) (n n' : ℕ) → Checks card n → Checks card n' → n ≡ n'
  pub load : (card : Bytes) (n n' : ℕ) (c c' : Configuration) → Loads card n c → Loads card n' c' → (n ≡ n') × (c ≡ c')
  pub grade : (card : Bytes) (n n' verdict verdict' offender offender' number number' : ℕ)
      → Grades card n verdict offender number → Grades card n' verdict' offender' number'
      → (n ≡ n') × (verdict ≡ verdict') × (offender ≡ offender') × (number ≡ number')
  pub list : (card : Bytes) (d : Configuration) (list left left' : List ℕ) (n n' count count' : ℕ)
      → Lists card d list n left count → Lists card d list n' left' count' → (n ≡ n') × (left ≡ left') × (count ≡ count')
  pub list_looks : (card : Bytes) (d : Configuration) (list left left' : List ℕ) (n n' count count' judged judged' goals goals' : ℕ)
      → ListLooks card d list n left count judged goals → ListLooks card d list n' left' count' judged' goals'
      → (n ≡ n') × (left ≡ left') × (count ≡ count') × (judged ≡ judged') × (goals ≡ goals')
  pub take : (card : Bytes) (d : Configuration) (choice n n' : ℕ) (c c' : Configuration) (node node' : ℕ)
      → Takes card d choice n c node → Takes card d choice n' c' node' → (n ≡ n') × (c ≡ c') × (node ≡ node')
  pub run : (card : Bytes) (d : Configuration) (budget n n' : ℕ) (c c' : Configuration) (count count' ending ending' : ℕ)
      → Runs card d budget n c count ending → Runs card d budget n' c' count' ending'
      → (n ≡ n') × (c ≡ c') × (count ≡ count') × (ending ≡ ending')
  pub take_bounded : (card : Bytes) (d : Configuration) (choice n n' : ℕ) (c c' : Configuration) (node node' : ℕ)
      → BoundedTakes card d choice n c node → BoundedTakes card d choice n' c' node' → (n ≡ n') × (c ≡ c') × (node ≡ node')
  pub run_bounded : (card : Bytes) (d : Configuration) (budget n n' : ℕ) (c c' : Configuration) (count count' ending ending' : ℕ)
      → BoundedRuns card d budget n c count ending → BoundedRuns card d budget n' c' count' ending'
      → (n ≡ n') × (c ≡ c') × (count ≡ count') × (ending ≡ ending')
  pub next : (card : Bytes) (d : Configuration) (n n' coming coming' choice choice' : ℕ)
      → Nexts card d n coming choice → Nexts card d n' coming' choice' → (n ≡ n') × (coming ≡ coming') × (choice ≡ choice')
  pub deliberate : (card program : Bytes) (d : Configuration) (budget : ℕ) (lent : Bytes) (n n' : ℕ) (c c' : Configuration)
      (count count' ending ending' : ℕ) (remaining remaining' : Bytes) (length length' : ℕ)
      → Deliberates card program d budget lent n c count ending remaining length
      → Deliberates card program d budget lent n' c' count' ending' remaining' length'
      → (n ≡ n') × (c ≡ c') × (count ≡ count') × (ending ≡ ending') × (remaining ≡ remaining') × (length ≡ length')
  pub go_on : (card program : Bytes) (numbers : List ℕ) (d : Configuration) (budget : ℕ) (lent : Bytes) (n n' : ℕ) (c c' : Configuration)
      (count count' ending ending' : ℕ) (remaining remaining' : Bytes) (length length' : ℕ)
      → GoesOn card program numbers d budget lent n c count ending remaining length
      → GoesOn card program numbers d budget lent n' c' count' ending' remaining' length'
      → (n ≡ n') × (c ≡ c') × (count ≡ count') × (ending ≡ ending') × (remaining ≡ remaining') × (length ≡ length')
  pub save : (card : Bytes) (d : Configuration) (place left left' : Bytes) (n n' count count' : ℕ)
      → Saves card d place n left count → Saves card d place n' left' count' → (n ≡ n') × (left ≡ left') × (count ≡ count')
  pub restore : (card place : Bytes) (n n' : ℕ) (c c' : Configuration)
      → Restores card place n c → Restores card place n' c' → (n ≡ n') × (c ≡ c')
  pub text : (text card left left' : Bytes) (n n' count count' place place' : ℕ)
      → ReadsText text card n left count place → ReadsText text card n' left' count' place'
      → (n ≡ n') × (left ≡ left') × (count ≡ count') × (place ≡ place')
  pub print : (card : Bytes) (node : ℕ) (text left left' : Bytes) (n n' count count' : ℕ)
      → Prints card node text n left count → Prints card node text n' left' count' → (n ≡ n') × (left ≡ left') × (count ≡ count')
  pub name : (card : Bytes) (asked : Question) (n n' sheet sheet' start start' length length' : ℕ)
      → Names card asked n sheet start length → Names card asked n' sheet' start' length'
      → (n ≡ n') × (sheet ≡ sheet') × (start ≡ start') × (length ≡ length')
  -- the same sentence, "every byte and number in lent buffers": equal configurations are equal in each of the six lent parts.
  pub parts : (beliefs beliefs' goals goals' plan plan' : Bytes) (length length' phase phase' finished finished' : ℕ)
      → whole beliefs goals plan length phase finished ≡ whole beliefs' goals' plan' length' phase' finished'
      → (beliefs ≡ beliefs') × (goals ≡ goals') × (plan ≡ plan') × (length ≡ length') × (phase ≡ phase') × (finished ≡ finished')
