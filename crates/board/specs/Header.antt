-- What include/rigtemple.h says of each call: the parts in which C sees what the guide answers.
use Rattle.std.specs.Prelude.{◌≡◌, List, ℕ}
use Rattle.meaning.specs.Answers.{Answer}
use Rattle.meaning.specs.declared.Configuration.{Configuration}
use Rattle.meaning.specs.declared.Reply.{Reply}
use Rattle.meaning.specs.declared.Graded.{Graded}
use Rattle.meaning.specs.declared.Written.{Written}
use Rattle.meaning.specs.declared.Listed.{Listed}
use Rattle.meaning.specs.declared.Ran.{Ran}
use Rattle.meaning.specs.declared.Next.{Next}
use Rattle.meaning.specs.Card.{Bytes}
use Rattle.meaning.specs.Refusals.{answer_number, answer_carried}
use Rattle.meaning.specs.Numbers.{sheet_number, ending_number, coming_number, coming_choice, verdict_number, verdict_offender, verdict_rule}
use Rattle.deliberation.specs.declared.Deliberated.{Deliberated}
use Rattle.deliberation.specs.Deliberate.{deliberation_ending_number}
use Rattle.names.specs.declared.Named.{Named}
use Rattle.names.specs.Naming.{sheet_number_of}

-- A configuration from its parts: "`beliefs` and `goals` are 32 bytes each, `plan` is 1,024 bytes"
abbrev pub whole : Bytes → Bytes → Bytes → ℕ → ℕ → ℕ → Configuration
whole b g p n f m = record { mind = record { beliefs = b; goals = g; length = n; phase = f; finished = m }; plan = p }

-- ---- what a call tells: n is its return value, the answer's number; c is what the lent parts hold when it returns

-- of `load` and `restore`
abbrev pub replied : Reply → ℕ → Configuration → Type 0
replied x n c = (n ≡ answer_number x.answer) × (c ≡ x.configuration)

-- of `take`: with 16 the node that settled the condition, else 0
abbrev pub took : Reply → ℕ → Configuration → ℕ → Type 0
took x n c node = (n ≡ answer_number x.answer) × (c ≡ x.configuration) × (node ≡ answer_carried x.answer)

-- of `grade`: the verdict, the offender's kind and its number
abbrev pub graded_as : Graded → ℕ → ℕ → ℕ → ℕ → Type 0
graded_as x n verdict offender rule =
    (n ≡ answer_number x.answer)
    × (verdict ≡ verdict_number x.verdict)
    × (offender ≡ verdict_offender x.verdict)
    × (rule ≡ verdict_rule x.verdict)

-- of `list`: how many were written, and what the lent list then holds
abbrev pub listed_as : Listed → List ℕ → ℕ → ℕ → List ℕ → Type 0
listed_as x leaves n count out = (n ≡ answer_number x.answer) × (count ≡ x.count) × (out ≡ leaves)

-- of `list_looks`: the same, how many conditions were judged, and how many goals are open
abbrev pub looked_as : Listed → List ℕ → ℕ → ℕ → ℕ → ℕ → List ℕ → Type 0
looked_as x leaves n count judged goals out =
    (n ≡ answer_number x.answer) × (count ≡ x.count) × (judged ≡ x.judged) × (goals ≡ x.goals) × (out ≡ leaves)

-- of `save`: how many were written, and what the lent buffer then holds
abbrev pub wrote : Written → List ℕ → ℕ → ℕ → List ℕ → Type 0
wrote x leaves n count out = (n ≡ answer_number x.answer) × (count ≡ x.count) × (out ≡ leaves)

-- of `text`: with 17 the place of the first wrong byte, else 0
abbrev pub read_as : Answer → ℕ → ℕ → Type 0
read_as x n place = (n ≡ answer_number x) × (place ≡ answer_carried x)

-- of `run`: how many moves, and why it ended
abbrev pub ran_to : Ran → ℕ → Configuration → ℕ → ℕ → Type 0
ran_to x n c count ending =
    (n ≡ answer_number x.answer)
    × (c ≡ x.configuration)
    × (count ≡ x.count)
    × (ending ≡ ending_number x.ending)

-- of `next`: what comes, and its code
abbrev pub next_as : Next → ℕ → ℕ → ℕ → Type 0
next_as x n coming choice = (n ≡ answer_number x.answer) × (coming ≡ coming_number x.coming) × (choice ≡ coming_choice x.coming)

-- of `deliberate`: how many moves, why it ended, and the numbers that remain, in 128 bytes, with how many they are
abbrev pub deliberated_to : Deliberated → ℕ → Configuration → ℕ → ℕ → Bytes → ℕ → Type 0
deliberated_to x n c count ending remaining length =
    (n ≡ answer_number x.answer)
    × (c ≡ x.configuration)
    × (count ≡ x.count)
    × (ending ≡ deliberation_ending_number x.ending)
    × (remaining ≡ x.remaining.numbers)
    × (length ≡ x.remaining.length)

-- of `name`: which sheet the part lies in, or with 20 which is refused, and the part's start and length
abbrev pub named_as : Named → ℕ → ℕ → ℕ → ℕ → Type 0
named_as x n sheet start length =
    (n ≡ answer_number x.answer)
    × (sheet ≡ sheet_number x.answer (sheet_number_of x.sheet))
    × (start ≡ x.part.start)
    × (length ≡ x.part.length)
