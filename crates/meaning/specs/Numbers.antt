-- 01, "Expected forms by place": "Where an answer is an enum, a definition gives this paper's number and values for each of its
-- cases". The numbers of the refusals are in Refusals; these are of what check answers, of sheets, endings, what comes
-- next, verdicts and offenders, as include/rigtemple.h has them.
use Rattle.std.specs.Prelude.{ℕ, Ok, Err}
use Rattle.runs.specs.declared.Ending.{Ending}
use Rattle.runs.specs.declared.Offender.{Offender}
use Rattle.runs.specs.declared.Verdict.{Verdict}
use Rattle.meaning.specs.Answers.{Answer, Checked}
use Rattle.meaning.specs.declared.Coming.{Coming}
use Rattle.meaning.specs.Refusals.{number_of, carried}

-- 01, "Numbers the guide may answer": the number of what check answers.
unfoldable pub checked_number : Checked → ℕ
checked_number (Ok l) = 0
checked_number (Err r) = number_of r

-- 02, Wish 8: which sheet is told, 0 the master's or 1 the shed's: the one that the part lies in, and where "a sheet breaking these
-- rules" is refused, that one.
unfoldable pub sheet_number : Answer → ℕ → ℕ
sheet_number (Ok _) sheet = sheet
sheet_number (Err r) sheet = carried r

-- 01, "A configuration and its transitions": "one of three endings", in the order in which they stand there.
unfoldable pub ending_number : Ending → ℕ
-- "spent when the count has reached it"
ending_number Ending.Spent = 0
-- "rest when no transition exists"
ending_number Ending.Rest = 1
-- "full when the transition to be taken would leave more than 1,024 actions"
ending_number Ending.Full = 2

-- What comes next, in the order in which `Coming` has it: rest and full have the numbers that they have as endings.
unfoldable pub coming_number : Coming → ℕ
coming_number (Coming.Move n) = 0
coming_number Coming.Rest = 1
coming_number (Coming.Full n) = 2

-- 01, "A configuration and its transitions": "A choice is coded as …": the code of what comes next, and 0 at rest.
unfoldable pub coming_choice : Coming → ℕ
coming_choice (Coming.Move n) = n
coming_choice Coming.Rest = 0
coming_choice (Coming.Full n) = n

-- 01, "The stripe card": "verdict (bounded or open)".
unfoldable pub verdict_number : Verdict → ℕ
verdict_number Verdict.Bounded = 0
verdict_number (Verdict.Open o) = 1

-- 01, "Weight and grading": "the initial plan, then selection rule n, then revision rule n": the offender's kind.
unfoldable pub offender_number : Offender → ℕ
offender_number Offender.InitialPlan = 1
offender_number (Offender.Selection n) = 2
offender_number (Offender.Revision n) = 3

-- 01, "Weight and grading": "the verdict carries the first offender": its kind, and 0 where there is none.
unfoldable pub verdict_offender : Verdict → ℕ
verdict_offender Verdict.Bounded = 0
verdict_offender (Verdict.Open o) = offender_number o

-- 01, "Weight and grading": "selection rule n, then revision rule n": the n, and 0 for the initial plan.
unfoldable pub offender_rule : Offender → ℕ
offender_rule Offender.InitialPlan = 0
offender_rule (Offender.Selection n) = n
offender_rule (Offender.Revision n) = n

-- 01, "Weight and grading": "the verdict carries the first offender": its n, and 0 where there is none.
unfoldable pub verdict_rule : Verdict → ℕ
verdict_rule Verdict.Bounded = 0
verdict_rule (Verdict.Open o) = offender_rule o
