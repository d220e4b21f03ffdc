-- What the calls answer where sets, plan and numbers are lent, together with what these hold, as one answer.
use Rattle.std.specs.Prelude.{◌≡◌, List, ℕ, Ok, Err}
use Rattle.meaning.specs.declared.Refusal.{Refusal}
use Rattle.meaning.specs.Answers.{Answer}
use Rattle.meaning.specs.declared.Configuration.{Configuration}
use Rattle.meaning.specs.declared.Standing.{Standing}
use Rattle.meaning.specs.Card.{Bytes, layout}
use Rattle.meaning.specs.Calls.{checks}
use Rattle.deliberation.specs.Entries.{go_on_answer}
use Rattle.program.specs.GoodProgram.{GoodProgram}
use Rattle.layout.specs.PlaceParts.{configured}
use Rattle.deliberation.specs.declared.DeliberationEnding.{DeliberationEnding}
use Rattle.deliberation.specs.declared.Remaining.{Remaining}
use Rattle.deliberation.specs.declared.Deliberated.{Deliberated}
use Rattle.deliberate.specs.declared.call.DeliberatedInPlace.{DeliberatedInPlace}

-- the numbers that remain, by how many they are and what is lent for them
abbrev pub remains : ℕ → Bytes → Remaining
remains n numbers = record { length = n; numbers = numbers }

-- with the beliefs, the goals, the plan and the numbers afterwards
abbrev pub deliberated_with : DeliberatedInPlace → Bytes → Bytes → Bytes → Bytes → Deliberated
deliberated_with r σ γ plan numbers = record {
  answer = r.answer;
  count = r.count;
  ending = r.ending;
  configuration = configured σ γ r.standing plan;
  remaining = remains r.length numbers;
}

-- of a refusal: 01, "Numbers the guide may answer": "Any count in a refusal is 0."; 02, Wish 6: "none when refused"
abbrev pub refused_with : Answer → Standing → DeliberatedInPlace
refused_with a m = record { answer = a; count = 0; ending = DeliberationEnding.Spent; standing = m; length = 0 }

-- what is found of a card and a program: both are good; or one is not, and the call is refused with its number, whatever the
-- numbers and the configuration
pub record Admits (b p : Bytes) (a : Answer) : Type 0 where
  pub good : a ≡ Ok tt → (checks b ≡ Ok (layout b)) × GoodProgram (layout b) b p
  pub bad : (q : Refusal) → a ≡ Err q → (ns : List ℕ) (c : Configuration) → go_on_answer b p ns c ≡ Err q
