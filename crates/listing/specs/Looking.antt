-- How many conditions are judged for a choice, and for those of a kind (02, Wish 11), as the code counts them; and list's answer
-- where sets and plan are lent.
use Rattle.std.specs.Prelude.{Bool, true, false, ℕ, zero, suc, ◌+◌}
use Rattle.paper.specs.Language.{𝐁, Config}
use Rattle.paper.specs.Transitions.{◌⊨◌, Choice, select, act, revise}
use Rattle.paper.specs.Next.{if, enabled}
use Rattle.meaning.specs.declared.Layout.{Layout}
use Rattle.meaning.specs.declared.Configuration.{Configuration}
use Rattle.meaning.specs.declared.Listed.{Listed}
use Rattle.meaning.specs.Card.{Bytes, conditions, condition, selection_at, agent_for}
use Rattle.meaning.specs.Configurations.{state_of}
use Rattle.door.specs.declared.asked.Asked.{Asked}
use Rattle.door.specs.Asking.{front_fits, choice_at}
use Rattle.listing.specs.declared.gather.Look.{Look}
use Rattle.listing.specs.declared.list.ListedInPlace.{ListedInPlace}

-- 02, Wish 11: "one more where its belief condition holds": of a selection rule
abbrev pub goal_judged : Layout → Bytes → Config → Choice → Bool
goal_judged l b c (select n) = c ⊨ condition (conditions 𝐁 l b) (selection_at l b n).belief
goal_judged l b c (act n) = false
goal_judged l b c (revise n) = false

-- for a choice that the card has: none where the plan's front does not fit, else one, or two
abbrev pub judged_for : Layout → Bytes → Config → Choice → ℕ
judged_for l b c k = if (front_fits l b c k) (if (goal_judged l b c k) 2 1) 0

-- whether it is enabled, and how many are judged for it
abbrev pub look_at : Layout → Bytes → Configuration → ℕ → ℕ → Look
look_at l b c kind i = record {
  enabled = enabled (agent_for l b) (state_of c).mental (choice_at kind i);
  judged = judged_for l b (state_of c).mental (choice_at kind i);
}

-- the same of a specification or a revision rule, by what asking for it answers
abbrev pub look_by : Asked → Look
look_by Asked.Enabled = record { enabled = true; judged = 1 }
look_by (Asked.Condition n) = record { enabled = false; judged = 1 }
look_by Asked.Front = record { enabled = false; judged = 0 }
look_by Asked.NoRule = record { enabled = false; judged = 0 }

-- of a number for each of the numbers below n, the sum
abbrev pub sum_of : (ℕ → ℕ) → ℕ → ℕ
sum_of f zero = 0
sum_of f (suc n) = sum_of f n + f n

-- for the first n choices of a kind
abbrev pub judged_in : Layout → Bytes → Configuration → ℕ → ℕ → ℕ
judged_in l b c kind n = sum_of (λ i. judged_for l b (state_of c).mental (choice_at kind i)) n

-- list's answer with the configuration as it came in
abbrev pub listed_with : ListedInPlace → Configuration → Listed
listed_with r c = record { answer = r.answer; count = r.count; judged = r.judged; goals = r.goals; configuration = c }
