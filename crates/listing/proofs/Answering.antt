-- What list answers: what save does of its place, and two numbers more.
use mathlib.Core.Path.{◌≡◌, ap, ◌∙◌, sym}
use mathlib.Core.List.{List}
use Prim.Native.Nat.{ℕ, ◌≤◌}
use Rattle.runs.specs.Order.{enabled_codes}
use Rattle.runs.proofs.Numbers.{length_made}
use Rattle.meaning.specs.declared.Refusal.{Refusal}
use Rattle.meaning.specs.Answers.{Answer}
use Rattle.std.specs.Prelude.{Ok, Err}
use Rattle.meaning.specs.declared.Configuration.{Configuration}
use Rattle.meaning.specs.declared.Layout.{Layout}
use Rattle.meaning.specs.declared.Listed.{Listed}
use Rattle.meaning.specs.Card.{Bytes, layout, agent_of, agent_for, agent}
use Rattle.meaning.specs.Configurations.{state_of}
use Rattle.meaning.specs.Looking.{conditions_judged, size, goals_open}
use Rattle.meaning.specs.Calls.{written, writes, number_by, listed, lists}
use Rattle.meaning.proofs.AgentEntries.{selection_for, specification_for, revision_for}
use Rattle.meaning.proofs.Calls.{lists_as, written_of}
use Rattle.meaning.proofs.Looking.{most}
use Rattle.layout.specs.GoodLayout.{GoodLayout}
use Rattle.layout.proofs.GoodLayout.{at_most_256}
use Rattle.listing.specs.declared.list.ListedInPlace.{ListedInPlace}
use Rattle.listing.specs.Looking.{listed_with}

module _ (b : Bytes) (c : Configuration) (out : List ℕ) where
  told : (r : Listed) → written_of r ≡ writes b c (enabled_codes (agent b) (state_of c).mental) out
      → r.judged ≡ number_by r.answer (conditions_judged (agent b) (state_of c).mental) → r.goals ≡ number_by r.answer (goals_open (state_of c).mental)
      → r ≡ lists b c out
  told r w j g =
      (λ i. record { answer = r.answer; count = r.count; judged = j i; goals = g i; configuration = r.configuration })
      ∙ ap (λ x. listed x (conditions_judged (agent b) (state_of c).mental) (goals_open (state_of c).mental)) w
      ∙ sym (lists_as b c out)

  -- a refusal
  pub refused_told : (a : Answer) (q : Refusal) → a ≡ Err q → written a 0 c ≡ writes b c (enabled_codes (agent b) (state_of c).mental) out
      → (w : ListedInPlace) → w ≡ record { answer = a; count = 0; judged = 0; goals = 0 } → listed_with w c ≡ lists b c out
  refused_told a q e f w g =
      ap (λ (x : ListedInPlace). listed_with x c) g
      ∙ told (listed_with (record { answer = a; count = 0; judged = 0; goals = 0 }) c) f (none (conditions_judged (agent b) (state_of c).mental)) (none (goals_open (state_of c).mental))
    where
      none : (n : ℕ) → 0 ≡ number_by a n
      none n = sym (ap (λ x. number_by x n) e)

  -- done
  pub done_told : (l : Layout) → l ≡ layout b → (n j g : ℕ) → written (Ok tt) n c ≡ writes b c (enabled_codes (agent b) (state_of c).mental) out
      → j ≡ conditions_judged (agent_for l b) (state_of c).mental → g ≡ size c.mind.goals
      → listed_with (record { answer = Ok tt; count = n; judged = j; goals = g }) c ≡ lists b c out
  unfolding agent goals_open state_of
  done_told l e n j g w f h =
      told (listed_with (record { answer = Ok tt; count = n; judged = j; goals = g }) c) w
      (f ∙ ap (λ x. conditions_judged (agent_for x b) (state_of c).mental) e) h

  -- "at most 512"
  pub judged_most : (l : Layout) → GoodLayout l b → conditions_judged (agent_for l b) (state_of c).mental ≤ 512
  unfolding agent_for agent_of
  judged_most l g =
      let few = at_most_256 l b g in
      most (agent_for l b) (state_of c).mental
      (rw (length_made (selection_for l b) 0 l.selections.count) (few 0))
      (rw (length_made (specification_for l b) 0 l.specifications.count) (few 1))
      (rw (length_made (revision_for l b) 0 l.revisions.count) (few 2))
