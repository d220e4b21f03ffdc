-- Cases of 02, Wish 11, computed: on the stripe card, and where a listing judges as many conditions as any can.
use Rattle.std.specs.Prelude.{◌≡◌, List, [], ◌∷◌, ℕ, replicate}
use Rattle.paper.specs.Language.{atom, Agent, ⟨◌/◌/◌⟩}
use Rattle.meaning.specs.declared.Configuration.{Configuration}
use Rattle.meaning.specs.Card.{Bytes}
use Rattle.meaning.specs.Looking.{conditions_judged}
use Rattle.meaning.specs.Calls.{lists, list_leaves}
use Rattle.meaning.specs.Assembled.{assembled}
use Rattle.meaning.specs.Stripe.{card_set, set, selection, stripe}
use Rattle.meaning.specs.Cases.{shown_listed, configuration, after_steps}

-- What list answers with no room: no choice is enabled, or it is refused.
abbrev pub shown_none : Bytes → Configuration → List ℕ
shown_none b c = shown_listed (lists b c []) (list_leaves b c [])

-- A card of 256 selection rules, whose belief condition is "true" and whose goal condition is "has goal 0": with two atoms, and
-- action 0 alone, which is the pool.
unfoldable pub most_selecting : Bytes
most_selecting = assembled 2 (1 ∷ []) ((0 ∷ 0 ∷ 0 ∷ 0 ∷ []) ∷ (2 ∷ 0 ∷ 0 ∷ 0 ∷ []) ∷ [])
    [] (replicate 256 (selection 0 1 0 1)) [] (0 ∷ []) (card_set 0) (card_set 0) 0 0

-- An agent of 256 specifications of action 0 and 256 revision rules with head 0, each if atom 0 is believed.
unfoldable pub most_acting : Agent
most_acting = record {
  PS = [];
  PR = replicate 256 (record { πₕ = 0 ∷ []; β = atom 0; πb = [] });
  AS = replicate 256 (record { β = atom 0; a = 0; Add = []; Del = [] });
}

pub record LookingCases : Type 0 where
  -- 02, Wish 11: "and it is at most 512": with an empty plan, and goal 1, which no rule asks for.
  pub selecting : shown_none most_selecting (configuration (set 0) (set 2) 0 []) ≡ 0 ∷ 0 ∷ 512 ∷ 1 ∷ []
  -- "otherwise one for each specification of the first action and one for each revision rule whose head is a prefix", whose
  -- conditions are all false.
  pub acting : conditions_judged most_acting ⟨ set 0 / 0 ∷ [] / set 0 ⟩ ≡ 512
  -- "with an empty plan, one for each selection rule": there is none.
  pub none_selecting : conditions_judged most_acting ⟨ set 0 / [] / set 0 ⟩ ≡ 0
  -- 01, "The stripe card": after "1 select 0 1 5" the plan is 4, the head of revision 0; and after "2 revise 0 2 4" it is 1 3:
  -- specification 1 is of action 1, and no head is a prefix. The goal is there.
  pub after_one : shown_listed (lists stripe (after_steps 1) (7 ∷ 7 ∷ [])) (list_leaves stripe (after_steps 1) (7 ∷ 7 ∷ []))
      ≡ 0 ∷ 1 ∷ 1 ∷ 1 ∷ 512 ∷ 7 ∷ []
  pub after_two : shown_listed (lists stripe (after_steps 2) (7 ∷ 7 ∷ [])) (list_leaves stripe (after_steps 2) (7 ∷ 7 ∷ []))
      ≡ 0 ∷ 1 ∷ 1 ∷ 1 ∷ 257 ∷ 7 ∷ []
  -- After "3 act 1 1 3" the plan is 3, the head of revisions 1 and 2, of which the thread that is broken enables 1.
  pub after_three : shown_listed (lists stripe (after_steps 3) (7 ∷ 7 ∷ [])) (list_leaves stripe (after_steps 3) (7 ∷ 7 ∷ []))
      ≡ 0 ∷ 1 ∷ 2 ∷ 1 ∷ 513 ∷ 7 ∷ []
  -- All goals, believed ones too: atoms 0 and 2, of which 0 is believed.
  pub believed_too : shown_listed (lists stripe (configuration (set 1) (set 5) 0 []) (7 ∷ [])) (list_leaves stripe (configuration (set 1) (set 5) 0 []) (7 ∷ []))
      ≡ 0 ∷ 1 ∷ 2 ∷ 2 ∷ 0 ∷ []
  -- 01, "Numbers the guide may answer": "Any count in a refusal is 0.": with 13 (phase 3); with 12 it is P12.
  pub refused : shown_none stripe (configuration (set 1) (set 5) 3 []) ≡ 13 ∷ 0 ∷ 0 ∷ 0 ∷ []
