-- Choices and the guide's order (01, "A configuration and its transitions").
use Rattle.std.specs.Prelude.{Bool, true, false, List, [], ◌∷◌, ◌++◌, map, ℕ, zero, suc, ◌+◌, ◌*◌, ◌%◌, length, get_or}
use Rattle.std.proofs.Math.Option.{Option, none, some}
use Rattle.paper.specs.Language.{Agent, Config}
use Rattle.paper.specs.Transitions.{Choice, select, act, revise}
use Rattle.paper.specs.Next.{enabled}

-- 01, "A configuration and its transitions": "A configuration is a set of believed atoms, a set of goal atoms, a plan (0 to
-- 1,024 action numbers) and a phase 0, 1 or 2."
pub record State : Type 0 where
  -- 01, "A configuration and its transitions": "the rest is 004's Definition 7"
  pub mental : Config
  -- 01, "A configuration and its transitions": "a phase 0, 1 or 2. The phase is ours"
  pub phase : ℕ
  -- 02, Wish 4: "Let the configuration hold how many transitions have left the plan empty since load, stopping at 65,535."
  pub finished : ℕ

-- 01, "A configuration and its transitions": "the kind (0 selection, 1 action, 2 revision)"
unfoldable pub kind : Choice → ℕ
kind (select n) = 0
kind (act n) = 1
kind (revise n) = 2

-- 01, "A configuration and its transitions": "the number of the rule or specification, from 0"
unfoldable pub number : Choice → ℕ
number (select n) = n
number (act n) = n
number (revise n) = n

-- 01, "A configuration and its transitions": "A choice is coded as 256 times the kind (0 selection, 1 action, 2 revision) plus
-- the number of the rule or specification, from 0."
unfoldable pub code : Choice → ℕ
code k = 256 * kind k + number k

-- The m numbers from k on. Serves of_kind, and in meaning what goes over entries, actions or atoms by their numbers.
unfoldable pub numbers : ℕ → ℕ → List ℕ
numbers k zero = []
numbers k (suc m) = k ∷ numbers (suc k) m

-- One of three by a kind: 01, "A configuration and its transitions": "the kind (0 selection, 1 action, 2 revision)". Serves
-- of_kind.
abbrev pub by_kind : {X : Type 0} → ℕ → X → X → X → X
by_kind k selection action revision = get_or (selection ∷ action ∷ []) k revision

-- An agent's choices of a kind, the lowest number first. Serves in_turn: 01, "A configuration and its transitions", The guide's
-- order: "the lowest number is taken".
unfoldable pub of_kind : Agent → ℕ → List Choice
of_kind A k = by_kind k (map select (numbers 0 (length A.PS))) (map act (numbers 0 (length A.AS))) (map revise (numbers 0 (length A.PR)))

-- 01, "A configuration and its transitions", The guide's order: "From phase p the kinds p, p+1, p+2 (modulo 3) are tried in
-- turn." All three are modulo 3 (docs/DECISIONS.md, "Kinds for a phase over 2").
unfoldable pub in_turn : Agent → ℕ → List Choice
in_turn A p = of_kind A (p % 3) ++ (of_kind A ((p + 1) % 3) ++ of_kind A ((p + 2) % 3))

-- The first of a list that passes a test. Serves guide.
abbrev pub first : {X : Type 0} → (X → Bool) → List X → Option X
first t [] = none
first t (x ∷ xs) = elim (t x) [ true ↦ some x | false ↦ first t xs ]

-- 01, "A configuration and its transitions", The guide's order: "In the first kind with an enabled transition, the lowest
-- number is taken." "If no kind has one the guide is at rest".
unfoldable pub guide : Agent → State → Option Choice
guide A s = first (enabled A s.mental) (in_turn A s.phase)

-- What of a list passes a test. Serves enabled_codes.
abbrev pub keep : {X : Type 0} → (X → Bool) → List X → List X
keep t [] = []
keep t (x ∷ xs) = elim (t x) [ true ↦ x ∷ keep t xs | false ↦ keep t xs ]

-- 01, "Numbers the guide may answer": "The list of enabled choices goes as two-byte numbers, rising, each once". "Whether a
-- result fits doesn't matter to the list."
unfoldable pub enabled_codes : Agent → Config → List ℕ
enabled_codes A c = map code (keep (enabled A c) (in_turn A 0))
