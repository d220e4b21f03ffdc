-- What asking for the choices of a kind answers, as the plain engine has it.
use Rattle.std.specs.Prelude.{◌≡◌, true, not, ◌&&◌, List, ℕ, Option, eqb, ltb, get_or, take}
use Rattle.paper.specs.Next.{if, is_prefix}
use Rattle.meaning.specs.declared.Span.{Span}
use Rattle.meaning.specs.declared.Layout.{Layout}
use Rattle.meaning.specs.declared.Configuration.{Configuration}
use Rattle.meaning.specs.Card.{Bytes, plan}
use Rattle.layout.specs.Entries.{count_of}
use Rattle.door.specs.declared.asked.Asked.{Asked}
use Rattle.door.specs.declared.asked.Choice.{Choice}
use Rattle.door.specs.Asking.{both, asked_by, asked, choice_at, first_of_kind}
use Rattle.door.specs.Words.{state_of}
use Rattle.listing.specs.Looking.{look_by}
use Rattle.unpacked.specs.declared.tables.Tables.{Tables}
use Rattle.unpacked.specs.declared.configuration.Unpacked.{Unpacked}
use Rattle.unpacked.specs.Tables.{Holds, no_specification, no_selection, no_revision}
use Rattle.plain.specs.declared.judge.Judgement.{Judgement}
use Rattle.plain.specs.Judging.{judgement_at}

-- a plan of the pool, where a plan is also lent by that name
abbrev pub plan_of : Layout → Bytes → Span → Bytes
plan_of l b s = plan l b s

-- selection rule i, specification i and revision rule i of the tables
abbrev pub ask_selection : Tables → Unpacked → List Judgement → ℕ → Asked
ask_selection t u js i =
    let e = get_or t.selections i no_selection in
    asked_by true (eqb u.standing.length 0) (both (judgement_at js e.belief) (judgement_at js e.goal))

abbrev pub ask_specification : Tables → Unpacked → List Judgement → ℕ → Asked
ask_specification t u js i =
    let e = get_or t.specifications i no_specification in
    asked_by true (not (eqb u.standing.length 0) && eqb e.action (get_or u.plan 0 0)) (judgement_at js e.node)

abbrev pub ask_revision : Layout → Bytes → Tables → Unpacked → List Judgement → ℕ → Asked
ask_revision l b t u js i =
    let e = get_or t.revisions i no_revision in
    asked_by true (is_prefix (plan l b e.head) (take u.standing.length u.plan)) (judgement_at js e.node)

-- answers of the n choices of a kind; past them there is no rule
abbrev pub Asks : (ℕ → Asked) → ℕ → List Asked → Type 0
Asks f n r = Holds Asked.NoRule (λ i. if (ltb i n) (f i) Asked.NoRule) 256 r

-- the answers that the definitions give
abbrev pub AsksKind : Layout → Bytes → Configuration → ℕ → List Asked → Type 0
AsksKind l b c kind r = Holds Asked.NoRule (λ i. asked l b (state_of c).mental (choice_at kind i)) 256 r

-- of such answers the lowest enabled choice
abbrev pub FindsFirst : List Asked → ℕ → ℕ → Option Choice → Type 0
FindsFirst answers n kind r = (l : Layout) (b : Bytes) (c : Configuration) → n ≡ count_of l kind
    → AsksKind l b c kind answers → r ≡ first_of_kind l b c kind

-- 02, Wish 11: "one for each selection rule, and one more where its belief condition holds": for selection rule i
abbrev pub judged_selecting : Tables → List Judgement → ℕ → ℕ
judged_selecting t js i = if (judgement_at js (get_or t.selections i no_selection).belief).0 2 1

-- 02, Wish 11: "one for each specification of the first action and one for each revision rule whose head is a prefix": for choice i
abbrev pub judged_by : List Asked → ℕ → ℕ
judged_by answers i = (look_by (get_or answers i Asked.NoRule)).judged
