use Rattle.std.specs.Prelude.{Some, None}
use mathlib.Core.Path.{◌≡◌, sym, ap, ◌∙◌, subst}
use mathlib.Core.List.{List}
use Prim.Native.Nat.{ℕ, ◌<◌}
use native.Mathlib.Omega.{arith}
use borrow.Author.Rules.{rules}
use lib.ListN.{length, get_or}
use Rattle.runs.specs.Kinds.{kind_number}
use Rattle.paper.specs.Next.{enabled}
use Rattle.meaning.specs.declared.Layout.{Layout}
use Rattle.meaning.specs.declared.Configuration.{Configuration}
use Rattle.meaning.specs.Card.{Bytes, agent_for}
use Rattle.meaning.specs.Configurations.{state_of}
use Rattle.layout.specs.Entries.{count_of}
use Rattle.door.specs.declared.asked.Asked.{Asked}
use Rattle.door.specs.Asking.{choice_at}
use Rattle.door.proofs.First.{left_turn, found_of_kind, none_of_kind}
use Rattle.listing.specs.Looking.{look_by}
use Rattle.plain.specs.Asking.{AsksKind, FindsFirst}
use Rattle.plain.proofs.Asking.{read_inside, answer_enabled}
use Rattle.plain.proofs.choose.first_enabled.Goals as goal

-- an answer as it is read tells whether its choice is enabled
found : (l : Layout) (b : Bytes) (s : Configuration) (kind : ℕ) (answers : List Asked) → length answers ≡ 256 → AsksKind l b s kind answers → (i : ℕ) → i < 256
    → enabled (agent_for l b) (state_of s).mental (choice_at kind i) ≡ (look_by (get_or answers i Asked.Enabled)).enabled
found l b s kind answers m a i h =
    sym (answer_enabled l b s kind answers a i h) ∙ ap (λ (x : Asked). (look_by x).enabled) (read_inside answers i Asked.NoRule Asked.Enabled (omega arith))

pub returns-then-is_enabled : goal.returns-then-is_enabled
returns-then-is_enabled c =
    let x = c.args in
    let k = c.kind_of-kind.result in
    let i = c.loop-number.number in
    subst (λ t. FindsFirst x.answers x.n t (Some (record { kind = k; number = i }))) c.kind_of-kind.ensures
    (λ l b s e a. found_of_kind l b (state_of s).mental k i (omega arith) (found l b s (kind_number k) x.answers (search rules) a i (omega arith) ∙ sym c.is_enabled.ensures ∙ c.if-is_enabled.true) (c.loop-number.invariant l b s e a))

pub loop-number-preserved : goal.loop-number-preserved
loop-number-preserved c =
    λ l b s e a.
    let x = c.args in
    let k = c.kind_of-kind.result in
    let i = c.loop-number.number in
    let r = c.loop-number.invariant l b s e a in
    left_turn (agent_for l b) (state_of s).mental (choice_at (kind_number k)) (count_of l (kind_number k)) i (omega arith) (found l b s (kind_number k) x.answers (search rules) a i (omega arith) ∙ sym c.is_enabled.ensures ∙ c.if-is_enabled.false) r

pub returns : goal.returns
returns c =
    let x = c.args in
    let k = c.kind_of-kind.result in
    subst (λ t. FindsFirst x.answers x.n t None) c.kind_of-kind.ensures
    (λ l b s e a. none_of_kind l b (state_of s).mental k c.loop-number.number (omega arith) (c.loop-number.invariant l b s e a))
