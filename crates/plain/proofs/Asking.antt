-- The answers of a kind, filled in one after the other, are those that the definitions give.
use mathlib.Core.Path.{◌≡◌, refl, ap, sym, ◌∙◌}
use mathlib.Core.Bool.{Bool, true, not, ◌&&◌}
use mathlib.Core.List.{List, [], ◌∷◌}
use Prim.Native.Nat.{ℕ, zero, suc, ◌+◌, ◌≤◌, ◌<◌}
use native.Mathlib.Decide.{dec_lt}
use native.Mathlib.Omega.{arith}
use borrow.Author.Tests.{lt-ltb, le-ltb}
use lib.Dec.{eqb, ltb}
use lib.ListN.{length, get_or, set, take, replicate, get_or-replicate}
use lib.Seq.{get_or-set_same, get_or-set_other}
use Rattle.paper.specs.Next.{if, is_prefix, enabled}
use Rattle.meaning.specs.declared.Layout.{Layout}
use Rattle.meaning.specs.declared.SelectionEntry.{SelectionEntry}
use Rattle.meaning.specs.declared.RevisionEntry.{RevisionEntry}
use Rattle.meaning.specs.declared.Configuration.{Configuration}
use Rattle.meaning.specs.Card.{Bytes, plan, agent_for}
use Rattle.meaning.specs.Configurations.{state_of}
use Rattle.layout.specs.Entries.{count_of}
use Rattle.door.specs.declared.asked.Asked.{Asked}
use Rattle.door.specs.Ready.{Ready}
use Rattle.door.specs.Asking.{both, asked_by, asked, choice_at}
use Rattle.door.proofs.Asking.{is_enabled, asked_enabled, no_rule}
use Rattle.choices.proofs.Marked.{asks_selection, asks_specification, asks_revision}
use Rattle.listing.specs.Looking.{look_by}
use Rattle.unpacked.specs.declared.tables.Specified.{Specified}
use Rattle.unpacked.specs.declared.tables.Tables.{Tables}
use Rattle.unpacked.specs.declared.configuration.Unpacked.{Unpacked}
use Rattle.unpacked.specs.Tables.{Tabled}
use Rattle.unpacked.specs.Truths.{configuration_from}
use Rattle.plain.specs.declared.judge.Judgement.{Judgement}
use Rattle.plain.specs.Judging.{judgement_at, JudgedAll}
use Rattle.plain.specs.Asking.{ask_selection, ask_specification, ask_revision, Asks, AsksKind}

-- ---- filled in one after the other

-- the answers of the first n, by what is due under each number, and no rule past them
module _ (f : ℕ → Asked) where
  abbrev due : ℕ → ℕ → Asked
  due n i = if (ltb i n) (f i) Asked.NoRule

  within : (n i : ℕ) → i < n → due n i ≡ f i
  within n i h = ap (λ v. if v (f i) Asked.NoRule) (lt-ltb i n h)

  past : (n i : ℕ) → n ≤ i → due n i ≡ Asked.NoRule
  past n i h = ap (λ v. if v (f i) Asked.NoRule) (le-ltb i n h)

  pub asks_start : Asks f 0 (replicate 256 Asked.NoRule)
  asks_start i h = get_or-replicate 256 i Asked.NoRule Asked.NoRule h ∙ sym (past 0 i (omega arith))

  -- one answer more
  pub asks_turn : (n : ℕ) (r : List Asked) (x : Asked) → n < length r → x ≡ f n → Asks f n r → Asks f (n + 1) (set r n x)
  asks_turn n r x h e a i k = elim (dec_lt i n) [
    | yes below ↦ other (omega arith) ∙ within n i below ∙ sym (within (n + 1) i (omega arith))
    | no above ↦ elim (dec_lt n i) [
      | yes far ↦ other (omega arith) ∙ past n i (omega arith) ∙ sym (past (n + 1) i (omega arith))
      | no near ↦ let q : i ≡ n = omega arith in rw q (get_or-set_same r n x Asked.NoRule h ∙ e ∙ sym (within (n + 1) n (omega arith)))
    ]
  ]
    where
      other : (i ≡ n → ⊥) → get_or (set r n x) i Asked.NoRule ≡ due n i
      other d = get_or-set_other r n i x Asked.NoRule d ∙ a i k

-- ---- and are those of the definitions

-- of a kind, by its choices that the card has
pub kind_asked : (l : Layout) (b : Bytes) (c : Configuration) (kind n : ℕ) → n ≡ count_of l kind
    → (r : List Asked) → Asks (λ i. asked l b (state_of c).mental (choice_at kind i)) n r → AsksKind l b c kind r
kind_asked l b c kind n e r a i h = elim (dec_lt i n) [
  | yes k ↦ a i h ∙ within (λ i. asked l b (state_of c).mental (choice_at kind i)) n i k
  | no k ↦ a i h ∙ past (λ i. asked l b (state_of c).mental (choice_at kind i)) n i (omega arith) ∙ no_rule l b (state_of c).mental kind i (omega arith)
]

-- of an accepted card and configuration, unpacked and judged
module _ (l : Layout) (b : Bytes) (t : Tables) (u : Unpacked) (js : List Judgement)
    (ready : Ready l b (configuration_from u)) (tabled : Tabled l b t) (judged : JudgedAll l b (configuration_from u) js) where
  abbrev c : Configuration
  c = configuration_from u

  abbrev mark : ℕ → Bool × ℕ
  mark = judgement_at js

  pub selection_asked : (i : ℕ) → i < l.selections.count → ask_selection t u js i ≡ asked l b (state_of c).mental (choice_at 0 i)
  selection_asked i k =
      ap (λ (e : SelectionEntry). asked_by true (eqb u.standing.length 0) (both (mark e.belief) (mark e.goal))) (tabled.selections i k)
      ∙ asks_selection l b c mark ready judged i k

  pub specification_asked : (i : ℕ) → i < l.specifications.count → ask_specification t u js i ≡ asked l b (state_of c).mental (choice_at 1 i)
  specification_asked i k =
      ap (λ (e : Specified). asked_by true (not (eqb u.standing.length 0) && eqb e.action (get_or u.plan 0 0)) (mark e.node)) (tabled.specifications i k)
      ∙ asks_specification l b c mark ready judged i k

  pub revision_asked : (i : ℕ) → i < l.revisions.count → ask_revision l b t u js i ≡ asked l b (state_of c).mental (choice_at 2 i)
  revision_asked i k =
      ap (λ (e : RevisionEntry). asked_by true (is_prefix (plan l b e.head) (take u.standing.length u.plan)) (mark e.node)) (tabled.revisions i k)
      ∙ asks_revision l b c mark ready judged i k

-- ---- the enabled ones

-- whatever a list is read as past its end
pub read_inside : {R : Type 0} (xs : List R) (i : ℕ) (d e : R) → i < length xs → get_or xs i d ≡ get_or xs i e
read_inside [] i d e h = absurd (omega arith)
read_inside (x ∷ xs) zero d e h = refl
read_inside (x ∷ xs) (suc i) d e h = read_inside xs i d e (omega arith)

-- an answer tells whether its choice is enabled
pub look_enabled : (x : Asked) → (look_by x).enabled ≡ is_enabled x
look_enabled Asked.Enabled = refl
look_enabled Asked.NoRule = refl
look_enabled Asked.Front = refl
look_enabled (Asked.Condition n) = refl

pub answer_enabled : (l : Layout) (b : Bytes) (c : Configuration) (kind : ℕ) (r : List Asked) → AsksKind l b c kind r → (i : ℕ) → i < 256
    → (look_by (get_or r i Asked.NoRule)).enabled ≡ enabled (agent_for l b) (state_of c).mental (choice_at kind i)
answer_enabled l b c kind r a i h = look_enabled (get_or r i Asked.NoRule) ∙ ap is_enabled (a i h) ∙ asked_enabled l b (state_of c).mental (choice_at kind i)
