-- Of an accepted card: what the entries of a program name, and that it has no reactive rules, so that 000's theorems hold of it.
use mathlib.Core.Path.{◌≡◌, ap, ◌∙◌, sym}
use mathlib.Core.Bool.{Bool, true}
use mathlib.Core.List.{List}
use Prim.Native.Nat.{ℕ, ◌+◌, ◌≤◌, ◌<◌}
use native.Mathlib.Omega.{arith}
use lib.Dec.{ltb, eqb}
use lib.ListN.{length}
use borrow.Author.Tests.{leb-true, ltb-true}
use Rattle.paper.specs.Language.{Revision}
use Rattle.paper.proofs.Relation.{both, some_inj}
use Rattle.runs.proofs.Order.{entry_lt}
use Rattle.meaning.specs.declared.Layout.{Layout}
use Rattle.meaning.specs.declared.Span.{Span}
use Rattle.meaning.specs.Card.{Bytes, layout, plan, revision_at, revision_of, agent_of, agent_for, agent}
use Rattle.meaning.specs.Refusals.{within, containing, condition_good, span_good, revision_good}
use Rattle.meaning.proofs.Accepted.{accepted, offsets, within_low, length-entries}
use Rattle.meaning.proofs.Entries.{good_entries}
use Rattle.meaning.proofs.AtomKinds.{no_goal_atom}
use Rattle.meaning.proofs.AgentEntries.{revision_for, revision_entry}
use Rattle.meaning.proofs.Parts.{length_part}
use Rattle.deliberation.specs.Entries.{entry_of}
use Rattle.deliberation.specs.Theorems.{ProgramExactly}
use Rattle.deliberation.specs.Equivalence.{NoReactiveLaw, InterpreterLaws}
use Rattle.deliberation.proofs.Named.{entry_laws}
use Rattle.deliberation.proofs.Good.{entry_good_lem, program_good_lem, some_entries, most_entries, no_byte_more, entry_known, entry_rule, entry_unused, entry_zero}
use Rattle.deliberation.proofs.GoalAtoms.{belief_condition}
use Rattle.deliberation.proofs.Equivalence.{proposition_1, lemma_1, theorem_1}

-- row 7 asks that a head lies in the pool and is not empty
head_good : (gs : List Bool) (l : Layout) (b : Bytes) (i : ℕ) → revision_good gs l (revision_at l b i) ≡ true → span_good l 1 (revision_at l b i).head ≡ true
unfolding revision_good
head_good gs l b i e =
    let r = revision_at l b i in
    let (h1, e1) = both (condition_good l gs r.node) _ e in
    let (h2, e2) = both (eqb r.plain 0) _ e1 in
    (both (span_good l 1 r.head) _ e2).0

plan_long : (l : Layout) (b : Bytes) (s : Span) → length b ≡ l.pool.offset + l.pool.count → span_good l 1 s ≡ true → 1 ≤ length (plan l b s)
unfolding plan
plan_long l b s n e =
    let (h, t) = both (within 1 1024 s.length) _ e in
    let some-length = within_low 1 1024 s.length h in
    let inside = leb-true (s.start + s.length) l.pool.count t in
    rw (length_part b (l.pool.offset + s.start) s.length (omega arith)) some-length

pub no_reactive : NoReactiveLaw
unfolding agent agent_for agent_of revision_of
no_reactive b e n r entry empty =
    let a = accepted b e in
    let l = layout b in
    let h : n < l.revisions.count = rw (length-entries _ l.revisions) at (entry_lt (agent b).PR n entry) in
    let q : revision_for l b n ≡ r = some_inj (sym (revision_entry l b n h) ∙ entry) in
    let g = head_good (containing 2 l b) l b n ((good_entries l b a.rules).revision n h) in
    let long : 1 ≤ length (plan l b (revision_at l b n).head) = plan_long l b (revision_at l b n).head (offsets l (length b) a.offsets).ends g in
    let none_there : length (plan l b (revision_at l b n).head) ≡ 0 = ap (λ (x : Revision). length x.πₕ) q ∙ ap length empty in
    omega arith

pub interpreter_laws : InterpreterLaws
interpreter_laws = record { proposition_1 = proposition_1; lemma_1 = lemma_1; theorem_1 = theorem_1; no_reactive = no_reactive }

-- ---- the entries of a program

pub program_exactly : ProgramExactly
unfolding agent agent_for agent_of
program_exactly b p card =
    let l = layout b in
    let gs = containing 2 l b in (
      λ good. record {
        at_least = some_entries gs l p good;
        at_most = most_entries gs l p good;
        no_byte_more = no_byte_more gs l p good;
        entries = λ i h. record {
          known = entry_known gs l p good i h;
          names = entry_laws (λ k. rw (length-entries _ l.revisions) k) (λ k. rw (length-entries _ l.selections) k)
              (λ n e. (ltb-true n l.nodes.count (both (ltb n l.nodes.count) _ e).0, no_goal_atom b card n e))
              (entry_rule gs l p good i h);
          unused = entry_unused gs l p good i h;
          zero = entry_zero gs l p good i h;
        };
      },
      λ rules. program_good_lem gs l p rules.at_least rules.at_most rules.no_byte_more (λ i h.
          let r = rules.entries i h in
          entry_good_lem gs l i (entry_of p i) r.known
          (entry_laws (λ k. rw (length-entries _ l.revisions) at k) (λ k. rw (length-entries _ l.selections) at k)
          (λ n k. belief_condition b card n k.0 k.1) r.names)
          r.unused r.zero),
    )
