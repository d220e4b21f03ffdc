-- What an accepted card has passed, and what follows for its agent.
use mathlib.Core.Path.{◌≡◌}
use mathlib.Core.Logic.{⊎_elim}
use mathlib.Core.Bool.{true}
use mathlib.Core.List.{List, [], ◌∷◌, map}
use Prim.Native.Nat.{ℕ, zero, suc, ◌+◌, ◌*◌, ◌≤◌}
use native.Mathlib.Omega.{arith}
use lib.Dec.{leb, eqb}
use lib.ListN.{length, get_or}
use borrow.Author.Tests.{leb-true, eqb-true, not-false}
use Rattle.paper.proofs.Relation.{both}
use Rattle.runs.specs.Order.{numbers}
use Rattle.runs.specs.Theorems.{Numbered}
use Rattle.runs.proofs.Numbers.{length_made}
use Rattle.runs.proofs.Weight.{bounded_law}
use Rattle.std.specs.Prelude.{Ok}
use Rattle.meaning.specs.declared.Section.{Section}
use Rattle.meaning.specs.declared.Layout.{Layout}
use Rattle.meaning.specs.Sizes.{set_bytes, most_atoms, header_bytes, specification_bytes}
use Rattle.meaning.specs.Card.{Bytes, number_at, layout, entries, weight_at, weights, weight, agent_of, agent_for, agent, initial_plan}
use Rattle.meaning.specs.Refusals.{all, within, has_edition, marked, card_long_enough, card_mark_good, counts_good, end_of, offsets_good, weights_good, nodes_good, containing, rules_good, actions_good, pool, sets_good, card_table, card_answer}
use Rattle.meaning.specs.Theorems.{CardLaw}
use Rattle.meaning.proofs.Every.{either}
use Rattle.meaning.proofs.Tables.{row_passed}

-- what an accepted card has passed, row by row
pub record Accepted (b : Bytes) : Type 0 where
  pub has_edition_lem : has_edition b ≡ true
  pub marked : card_mark_good b ≡ true
  pub long_enough : card_long_enough b ≡ true
  pub counts : counts_good (layout b) ≡ true
  pub offsets : offsets_good (layout b) (length b) ≡ true
  pub weights : weights_good (layout b) b ≡ true
  pub nodes : nodes_good (layout b) b ≡ true
  pub rules : rules_good (containing 1 (layout b) b) (containing 2 (layout b) b) (layout b) b ≡ true
  pub pool : actions_good (layout b).actions (pool (layout b) b) ≡ true
  pub sets : sets_good (layout b) b ≡ true

pub accepted : (b : Bytes) → card_answer b ≡ Ok tt → Accepted b
unfolding card_answer card_table
accepted b e =
    let passed = row_passed b card_table e in
    record {
      has_edition_lem = not-false _ (passed 0);
      marked = not-false _ (passed 1);
      long_enough = not-false _ (passed 2);
      counts = not-false _ (passed 3);
      offsets = not-false _ (passed 4);
      weights = not-false _ (passed 5);
      nodes = not-false _ (passed 6);
      rules = not-false _ (passed 7);
      pool = not-false _ (passed 8);
      sets = not-false _ (passed 9);
    }

-- ---- its edition

pub edition_known : (b : Bytes) → card_mark_good b ≡ true → (layout b).edition ≤ 2
unfolding card_mark_good layout
edition_known b e =
    let n = number_at b 2 in
    ⊎_elim (λ h. (let q = eqb-true n 1 h in omega arith)) (λ h. (let q = eqb-true n 2 h in omega arith)) (either (eqb n 1) (eqb n 2) (both (marked 0x41 b) _ e).1)

-- ---- its numbers are in range

pub within_low : (low high n : ℕ) → within low high n ≡ true → low ≤ n
within_low low high n e = leb-true low n (both (leb low n) _ e).0

pub within_high : (low high n : ℕ) → within low high n ≡ true → n ≤ high
within_high low high n e = leb-true n high (both (leb low n) _ e).1

pub record Counts (l : Layout) : Type 0 where
  pub some_atoms : 1 ≤ l.atoms
  pub atoms : l.atoms ≤ most_atoms (set_bytes l)
  pub some_actions : 1 ≤ l.actions
  pub actions : l.actions ≤ 256
  pub some_nodes : 1 ≤ l.nodes.count
  pub nodes : l.nodes.count ≤ 256
  pub specifications : l.specifications.count ≤ 256
  pub selections : l.selections.count ≤ 256
  pub revisions : l.revisions.count ≤ 256
  pub pool : l.pool.count ≤ 8192

pub counts : (l : Layout) → counts_good l ≡ true → Counts l
unfolding counts_good
counts l e0 =
    let (h1, e1) = both (within 1 (most_atoms (set_bytes l)) l.atoms) _ e0 in
    let (h2, e2) = both (within 1 256 l.actions) _ e1 in
    let (h3, e3) = both (within 1 256 l.nodes.count) _ e2 in
    let (h4, e4) = both (leb l.specifications.count 256) _ e3 in
    let (h5, e5) = both (leb l.selections.count 256) _ e4 in
    let (h6, e6) = both (leb l.revisions.count 256) _ e5 in
    record {
      some_atoms = within_low _ _ _ h1;
      atoms = within_high _ _ _ h1;
      some_actions = within_low _ _ _ h2;
      actions = within_high _ _ _ h2;
      some_nodes = within_low _ _ _ h3;
      nodes = within_high _ _ _ h3;
      specifications = leb-true _ _ h4;
      selections = leb-true _ _ h5;
      revisions = leb-true _ _ h6;
      pool = leb-true _ _ e6;
    }

-- ---- its offsets

pub record Offsets (l : Layout) (n : ℕ) : Type 0 where
  pub nodes : l.nodes.offset ≡ header_bytes (set_bytes l) + 2 * l.actions
  pub specifications : l.specifications.offset ≡ end_of 4 l.nodes
  pub selections : l.selections.offset ≡ end_of (specification_bytes (set_bytes l)) l.specifications
  pub revisions : l.revisions.offset ≡ end_of 8 l.selections
  pub pool : l.pool.offset ≡ end_of 12 l.revisions
  pub ends : n ≡ l.pool.offset + l.pool.count

pub offsets : (l : Layout) (n : ℕ) → offsets_good l n ≡ true → Offsets l n
unfolding offsets_good
offsets l n e0 =
    let (h1, e1) = both (eqb l.nodes.offset (header_bytes (set_bytes l) + 2 * l.actions)) _ e0 in
    let (h2, e2) = both (eqb l.specifications.offset (end_of 4 l.nodes)) _ e1 in
    let (h3, e3) = both (eqb l.selections.offset (end_of (specification_bytes (set_bytes l)) l.specifications)) _ e2 in
    let (h4, e4) = both (eqb l.revisions.offset (end_of 8 l.selections)) _ e3 in
    let (h5, e5) = both (eqb l.pool.offset (end_of 12 l.revisions)) _ e4 in
    let total : n ≡ l.pool.offset + 1 * l.pool.count = eqb-true _ _ e5 in
    record {
      nodes = eqb-true _ _ h1;
      specifications = eqb-true _ _ h2;
      selections = eqb-true _ _ h3;
      revisions = eqb-true _ _ h4;
      pool = eqb-true _ _ h5;
      ends = omega arith;
    }

-- ---- its agent

pub length-entries : {R : Type 0} (read : ℕ → R) (s : Section) → length (entries read s) ≡ s.count
length-entries read s = length_made read 0 s.count

numbered : (b : Bytes) → counts_good (layout b) ≡ true → Numbered (agent b)
unfolding agent agent_for agent_of
numbered b e =
    let c = counts (layout b) e in
    record {
      selections = rw (length-entries _ (layout b).selections) c.selections;
      specifications = rw (length-entries _ (layout b).specifications) c.specifications;
    }

-- ---- its weights

at_least_one : (f : ℕ → ℕ) (ns : List ℕ) (a : ℕ) → all (λ i. within 1 1024 (f i)) ns ≡ true → 1 ≤ get_or (map f ns) a 1
at_least_one f [] a e = omega arith
at_least_one f (n ∷ ns) zero e = within_low 1 1024 (f n) (both (within 1 1024 (f n)) _ e).0
at_least_one f (n ∷ ns) (suc a) e = at_least_one f ns a (both (within 1 1024 (f n)) _ e).1

weighs_something : (b : Bytes) → weights_good (layout b) b ≡ true → (a : ℕ) → 1 ≤ weight b a
unfolding weight weights weights_good
weighs_something b e a = at_least_one (weight_at (layout b) b) (numbers 0 (layout b).actions) a e

pub card_laws : CardLaw
card_laws b e =
    let a = accepted b e in
    record {
      numbered = numbered b a.counts;
      graded = bounded_law (weight b) (weighs_something b a.weights) (agent b) (initial_plan b);
    }
