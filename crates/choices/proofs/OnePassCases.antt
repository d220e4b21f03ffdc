-- The two cards: the pass is computed, and the tree's value and settling node follow by the theorem of the one pass.
use mathlib.Core.Path.{◌≡◌, refl, ap, ap₂, sym, ◌∙◌, subst}
use mathlib.Core.Bool.{Bool, true, false, not, ◌&&◌}
use mathlib.Core.List.{List, [], ◌∷◌, map, flatten}
use Prim.Native.Nat.{ℕ, zero, suc, ◌+◌, ◌*◌}
use native.Mathlib.Omega.{arith}
use lib.ListN.{length, get_or, drop}
use lib.Seq.{get_or-drop, drop-drop}
use Rattle.paper.specs.Language.{𝐁, Config}
use Rattle.runs.specs.Order.{numbers}
use Rattle.std.specs.Prelude.{Ok}
use Rattle.meaning.specs.declared.Layout.{Layout}
use Rattle.meaning.specs.declared.Node.{Node}
use Rattle.meaning.specs.Kinds.{node_kind}
use Rattle.meaning.specs.Card.{Bytes, byte, layout, node_at, nodes, pass, specification_at}
use Rattle.meaning.specs.Refusals.{all, has_edition, card_long_enough, card_mark_good, counts_good, offsets_good, weights_good, node_good, nodes_good, contains_of, containing, rules_good, actions_good, pool, sets_good, card_table, card_answer}
use Rattle.meaning.specs.Assembled.{assembled}
use Rattle.meaning.specs.Stripe.{card_set, set, specification}
use Rattle.meaning.proofs.Computing.{computing}
use Rattle.meaning.proofs.Tables.{not_given}
use Rattle.card.specs.GoodCard.{GoodCondition}
use Rattle.card.proofs.GoodCard.{good_card}
use Rattle.card.proofs.Rows.{no_row}
use Rattle.choices.specs.OnePass.{kept_of, kept, Settles}
use Rattle.choices.specs.OnePassCases.{card_of, shared_node, shared_card, deep_node, deep_card, believed, missing, LastIs, OnePassCases}
use Rattle.choices.proofs.OnePass.{one_pass}

-- ---- nodes read one behind the other, so that none is looked for from the card's first byte on

abbrev front : Bytes → Node
front b = record { kind = byte b 0; a = byte b 1; b = byte b 2; zero = byte b 3 }

abbrev along : ℕ → Bytes → List Node
along zero b = []
along (suc n) b = front b ∷ along n (drop 4 b)

abbrev keep_rule : ℕ → ℕ → List Node → Bool
keep_rule atoms k [] = true
keep_rule atoms k (x ∷ xs) = node_good atoms k x && keep_rule atoms (suc k) xs

abbrev contained : ℕ → List Node → List Bool
contained kind ns = pass (λ i x contains. contains_of kind (node_kind x.kind) x.a x.b contains) false ns

abbrev kept_along : Config → List Node → List (Bool × ℕ)
kept_along c ns = pass (λ i n below. kept_of i (node_kind n.kind) n.a n.b c.σ c.γ below) (false, 0) ns

module _ (l : Layout) (b : Bytes) where
  node_front : (k : ℕ) → node_at l b k ≡ front (drop (l.nodes.offset + 4 * k) b)
  unfolding node_at
  node_front k =
      let at = l.nodes.offset + 4 * k in
      let z : at + 0 ≡ at = omega arith in
      let e : byte (drop at b) 0 ≡ byte b at = get_or-drop at b 0 0 ∙ ap (byte b) z in
      rw (e, get_or-drop at b 1 0, get_or-drop at b 2 0, get_or-drop at b 3 0)

  nodes_from : (k n : ℕ) → map (node_at l b) (numbers k n) ≡ along n (drop (l.nodes.offset + 4 * k) b)
  unfolding numbers
  nodes_from k zero = refl
  nodes_from k (suc n) =
      let at = l.nodes.offset + 4 * k in
      let e : l.nodes.offset + 4 * suc k ≡ at + 4 = omega arith in
      ap₂ ◌∷◌ (node_front k) (nodes_from (suc k) n ∙ ap (λ m. along n (drop m b)) e ∙ ap (along n) (sym (drop-drop 4 at b)))

  rules_from : (k n : ℕ) → all (λ i. node_good l.atoms i (node_at l b i)) (numbers k n) ≡ keep_rule l.atoms k (map (node_at l b) (numbers k n))
  unfolding numbers
  rules_from k zero = refl
  rules_from k (suc n) = ap (λ v. node_good l.atoms k (node_at l b k) && v) (rules_from (suc k) n)

  abbrev ns : List Node
  ns = along l.nodes.count (drop (l.nodes.offset + 4 * 0) b)

  nodes_along : nodes l b ≡ ns
  unfolding nodes
  nodes_along = nodes_from 0 l.nodes.count

  good_along : nodes_good l b ≡ keep_rule l.atoms 0 ns
  unfolding nodes_good
  good_along = rules_from 0 l.nodes.count ∙ ap (keep_rule l.atoms 0) (nodes_from 0 l.nodes.count)

  contained_along : (kind : ℕ) → containing kind l b ≡ contained kind ns
  unfolding containing
  contained_along kind = ap (contained kind) nodes_along

  kept_along_lem : (c : Config) → kept l b c.σ c.γ ≡ kept_along c ns
  unfolding kept
  kept_along_lem c = ap (kept_along c) nodes_along

-- ---- what is computed of a card: its rows, and what is kept of node 255 where atom 0 is believed, and where it is not

record Computed (b : Bytes) (v w : Bool) : Type 0 where
  edition : has_edition b ≡ true
  marked : card_mark_good b ≡ true
  long_enough : card_long_enough b ≡ true
  counts : counts_good (layout b) ≡ true
  offsets : offsets_good (layout b) (length b) ≡ true
  weights : weights_good (layout b) b ≡ true
  nodes : keep_rule (layout b).atoms 0 (ns (layout b) b) ≡ true
  rules : rules_good (contained 1 (ns (layout b) b)) (contained 2 (ns (layout b) b)) (layout b) b ≡ true
  pool : actions_good (layout b).actions (pool (layout b) b) ≡ true
  sets : sets_good (layout b) b ≡ true
  one : (layout b).specifications.count ≡ 1
  last : (specification_at (layout b) b 0).node ≡ 255
  when_believed : get_or (kept_along believed (ns (layout b) b)) 255 (false, 0) ≡ (v, 0)
  when_missing : get_or (kept_along missing (ns (layout b) b)) 255 (false, 0) ≡ (w, 0)

module _ (b : Bytes) {v w : Bool} (d : Computed b v w) where
  abbrev l : Layout
  l = layout b

  accepted : card_answer b ≡ Ok tt
  unfolding card_answer card_table
  accepted =
      let n : nodes_good l b ≡ true = good_along l b ∙ d.nodes in
      let r : rules_good (containing 1 l b) (containing 2 l b) l b ≡ true = ap₂ (λ bs gs. rules_good bs gs l b) (contained_along l b 1) (contained_along l b 2) ∙ d.rules in
      not_given _ _ b (ap not d.edition)
      ∙ not_given _ _ b (ap not d.marked)
      ∙ not_given _ _ b (ap not d.long_enough)
      ∙ not_given _ _ b (ap not d.counts)
      ∙ not_given _ _ b (ap not d.offsets)
      ∙ not_given _ _ b (ap not d.weights)
      ∙ not_given _ _ b (ap not n)
      ∙ not_given _ _ b (ap not r)
      ∙ not_given _ _ b (ap not d.pool)
      ∙ not_given _ _ b (ap not d.sets)
      ∙ no_row b

  last_is : (c : Config) (u : Bool) (i : ℕ) → get_or (kept_along c (ns l b)) 255 (false, 0) ≡ (u, i) → LastIs b c u i
  last_is c u i e =
      let one = d.one in
      let g : GoodCondition l b 2 255 = subst (λ n. GoodCondition l b 2 n) d.last ((good_card l b accepted refl).specifications 0 (omega arith)).belief in
      let p = one_pass b accepted 𝐁 c 255 g in
      let q = sym p.keeps ∙ ap (λ (ps : List (Bool × ℕ)). get_or ps 255 (false, 0)) (kept_along_lem l b c) ∙ e in
      (ap (λ p. p.0) q, subst (λ n. Settles 𝐁 l b c n 255) (ap (λ p. p.1) q) p.settled)

-- ---- the two cards

shared : Computed shared_card true false
unfolding computing flatten assembled card_set set specification card_of shared_node shared_card believed missing
shared = record { edition = refl; marked = refl; long_enough = refl; counts = refl; offsets = refl; weights = refl; nodes = refl; rules = refl; pool = refl; sets = refl; one = refl; last = refl; when_believed = refl; when_missing = refl }

deep : Computed deep_card false true
unfolding computing flatten assembled card_set set specification card_of deep_node deep_card believed missing
deep = record { edition = refl; marked = refl; long_enough = refl; counts = refl; offsets = refl; weights = refl; nodes = refl; rules = refl; pool = refl; sets = refl; one = refl; last = refl; when_believed = refl; when_missing = refl }

pub one_pass_cases : OnePassCases
one_pass_cases =
    record {
      shared_accepted = accepted shared_card shared;
      shared_believed = last_is shared_card shared believed true 0 shared.when_believed;
      shared_missing = last_is shared_card shared missing false 0 shared.when_missing;
      deep_accepted = accepted deep_card deep;
      deep_believed = last_is deep_card deep believed false 0 deep.when_believed;
      deep_missing = last_is deep_card deep missing true 0 deep.when_missing;
    }
