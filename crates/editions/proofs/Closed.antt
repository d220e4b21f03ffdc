-- Why a choice is closed is told alike with sets in 32 bytes and in 16; and the sets of a card's own agent have 16.
use mathlib.Core.Path.{◌≡◌, ap, subst}
use mathlib.Core.List.{[], ◌∷◌, List, map}
use mathlib.Core.Option.{some}
use Prim.Native.Nat.{ℕ, zero, suc, ◌≤◌}
use lib.Dec.{ltb}
use lib.ListN.{length, get_or, get_elem?}
use Rattle.paper.specs.Language.{Letter, 𝐁, 𝐆, Config}
use Rattle.paper.specs.Transitions.{select, act, revise}
use Rattle.paper.specs.Next.{is_empty, starts_with, is_prefix}
use Rattle.paper.proofs.Relation.{none≢some, some_inj}
use Rattle.runs.specs.Order.{numbers}
use Rattle.meaning.specs.declared.Refusal.{Refusal}
use Rattle.meaning.specs.declared.Layout.{Layout}
use Rattle.meaning.specs.Kinds.{node_kind}
use Rattle.meaning.specs.Card.{Bytes, layout, nodes, pass, conditions, condition, plan, specification_of, specification_at, selection_at, revision_at}
use Rattle.meaning.specs.Why.{settled_by, settlers, front_first, rule_first, false_of, why}
use Rattle.editions.specs.Edition1.{edition1_specification_at, edition1_agent}
use Rattle.editions.specs.Moves.{widened_config, ClosedAsBefore, MovesAsBefore}
use Rattle.editions.proofs.Rows.{part_16}
use Rattle.editions.proofs.Looking.{judged}
use Rattle.editions.proofs.Moves.{AddsFit, moves_as_before}

settlers_same : (L : Letter) (l : Layout) (b : Bytes) (c : Config) → settlers L l b (widened_config c) ≡ settlers L l b c
unfolding settlers
settlers_same L l b c =
    ap (λ truth. pass (λ i n below. settled_by i (λ j. j) (node_kind n.kind) n.a n.b truth below) 0 (nodes l b)) (λ i j. judged L c (condition (conditions L l b) j) i)

pub closed_as_before : ClosedAsBefore
unfolding why widened_config
closed_as_before l b c (select n) =
    let e = selection_at l b n in
    λ i. rule_first (ltb n l.selections.count) (front_first (is_empty c.π) (false_of (judged 𝐁 c (condition (conditions 𝐁 l b) e.belief) i) (get_or (settlers_same 𝐁 l b c i) e.belief 0) (get_or (settlers_same 𝐆 l b c i) e.goal 0)))
closed_as_before l b c (act n) =
    let e = specification_at l b n in
    λ i. rule_first (ltb n l.specifications.count) (front_first (starts_with e.action c.π) (Refusal.Condition (get_or (settlers_same 𝐁 l b c i) e.node 0)))
closed_as_before l b c (revise n) =
    let e = revision_at l b n in
    λ i. rule_first (ltb n l.revisions.count) (front_first (is_prefix (plan l b e.head) c.π) (Refusal.Condition (get_or (settlers_same 𝐁 l b c i) e.node 0)))

-- ---- the agent of a card

-- what stands in a list that was made by a function
at_made : {X : Type 0} (f : ℕ → X) (P : X → Type 0) → ((i : ℕ) → P (f i)) → (is : List ℕ) (n : ℕ) (x : X) → get_elem? (map f is) n ≡ some x → P x
at_made f P h [] n x e = absurd (none≢some e)
at_made f P h (i ∷ is) zero x e = subst P (some_inj e) (h i)
at_made f P h (i ∷ is) (suc n) x e = at_made f P h is n x e

adds_fit : (b : Bytes) → AddsFit (edition1_agent b)
unfolding edition1_agent specification_of edition1_specification_at
adds_fit b n s e =
    at_made (λ i. specification_of (conditions 𝐁 (layout b) b) (edition1_specification_at (layout b) b i)) (λ x. length x.Add ≤ 32) (λ i. part_16 b _) (numbers 0 (layout b).specifications.count) n s e

pub card_moves : (b : Bytes) → MovesAsBefore (edition1_agent b)
card_moves b = moves_as_before (edition1_agent b) (adds_fit b)
