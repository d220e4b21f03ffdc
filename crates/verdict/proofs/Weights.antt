-- Weights, one action after the other and one part of a card after the other.
use mathlib.Core.Path.{◌≡◌, ap, ◌∙◌, sym, subst}
use mathlib.Core.List.{List, [], ◌∷◌, ◌++◌, map}
use Prim.Native.Nat.{ℕ, zero, suc, ◌+◌, ◌-◌, ◌*◌, ◌≤◌, ◌<◌}
use native.Mathlib.Nat.{zero-add}
use native.Mathlib.Numerals.{add-one}
use native.Mathlib.Decide.{dec_lt}
use native.Mathlib.Omega.{arith}
use lib.ListN.{length, get_or, take, drop, drop_of_length-le, get_or-eq_default}
use lib.Seq.{drop-cons, take-add, drop-drop}
use Rattle.runs.specs.Weight.{weigh}
use Rattle.runs.specs.Order.{numbers}
use Rattle.runs.proofs.Numbers.{length_made, made_at}
use Rattle.runs.proofs.Weight.{weigh_append}
use Rattle.meaning.specs.declared.Layout.{Layout}
use Rattle.meaning.specs.Sizes.{set_bytes, header_bytes}
use Rattle.meaning.specs.Card.{Bytes, byte, number_at, part, layout, weight_at, weights, weight}
use Rattle.layout.proofs.GoodLayout.{card_most}
use Rattle.card.specs.GoodCard.{GoodCard}
use Rattle.verdict.specs.Summed.{Weighable}

pub weight_known : (b : Bytes) (a : ℕ) → a < (layout b).actions → weight b a ≡ weight_at (layout b) b a
unfolding weight weights
weight_known b a h = made_at (weight_at (layout b) b) 0 (layout b).actions a 1 h ∙ ap (weight_at (layout b) b) (zero-add a)

pub weigh_next : (w : ℕ → ℕ) (π : List ℕ) (i : ℕ) → i < length π → weigh w (drop i π) ≡ w (get_or π i 0) + weigh w (drop (i + 1) π)
unfolding weigh
weigh_next w π i h = rw (add-one, drop-cons π i 0 h)

pub weigh_done : (w : ℕ → ℕ) (π : List ℕ) (i : ℕ) → length π ≤ i → weigh w (drop i π) ≡ 0
unfolding weigh
weigh_done w π i h = rw (drop_of_length-le π h)

-- m actions and the n behind them weigh together what both weigh
pub weigh_part : (w : ℕ → ℕ) (b : Bytes) (at m n : ℕ) → weigh w (part b at (m + n)) ≡ weigh w (part b at m) + weigh w (part b (at + m) n)
unfolding part
weigh_part w b at m n =
    ap (weigh w) (take-add m n (drop at b) ∙ ap (λ x. take m (drop at b) ++ take n x) (drop-drop m at b))
    ∙ weigh_append w (take m (drop at b)) (take n (drop (at + m) b))

-- and what the first n weigh is what the first m of them do, with those from there on
pub weigh_between : (w : ℕ → ℕ) (b : Bytes) (at m n : ℕ) → m ≤ n → weigh w (part b at n) ≡ weigh w (part b at m) + weigh w (part b (at + m) (n - m))
weigh_between w b at m n h = let e : n ≡ m + (n - m) = omega arith in ap (λ k. weigh w (part b at k)) e ∙ weigh_part w b at m (n - m)

pub weigh_no_part : (w : ℕ → ℕ) (b : Bytes) (at n : ℕ) → n ≡ 0 → weigh w (part b at n) ≡ 0
unfolding part weigh
weigh_no_part w b at n e = ap (λ k. weigh w (part b at k)) e

-- of actions that weigh at most 1,024 each, n weigh at most 1,024 times n
weigh_most : (w : ℕ → ℕ) → ((a : ℕ) → w a ≤ 1024) → (n : ℕ) (π : List ℕ) → weigh w (take n π) ≤ 1024 * n
unfolding weigh
weigh_most w most zero π = omega arith
weigh_most w most (suc n) [] = omega arith
weigh_most w most (suc n) (a ∷ π) = let h = weigh_most w most n π in omega (arith, most a)

-- an action that the card does not have
weight_past : (b : Bytes) (a : ℕ) → (layout b).actions ≤ a → weight b a ≡ 1
unfolding weight weights
weight_past b a h =
    let past : length (map (weight_at (layout b) b) (numbers 0 (layout b).actions)) ≤ a = rw (length_made (weight_at (layout b) b) 0 (layout b).actions) h in
    get_or-eq_default (map (weight_at (layout b) b) (numbers 0 (layout b).actions)) 1 past

-- the same of an accepted card, by the layout that was read
module _ (l : Layout) (b : Bytes) (g : GoodCard l b) (a : ℕ) where
  pub weight_read : a < l.actions → weight b a ≡ weight_at l b a
  weight_read h = subst (λ (x : Layout). a < x.actions → weight b a ≡ weight_at x b a) (sym g.layout.says) (weight_known b a) h

  pub weight_none : l.actions ≤ a → weight b a ≡ 1
  weight_none h = weight_past b a (subst (λ (x : Layout). x.actions ≤ a) g.layout.says h)

  pub weight_most : weight b a ≤ 1024
  weight_most = elim (dec_lt a l.actions) [
    | yes h ↦ rw (weight_read h) (g.weights a h).most
    | no h ↦ rw (weight_none (omega arith)) (omega arith)
  ]

module _ (b : Bytes) (weights at n : ℕ) (p : Weighable b weights at n) where
  -- of these too, m from one of them on
  pub weighable_part : (from m : ℕ) → from + m ≤ n → Weighable b weights (at + from) m
  weighable_part from m h =
      let few = p.few in
      let inside = p.inside in
      let near = p.near in
      let e : (i : ℕ) → at + (from + i) ≡ at + from + i = λ i. omega arith in record {
        few = omega arith;
        inside = omega arith;
        near = omega arith;
        weights_near = p.weights_near;
        there = λ i k. subst (λ x. weights + 2 * byte b x + 2 ≤ length b) (e i) (p.there (from + i) (omega arith));
        weighs = λ i k. subst (λ x. number_at b (weights + 2 * byte b x) ≡ weight b (byte b x)) (e i) (p.weighs (from + i) (omega arith));
        light = p.light;
      }

  pub part_most : (from m : ℕ) → weigh (weight b) (part b from m) ≤ 1024 * m
  unfolding part
  part_most from m = weigh_most (weight b) p.light m (drop from b)

-- the pool of an accepted card, whose weights begin behind the header
pub weighable : (l : Layout) (b : Bytes) → GoodCard l b → (weights : ℕ) → weights ≡ header_bytes (set_bytes l) → Weighable b weights l.pool.offset l.pool.count
weighable l b g weights e =
    let d = g.layout in
    let few = d.pool in
    let ends = d.ends in
    let some = d.actions in
    let nodes = d.nodes in
    let specifications = d.specifications in
    let selections = d.selections in
    let revisions = d.revisions in
    let at = d.nodes_at in
    let at₁ = d.specifications_at in
    let at₂ = d.selections_at in
    let at₃ = d.revisions_at in
    let at₄ = d.pool_at in
    let most = card_most l b d in
    let sets = d.set_most in
    let same : weights ≡ header_bytes (set_bytes (layout b)) = e ∙ ap (λ (x : Layout). header_bytes (set_bytes x)) d.says in
    let known : (a : ℕ) → a < l.actions → a < (layout b).actions = λ a h. subst (λ (x : Layout). a < x.actions) d.says h in record {
      few = few;
      inside = omega arith;
      near = omega arith;
      weights_near = omega arith;
      there = λ i h. let k = g.pool i h in omega arith;
      weighs = λ i h. ap (λ w. number_at b (w + 2 * byte b (l.pool.offset + i))) same ∙ sym (weight_known b (byte b (l.pool.offset + i)) (known _ (g.pool i h)));
      light = weight_most l b g;
    }
