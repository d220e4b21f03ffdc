-- Under edition 1 every size is document 01's, and each row asks what document 01's row asks.
use mathlib.Core.Path.{◌≡◌, refl, ap, ap₂, ◌∙◌}
use mathlib.Core.Bool.{Bool, ◌&&◌}
use mathlib.Core.List.{List}
use Prim.Native.Nat.{ℕ, ◌+◌, ◌≤◌}
use native.Mathlib.Omega.{arith}
use lib.ListN.{length, drop, length-take}
use Rattle.meaning.specs.declared.Layout.{Layout}
use Rattle.meaning.specs.Sizes.{set_bytes, most_atoms, goals_at, header_bytes, del_at, specification_bytes, place_goals_at, plan_at}
use Rattle.meaning.specs.Card.{Bytes, part, widened, set_at, specification_at, entry_at}
use Rattle.meaning.specs.Refusals.{every, counts_good, offsets_good, weights_good, specification_good, rules_good, both_good, sets_good}
use Rattle.meaning.proofs.Widening.{set_first}
use Rattle.meaning.proofs.KnownSets.{good_widened}
use Rattle.editions.specs.Edition1.{edition1_set_at, edition1_specification_at, edition1_counts_good, edition1_offsets_good, edition1_weights_good, edition1_rules_good, edition1_sets_good}
use Rattle.editions.specs.AsBefore.{Edition1Sizes}

-- ---- the sizes

pub edition1_sizes : (l : Layout) → l.edition ≡ 1 → Edition1Sizes l
edition1_sizes l e =
    let s : set_bytes l ≡ 16 = set_first l.edition (λ h. omega arith) in
    record {
      set = s;
      atoms = ap most_atoms s;
      goals = ap goals_at s;
      header = ap header_bytes s;
      specification = ap specification_bytes s;
      del = ap del_at s;
      place_goals = ap place_goals_at s;
      plan = ap plan_at s;
    }

-- ---- the rows of a card

-- two tests of every number that agree on each
pub every_same : (p q : ℕ → Bool) → ((i : ℕ) → p i ≡ q i) → (n : ℕ) → every n p ≡ every n q
every_same p q e n = ap (λ t. every n t) (λ j i. e i j)

pub part_16 : (b : Bytes) (at : ℕ) → length (part b at 16) ≤ 32
unfolding part
part_16 b at = let e = length-take 16 (drop at b) in omega arith

module _ (l : Layout) (e : l.edition ≡ 1) where
  s16 : set_bytes l ≡ 16
  s16 = (edition1_sizes l e).set

  pub same_counts : counts_good l ≡ edition1_counts_good l
  unfolding counts_good
  same_counts = rw s16

  pub same_offsets : (n : ℕ) → offsets_good l n ≡ edition1_offsets_good l n
  unfolding offsets_good
  same_offsets n = rw s16

  pub same_weights : (b : Bytes) → weights_good l b ≡ edition1_weights_good l b
  unfolding weights_good
  same_weights b = rw s16

  -- what is not a set of a specification
  pub same_specification : (b : Bytes) (i : ℕ) → specification_at l b i ≡ (let o = edition1_specification_at l b i in
      record { action = o.action; node = o.node; zero = o.zero; add = widened o.add; del = widened o.del })
  unfolding specification_at edition1_specification_at
  same_specification b i = rw s16

  pub same_rules : (bs gs : List Bool) (b : Bytes) → rules_good bs gs l b ≡ edition1_rules_good bs gs l b
  unfolding rules_good specification_good
  same_rules bs gs b =
      ap₂ ◌&&◌
      (every_same (λ i. specification_good gs l (specification_at l b i)) (λ i. specification_good gs l (edition1_specification_at l b i)) (λ i. ap (specification_good gs l) (same_specification b i)) l.specifications.count)
      refl

  -- two sets at once, in 32 bytes and in 16
  pub same_both : (b : Bytes) (i j : ℕ) → both_good l.atoms (widened (edition1_set_at b i)) (widened (edition1_set_at b j)) ≡ both_good l.atoms (edition1_set_at b i) (edition1_set_at b j)
  same_both b i j = ap₂ ◌&&◌ (good_widened l.atoms (edition1_set_at b i)) (good_widened l.atoms (edition1_set_at b j))

  pub same_sets_at : (b : Bytes) (i j : ℕ) → both_good l.atoms (set_at l b i) (set_at l b j) ≡ both_good l.atoms (edition1_set_at b i) (edition1_set_at b j)
  same_sets_at b i j = ap (λ s. both_good l.atoms (widened (part b i s)) (widened (part b j s))) s16 ∙ same_both b i j

  pub same_sets : (b : Bytes) → sets_good l b ≡ edition1_sets_good l b
  unfolding sets_good edition1_specification_at
  same_sets b =
      ap₂ ◌&&◌ (ap (λ s. both_good l.atoms (set_at l b 32) (set_at l b (goals_at s))) s16 ∙ same_sets_at b 32 48)
      (every_same _ _ (λ i. ap (λ o. both_good l.atoms o.add o.del) (same_specification b i) ∙ same_both b (entry_at 36 l.specifications i + 4) (entry_at 36 l.specifications i + 20)) l.specifications.count)
