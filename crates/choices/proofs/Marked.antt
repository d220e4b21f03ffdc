-- What asking for a choice of a card answers, by the marks and the plan's bytes.
use mathlib.Core.Path.{◌≡◌, refl, ap, ap₂, ◌∙◌, sym}
use mathlib.Core.Bool.{Bool, true, false, not, ◌&&◌}
use mathlib.Core.List.{List}
use Prim.Native.Nat.{ℕ, ◌<◌}
use native.Mathlib.Omega.{arith}
use borrow.Author.Tests.{lt-ltb}
use lib.Dec.{eqb}
use lib.ListN.{take, get_or}
use Rattle.paper.specs.Language.{Letter, 𝐁, 𝐆, Config}
use Rattle.paper.specs.Transitions.{Choice, select, act, revise}
use Rattle.paper.specs.Next.{is_prefix, enabled}
use Rattle.meaning.specs.declared.Layout.{Layout}
use Rattle.meaning.specs.declared.Configuration.{Configuration}
use Rattle.meaning.specs.Card.{Bytes, plan, specification_at, selection_at, revision_at, agent_for}
use Rattle.meaning.specs.Configurations.{state_of}
use Rattle.meaning.specs.Refusals.{other}
use Rattle.card.specs.GoodCard.{GoodCondition}
use Rattle.door.specs.Ready.{Ready}
use Rattle.door.specs.Asking.{judging, both, is_there, front_fits, conditions_of, asked_by, asked}
use Rattle.door.proofs.Asking.{is_enabled, asked_is, empty_exactly, first_exactly}
use Rattle.choices.specs.OnePass.{kept}
use Rattle.choices.specs.Judged.{mark_at, Judged}
use Rattle.choices.proofs.OnePass.{one_pass_of}

-- of an accepted card and configuration, by whatever tells of each node what the pass keeps of it
module _ (l : Layout) (b : Bytes) (c : Configuration) (mark : ℕ → Bool × ℕ) (ready : Ready l b c)
    (keeps : (n : ℕ) → n < l.nodes.count → mark n ≡ get_or (kept l b c.mind.beliefs c.mind.goals) n (false, 0)) where
  -- it has what the tree of a condition has
  pub tells : (L : Letter) (x : ℕ) → GoodCondition l b (other L) x → mark x ≡ judging L l b (state_of c).mental x
  unfolding state_of
  tells L x k = keeps x k.known ∙ (one_pass_of L l b ready.card.nodes (state_of c).mental x k).keeps

  -- of a choice that the card has
  asks : (k : Choice) (front : Bool) (p : Bool × ℕ) → is_there l k ≡ true → front ≡ front_fits l b (state_of c).mental k → p ≡ conditions_of l b (state_of c).mental k
      → asked_by true front p ≡ asked l b (state_of c).mental k
  unfolding asked
  asks k front p t f e = ap₂ (asked_by true) f e ∙ ap (λ t. asked_by t (front_fits l b (state_of c).mental k) (conditions_of l b (state_of c).mental k)) (sym t)

  module _ (i : ℕ) where
    abbrev d : Bytes
    d = c.plan

    abbrev n : ℕ
    n = c.mind.length

    pub asks_selection : i < l.selections.count
        → asked_by true (eqb n 0) (both (mark (selection_at l b i).belief) (mark (selection_at l b i).goal)) ≡ asked l b (state_of c).mental (select i)
    unfolding state_of
    asks_selection h =
        let r = ready.card.selections i h in
        asks (select i) _ _ (lt-ltb i l.selections.count h)
        (sym (empty_exactly d n (let x = ready.fits in let y = ready.room in omega arith)))
        (ap₂ both (tells 𝐁 _ r.belief) (tells 𝐆 _ r.goal))

    pub asks_specification : i < l.specifications.count
        → asked_by true (not (eqb n 0) && eqb (specification_at l b i).action (get_or d 0 0)) (mark (specification_at l b i).node) ≡ asked l b (state_of c).mental (act i)
    unfolding state_of
    asks_specification h =
        asks (act i) _ _ (lt-ltb i l.specifications.count h)
        (sym (first_exactly (specification_at l b i).action d n (let y = ready.room in omega arith)))
        (tells 𝐁 _ (ready.card.specifications i h).belief)

    pub asks_revision : i < l.revisions.count
        → asked_by true (is_prefix (plan l b (revision_at l b i).head) (take n d)) (mark (revision_at l b i).node) ≡ asked l b (state_of c).mental (revise i)
    unfolding state_of
    asks_revision h = asks (revise i) _ _ (lt-ltb i l.revisions.count h) refl (tells 𝐁 _ (ready.card.revisions i h).belief)

-- a mark has what the tree of its condition has
pub marked : (l : Layout) (b : Bytes) (c : Configuration) (marks : List ℕ) → Judged l b c marks → (L : Letter) (x : ℕ) → GoodCondition l b (other L) x → mark_at marks x ≡ judging L l b (state_of c).mental x
marked l b c marks j = tells l b c (mark_at marks) j.ready j.marked

-- a choice of the card is enabled if its front fits and its conditions hold
module _ (l : Layout) (b : Bytes) (s : Config) (k : Choice) (front : Bool) (p : Bool × ℕ) (e : asked_by true front p ≡ asked l b s k) where
  enabled_so : (front && p.0) ≡ enabled (agent_for l b) s k
  enabled_so = by_both front p.0 p.1 ∙ asked_is l b s k _ _ e refl
    where
      by_both : (f h : Bool) (n : ℕ) → (f && h) ≡ is_enabled (asked_by true f (h, n))
      by_both true true n = refl
      by_both true false n = refl
      by_both false h n = refl

  no_front : front ≡ false → false ≡ enabled (agent_for l b) s k
  no_front f = ap (λ t. t && p.0) (sym f) ∙ enabled_so

  not_held : p.0 ≡ false → false ≡ enabled (agent_for l b) s k
  not_held f = sym (and-false front) ∙ ap (λ t. front && t) (sym f) ∙ enabled_so
    where
      and-false : (t : Bool) → (t && false) ≡ false
      and-false true = refl
      and-false false = refl

  held : p.0 ≡ true → front ≡ enabled (agent_for l b) s k
  held f = sym (and-true front) ∙ ap (λ t. front && t) (sym f) ∙ enabled_so
    where
      and-true : (t : Bool) → (t && true) ≡ t
      and-true true = refl
      and-true false = refl

  fitting : front ≡ true → p.0 ≡ enabled (agent_for l b) s k
  fitting f = ap (λ t. t && p.0) (sym f) ∙ enabled_so

-- of a specification: whether there is an action at all, and whether the first is its own
module _ (l : Layout) (b : Bytes) (s : Config) (k : Choice) (some same : Bool) (p : Bool × ℕ) (e : asked_by true (some && same) p ≡ asked l b s k) where
  other_action : same ≡ false → false ≡ enabled (agent_for l b) s k
  other_action f = no_front l b s k (some && same) p e (ap (λ t. some && t) f ∙ and-false some)
    where
      and-false : (t : Bool) → (t && false) ≡ false
      and-false true = refl
      and-false false = refl

  same_action : same ≡ true → (some && p.0) ≡ enabled (agent_for l b) s k
  same_action f = ap (λ t. t && p.0) (sym (ap (λ t. some && t) f ∙ and-true some)) ∙ enabled_so l b s k (some && same) p e
    where
      and-true : (t : Bool) → (t && true) ≡ t
      and-true true = refl
      and-true false = refl

-- the same of each kind, by the marks and the plan's bytes
module _ (l : Layout) (b : Bytes) (c : Configuration) (marks : List ℕ) (j : Judged l b c marks) (i : ℕ) where
  abbrev now_enabled : Choice → Bool
  now_enabled = enabled (agent_for l b) (state_of c).mental

  module _ (h : i < l.selections.count) where
    abbrev holding : Bool × ℕ
    holding = both (mark_at marks (selection_at l b i).belief) (mark_at marks (selection_at l b i).goal)

    pub selection_shut : eqb c.mind.length 0 ≡ false → false ≡ now_enabled (select i)
    selection_shut = no_front l b (state_of c).mental (select i) (eqb c.mind.length 0) holding (asks_selection l b c (mark_at marks) j.ready j.marked i h)

    pub selection_by : eqb c.mind.length 0 ≡ true → holding.0 ≡ now_enabled (select i)
    selection_by = fitting l b (state_of c).mental (select i) (eqb c.mind.length 0) holding (asks_selection l b c (mark_at marks) j.ready j.marked i h)

  module _ (h : i < l.specifications.count) where
    abbrev own : Bool
    own = eqb (specification_at l b i).action (get_or c.plan 0 0)

    pub specification_shut : own ≡ false → false ≡ now_enabled (act i)
    specification_shut = other_action l b (state_of c).mental (act i) (not (eqb c.mind.length 0)) own (mark_at marks (specification_at l b i).node) (asks_specification l b c (mark_at marks) j.ready j.marked i h)

    pub specification_by : own ≡ true → (not (eqb c.mind.length 0) && (mark_at marks (specification_at l b i).node).0) ≡ now_enabled (act i)
    specification_by = same_action l b (state_of c).mental (act i) (not (eqb c.mind.length 0)) own (mark_at marks (specification_at l b i).node) (asks_specification l b c (mark_at marks) j.ready j.marked i h)

  module _ (h : i < l.revisions.count) where
    abbrev starting : Bool
    starting = is_prefix (plan l b (revision_at l b i).head) (take c.mind.length c.plan)

    pub revision_shut : (mark_at marks (revision_at l b i).node).0 ≡ false → false ≡ now_enabled (revise i)
    revision_shut = not_held l b (state_of c).mental (revise i) starting (mark_at marks (revision_at l b i).node) (asks_revision l b c (mark_at marks) j.ready j.marked i h)

    pub revision_by : (mark_at marks (revision_at l b i).node).0 ≡ true → starting ≡ now_enabled (revise i)
    revision_by = held l b (state_of c).mental (revise i) starting (mark_at marks (revision_at l b i).node) (asks_revision l b c (mark_at marks) j.ready j.marked i h)
