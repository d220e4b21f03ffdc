-- The states that a card knows: its atoms, its actions, a plan that fits and a phase. A card that is accepted starts in one, and
-- every transition of its agent leads from one to another.
use mathlib.Core.Path.{◌≡◌, refl, ap, ◌∙◌, sym, subst}
use mathlib.Core.Bool.{Bool, true, false, not, ◌&&◌}
use mathlib.Core.List.{List, [], ◌∷◌, ◌++◌}
use Prim.Native.Nat.{ℕ, zero, suc, ◌+◌, ◌-◌, ◌*◌, ◌/◌, ◌%◌, ◌≤◌, ◌<◌}
use native.Mathlib.Nat.{zero-add, mod-lt}
use native.Mathlib.Decide.{dec_lt}
use native.Mathlib.Omega.{arith}
use borrow.Author.Tests.{leb-true, le-leb}
use lib.Dec.{eqb, ltb}
use lib.ListN.{length, length-take, take, drop, replicate, get_or}
use lib.Seq.{drop-append_seam}
use Rattle.paper.specs.Atoms.{Atoms, bit, ◌∈◌, ◌∪◌, ◌∖◌}
use Rattle.paper.specs.Language.{𝐁, 𝐆, Agent, Config, ⟨◌/◌/◌⟩, Selection, Revision, Specification}
use Rattle.paper.specs.Transitions.{Choice, Entry, Step, execute, apply_PS, apply_PR, σ', γ'}
use Rattle.paper.specs.Theorems.{AreBytes}
use Rattle.paper.proofs.Sets.{past, none_in, ∈-∖, by_bits}
use Rattle.paper.proofs.Relation.{both, none≢some, some_inj}
use Rattle.runs.specs.Order.{State, kind}
use Rattle.runs.specs.Step.{after}
use Rattle.runs.specs.Theorems.{Guided, ends, goes}
use Rattle.runs.proofs.Numbers.{made_entry, made_none}
use Rattle.meaning.specs.declared.Layout.{Layout}
use Rattle.meaning.specs.declared.Section.{Section}
use Rattle.meaning.specs.declared.Span.{Span}
use Rattle.std.specs.Prelude.{Ok}
use Rattle.meaning.specs.declared.Configuration.{Configuration}
use Rattle.meaning.specs.Sizes.{edition2_set, set_bytes, most_atoms, specification_bytes}
use Rattle.meaning.specs.Card.{Bytes, layout, part, byte, plan, entry_at, entries, conditions, specification_at, selection_at, revision_at, specification_of, selection_of, revision_of, agent_of, agent_for, agent, initial_plan, initial_beliefs, initial_goals, start}
use Rattle.meaning.specs.Configurations.{padded, state_of, configuration_of}
use Rattle.meaning.specs.Refusals.{all, every, within, card_answer, containing, condition_good, span_good, selection_good, revision_good, actions_good, set_good, both_good, sets_good, pool, configuration_good}
use Rattle.meaning.proofs.Entries.{GoodEntries, good_entries}
use Rattle.meaning.proofs.Every.{both_true, all-at, all_of, every_at}
use Rattle.meaning.proofs.Parts.{length_part, part_at}
use Rattle.meaning.proofs.Accepted.{Accepted, accepted, within_high, offsets}
use Rattle.meaning.specs.Theorems.{Holds}
use Rattle.meaning.proofs.Configurations.{take_padded, good}
use Rattle.meaning.proofs.Widening.{held, held_at}
use Rattle.meaning.proofs.KnownSets.{unknown, all_unknown, good-∪}

pub record Known (l : Layout) (s : State) : Type 0 where
  pub beliefs : set_good l.atoms s.mental.σ ≡ true
  pub goals : set_good l.atoms s.mental.γ ≡ true
  pub actions : actions_good l.actions s.mental.π ≡ true
  pub fits : length s.mental.π ≤ 1024
  pub phase : s.phase ≤ 2

-- ---- its configuration is accepted

all_zeros : (n : ℕ) → all (λ x. eqb x 0) (replicate n 0) ≡ true
all_zeros zero = refl
all_zeros (suc n) = all_zeros n

pub known_good : (l : Layout) (s : State) → Known l s → configuration_good l (configuration_of s) ≡ true
unfolding configuration_good configuration_of padded
known_good l s k =
    let π = s.mental.π in
    let d : drop (length π) (padded π) ≡ replicate (1024 - length π) 0 = drop-append_seam π (replicate (1024 - length π) 0) in
    let a : actions_good l.actions (take (length π) (padded π)) ≡ true = rw (take_padded π (length π) refl) k.actions in
    let z : all (λ x. eqb x 0) (drop (length π) (padded π)) ≡ true = rw d (all_zeros (1024 - length π)) in
    both_true _ _ (le-leb _ _ k.fits)
    (both_true _ _ a (both_true _ _ (both_true _ _ k.beliefs k.goals) (both_true _ _ (le-leb _ _ k.phase) z)))

pub known_of : (l : Layout) (c : Configuration) → configuration_good l c ≡ true → Known l (state_of c)
unfolding state_of
known_of l c e =
    let g = good l c e in
    let h = g.fits in
    record {
      beliefs = g.beliefs;
      goals = g.goals;
      actions = g.actions;
      fits = rw (length-take c.mind.length c.plan) (omega arith);
      phase = g.phase;
    }

-- ---- sets

-- a set of 32 bytes that a card knows is held: no byte above those of its edition has a bit
pub known_held : (l : Layout) (s : Atoms) → l.atoms ≤ most_atoms (set_bytes l) → length s ≡ 32 → AreBytes s → set_good l.atoms s ≡ true → Holds l s
unfolding ◌∈◌
known_held l s most e bytes h = held l s e (λ i a. by_bits (get_or s i 0) 0 (bytes i) (omega arith) (λ j b. none i j a b ∙ sym (no_bit j b)))
  where
    no_bit : (j : ℕ) → j < 8 → bit j 0 ≡ false
    no_bit j b = let r : j % 8 ≡ j = omega arith in rw r at (past [] j (omega arith))

    none : (i j : ℕ) → set_bytes l ≤ i → j < 8 → bit j (get_or s i 0) ≡ false
    none i j a b =
        let q : (8 * i + j) / 8 ≡ i = omega arith in
        let r : (8 * i + j) % 8 ≡ j = omega arith in
        rw (q, r) at (unknown l.atoms s h (8 * i + j) (omega arith))

known-∪ : (n : ℕ) (s t : Atoms) → set_good n s ≡ true → set_good n t ≡ true → set_good n (s ∪ t) ≡ true
known-∪ n s t e f = good-∪ n s t ∙ both_true (set_good n s) (set_good n t) e f

known-∖ : (n : ℕ) (s t : Atoms) → set_good n s ≡ true → set_good n (s ∖ t) ≡ true
known-∖ n s t e = all_unknown n (s ∖ t) (λ k h. ∈-∖ k s t ∙ ap (λ x. x && not (k ∈ t)) (unknown n s e k h))

pub known_empty : (l : Layout) → Known l (record { mental = ⟨ replicate edition2_set 0 / [] / replicate edition2_set 0 ⟩; phase = 0; finished = 0 })
unfolding actions_good
known_empty l = record {
  beliefs = all_unknown l.atoms (replicate edition2_set 0) (λ k h. none_in edition2_set k);
  goals = all_unknown l.atoms (replicate edition2_set 0) (λ k h. none_in edition2_set k);
  actions = refl;
  fits = omega arith;
  phase = omega arith;
}

-- ---- plans

module _ (n : ℕ) where
  known-++ : (π π' : List ℕ) → actions_good n π ≡ true → actions_good n π' ≡ true → actions_good n (π ++ π') ≡ true
  unfolding actions_good
  known-++ [] π' e f = f
  known-++ (a ∷ π) π' e f = both_true _ _ (both (ltb a n) _ e).0 (known-++ π π' (both (ltb a n) _ e).1 f)

  known_behind : (π π' : List ℕ) → actions_good n (π ++ π') ≡ true → actions_good n π' ≡ true
  unfolding actions_good
  known_behind [] π' e = e
  known_behind (a ∷ π) π' e = known_behind π π' (both (ltb a n) _ e).1

-- ---- the entries of an agent

pub entry_of : {R : Type 0} (read : ℕ → R) (s : Section) (n : ℕ) (r : R) → Entry (entries read s) n r → (n < s.count) × (read n ≡ r)
entry_of read s n r e = elim (dec_lt n s.count) [
  | yes l ↦ (l, rw (zero-add n) at (some_inj (sym (made_entry read 0 s.count n l) ∙ e)))
  | no l ↦ absurd (none≢some (sym (made_none read 0 s.count n (omega arith)) ∙ e))
]

-- ---- an accepted card

module _ (l : Layout) (b : Bytes) (Ends-there : l.pool.offset + l.pool.count ≤ length b) (acts : actions_good l.actions (pool l b) ≡ true) where
  -- a plan in the pool has actions of the card
  plan_known : (s : Span) → s.start + s.length ≤ l.pool.count → actions_good l.actions (plan l b s) ≡ true
  unfolding actions_good plan
  plan_known s h = all_of (λ a. ltb a l.actions) (part b at s.length) 0 each
    where
      at : ℕ
      at = l.pool.offset + s.start

      each : (i : ℕ) → i < length (part b at s.length) → ltb (get_or (part b at s.length) i 0) l.actions ≡ true
      each i below =
          let n : length (part b at s.length) ≡ s.length = length_part b at s.length (omega arith) in
          let m : length (pool l b) ≡ l.pool.count = length_part b l.pool.offset l.pool.count Ends-there in
          let p : get_or (part b at s.length) i 0 ≡ byte b (at + i) = part_at b at s.length i (omega arith) in
          let q : get_or (pool l b) (s.start + i) 0 ≡ byte b (l.pool.offset + (s.start + i)) = part_at b l.pool.offset l.pool.count (s.start + i) (omega arith) in
          let e : at + i ≡ l.pool.offset + (s.start + i) = omega arith in
          let g : ltb (get_or (pool l b) (s.start + i) 0) l.actions ≡ true = all-at (λ a. ltb a l.actions) (pool l b) (s.start + i) 0 acts (omega arith) in
          rw (p, e, sym q) g

-- what is asked of an agent's plans and sets, with the numbers of its card
pub record KnownAgent (l : Layout) (A : Agent) : Type 0 where
  pub selected : (n : ℕ) (r : Selection) → Entry A.PS n r → actions_good l.actions r.π ≡ true
  pub revised : (n : ℕ) (r : Revision) → Entry A.PR n r → actions_good l.actions r.πb ≡ true
  pub added : (n : ℕ) (s : Specification) → Entry A.AS n s → set_good l.atoms s.Add ≡ true
  pub held : (n : ℕ) (s : Specification) → Entry A.AS n s → Holds l s.Add

span_inside : (l : Layout) (least : ℕ) (s : Span) → span_good l least s ≡ true → s.start + s.length ≤ l.pool.count
span_inside l least s e = leb-true (s.start + s.length) l.pool.count (both (within least 1024 s.length) _ e).1

span_fits : (l : Layout) (least : ℕ) (s : Span) → span_good l least s ≡ true → s.length ≤ 1024
span_fits l least s e = within_high least 1024 s.length (both (within least 1024 s.length) _ e).0

module _ (b : Bytes) (card : card_answer b ≡ Ok tt) where
  abbrev l : Layout
  l = layout b

  a : Accepted b
  a = accepted b card

  pool_inside : l.pool.offset + l.pool.count ≤ length b
  pool_inside = let q = (offsets l (length b) a.offsets).ends in omega arith

  known_plan : (s : Span) → s.start + s.length ≤ l.pool.count → actions_good l.actions (plan l b s) ≡ true
  known_plan = plan_known l b pool_inside a.pool

  g : GoodEntries l b
  g = good_entries l b a.rules

  selection_known : (n : ℕ) → n < l.selections.count → actions_good l.actions (plan l b (selection_at l b n).plan) ≡ true
  unfolding selection_good
  selection_known n h =
      let x = selection_at l b n in
      let e = (both (condition_good l (containing 2 l b) x.belief) _ (g.selection n h)).1 in
      let f = (both (condition_good l (containing 1 l b) x.goal) _ e).1 in
      known_plan x.plan (span_inside l 1 x.plan (both (span_good l 1 x.plan) _ f).0)

  revision_known : (n : ℕ) → n < l.revisions.count → actions_good l.actions (plan l b (revision_at l b n).body) ≡ true
  unfolding revision_good
  revision_known n h =
      let x = revision_at l b n in
      let e = (both (condition_good l (containing 2 l b) x.node) _ (g.revision n h)).1 in
      let f = (both (eqb x.plain 0) _ e).1 in
      let d = (both (span_good l 1 x.head) _ f).1 in
      known_plan x.body (span_inside l 0 x.body (both (span_good l 0 x.body) _ d).0)

  abbrev sets : ℕ → Bool
  sets i = both_good l.atoms (specification_at l b i).add (specification_at l b i).del

  initial_sets : (both_good l.atoms (initial_beliefs l b) (initial_goals l b) ≡ true) × (every l.specifications.count sets ≡ true)
  unfolding sets_good
  initial_sets = both (both_good l.atoms (initial_beliefs l b) (initial_goals l b)) _ a.sets

  add_held : (n : ℕ) → Holds l (specification_at l b n).add
  unfolding specification_at
  add_held n = held_at l b (entry_at (specification_bytes (set_bytes l)) l.specifications n + 4)

  pub known_agent : KnownAgent l (agent b)
  unfolding agent agent_for agent_of selection_of revision_of specification_of
  known_agent = record {
    selected = λ n r e.
        let (h, q) = entry_of (λ i. selection_of (conditions 𝐁 l b) (conditions 𝐆 l b) l b (selection_at l b i)) l.selections n r e in
        subst (λ (x : Selection). actions_good l.actions x.π ≡ true) q (selection_known n h);
    revised = λ n r e.
        let (h, q) = entry_of (λ i. revision_of (conditions 𝐁 l b) l b (revision_at l b i)) l.revisions n r e in
        subst (λ (x : Revision). actions_good l.actions x.πb ≡ true) q (revision_known n h);
    added = λ n s e.
        let (h, q) = entry_of (λ i. specification_of (conditions 𝐁 l b) (specification_at l b i)) l.specifications n s e in
        subst (λ (x : Specification). set_good l.atoms x.Add ≡ true) q
        (both (set_good l.atoms (specification_at l b n).add) _ (every_at sets l.specifications.count n initial_sets.1 h)).0;
    held = λ n s e.
        let (h, q) = entry_of (λ i. specification_of (conditions 𝐁 l b) (specification_at l b i)) l.specifications n s e in
        subst (λ (x : Specification). Holds l x.Add) q (add_held n);
  }

  pub known_start : Known l (start b)
  unfolding start initial_plan plan
  known_start =
      let s = both (set_good l.atoms (initial_beliefs l b)) _ initial_sets.0 in
      let inside = span_inside l 0 l.initial g.initial in
      let most = span_fits l 0 l.initial g.initial in
      let ends = pool_inside in
      record {
        beliefs = s.0;
        goals = known-∖ l.atoms (initial_goals l b) (initial_beliefs l b) s.1;
        actions = known_plan l.initial inside;
        fits = rw (length_part b (l.pool.offset + l.initial.start) l.initial.length (omega arith)) most;
        phase = omega arith;
      }

-- ---- a transition keeps it

module _ {l : Layout} {A : Agent} (known : KnownAgent l A) where
  stepped : {c c' : Config} {k : Choice} → Step A c k c' → set_good l.atoms c.σ ≡ true → set_good l.atoms c.γ ≡ true → actions_good l.actions c.π ≡ true
      → (set_good l.atoms c'.σ ≡ true) × ((set_good l.atoms c'.γ ≡ true) × (actions_good l.actions c'.π ≡ true))
  unfolding σ' γ' actions_good
  stepped (execute {σ = σ} {γ = γ} {n = n} {s = t} e p) b g acts = (
    known-∖ l.atoms (σ ∪ t.Add) t.Del (known-∪ l.atoms σ t.Add b (known.added n t e)),
    (known-∖ l.atoms γ (σ' σ t) g, (both (ltb t.a l.actions) _ acts).1),
  )
  stepped (apply_PS {n = n} {r = r} e p q) b g acts = (b, (g, known.selected n r e))
  stepped (apply_PR π {n = n} {r = r} e p) b g acts = (b, (g, known-++ l.actions r.πb π (known.revised n r e) (known_behind l.actions r.πₕ π acts)))

  pub known_after : (s : State) {k : Choice} {c : Config} → Known l s → Step A s.mental k c → length c.π ≤ 1024 → Known l (after s k c)
  unfolding after
  known_after s {k} {c} h x fits =
      let m : (kind k + 1) % 3 < 3 = mod-lt (kind k + 1) (omega arith) in
      let (b, (g, acts)) = stepped x h.beliefs h.goals h.actions in
      record { beliefs = b; goals = g; actions = acts; fits = fits; phase = omega arith }

  -- and so does every run of the guide's own
  pub known_guided : {s s' : State} {ks : List Choice} → Guided A s ks s' → Known l s → Known l s'
  known_guided ends h = h
  known_guided (goes {s} e x f r) h = known_guided r (known_after s h x f)
