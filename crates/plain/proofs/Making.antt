-- Plans that are copied, the finished count, and where a transition that is made leads.
use mathlib.Core.Path.{◌≡◌, refl, sym, ap, ap₂, ◌∙◌, subst}
use mathlib.Core.Bool.{Bool}
use mathlib.Core.List.{List, [], ◌++◌, append-nil}
use Prim.Native.Nat.{ℕ, ◌+◌, ◌-◌, ◌%◌, ◌≤◌, ◌<◌}
use native.Mathlib.Omega.{arith}
use lib.ListN.{length, take, drop, replicate, length-append, length-take, length-drop, drop_of_length-le}
use lib.Seq.{take_at, drop_at, take-add, drop-drop, length-take-le, paste}
use Rattle.paper.specs.Atoms.{Atoms, ◌∪◌, ◌∖◌}
use Rattle.paper.specs.Language.{⟨◌/◌/◌⟩}
use Rattle.paper.specs.Transitions.{Choice, select, act, revise, struck_by, σ', γ'}
use Rattle.runs.specs.Order.{kind}
use Rattle.runs.specs.Step.{Reached, finished_with, to, step}
use Rattle.meaning.specs.declared.Layout.{Layout}
use Rattle.meaning.specs.declared.Span.{Span}
use Rattle.meaning.specs.declared.SpecificationEntry.{SpecificationEntry}
use Rattle.meaning.specs.declared.SelectionEntry.{SelectionEntry}
use Rattle.meaning.specs.declared.RevisionEntry.{RevisionEntry}
use Rattle.meaning.specs.declared.Configuration.{Configuration}
use Rattle.meaning.specs.Sizes.{edition2_set}
use Rattle.meaning.specs.Card.{Bytes, part, plan, specification_at, selection_at, revision_at, specification_of, agent_for}
use Rattle.meaning.specs.Configurations.{padded, state_of, configuration_of}
use Rattle.meaning.proofs.Parts.{length_part}
use Rattle.layout.specs.PlaceParts.{configured}
use Rattle.card.specs.GoodCard.{GoodSpan}
use Rattle.std.proofs.lemmas.List.{drop-replicate}
use Rattle.door.specs.Ready.{Ready}
use Rattle.door.specs.Asking.{told}
use Rattle.door.proofs.Told.{told_kind}
use Rattle.moves.specs.declared.step.Transition.{Transition}
use Rattle.moves.specs.Steps.{transition_of, configuration_after, StepsBy, Enabled}
use Rattle.moves.proofs.Finished.{finished_at_lem}
use Rattle.moves.proofs.Stepping.{selection_known, plan_length, selects_to, plan_not_empty, acted_length, acts_to, revision_known, head_fits, revised_length, revises_to, revises_full}
use Rattle.unpacked.specs.declared.configuration.Unpacked.{Unpacked}
use Rattle.unpacked.specs.Truths.{packed, configuration_from}
use Rattle.plain.specs.declared.make.Made.{Made}
use Rattle.plain.specs.Calls.{taken_from}

-- n bytes of b and then those of p from `from` to `len`, over zeros
module _ (b p : Bytes) (at n from len : ℕ) (whole : at + n ≤ length b) (order : from ≤ len) (room : len ≤ length p) (fits : n + (len - from) ≤ 1024) where
  abbrev m : ℕ
  m = len - from

  abbrev zeros : Bytes
  zeros = replicate 1024 0

  abbrev once : Bytes
  once = paste zeros 0 (drop at b) n

  rest : take m (drop from p) ≡ drop from (take len p)
  rest =
      let e : from + m ≡ len = omega arith in
      sym (drop_at (take from p) (take m (drop from p)) from (length-take-le from p (omega arith)))
      ∙ ap (drop from) (sym (take-add from m p))
      ∙ ap (λ k. drop from (take k p)) e

  length_front : length (part b at n) ≡ n
  length_front = length_part b at n whole

  front : take n once ≡ part b at n
  unfolding part
  front = take_at (part b at n) (drop (0 + n) zeros) n length_front

  behind : drop (n + m) once ≡ replicate (1024 - (n + m)) 0
  unfolding part
  behind =
      let e : 0 + n + m ≡ n + m = omega arith in
      sym (drop-drop m n once)
      ∙ ap (drop m) (drop_at (part b at n) (drop (0 + n) zeros) n length_front)
      ∙ drop-drop m (0 + n) zeros
      ∙ ap (λ k. drop k zeros) e
      ∙ drop-replicate (n + m) 1024 0

  length_rest : length (drop from (take len p)) ≡ m
  length_rest = length-drop from (take len p) ∙ ap (λ k. k - from) (length-take-le len p room)

  pub copied : paste once n (drop from p) m ≡ padded (part b at n ++ drop from (take len p))
  unfolding padded
  copied =
      let l : length (part b at n ++ drop from (take len p)) ≡ n + m = length-append (part b at n) (drop from (take len p)) ∙ ap₂ ◌+◌ length_front length_rest in
      (λ i. front i ++ rest i ++ behind i) ∙ ap (λ k. part b at n ++ drop from (take len p) ++ replicate (1024 - k) 0) (sym l)

-- ---- a transition made

-- where a choice leads, and what `taken` makes of a configuration that has changed so
module _ (l : Layout) (b : Bytes) (c : Configuration) (k : Choice) (u : Unpacked) (p : Bytes) (n : ℕ) where
  pub took : (σ γ : Atoms) (π : List ℕ)
      → step (agent_for l b) (state_of c) k ≡ to k (record { mental = ⟨ σ / π / γ ⟩; phase = (kind k + 1) % 3; finished = finished_with u.standing.finished π })
      → packed edition2_set u.beliefs ≡ σ → packed edition2_set u.goals ≡ γ → p ≡ padded π → n ≡ length π
      → (r : Made) → r ≡ taken_from (told k) u p n
      → StepsBy l b c k r.transition (configuration_from r.unpacked)
  unfolding configuration_of
  took σ γ π t believed wanted held long r e =
      let f = finished_at_lem u.standing.finished n π long in (
        ap (λ (x : Made). x.transition) e ∙ ap transition_of (sym t),
        ap (λ (x : Made). configuration_from x.unpacked) e
            ∙ (λ j. configured (believed j) (wanted j) (record { length = long j; phase = (told_kind k j + 1) % 3; finished = f j }) (held j))
            ∙ ap (λ (x : Reached). configuration_after x c) (sym t),
      )

-- a plan of the pool, where it stands
pool_plan : (l : Layout) (b : Bytes) (s : Span) (at : ℕ) → at ≡ l.pool.offset + s.start → part b at s.length ≡ plan l b s
unfolding plan
pool_plan l b s at e = ap (λ k. part b k s.length) e

module _ (l : Layout) (b : Bytes) (u : Unpacked) (ready : Ready l b (configuration_from u)) (i : ℕ) where
  abbrev c : Configuration
  c = configuration_from u

  abbrev len : ℕ
  len = u.standing.length

  -- a plan of the pool ends within the card
  pool_ends : (least : ℕ) (s : Span) → GoodSpan l least s → (at : ℕ) → at ≡ l.pool.offset + s.start → at + s.length ≤ length b
  pool_ends least s g at e = let x = g.inside in let y = ready.card.layout.ends in omega arith

  -- a selection: of the old plan nothing stays
  module _ (may : Enabled l b c (select i)) (e : SelectionEntry) (so : e ≡ selection_at l b i) where
    pub selection_span : GoodSpan l 1 e.plan
    selection_span = subst (λ (x : SelectionEntry). GoodSpan l 1 x.plan) (sym so) (ready.card.selections i (selection_known l b c ready i may)).plan

    pub selection_room : (at : ℕ) → at ≡ l.pool.offset + e.plan.start
        → (at + e.plan.length ≤ length b) × (len ≤ len) × (len ≤ 1024) × (e.plan.length + (len - len) ≤ 1024)
    selection_room at here = let g = selection_span.fits in (pool_ends 1 e.plan selection_span at here, omega arith, ready.fits, omega arith)

    pub selection_made : (at : ℕ) → at ≡ l.pool.offset + e.plan.start
        → (p : Bytes) → p ≡ padded (part b at e.plan.length ++ drop len (take len u.plan))
        → (r : Made) → r ≡ taken_from (told (select i)) u p e.plan.length
        → StepsBy l b c (select i) r.transition (configuration_from r.unpacked)
    unfolding kind
    selection_made at here p q =
        let gone : drop len (take len u.plan) ≡ [] = drop_of_length-le (take len u.plan) {i = len} (rw (length-take len u.plan) (omega arith)) in
        took l b c (select i) u p e.plan.length _ _ (plan l b (selection_at l b i).plan) (selects_to l b c ready i may) refl refl
        (q ∙ ap padded (ap (λ (x : Bytes). part b at e.plan.length ++ x) gone ∙ append-nil _ ∙ pool_plan l b e.plan at here ∙ ap (λ (x : SelectionEntry). plan l b x.plan) so))
        (sym (plan_length l b c ready i 1 e.plan selection_span) ∙ ap (λ (x : SelectionEntry). length (plan l b x.plan)) so)

  -- an action, whose sets after it are β and γ: of the old plan the first action goes
  module _ (may : Enabled l b c (act i)) where
    pub action_room : (0 + 0 ≤ length b) × (1 ≤ len) × (len ≤ 1024) × (0 + (len - 1) ≤ 1024)
    action_room = let f = ready.fits in (omega arith, plan_not_empty l b c ready i may, f, omega arith)

    pub action_made : (e : SpecificationEntry) → e ≡ specification_at l b i
        → (β γ : List Bool) → packed edition2_set β ≡ (packed edition2_set u.beliefs ∪ e.add) ∖ e.del
        → packed edition2_set γ ≡ struck_by (packed edition2_set β) (packed edition2_set u.goals)
        → (p : Bytes) → p ≡ padded (part b 0 0 ++ drop 1 (take len u.plan))
        → (r : Made) → r ≡ taken_from (told (act i)) (record { beliefs = β; goals = γ; plan = u.plan; standing = u.standing }) p (len - 1)
        → StepsBy l b c (act i) r.transition (configuration_from r.unpacked)
    unfolding kind part σ' γ' specification_of
    action_made e so β γ believed wanted p q =
        let f = believed ∙ ap (λ (x : SpecificationEntry). (packed edition2_set u.beliefs ∪ x.add) ∖ x.del) so in
        took l b c (act i) (record { beliefs = β; goals = γ; plan = u.plan; standing = u.standing }) p (len - 1) _ _ _ (acts_to l b c ready i may)
        f (wanted ∙ ap (λ (x : Atoms). struck_by x (packed edition2_set u.goals)) f) q (sym (acted_length l b c ready i may))

  -- a revision
  module _ (may : Enabled l b c (revise i)) (e : RevisionEntry) (so : e ≡ revision_at l b i) where
    pub revision_body : GoodSpan l 0 e.body
    revision_body = subst (λ (x : RevisionEntry). GoodSpan l 0 x.body) (sym so) (ready.card.revisions i (revision_known l b c ready i may)).body

    pub revision_head : e.head.length ≤ len
    revision_head = subst (λ (x : RevisionEntry). x.head.length ≤ len) (sym so) (head_fits l b c ready i may)

    abbrev longer : ℕ
    longer = e.body.length + (len - e.head.length)

    as_long : (x : ℕ → Type 0) → x longer → x ((revision_at l b i).body.length + (len - (revision_at l b i).head.length))
    as_long x = subst (λ (y : RevisionEntry). x (y.body.length + (len - y.head.length))) so

    pub revision_full : 1024 < longer → (r : Made) → r ≡ record { transition = Transition.Full; unpacked = u } → StepsBy l b c (revise i) r.transition (configuration_from r.unpacked)
    revision_full long r q =
        let t = revises_full l b c ready i may (as_long (λ k. 1024 < k) long) in (
          ap (λ (x : Made). x.transition) q ∙ ap transition_of (sym t),
          ap (λ (x : Made). configuration_from x.unpacked) q ∙ ap (λ (x : Reached). configuration_after x c) (sym t),
        )

    pub revision_room : longer ≤ 1024 → (at : ℕ) → at ≡ l.pool.offset + e.body.start
        → (at + e.body.length ≤ length b) × (e.head.length ≤ len) × (len ≤ 1024) × (longer ≤ 1024)
    revision_room short at here = (pool_ends 0 e.body revision_body at here, revision_head, ready.fits, short)

    pub revision_made : longer ≤ 1024 → (at : ℕ) → at ≡ l.pool.offset + e.body.start
        → (p : Bytes) → p ≡ padded (part b at e.body.length ++ drop e.head.length (take len u.plan))
        → (r : Made) → r ≡ taken_from (told (revise i)) u p longer
        → StepsBy l b c (revise i) r.transition (configuration_from r.unpacked)
    unfolding kind
    revision_made short at here p q =
        took l b c (revise i) u p longer _ _ _ (revises_to l b c ready i may (as_long (λ k. k ≤ 1024) short)) refl refl
        (q ∙ ap padded (ap (λ (x : Bytes). x ++ drop e.head.length (take len u.plan)) (pool_plan l b e.body at here) ∙ ap (λ (x : RevisionEntry). plan l b x.body ++ drop x.head.length (take len u.plan)) so))
        (ap (λ (x : RevisionEntry). x.body.length + (len - x.head.length)) so ∙ sym (revised_length l b c ready i may))
