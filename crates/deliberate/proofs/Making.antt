-- What a move comes to, by its parts.
use mathlib.Core.Path.{◌≡◌, refl, ap, ap₂, ◌∙◌, sym, subst}
use mathlib.Core.Bool.{Bool, true, false, not}
use mathlib.Core.List.{List, [], ◌∷◌}
use mathlib.Core.Option.{Option, none, some}
use Prim.Native.Nat.{ℕ, ◌≤◌, ◌<◌}
use native.Mathlib.Omega.{arith}
use lib.Dec.{eqb}
use lib.ListN.{length, drop, get_or, length-drop}
use borrow.Author.Tests.{eqb-false, not-true}
use Rattle.paper.specs.Language.{𝐁, Query, Agent, Config}
use Rattle.paper.specs.Transitions.{Choice}
use Rattle.paper.specs.Next.{enabled}
use Rattle.paper.proofs.Relation.{none≢some, some_inj, false≢true}
use Rattle.runs.specs.Kinds.{kind_number}
use Rattle.runs.specs.Order.{State, first, of_kind}
use Rattle.runs.specs.Step.{after, Reached, nothing, full, step}
use Rattle.runs.proofs.Order.{first_yes, first_no}
use Rattle.runs.proofs.Step.{StepsTo, none_there, too_long, taken, steps_to}
use Rattle.meaning.specs.declared.Standing.{Standing}
use Rattle.meaning.specs.declared.Layout.{Layout}
use Rattle.meaning.specs.declared.Node.{Node}
use Rattle.meaning.specs.declared.Configuration.{Configuration}
use Rattle.meaning.specs.Card.{Bytes, condition, conditions, agent_for}
use Rattle.meaning.specs.Refusals.{containing}
use Rattle.meaning.specs.Configurations.{state_of, configuration_of}
use Rattle.std.specs.Prelude.{Some, None}
use Rattle.door.specs.declared.asked.Choice as Told
use Rattle.choices.specs.OnePass.{kept}
use Rattle.door.specs.Ready.{Ready}
use Rattle.choices.specs.Judged.{mark_at, Marked, Judged}
use Rattle.door.specs.Asking.{choice_of, told as told-choice, chosen}
use Rattle.door.proofs.Told.{told_some, told_at, told_kind}
use Rattle.door.proofs.Asking.{empty_exactly}
use Rattle.choices.proofs.Marked.{marked}
use Rattle.moves.specs.declared.step.Transition.{Transition}
use Rattle.moves.specs.declared.step.Stepped.{Stepped}
use Rattle.moves.specs.Steps.{Enabled, StepsBy, transition_of}
use Rattle.moves.proofs.Running.{ready_back, no_action_keeps}
use Rattle.deliberation.specs.Programs.{not_empty_plan, holds, 𝒲}
use Rattle.deliberation.specs.MetaTransitions.{taking}
use Rattle.deliberation.specs.Kinds.{EntryKind, Execute, Apply, Select, WhilePlan, WhileBelief, Then, Or, entry_kind}
use Rattle.deliberation.specs.FirstMove.{Move, by_choice, lowest_action, if_enabled, idles}
use Rattle.deliberation.specs.Entries.{entry_count, move_of, move_at}
use Rattle.deliberation.specs.Deliberate.{MoveResult, stuck, on, leads, move_result}
use Rattle.deliberation.specs.Theorems.{EntryLaws, while_belief}
use Rattle.deliberation.proofs.Named.{Named, is_execute, is_apply, is_select, is_while_plan, is_while_belief, is_then, is_or, named, second_lower}
use Rattle.deliberation.proofs.Good.{move_at_lem}
use Rattle.deliberation.proofs.Run.{leads_nothing, leads_full, leads_to_lem}
use Rattle.program.specs.GoodProgram.{GoodEntry, GoodProgram}
use Rattle.deliberate.specs.declared.made.MoveMade.{MoveMade}
use Rattle.deliberate.specs.declared.descent.Leaf.{Leaf}
use Rattle.deliberate.specs.Descent.{AtLeaf}
use Rattle.deliberate.specs.Made.{made_of, configuration_after, numbers_after, Makes, stayed, moved_by, made_by, known_after, HoldsBy, by_plan, by_mark, again}
use Rattle.deliberate.proofs.Descending.{stacked_room}
use Rattle.moves.specs.Steps as Steps
use Rattle.deliberation.specs.Deliberate as Deliberate
use Rattle.deliberate.specs.Made as Made-specs

-- ---- a transition as a move

module _ (l : Layout) (b : Bytes) (c : Configuration) (k : Choice) (x : Stepped) (left : Configuration) (told : StepsBy l b c k x.transition left) (top : ℕ) (stack : Bytes)
    (within : top ≤ 128) (room : length stack ≡ 128) where
  abbrev A : Agent
  A = agent_for l b

  abbrev s : State
  s = state_of c

  abbrev ns : List ℕ
  ns = drop top stack

  -- what a transition that is not taken leaves is what there was
  not_taken : (o : Reached) → step A s k ≡ o → Steps.configuration_after o c ≡ c → (y : MoveResult) → leads A s (taking k) ns ≡ y
      → made_by (transition_of o) ≡ made_of y → configuration_after y c ≡ c → numbers_after y ns ≡ ns
      → Makes l b c ns (leads A s (taking k) ns) (moved_by x.standing x.transition top) left stack
  not_taken o e q y f m u v =
      let same : left ≡ c = told.1 ∙ ap (λ z. Steps.configuration_after z c) e ∙ q in
      subst (λ z. Makes l b c ns z (moved_by x.standing x.transition top) left stack) (sym f)
      (record {
        made = ap made_by (told.0 ∙ ap transition_of e) ∙ m;
        configuration = same ∙ sym u;
        numbers = sym v;
        within = within;
        room = room;
        keeps = λ z marks w. subst (λ (y : Configuration). Marked l b y.mind.beliefs y.mind.goals marks) (sym same) w;
      })

  pub takes_so : Makes l b c ns (leads A s (taking k) ns) (moved_by x.standing x.transition top) left stack
  unfolding after configuration_of state_of
  takes_so = go refl (steps_to A s k)
    where
      go : {o : Reached} → step A s k ≡ o → StepsTo A s k o → Makes l b c ns (leads A s (taking k) ns) (moved_by x.standing x.transition top) left stack
      go e (none_there h) = not_taken nothing e refl stuck (leads_nothing A s k ns e) refl refl refl
      go e (too_long d t h) = not_taken full e refl Deliberate.too_long (leads_full A s k ns e) refl refl refl
      go e (taken d t h) =
          let at : left ≡ configuration_of (after s k d) = told.1 ∙ ap (λ z. Steps.configuration_after z c) e in
          let u : x.transition ≡ Transition.Taken (told-choice k) = told.0 ∙ ap transition_of e in
          subst (λ z. Makes l b c ns z (moved_by x.standing x.transition top) left stack) (sym (leads_to_lem A s k ns (after s k d) e))
          (record {
            made = ap made_by u;
            configuration = at;
            numbers = refl;
            within = within;
            room = room;
            keeps = λ z marks v.
                (let y = no_action_keeps t (λ g. eqb-false (kind_number (told-choice k).kind) 1 (not-true _ (sym (ap known_after u) ∙ z)) (told_kind k ∙ g)) in
                let β : left.mind.beliefs ≡ c.mind.beliefs = ap (λ (g : Configuration). g.mind.beliefs) at ∙ y.0 in
                let γ : left.mind.goals ≡ c.mind.goals = ap (λ (g : Configuration). g.mind.goals) at ∙ y.1 in
                λ j g. v j g ∙ ap₂ (λ x y. get_or (kept l b x y) j (false, 0)) (sym β) (sym γ));
          })

  -- the same of the choice that is taken
  pub takes_choice : (o : Option Choice) → o ≡ some k → Makes l b c ns (move_result A s (by_choice o []) ns) (moved_by x.standing x.transition top) left stack
  takes_choice o e = subst (λ y. Makes l b c ns (move_result A s (by_choice y []) ns) (moved_by x.standing x.transition top) left stack) (sym e) takes_so

-- ---- which choice is taken

first_passes : {X : Type 0} (t : X → Bool) (xs : List X) (x : X) → first t xs ≡ some x → t x ≡ true
first_passes t [] x e = absurd (none≢some e)
first_passes t (y ∷ ys) x e = go (t y) refl (first_passes t ys x)
  where
    go : (v : Bool) → t y ≡ v → (first t ys ≡ some x → t x ≡ true) → t x ≡ true
    go true h ih = ap t (sym (some_inj (sym (first_yes t y ys h) ∙ e))) ∙ h
    go false h ih = ih (sym (first_no t y ys h) ∙ e)

module _ (A : Agent) (s : Config) where
  if_enabled_lem : (k k' : Choice) → if_enabled A s k ≡ some k' → enabled A s k' ≡ true
  unfolding if_enabled
  if_enabled_lem k k' e = go (enabled A s k) refl
    where
      go : (t : Bool) → enabled A s k ≡ t → enabled A s k' ≡ true
      go true h = let q : if_enabled A s k ≡ some k = rw (h, if_enabled) in ap (enabled A s) (some_inj (sym e ∙ q)) ∙ h
      go false h = let q : if_enabled A s k ≡ none = rw (h, if_enabled) in absurd (none≢some (sym q ∙ e))

  -- a choice is taken, if it is enabled
  pub open_chosen : (t : Told.Choice) → enabled A s (choice_of t) ≡ true → Some t ≡ chosen (if_enabled A s (choice_of t))
  unfolding if_enabled
  open_chosen t h = rw (h, if_enabled) (ap Some (sym (told_at t.kind t.number)))

  pub shut_chosen : (k : Choice) → enabled A s k ≡ false → None ≡ chosen (if_enabled A s k)
  unfolding if_enabled
  shut_chosen k h = rw (h, if_enabled)

  taken_enabled : (κ : EntryKind) (a : ℕ) (k : Choice) → Made-specs.taken A s κ a ≡ some k → enabled A s k ≡ true
  unfolding lowest_action
  taken_enabled Execute a k e = first_passes (enabled A s) (of_kind A 1) k e
  taken_enabled Apply a k e = if_enabled_lem (Choice.revise a) k e
  taken_enabled Select a k e = if_enabled_lem (Choice.select a) k e
  taken_enabled WhilePlan a k e = absurd (none≢some e)
  taken_enabled WhileBelief a k e = absurd (none≢some e)
  taken_enabled Then a k e = absurd (none≢some e)
  taken_enabled Or a k e = absurd (none≢some e)

module _ (l : Layout) (b : Bytes) (c : Configuration) where
  -- a choice that is open, and is taken
  abbrev pub Takes : Option Choice → Told.Choice → Type 0
  Takes o t = Enabled l b c (choice_of t) × (o ≡ some (choice_of t))

  pub takes_at : (κ : EntryKind) (a : ℕ) (t : Told.Choice) → Some t ≡ chosen (Made-specs.taken (agent_for l b) (state_of c).mental κ a)
      → Takes (Made-specs.taken (agent_for l b) (state_of c).mental κ a) t
  takes_at κ a t e =
      let q = told_some (Made-specs.taken (agent_for l b) (state_of c).mental κ a) t e in
      (taken_enabled (agent_for l b) (state_of c).mental κ a (choice_of t) q, q)

-- ---- an idle move

belief_condition : {n m : ℕ} {C : ℕ → Type 0} {i a b : ℕ} → EntryLaws n m C i a b WhileBelief → C a
belief_condition (while_belief h k) = h

module _ (l : Layout) (b : Bytes) (c : Configuration) where
  idles_so : Ready l b c → (ns ns' : List ℕ) (m : Standing) (top : ℕ) (stack : Bytes) → drop top stack ≡ ns' → top ≤ 128 → length stack ≡ 128
      → Makes l b c ns (on ns' (state_of c)) (stayed m MoveMade.On top) c stack
  idles_so ready ns ns' m top stack f h s =
      record { made = refl; configuration = sym (ready_back l b c ready); numbers = f; within = h; room = s; keeps = λ z marks w. w }

  -- what the idle move of a while comes to, by the plan's length and the marks
  module _ (marks : List ℕ) (j : Judged l b c marks) where
    abbrev A' : Agent
    A' = agent_for l b

    idle_on : (t u : Bool) (i body : ℕ) (ns : List ℕ) → t ≡ u → move_result A' (state_of c) (idles t (body ∷ i ∷ []) []) ns ≡ on (again u body i ns) (state_of c)
    unfolding leads
    idle_on true true i body ns e = refl
    idle_on true false i body ns e = absurd (false≢true (sym e))
    idle_on false true i body ns e = absurd (false≢true e)
    idle_on false false i body ns e = refl

    pub while_on : (i : ℕ) (e : Node) (q : ℕ → Option (Move (List ℕ))) (ns : List ℕ) (t : Bool) → GoodEntry l b i e → HoldsBy e c.mind.length (mark_at marks e.a).0 t
        → move_result A' (state_of c) (move_of A' (conditions 𝐁 l b) (state_of c).mental i (entry_kind e.kind) e.a e.b q) ns ≡ on (again t e.b i ns) (state_of c)
    unfolding 𝒲 state_of
    while_on i e q ns t g (by_plan h) =
        let k = empty_exactly c.plan c.mind.length (let x = j.ready.fits in let y = j.ready.room in omega arith) in
        rw h (idle_on (𝒲 not_empty_plan (state_of c).mental) (not (eqb c.mind.length 0)) i e.b ns (ap not k))
    while_on i e q ns t g (by_mark h) =
        rw h (idle_on (𝒲 (holds (condition (conditions 𝐁 l b) e.a)) (state_of c).mental) (mark_at marks e.a).0 i e.b ns
        (sym (ap (λ p. p.0) (marked l b c marks j 𝐁 e.a (belief_condition (subst (EntryLaws _ _ _ _ _ _) h g.names))))))

-- ---- an entry without parts

leaf_takes : {k : ℕ} {κ : EntryKind} (A : Agent) (βs : List (Query 𝐁)) (s : Config) (i a b : ℕ) (q : ℕ → Option (Move (List ℕ))) → Named k κ → k < 3
    → move_of A βs s i κ a b q ≡ by_choice (Made-specs.taken A s κ a) []
leaf_takes A βs s i a b q is_execute h = refl
leaf_takes A βs s i a b q is_apply h = refl
leaf_takes A βs s i a b q is_select h = refl
leaf_takes A βs s i a b q is_while_plan h = absurd (omega arith)
leaf_takes A βs s i a b q is_while_belief h = absurd (omega arith)
leaf_takes A βs s i a b q is_then h = absurd (omega arith)
leaf_takes A βs s i a b q is_or h = absurd (omega arith)

module _ (l : Layout) (b p : Bytes) (c : Configuration) (good : GoodProgram l b p) (stack : Bytes) (leaf : Leaf) (a : AtLeaf p stack leaf) where
  abbrev x : Node
  x = leaf.entry

  abbrev ns' : List ℕ
  ns' = drop leaf.top stack

  leaf_known : leaf.at < entry_count p
  leaf_known = let h = stacked_room a.stacked.stacked in let k = good.some in omega arith

  pub leaf_good : GoodEntry l b leaf.at x
  leaf_good = subst (GoodEntry l b leaf.at) (sym a.entry) (good.entries leaf.at leaf_known)

  at_leaf : move_at l b p (state_of c).mental leaf.at
      ≡ move_of (agent_for l b) (conditions 𝐁 l b) (state_of c).mental leaf.at (entry_kind x.kind) x.a x.b (move_at l b p (state_of c).mental)
  at_leaf =
      move_at_lem (containing 2 l b) l p good.good leaf.at leaf_known (agent_for l b) (conditions 𝐁 l b) (state_of c).mental
      ∙ ap (λ (y : Node). move_of (agent_for l b) (conditions 𝐁 l b) (state_of c).mental leaf.at (entry_kind y.kind) y.a y.b (move_at l b p (state_of c).mental)) (sym a.entry)

  -- there is room for a while's body and itself
  pub two_more : 3 ≤ x.kind → (leaf.at < 128) × (2 ≤ leaf.top)
  two_more k =
      let low = second_lower (named x.kind leaf_good.kinds) k leaf_good.names in
      let most = good.most in
      let h = stacked_room a.stacked.stacked in
      let r = a.stacked.room in
      let w = a.stacked.within in
      let n = length-drop leaf.top stack in
      (omega arith, omega arith)

  pub leaf_idles : (marks : List ℕ) → Judged l b c marks → (m : Standing) (top : ℕ) (stack' : Bytes) → top ≤ 128 → length stack' ≡ 128
      → (t : Bool) → HoldsBy x c.mind.length (mark_at marks x.a).0 t → drop top stack' ≡ again t x.b leaf.at ns'
      → Makes l b c ns' (move_result (agent_for l b) (state_of c) (move_at l b p (state_of c).mental leaf.at) ns') (stayed m MoveMade.On top) c stack'
  leaf_idles marks j m top stack' w n t k f =
      let g = while_on l b c marks j leaf.at x (move_at l b p (state_of c).mental) ns' t leaf_good k in
      subst (λ o. Makes l b c ns' o (stayed m MoveMade.On top) c stack') (sym (ap (λ o. move_result (agent_for l b) (state_of c) o ns') at_leaf ∙ g))
      (idles_so l b c j.ready ns' _ m top stack' f w n)

  pub leaf_choice : x.kind < 3 → move_at l b p (state_of c).mental leaf.at ≡ by_choice (Made-specs.taken (agent_for l b) (state_of c).mental (entry_kind x.kind) x.a) []
  leaf_choice h =
      at_leaf ∙ leaf_takes (agent_for l b) (conditions 𝐁 l b) (state_of c).mental leaf.at x.a x.b (move_at l b p (state_of c).mental) (named x.kind leaf_good.kinds) h
