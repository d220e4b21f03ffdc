-- A deliberation so far, over plain values.
use mathlib.Core.Path.{◌≡◌, refl, ap, ap₂, ◌∙◌, sym, subst}
use mathlib.Core.Bool.{Bool, true, false}
use mathlib.Core.List.{List, [], ◌∷◌, ◌++◌}
use mathlib.Core.Option.{Option, none, some}
use Prim.Native.Nat.{ℕ, suc, ◌+◌, ◌-◌, ◌%◌, ◌≤◌, ◌<◌}
use native.Mathlib.Nat.{mod-lt}
use native.Mathlib.Omega.{arith}
use lib.ListN.{length, drop, get_or, drop_of_length-le}
use Rattle.paper.specs.Language.{𝐁, Agent, Config}
use Rattle.paper.specs.Transitions.{Choice, Step}
use Rattle.paper.specs.Next.{if}
use Rattle.runs.specs.Order.{State, kind}
use Rattle.runs.specs.Step.{after, Reached, step}
use Rattle.runs.proofs.Step.{StepsTo, none_there, too_long, taken, steps_to}
use Rattle.meaning.specs.declared.Layout.{Layout}
use Rattle.meaning.specs.declared.Standing.{Standing}
use Rattle.meaning.specs.declared.Configuration.{Configuration}
use Rattle.meaning.specs.Card.{Bytes, conditions, agent_for}
use Rattle.meaning.specs.Refusals.{containing}
use Rattle.meaning.specs.Configurations.{state_of, configuration_of}
use Rattle.meaning.proofs.Configurations.{configuration_laws}
use Rattle.door.specs.Ready.{Ready}
use Rattle.moves.proofs.Running.{ready_back, ready_after}
use Rattle.deliberation.specs.declared.DeliberationEnding.{DeliberationEnding}
use Rattle.deliberation.specs.MetaTransitions.{Label, idle, taking}
use Rattle.deliberation.specs.FirstMove.{Move}
use Rattle.deliberation.specs.Entries.{entry_count, entries_of, move_at}
use Rattle.deliberation.specs.Deliberate.{MoveResult, stuck, on, leads, move_result, Outcome, ended, one_more, deliberate}
use Rattle.deliberation.specs.Stacked.{Stacked}
use Rattle.deliberation.proofs.Room.{move_within}
use Rattle.deliberation.proofs.Run.{leads_nothing, leads_full, leads_to_lem, run_stuck, run_full, run_on}
use Rattle.program.specs.GoodProgram.{GoodProgram}
use Rattle.deliberate.specs.declared.made.MoveMade.{MoveMade}
use Rattle.deliberate.specs.declared.made.AfterMove.{AfterMove}
use Rattle.deliberate.specs.Made.{configuration_after, numbers_after, Makes, MakesNext, Remains}
use Rattle.deliberate.specs.Ran.{RanTo, stopped_by}
use Rattle.deliberate.proofs.Next.{next_first}
use Rattle.deliberation.specs.Deliberate as Deliberate

-- ---- where a move leads

-- an idle move stays; any other goes to where its transition leads, which fits
pub data Led (A : Agent) (s : State) : State → Type 0 where
  stay : Led A s s
  go : {k : Choice} {d : Config} → Step A s.mental k d → length d.π ≤ 1024 → Led A s (after s k d)

module _ (A : Agent) (s : State) where
  on_inj : {ns ns' : List ℕ} {t t' : State} → on ns t ≡ on ns' t' → (ns' ≡ ns) × (t ≡ t')
  on_inj e = (cc, cc)

  led_by : (k : Choice) (ns ns' : List ℕ) (t : State) {r : Reached} → step A s k ≡ r → StepsTo A s k r → leads A s (taking k) ns ≡ on ns' t → (ns' ≡ ns) × Led A s t
  led_by k ns ns' t e (none_there h) f = absurd (let g = sym (leads_nothing A s k ns e) ∙ f in let z : ◌≡◌ {A = ℕ} 0 1 = cc in omega arith)
  led_by k ns ns' t e (too_long d x h) f = absurd (let g = sym (leads_full A s k ns e) ∙ f in let z : ◌≡◌ {A = ℕ} 0 1 = cc in omega arith)
  led_by k ns ns' t e (taken d x h) f = let (p, q) = on_inj (sym (leads_to_lem A s k ns (after s k d) e) ∙ f) in (p, subst (Led A s) q (go x h))

  led : (x : Label) (ns ns' : List ℕ) (t : State) → leads A s x ns ≡ on ns' t → (ns' ≡ ns) × Led A s t
  unfolding leads
  led idle ns ns' t e = let (p, q) = on_inj e in (p, subst (Led A s) q stay)
  led (taking k) ns ns' t e = led_by k ns ns' t refl (steps_to A s k) e

-- ---- the deliberation so far

-- one move more, or none
pub at_most_one : (t : Bool) → if t 0 1 ≤ 1
at_most_one true = omega arith
at_most_one false = omega arith

-- an outcome with so many moves before it
abbrev counted : ℕ → Outcome → Outcome
counted n o = record { state = o.state; count = n + o.count; ending = o.ending; remaining = o.remaining }

module _ (l : Layout) (b p : Bytes) where
  -- from a budget, numbers and a state
  abbrev pub outcome : ℕ → List ℕ → State → Outcome
  outcome n ns s = deliberate (agent_for l b) (conditions 𝐁 l b) (entries_of p) n ns s

  -- after `count` moves the deliberation goes on from a configuration and the numbers from top on
  pub record Deliberating (budget : ℕ) (all : Outcome) (c : Configuration) (stack : Bytes) (top count : ℕ) : Type 0 where
    pub within : count ≤ budget
    pub ready : Ready l b c
    pub remains : Remains p stack top
    pub same : counted count (outcome (budget - count) (drop top stack) (state_of c)) ≡ all

  module _ (budget : ℕ) (all : Outcome) (c : Configuration) (stack : Bytes) (top count : ℕ) (d : Deliberating budget all c stack top count) where
    -- what is answered where it ends here
    abbrev Answered : DeliberationEnding → Standing → Configuration → ℕ → Bytes → Type 0
    Answered e m c' top' stack' = RanTo all (record { standing = m; count = count; ending = e; top = top' }) c' stack'

    ends : (e : DeliberationEnding) (m : Standing) → outcome (budget - count) (drop top stack) (state_of c) ≡ ended e (drop top stack) (state_of c)
        → (c' : Configuration) (top' : ℕ) (stack' : Bytes) → c' ≡ c → drop top' stack' ≡ drop top stack → top' ≤ 128 → length stack' ≡ 128
        → Answered e m c' top' stack'
    ends e m q c' top' stack' f g w r =
        let n : count ≡ count + 0 = omega arith in
        let o : counted count (ended e (drop top stack) (state_of c)) ≡ all = ap (counted count) (sym q) ∙ d.same in
        record {
          count = n ∙ ap (λ (x : Outcome). x.count) o;
          ending = ap (λ (x : Outcome). x.ending) o;
          configuration = f ∙ sym (ready_back l b c d.ready) ∙ ap (λ (x : Outcome). configuration_of x.state) o;
          numbers = g ∙ ap (λ (x : Outcome). x.remaining) o;
          within = w;
          room = r;
        }

    ends-here : (e : DeliberationEnding) (m : Standing) → outcome (budget - count) (drop top stack) (state_of c) ≡ ended e (drop top stack) (state_of c)
        → Answered e m c top stack
    ends-here e m q = ends e m q c top stack refl refl d.remains.within d.remains.room

    pub is_spent : (m : Standing) → budget ≤ count → Answered DeliberationEnding.Spent m c top stack
    unfolding deliberate
    is_spent m h = let z : budget - count ≡ 0 = omega arith in ends-here DeliberationEnding.Spent m (ap (λ n. outcome n (drop top stack) (state_of c)) z)

    module _ (left_over : count < budget) where
      one_less : budget - count ≡ suc (budget - (count + 1))
      one_less = omega arith

      pub is_finished : (m : Standing) → top ≡ 128 → Answered DeliberationEnding.Finished m c top stack
      unfolding deliberate
      is_finished m h =
          let n : drop top stack ≡ [] = (let w : length stack ≤ top = (let r = d.remains.room in omega arith) in drop_of_length-le stack w) in
          ends-here DeliberationEnding.Finished m (ap₂ (λ n ns. outcome n ns (state_of c)) one_less n ∙ ap (λ ns. ended DeliberationEnding.Finished ns (state_of c)) (sym n))

      module _ (h : top < 128) (x : AfterMove) (after_it : Configuration) (left : Bytes) (k : MakesNext l b p c stack top x after_it left) where
        abbrev n : ℕ
        n = get_or stack top 0

        abbrev ns : List ℕ
        ns = drop (top + 1) stack

        abbrev comes : MoveResult
        comes = move_result (agent_for l b) (state_of c) (move_at l b p (state_of c).mental n) ns

        first : drop top stack ≡ n ∷ ns
        first = next_first p stack top d.remains h

        -- from here on, by what the move comes to
        from_here : outcome (budget - count) (drop top stack) (state_of c) ≡ outcome (suc (budget - (count + 1))) (n ∷ ns) (state_of c)
        from_here = ap₂ (λ m rs. outcome m rs (state_of c)) one_less first

        made_so : (o : MoveResult) → comes ≡ o → Makes l b c (drop top stack) o x after_it left
        made_so o e = subst (λ z. Makes l b c (drop top stack) z x after_it left) e k

        stopped : (e : DeliberationEnding) (m : Standing) (o : MoveResult) → comes ≡ o → numbers_after o (drop top stack) ≡ drop top stack → configuration_after o c ≡ c
            → outcome (suc (budget - (count + 1))) (n ∷ ns) (state_of c) ≡ ended e (n ∷ ns) (state_of c) → Answered e m after_it x.top left
        stopped e m o q f g r =
            let y = made_so o q in
            ends e m (from_here ∙ r ∙ ap (λ rs. ended e rs (state_of c)) (sym first)) after_it x.top left (y.configuration ∙ g) (y.numbers ∙ f) y.within y.room

        is_stuck : (m : Standing) → x.made ≡ MoveMade.Stuck → Answered DeliberationEnding.Stuck m after_it x.top left
        is_stuck m e = by comes refl
          where
            by : (o : MoveResult) → comes ≡ o → Answered DeliberationEnding.Stuck m after_it x.top left
            by stuck q = stopped DeliberationEnding.Stuck m stuck q refl refl (run_stuck (agent_for l b) (conditions 𝐁 l b) (entries_of p) (budget - (count + 1)) n ns (state_of c) q)
            by Deliberate.too_long q = absurd (let u = sym (made_so _ q).made ∙ e in let z : ◌≡◌ {A = ℕ} 0 1 = cc in omega arith)
            by (on ms t) q = absurd (let u = sym (made_so _ q).made ∙ e in let z : ◌≡◌ {A = ℕ} 0 1 = cc in omega arith)

        is_full : (m : Standing) → x.made ≡ MoveMade.Full → Answered DeliberationEnding.Full m after_it x.top left
        is_full m e = by comes refl
          where
            by : (o : MoveResult) → comes ≡ o → Answered DeliberationEnding.Full m after_it x.top left
            by stuck q = absurd (let u = sym (made_so _ q).made ∙ e in let z : ◌≡◌ {A = ℕ} 0 1 = cc in omega arith)
            by Deliberate.too_long q = stopped DeliberationEnding.Full m Deliberate.too_long q refl refl (run_full (agent_for l b) (conditions 𝐁 l b) (entries_of p) (budget - (count + 1)) n ns (state_of c) q)
            by (on ms t) q = absurd (let u = sym (made_so _ q).made ∙ e in let z : ◌≡◌ {A = ℕ} 0 1 = cc in omega arith)

        -- either, by which it is not made
        pub is_stopped : (m : Standing) → (x.made ≡ MoveMade.On → ⊥) → Answered (stopped_by x.made) m after_it x.top left
        is_stopped m off = by x.made refl
          where
            by : (t : MoveMade) → x.made ≡ t → Answered (stopped_by t) m after_it x.top left
            by MoveMade.On e = absurd (off e)
            by MoveMade.Stuck e = is_stuck m e
            by MoveMade.Full e = is_full m e

        ready_there : {t : State} → Led (agent_for l b) (state_of c) t → Ready l b (configuration_of t) × (state_of (configuration_of t) ≡ t)
        unfolding after
        ready_there stay =
            let e = ready_back l b c d.ready in
            (subst (Ready l b) (sym e) d.ready, ap state_of e)
        ready_there (go {k = k'} {d = c'} y f) =
            let t = after (state_of c) k' c' in
            let g : t.phase ≤ 2 = (let z : (kind k' + 1) % 3 < 3 = mod-lt (kind k' + 1) (omega arith) in omega arith) in
            (ready_after l b d.ready.card t f g, configuration_laws.of_state t f)

        stacked_there : (g : GoodProgram l b p) (ms : List ℕ) (t : State) → comes ≡ on ms t → Stacked (entry_count p) ms × Led (agent_for l b) (state_of c) t
        stacked_there g ms t = by (move_at l b p (state_of c).mental n) refl
          where
            by : (o : Option (Move (List ℕ))) → move_at l b p (state_of c).mental n ≡ o → move_result (agent_for l b) (state_of c) o ns ≡ on ms t → Stacked (entry_count p) ms × Led (agent_for l b) (state_of c) t
            by none q e = absurd (let z : ◌≡◌ {A = ℕ} 0 1 = cc in omega arith)
            by (some m) q e =
                let (f, w) = led (agent_for l b) (state_of c) m.label (m.remaining ++ ns) ms t e in
                let v : entry_count p ≤ entry_count p = omega arith in (
                  subst (Stacked (entry_count p)) (sym f)
                      (move_within (agent_for l b) (conditions 𝐁 l b) (state_of c).mental (containing 2 l b) l p g.good (entry_count p) n ns m v (subst (Stacked (entry_count p)) first d.remains.stacked) q),
                  w,
                )

        pub is_on : GoodProgram l b p → x.made ≡ MoveMade.On → Deliberating budget all after_it left x.top (count + 1)
        is_on g e = by comes refl
          where
            by : (o : MoveResult) → comes ≡ o → Deliberating budget all after_it left x.top (count + 1)
            by stuck q = absurd (let u = sym (made_so _ q).made ∙ e in let z : ◌≡◌ {A = ℕ} 0 1 = cc in omega arith)
            by Deliberate.too_long q = absurd (let u = sym (made_so _ q).made ∙ e in let z : ◌≡◌ {A = ℕ} 0 1 = cc in omega arith)
            by (on ms t) q =
                let m = made_so (on ms t) q in
                let (w, v) = stacked_there g ms t q in
                let (r, s) = ready_there v in
                let o = outcome (budget - (count + 1)) ms t in
                let u : count + 1 + o.count ≡ count + suc o.count = omega arith in
                let whole : counted count (one_more o) ≡ all =
                ap (counted count) (sym (from_here ∙ run_on (agent_for l b) (conditions 𝐁 l b) (entries_of p) (budget - (count + 1)) n ns (state_of c) ms t q)) ∙ d.same in
                record {
                  within = omega arith;
                  ready = subst (Ready l b) (sym m.configuration) r;
                  remains = record { room = m.room; within = m.within; stacked = subst (Stacked (entry_count p)) (sym m.numbers) w };
                  same = ap₂ (λ rs z. counted (count + 1) (outcome (budget - (count + 1)) rs z)) m.numbers (ap state_of m.configuration ∙ s)
                      ∙ (λ j. record { state = o.state; count = u j; ending = o.ending; remaining = o.remaining }) ∙ whole;
                }
