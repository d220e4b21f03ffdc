-- First moves one after the other are a computation of the relation, and those that are not idle a chain of the definitions.
use mathlib.Core.Path.{◌≡◌, refl, sym, subst}
use mathlib.Core.List.{List, ◌∷◌}
use Prim.Native.Nat.{◌≤◌}
use lib.ListN.{length}
use Rattle.paper.specs.Language.{Agent, Config}
use Rattle.paper.specs.Transitions.{Choice, Step}
use Rattle.paper.proofs.Relation.{unique}
use Rattle.runs.specs.Limits.{longest_plan}
use Rattle.runs.specs.Order.{State}
use Rattle.runs.specs.Step.{after}
use Rattle.runs.specs.Run.{Chain, stay, ◌then◌}
use Rattle.deliberation.specs.Programs.{Prog, Rest}
use Rattle.deliberation.specs.MetaTransitions.{Label, idle, taking, MetaStep, action_execution, rule_application, rule_selection, while_tt, while_ff, in_sequence, choice_left, choice_right, Computation, as_it_is, ◌and_then◌, not_idle}
use Rattle.deliberation.specs.Theorems.{Goes, stays, goes, Followed, no_move, one_move}
use Rattle.deliberation.proofs.First.{is_one}

-- what a label says of the configurations: an idle transition leaves it, another is one of the definitions'
abbrev pub Object : Agent → Config → Label → Config → Type 0
Object A s idle s' = s ≡ s'
Object A s (taking k) s' = Step A s k s'

pub object : {A : Agent} {P : Prog} {s s' : Config} {x : Label} {P' : Rest} → MetaStep A P s x P' s' → Object A s x s'
object (action_execution t) = t
object (rule_application t) = t
object (rule_selection t) = t
object (while_tt h) = refl
object (while_ff h) = refl
object (in_sequence t) = object t
object (choice_left t) = object t
object (choice_right t) = object t

-- the configuration that a label leads to is that of the state after it
reached : {A : Agent} {s s' : State} {x : Label} {c : Config} → Goes A s x s' → Object A s.mental x c → c ≡ s'.mental
unfolding after
reached stays o = sym o
reached (goes t l) o = unique o t

pub computation : {A : Agent} {P P' : Rest} {s s' : State} {xs : List Label} → Followed A P s xs P' s' → Computation A P s.mental xs P' s'.mental
computation no_move = as_it_is
computation {A} (one_move {P = P} {m = m} {s = s} f g r) =
    let (c, t) = is_one A s.mental P m f in
    ◌and_then◌ (subst (λ d. MetaStep A P s.mental m.label m.remaining d) (reached g (object t)) t) (computation r)

link : {A : Agent} {s s' : State} {x : Label} (xs : List Label) {c : Config} → Goes A s x s' → Chain A s'.mental (not_idle xs) c
    → Chain A s.mental (not_idle (x ∷ xs)) c
unfolding after not_idle
link xs stays r = r
link xs (goes t l) r = ◌then◌ t r

pub chain : {A : Agent} {P P' : Rest} {s s' : State} {xs : List Label} → Followed A P s xs P' s' → Chain A s.mental (not_idle xs) s'.mental
unfolding not_idle
chain no_move = stay
chain (one_move {xs = xs} f g r) = link xs g (chain r)

-- each transition whose plan fits keeps Q
abbrev pub Kept : Agent → (State → Type 0) → Type 0
Kept A Q = (s : State) (k : Choice) (c : Config) → Q s → Step A s.mental k c → length c.π ≤ longest_plan → Q (after s k c)

keeps_one : {A : Agent} {s s' : State} {x : Label} (Q : State → Type 0) → Kept A Q → Goes A s x s' → Q s → Q s'
keeps_one Q f stays h = h
keeps_one {s = s} Q f (goes {k = k} {c = c} t l) h = f s k c h t l

-- so first moves one after the other keep it
pub keeps : {A : Agent} {P P' : Rest} {s s' : State} {xs : List Label} (Q : State → Type 0) → Kept A Q → Followed A P s xs P' s' → Q s → Q s'
keeps Q f no_move h = h
keeps Q f (one_move d g r) h = keeps Q f r (keeps_one Q f g h)

pub fits : {A : Agent} {P P' : Rest} {s s' : State} {xs : List Label} → Followed A P s xs P' s' → length s.mental.π ≤ 1024
    → length s'.mental.π ≤ 1024
unfolding after
fits r h = keeps (λ (s : State). length s.mental.π ≤ 1024) (λ s k c q t l. l) r h
