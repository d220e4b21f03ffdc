-- The first move of an entry is that of the one that a descent ends at, with the numbers behind that one.
use mathlib.Core.Path.{◌≡◌, refl, ap, ◌∙◌, sym, subst}
use mathlib.Core.Bool.{Bool, true, false}
use mathlib.Core.List.{List, [], ◌∷◌, ◌++◌}
use mathlib.Core.Option.{Option, none, some}
use Prim.Native.Nat.{ℕ, suc, ◌+◌, ◌-◌, ◌≤◌, ◌<◌}
use native.Mathlib.Omega.{arith}
use lib.ListN.{length, drop, set, take, length-drop}
use lib.Seq.{set_split, drop_at, drop-drop, append_snoc, length-take-le}
use Rattle.paper.specs.Language.{𝐁, Query, Agent}
use Rattle.paper.specs.Next.{if, is_some}
use Rattle.runs.specs.Order.{State}
use Rattle.meaning.specs.declared.Layout.{Layout}
use Rattle.meaning.specs.declared.Node.{Node}
use Rattle.meaning.specs.declared.Configuration.{Configuration}
use Rattle.meaning.specs.Card.{Bytes, conditions, agent_for}
use Rattle.meaning.specs.Configurations.{state_of}
use Rattle.meaning.specs.Refusals.{containing}
use Rattle.deliberation.specs.Kinds.{EntryKind, entry_kind}
use Rattle.deliberation.specs.FirstMove.{Move, followed_by, left_else_right}
use Rattle.deliberation.specs.Entries.{entry_of, entry_count, move_of, move_at}
use Rattle.deliberation.specs.Deliberate.{leads, move_result}
use Rattle.deliberation.specs.Stacked.{Stacked, put}
use Rattle.deliberation.specs.Theorems.{EntryLaws}
use Rattle.deliberation.proofs.Good.{move_at_lem}
use Rattle.deliberation.proofs.Named.{Named, is_execute, is_apply, is_select, is_while_plan, is_while_belief, is_then, is_or, named, second_lower}
use Rattle.program.specs.GoodProgram.{GoodEntry, GoodProgram}
use Rattle.deliberate.proofs.Marking.{then_lower, or_lower}
use Rattle.deliberate.specs.Descent.{Stack, Into, first_of, one_of, Down, here, lower}

-- ---- a number before those from top on

pub pushed : (stack : List ℕ) (at v : ℕ) → at < length stack → drop at (set stack at v) ≡ v ∷ drop (at + 1) stack
pushed stack at v h =
    let e : suc at ≡ at + 1 = omega arith in
    ap (drop at) (set_split stack at v h) ∙ drop_at (take at stack) (v ∷ drop (suc at) stack) at (length-take-le at stack (omega arith)) ∙ ap (λ n. v ∷ drop n stack) e

-- ---- the part in which the move is made

pub part_lower : {e : Node} {left : Bool} {ns js : List ℕ} {i j : ℕ} → Into e left ns j js → e.a < i → e.b < i → j < i
part_lower (first_of k) f g = f
part_lower {left = true} (one_of k) f g = f
part_lower {left = false} (one_of k) f g = g

-- it and what is behind it are stacked as the entry was
pub part_stacked : {e : Node} {left : Bool} {ns js : List ℕ} {m i j : ℕ} → Into e left ns j js → e.a < i → e.b < i → Stacked m (i ∷ ns) → Stacked m (j ∷ js)
part_stacked {e} {ns = ns} (first_of k) f g (put _ _ l s) = put e.a (e.b ∷ ns) (omega arith) (put e.b ns (omega arith) s)
part_stacked {e} {left = true} {ns = ns} (one_of k) f g (put _ _ l s) = put e.a ns (omega arith) s
part_stacked {e} {left = false} {ns = ns} (one_of k) f g (put _ _ l s) = put e.b ns (omega arith) s

-- an entry and the numbers behind it have room
pub stacked_room : {m n : ℕ} {ns : List ℕ} → Stacked m (n ∷ ns) → n + length ns < m
stacked_room (put _ _ h s) = h

-- ---- the move

module _ (A : Agent) (s : State) where
  came_followed : (o : Option (Move (List ℕ))) (b : ℕ) (ns : List ℕ) → move_result A s (followed_by (λ rs. rs ++ (b ∷ [])) o) ns ≡ move_result A s o (b ∷ ns)
  came_followed none b ns = refl
  came_followed (some m) b ns = ap (leads A s m.label) (append_snoc m.remaining b ns)

  came_either : (o u : Option (Move (List ℕ))) (ns : List ℕ) → move_result A s (left_else_right o u) ns ≡ move_result A s (if (is_some o) o u) ns
  came_either none u ns = refl
  came_either (some m) u ns = refl

  at_part : (q : ℕ → Option (Move (List ℕ))) (a b : ℕ) (left : Bool) → if left (q a) (q b) ≡ q (if left a b)
  at_part q a b true = refl
  at_part q a b false = refl

  -- what the move of an entry comes to, by that of the part in which it is made
  passes : {ns js : List ℕ} {j : ℕ} (βs : List (Query 𝐁)) (i : ℕ) (e : Node) (q : ℕ → Option (Move (List ℕ))) (left : Bool) → left ≡ is_some (q e.a) → Into e left ns j js
      → move_result A s (move_of A βs s.mental i (entry_kind e.kind) e.a e.b q) ns ≡ move_result A s (q j) js
  passes {ns = ns} βs i e q left m (first_of k) = rw k (came_followed (q e.a) e.b ns)
  passes {ns = ns} βs i e q left m (one_of k) =
      let f = ap (λ t. if t (q e.a) (q e.b)) (sym m) ∙ at_part q e.a e.b left in
      rw k (came_either (q e.a) (q e.b) ns ∙ ap (λ o. move_result A s o ns) f)

first_lower : {n m : ℕ} {C : ℕ → Type 0} {i a b k : ℕ} {κ : EntryKind} → Named k κ → 5 ≤ k → EntryLaws n m C i a b κ → a < i
first_lower is_execute h g = absurd (omega arith)
first_lower is_apply h g = absurd (omega arith)
first_lower is_select h g = absurd (omega arith)
first_lower is_while_plan h g = absurd (omega arith)
first_lower is_while_belief h g = absurd (omega arith)
first_lower is_then h g = (then_lower g).0
first_lower is_or h g = (or_lower g).0

into_lower : {e : Node} {left : Bool} {ns js : List ℕ} {i j : ℕ} (l : Layout) (b : Bytes) → GoodEntry l b i e → Into e left ns j js → (e.a < i) × (e.b < i)
into_lower l b g (first_of k) = then_lower (subst (EntryLaws _ _ _ _ _ _) k g.names)
into_lower l b g (one_of k) = or_lower (subst (EntryLaws _ _ _ _ _ _) k g.names)

-- no entry that is reached is higher
down_lower : {p : Bytes} {has : ℕ → Bool} {n : ℕ} {ns : List ℕ} {i : ℕ} {is : List ℕ} (l : Layout) (b : Bytes) → GoodProgram l b p → Down p has n ns i is → i ≤ n
down_lower l b good here = omega arith
down_lower l b good (lower {i} h d k) =
    let (f, g) = into_lower l b (good.entries i h) k in
    let low = part_lower k f g in
    let most = down_lower l b good d in
    omega arith

-- what the first move of an entry comes to is what that of the one comes to that it is made in, where it is known of the lower
-- entries which have one
module _ (l : Layout) (b p : Bytes) (c : Configuration) (good : GoodProgram l b p) (n : ℕ) (has : ℕ → Bool)
    (marked : (j : ℕ) → j < n → has j ≡ is_some (move_at l b p (state_of c).mental j)) where
  abbrev A : Agent
  A = agent_for l b

  abbrev q : ℕ → Option (Move (List ℕ))
  q = move_at l b p (state_of c).mental

  pub down_came : {ns : List ℕ} {i : ℕ} {is : List ℕ} → Down p has n ns i is → move_result A (state_of c) (q n) ns ≡ move_result A (state_of c) (q i) is
  down_came here = refl
  down_came (lower {i} {j} {is} {js} h d k) =
      let x = entry_of p i in
      let f = move_at_lem (containing 2 l b) l p good.good i h A (conditions 𝐁 l b) (state_of c).mental in
      let low = (into_lower l b (good.entries i h) k).0 in
      let most = down_lower l b good d in
      down_came d ∙ ap (λ o. move_result A (state_of c) o is) f
      ∙ passes A (state_of c) (conditions 𝐁 l b) i x q (has x.a) (marked x.a (omega arith)) k

-- ---- a descent so far

-- what stands from a place on stays, where all from a lower place on does
pub later_kept : (n m : ℕ) (x y : List ℕ) → n ≤ m → drop n x ≡ drop n y → drop m x ≡ drop m y
later_kept n m x y h e =
    let k : n + (m - n) ≡ m = omega arith in
    ap (λ j. drop j x) (sym k) ∙ sym (drop-drop (m - n) n x) ∙ ap (drop (m - n)) e ∙ drop-drop (m - n) n y ∙ ap (λ j. drop j y) k

pub record Descended (p : Bytes) (has : ℕ → Bool) (from top : ℕ) (before now : List ℕ) (at rest : ℕ) : Type 0 where
  pub known : at < entry_count p
  pub stack : Stack p now at rest
  pub down : Down p has from (drop top before) at (drop rest now)
  pub rising : rest ≤ top
  pub kept : drop top now ≡ drop top before

module _ (l : Layout) (b p : Bytes) (good : GoodProgram l b p) (has : ℕ → Bool) (from top : ℕ) (before : List ℕ) where
  pub descended_start : Stack p before from top → Descended p has from top before before from top
  descended_start s =
      let h = stacked_room s.stacked in
      let k = good.some in
      record { known = omega arith; stack = s; down = here; rising = omega arith; kept = refl }

  module _ (now : List ℕ) (at rest : ℕ) (d : Descended p has from top before now at rest) where
    abbrev x : Node
    x = entry_of p at

    pub next_lower : {j : ℕ} {js : List ℕ} → Into x (has x.a) (drop rest now) j js → j < at
    next_lower k = let (f, g) = into_lower l b (good.entries at d.known) k in part_lower k f g

    pub descended_turn : (then : List ℕ) (j rest' : ℕ) → Into x (has x.a) (drop rest now) j (drop rest' then) → rest' ≤ rest
        → length then ≡ 128 → drop rest then ≡ drop rest now → Descended p has from top before then j rest'
    descended_turn then j rest' k h s f =
        let (u, v) = into_lower l b (good.entries at d.known) k in
        let low = part_lower k u v in
        let i = d.known in
        let r = d.rising in
        let w = d.stack.within in
        record {
          known = omega arith;
          stack = record { room = s; within = omega arith; stacked = part_stacked k u v d.stack.stacked };
          down = lower d.known d.down k;
          rising = omega arith;
          kept = later_kept rest top then now d.rising f ∙ d.kept;
        }

    -- the first part of an entry with parts is known
    pub first_known : 5 ≤ x.kind → x.a < at
    first_known k =
        let r = good.entries at d.known in
        first_lower (named x.kind r.kinds) k r.names

    -- there is room for one number more before those behind an entry with parts
    pub one_more : 5 ≤ x.kind → 1 ≤ rest
    one_more k =
        let r = good.entries at d.known in
        let low = second_lower (named x.kind r.kinds) (omega arith) r.names in
        let most = good.most in
        let h = stacked_room d.stack.stacked in
        let s = d.stack.room in
        let w = d.stack.within in
        let n = length-drop rest now in
        omega arith
