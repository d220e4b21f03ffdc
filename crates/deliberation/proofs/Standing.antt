-- What entry numbers stand for: the first move of an entry is that of the program which it stands for.
use mathlib.Core.Path.{◌≡◌, refl, ap, ap₂, ◌∙◌, sym, subst}
use mathlib.Core.Logic.{◌↔◌}
use mathlib.Core.Bool.{Bool, true}
use mathlib.Core.List.{List, [], ◌∷◌, ◌++◌, append-nil, append_assoc}
use mathlib.Core.Option.{Option, none, some}
use Prim.Native.Nat.{ℕ, suc, ◌<◌}
use native.Mathlib.Omega.{arith}
use Rattle.paper.specs.Language.{𝐁, Query, Agent, Config}
use Rattle.paper.specs.Transitions.{Choice}
use Rattle.meaning.specs.declared.Layout.{Layout}
use Rattle.meaning.specs.declared.Node.{Node}
use Rattle.meaning.specs.Card.{Bytes, layout, agent, conditions, condition}
use Rattle.meaning.specs.Refusals.{containing}
use Rattle.deliberation.specs.Programs.{Bexp, not_empty_plan, holds, Prog, execute, apply, select, while◌doing◌od, ◌⨾◌, ◌⊕◌, Rest, E, still, 𝒲}
use Rattle.deliberation.specs.Kinds.{EntryKind}
use Rattle.deliberation.specs.FirstMove.{Move, by_choice, lowest_action, if_enabled, idles, followed_by, left_else_right, first_move}
use Rattle.deliberation.specs.Entries.{entry_count, entries_of, program_good, prog_of, program, standing, move_of, first_move_of, move_at}
use Rattle.deliberation.specs.Theorems.{NoTransition, parts, parts_of, ◌≈◌, stand_for, NumbersLaw, EntryLaws, executes, applies, selects, while_plan, while_belief, does_both, does_one}
use Rattle.deliberation.proofs.Good.{from_lower, entry_rule, program_at, move_at_lem}
use Rattle.deliberation.proofs.First.{none_exactly}
use Rattle.deliberation.proofs.Parts.{some_parts, mapped, mapped_takes, mapped_idles, mapped_followed, mapped_either, mapped_none, mapped_some, mapped_twice, mapped_same, sequence, first_in}

-- P, and then what remains
abbrev then : Prog → Rest → Prog
then P R = elim R [ E ↦ P | still Q ↦ P ⨾ Q ]

parts_then : (P : Prog) (R : Rest) → parts (then P R) ≡ parts P ++ parts_of R
unfolding parts
parts_then P E = sym (append-nil (parts P))
parts_then P (still Q) = refl

module _ (βs : List (Query 𝐁)) (es : List Node) where
  -- the parts that numbers stand for
  abbrev pub stood : List ℕ → List Prog
  stood ns = parts_of (standing βs es ns)

  pub stood_next : (n : ℕ) (ns : List ℕ) → stood (n ∷ ns) ≡ parts (program βs es n) ++ stood ns
  unfolding standing
  stood_next n ns = parts_then (program βs es n) (standing βs es ns)

  pub stood_append : (ns rs : List ℕ) → stood (ns ++ rs) ≡ stood ns ++ stood rs
  unfolding standing
  stood_append [] rs = refl
  stood_append (n ∷ ns) rs =
      stood_next n (ns ++ rs) ∙ ap (λ Ps. parts (program βs es n) ++ Ps) (stood_append ns rs)
      ∙ sym (append_assoc (parts (program βs es n)) (stood ns) (stood rs)) ∙ ap (λ Ps. Ps ++ stood rs) (sym (stood_next n ns))

  pub stood_one : (n : ℕ) → stood (n ∷ []) ≡ parts (program βs es n)
  unfolding standing
  stood_one n = refl

  -- a number stands for something
  pub some_stood : (n : ℕ) (ns : List ℕ) → [] ≡ stood (n ∷ ns) → ⊥
  some_stood n ns e =
      let r = some_parts (program βs es n) in
      let q : [] ≡ (r.front ∷ r.behind) ++ stood ns = e ∙ stood_next n ns ∙ ap (λ Ps. Ps ++ stood ns) r.are in
      let z : ◌≡◌ {A = ℕ} 0 1 = cc in
      omega arith

  module _ (A : Agent) (s : Config) where
    -- the first move of a program and one over numbers are the same
    abbrev Same : Prog → Option (Move (List ℕ)) → Type 0
    Same P o = mapped parts_of (first_move A s P) ≡ mapped stood o

    same_takes : (P : Prog) (o : Option Choice) → first_move A s P ≡ by_choice o E → Same P (by_choice o [])
    unfolding standing
    same_takes P o e = ap (mapped parts_of) e ∙ mapped_takes parts_of o E ∙ sym (mapped_takes stood o [])

    same_while : (i b : ℕ) (c : Bexp) → program βs es i ≡ while c doing program βs es b od
        → Same (while c doing program βs es b od) (idles (𝒲 c s) (b ∷ i ∷ []) [])
    unfolding first_move parts standing
    same_while i b c e =
        let P : Prog = program βs es b in
        let two : parts P ++ ((while c doing P od) ∷ []) ≡ stood (b ∷ i ∷ []) = ap (λ Q. parts P ++ parts Q) (sym e) ∙ ap (λ Ps. parts P ++ Ps) (sym (stood_one i)) ∙ sym (stood_next b (i ∷ [])) in
        mapped_idles parts_of (𝒲 c s) (still (P ⨾ while c doing P od)) E ∙ ap (λ Ps. idles (𝒲 c s) Ps []) two
        ∙ sym (mapped_idles stood (𝒲 c s) (b ∷ i ∷ []) [])

    same_sequence : (a b : ℕ) (o : Option (Move (List ℕ))) → Same (program βs es a) o
        → Same (program βs es a ⨾ program βs es b) (followed_by (λ ns. ns ++ (b ∷ [])) o)
    same_sequence a b o h =
        let P : Prog = program βs es b in
        sequence A s (program βs es a) P ∙ ap (mapped (λ Ps. Ps ++ parts P)) h ∙ mapped_twice (λ Ps. Ps ++ parts P) stood o
        ∙ mapped_same _ _ (λ ns. sym (stood_append ns (b ∷ []) ∙ ap (λ Ps. stood ns ++ Ps) (stood_one b))) o
        ∙ sym (mapped_followed stood (λ ns. ns ++ (b ∷ [])) o)

    same_choice : (a b : ℕ) (o u : Option (Move (List ℕ))) → Same (program βs es a) o → Same (program βs es b) u
        → Same (program βs es a ⊕ program βs es b) (left_else_right o u)
    unfolding first_move
    same_choice a b o u h k =
        mapped_either parts_of (first_move A s (program βs es a)) (first_move A s (program βs es b)) ∙ ap₂ left_else_right h k
        ∙ sym (mapped_either stood o u)

    of_kind_lem : {n m : ℕ} {C : ℕ → Type 0} {i a b : ℕ} {κ : EntryKind} (q : ℕ → Option (Move (List ℕ))) → EntryLaws n m C i a b κ
        → program βs es i ≡ prog_of βs κ a b (program βs es) → ((j : ℕ) → j < i → Same (program βs es j) (q j))
        → Same (prog_of βs κ a b (program βs es)) (move_of A βs s i κ a b q)
    unfolding first_move
    of_kind_lem q executes e h = same_takes execute (lowest_action A s) refl
    of_kind_lem {a = a} q (applies _) e h = same_takes (apply a) (if_enabled A s (Choice.revise a)) refl
    of_kind_lem {a = a} q (selects _) e h = same_takes (select a) (if_enabled A s (Choice.select a)) refl
    of_kind_lem {i = i} {b = b} q (while_plan _) e h = same_while i b not_empty_plan e
    of_kind_lem {i = i} {a = a} {b = b} q (while_belief _ _) e h = same_while i b (holds (condition βs a)) e
    of_kind_lem {a = a} {b = b} q (does_both j l) e h = same_sequence a b (q a) (h a j)
    of_kind_lem {a = a} {b = b} q (does_one j l) e h = same_choice a b (q a) (q b) (h a j) (h b l)

module _ (gs : List Bool) (l : Layout) (p : Bytes) (good : program_good gs l p ≡ true) (A : Agent) (βs : List (Query 𝐁)) (s : Config) where
  -- the first move of an entry is that of its program
  entry_same : (i : ℕ) → i < entry_count p → Same βs (entries_of p) A s (program βs (entries_of p) i) (first_move_of A βs s (entries_of p) i)
  entry_same i h =
      from_lower (λ i. i < entry_count p → Same βs (entries_of p) A s (program βs (entries_of p) i) (first_move_of A βs s (entries_of p) i))
      (λ i lower h. (
      let e = program_at gs l p good i h βs in
      subst (λ P. Same βs (entries_of p) A s P (first_move_of A βs s (entries_of p) i)) (sym e)
      (rw (move_at_lem gs l p good i h A βs s)
      (of_kind_lem βs (entries_of p) A s (λ j. first_move_of A βs s (entries_of p) j) (entry_rule gs l p good i h) e (λ j k. lower j k (omega arith))))))
      (suc i) i (omega arith) h

  -- the first move of numbers is that of any program which they stand for
  pub numbers_same : (P : Prog) (n : ℕ) (ns : List ℕ) → n < entry_count p → parts P ≡ stood βs (entries_of p) (n ∷ ns)
      → mapped parts_of (first_move A s P) ≡ mapped (λ ms. stood βs (entries_of p) (ms ++ ns)) (first_move_of A βs s (entries_of p) n)
  numbers_same P n ns h e =
      let Q = program βs (entries_of p) n in
      let Rs = stood βs (entries_of p) ns in
      let o = first_move_of A βs s (entries_of p) n in
      first_in A s P Q Rs (e ∙ stood_next βs (entries_of p) n ns) ∙ sym (mapped_twice (λ Ps. Ps ++ Rs) parts_of (first_move A s Q))
      ∙ ap (mapped (λ Ps. Ps ++ Rs)) (entry_same n h) ∙ mapped_twice (λ Ps. Ps ++ Rs) (stood βs (entries_of p)) o
      ∙ mapped_same _ _ (λ ms. sym (stood_append βs (entries_of p) ms ns)) o

-- ---- the laws of numbers

module _ (b p : Bytes) (good : program_good (containing 2 (layout b) b) (layout b) p ≡ true) (s : Config) (n : ℕ) (ns : List ℕ) (h : n < entry_count p) where
  abbrev A : Agent
  A = agent b

  abbrev stands : Prog
  stands = then (program (conditions 𝐁 (layout b) b) (entries_of p) n) (stand_for b p ns)

  pub standing_for : stand_for b p (n ∷ ns) ≡ still stands
  unfolding standing
  standing_for = refl

  same : mapped parts_of (first_move A s stands) ≡ mapped (λ ms. parts_of (stand_for b p (ms ++ ns))) (move_at (layout b) b p s n)
  unfolding agent
  same = numbers_same (containing 2 (layout b) b) (layout b) p good A (conditions 𝐁 (layout b) b) s stands n ns h (sym (ap parts_of standing_for))

  is_first : (m : Move (List ℕ)) → move_at (layout b) b p s n ≡ some m → (m' : Move Rest)
      × ((first_move A s stands ≡ some m') × ((m'.label ≡ m.label) × (m'.remaining ≈ stand_for b p (m.remaining ++ ns))))
  is_first m e = mapped_some parts_of (first_move A s stands) _ (same ∙ ap (mapped (λ ms. parts_of (stand_for b p (ms ++ ns)))) e)

  none_there : (move_at (layout b) b p s n ≡ none) ↔ NoTransition A stands s
  none_there = (
    λ e. (none_exactly A s stands).0 (mapped_none parts_of (first_move A s stands) (same ∙ ap (mapped (λ ms. parts_of (stand_for b p (ms ++ ns)))) e)),
    λ none_here. mapped_none (λ ms. parts_of (stand_for b p (ms ++ ns))) (move_at (layout b) b p s n) (sym same ∙ ap (mapped parts_of) ((none_exactly A s stands).1 none_here)),
  )

pub numbers_law : NumbersLaw
numbers_law b p good s n ns h =
    record {
      stands = stands b p good s n ns h;
      standing_for = standing_for b p good s n ns h;
      is_first = is_first b p good s n ns h;
      none_exactly = none_there b p good s n ns h;
    }
