-- What a move in an entry leaves as numbers: a sequence is one number until then. No other first moves of entries meet the laws.
use mathlib.Core.Path.{◌≡◌, refl, ap, ◌∙◌, sym, subst}
use mathlib.Core.Logic.{◌↔◌, ⊎_elim}
use mathlib.Core.Bool.{Bool, true, false}
use mathlib.Core.List.{List, [], ◌∷◌, ◌++◌}
use mathlib.Core.Option.{Option, none, some}
use Prim.Native.Nat.{ℕ, suc, ◌<◌}
use native.Mathlib.Omega.{arith}
use Rattle.paper.specs.Language.{𝐁, Query, Config}
use Rattle.paper.proofs.Relation.{some_inj, false≢true}
use Rattle.meaning.specs.declared.Node.{Node}
use Rattle.meaning.specs.Card.{Bytes, layout, condition, conditions, agent_for, agent}
use Rattle.meaning.specs.Refusals.{containing}
use Rattle.deliberation.specs.Programs.{Bexp, not_empty_plan, holds, Prog, execute, apply, select, while◌doing◌od, Rest, E, 𝒲}
use Rattle.deliberation.specs.MetaTransitions.{Label, MetaStep}
use Rattle.deliberation.specs.Kinds.{EntryKind, Execute, Apply, Select, WhilePlan, WhileBelief, Then, Or, entry_kind}
use Rattle.deliberation.specs.FirstMove.{Move, idles, followed_by, left_else_right, first_move}
use Rattle.deliberation.specs.Entries.{entry_of, entry_count, entries_of, program_good, prog_of, program, standing, move_of, move_at}
use Rattle.deliberation.specs.Theorems.{NoTransition, parts_of, ◌≈◌, stand_for, NumbersLaws, OneNumber, OneNumberLaw, NumbersDetermined, EntryLaws, executes, applies, selects, while_plan, while_belief, does_both, does_one}
use Rattle.deliberation.proofs.Moves.{idles_holds, either_left, followed_some, same_move, same_first}
use Rattle.deliberation.proofs.Good.{from_lower, entry_rule, program_at, move_at_lem}
use Rattle.deliberation.proofs.First.{is_one}
use Rattle.deliberation.proofs.Parts.{still_inj}
use Rattle.deliberation.proofs.Standing.{stood, some_stood, numbers_law}
use Rattle.deliberation.proofs.Equivalence.{of_execute, of_apply, of_select, of_while}

module _ (b p : Bytes) (good : program_good (containing 2 (layout b) b) (layout b) p ≡ true) (s : Config) where
  abbrev βs : List (Query 𝐁)
  βs = conditions 𝐁 (layout b) b

  abbrev move : ℕ → Option (Move (List ℕ))
  move = move_at (layout b) b p s

  module _ (n : ℕ) (h : n < entry_count p) where
    abbrev x : Node
    x = entry_of p n

    -- the first move of an entry of a kind, from those of its parts
    by_kind : (κ : EntryKind) → entry_kind x.kind ≡ κ → move n ≡ move_of (agent_for (layout b) b) βs s n κ x.a x.b move
    by_kind κ k =
        move_at_lem (containing 2 (layout b) b) (layout b) p good n h (agent_for (layout b) b) βs s
        ∙ ap (λ κ. move_of (agent_for (layout b) b) βs s n κ x.a x.b move) k

    pub one_number : OneNumber b p s move n
    one_number = record {
      body = λ k e. by_kind WhilePlan k ∙ ap (λ t. idles t (x.b ∷ n ∷ []) []) e ∙ idles_holds (x.b ∷ n ∷ []) [];
      belief_body = λ k e. by_kind WhileBelief k ∙ ap (λ t. idles t (x.b ∷ n ∷ []) []) e ∙ idles_holds (x.b ∷ n ∷ []) [];
      right_part = λ k m e. by_kind Then k ∙ ap (followed_by (λ ns. ns ++ (x.b ∷ []))) e;
      left_taken = λ k m e. by_kind Or k ∙ ap (λ o. left_else_right o (move x.b)) e ∙ either_left m (move x.b);
      right_taken = λ k e. by_kind Or k ∙ ap (λ o. left_else_right o (move x.b)) e;
    }

  -- ---- what any such first moves have in common

  abbrev P : ℕ → Prog
  P n = program βs (entries_of p) n

  nothing_left : (ns : List ℕ) → [] ≡ stood βs (entries_of p) (ns ++ []) → ns ≡ []
  nothing_left [] e = refl
  nothing_left (n ∷ ns) e = absurd (some_stood βs (entries_of p) n (ns ++ []) e)

  module _ {other : ℕ → Option (Move (List ℕ))} {n : ℕ} (law : NumbersLaws b p s other n []) where
    stands_for : law.stands ≡ P n
    unfolding standing
    stands_for = still_inj (sym law.standing_for)

    none_there : (other n ≡ none) ↔ NoTransition (agent b) (P n) s
    none_there = subst (λ Q. (other n ≡ none) ↔ NoTransition (agent b) Q s) stands_for law.none_exactly

    abbrev First : Move (List ℕ) → Prog → Type 0
    First m Q = (m' : Move Rest) × ((first_move (agent b) s Q ≡ some m') × ((m'.label ≡ m.label) × (m'.remaining ≈ stand_for b p (m.remaining ++ []))))

    first_there : (m : Move (List ℕ)) → other n ≡ some m → First m (P n)
    first_there m e = subst (First m) stands_for (law.is_first m e)

  -- ---- others are the same

  module _ (other : ℕ → Option (Move (List ℕ))) (laws : (n : ℕ) → n < entry_count p → NumbersLaws b p s other n [] × OneNumber b p s other n) where
    module _ (n : ℕ) (h : n < entry_count p) where
      abbrev theirs : NumbersLaws b p s other n []
      theirs = (laws n h).0

      abbrev ours : NumbersLaws b p s move n []
      ours = numbers_law b p good s n [] h

      by_moves : ((m k : Move (List ℕ)) → other n ≡ some m → move n ≡ some k → m ≡ k) → other n ≡ move n
      by_moves f =
          same_first (other n) (move n) (λ e. (none_there ours).1 ((none_there theirs).0 e)) (λ e. (none_there theirs).1 ((none_there ours).0 e)) f

      -- an entry whose transitions leave nothing
      no_rest : (Q : Prog) → P n ≡ Q → ((y : Label) (R : Rest) (c : Config) → MetaStep (agent b) Q s y R c → R ≡ E) → other n ≡ move n
      no_rest Q q f =
          by_moves (λ m k e g. (
          let (m', (u, (y, r))) = first_there theirs m e in
          let (k', (v, (z, t))) = first_there ours k g in
          let w : m' ≡ k' = some_inj (sym u ∙ v) in
          same_move m k (sym y ∙ ap (λ (a : Move Rest). a.label) w ∙ z)
          (nothing_left m.remaining (sym (ap parts_of (ends m' u)) ∙ r) ∙ sym (nothing_left k.remaining (sym (ap parts_of (ends k' v)) ∙ t)))))
        where
          ends : (m : Move Rest) → first_move (agent b) s (P n) ≡ some m → m.remaining ≡ E
          ends m u = let (c, t) = is_one (agent b) s (P n) m u in f m.label m.remaining c (subst (λ Q. MetaStep (agent b) Q s m.label m.remaining c) q t)

      of_kind_lem : (κ : EntryKind) → entry_kind (entry_of p n).kind ≡ κ → P n ≡ prog_of βs κ (entry_of p n).a (entry_of p n).b P
      of_kind_lem κ k =
          program_at (containing 2 (layout b) b) (layout b) p good n h βs ∙ ap (λ κ. prog_of βs κ (entry_of p n).a (entry_of p n).b P) k

      some_while : (c : Bexp) → P n ≡ while c doing P (entry_of p n).b od → (𝒲 c s ≡ true → other n ≡ move n) → other n ≡ move n
      some_while c q f = go (𝒲 c s) refl
        where
          go : (t : Bool) → 𝒲 c s ≡ t → other n ≡ move n
          go true e = f e
          go false e =
              no_rest (while c doing P (entry_of p n).b od) q
              (λ y R d t. ⊎_elim (λ u. absurd (false≢true (sym e ∙ u.0))) (λ u. u.1) (of_while t).1.1)

      same_kind : {r t : ℕ} {C : ℕ → Type 0} {κ : EntryKind} → EntryLaws r t C n (entry_of p n).a (entry_of p n).b κ → entry_kind (entry_of p n).kind ≡ κ
          → ((j : ℕ) → j < n → other j ≡ move j) → other n ≡ move n
      same_kind executes k ih = no_rest execute (of_kind_lem Execute k) (λ y R c t. (of_execute t).1.1.0)
      same_kind (applies _) k ih = no_rest (apply (entry_of p n).a) (of_kind_lem Apply k) (λ y R c t. (of_apply t).1.0)
      same_kind (selects _) k ih = no_rest (select (entry_of p n).a) (of_kind_lem Select k) (λ y R c t. (of_select t).1.0)
      same_kind (while_plan _) k ih =
          some_while not_empty_plan (of_kind_lem WhilePlan k) (λ e. (laws n h).1.body k e ∙ sym ((one_number n h).body k e))
      same_kind (while_belief _ _) k ih =
          some_while (holds (condition βs (entry_of p n).a)) (of_kind_lem WhileBelief k) (λ e. (laws n h).1.belief_body k e ∙ sym ((one_number n h).belief_body k e))
      same_kind (does_both j l) k ih =
          by_moves (λ m o e g. (
          let (i, (q, w)) = followed_some (λ ns. ns ++ ((entry_of p n).b ∷ [])) (move (entry_of p n).a) o (sym (by_kind n h Then k) ∙ g) in
          some_inj (sym e ∙ (laws n h).1.right_part k i (ih (entry_of p n).a j ∙ q) ∙ sym ((one_number n h).right_part k i q) ∙ g)))
      same_kind (does_one j l) k ih = go (move (entry_of p n).a) refl
        where
          go : (o : Option (Move (List ℕ))) → move (entry_of p n).a ≡ o → other n ≡ move n
          go none e = (laws n h).1.right_taken k (ih (entry_of p n).a j ∙ e) ∙ ih (entry_of p n).b l ∙ sym ((one_number n h).right_taken k e)
          go (some m) e = (laws n h).1.left_taken k m (ih (entry_of p n).a j ∙ e) ∙ sym ((one_number n h).left_taken k m e)

    only : (n : ℕ) → n < entry_count p → other n ≡ move n
    only n h =
        from_lower (λ n. n < entry_count p → other n ≡ move n)
        (λ n lower h. same_kind n h (entry_rule (containing 2 (layout b) b) (layout b) p good n h) refl (λ j k. lower j k (omega arith)))
        (suc n) n (omega arith) h

pub one_number_law : OneNumberLaw
one_number_law = one_number

pub numbers_determined : NumbersDetermined
numbers_determined = only
