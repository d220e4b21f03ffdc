-- The laws of the first move of a program leave no other.
use mathlib.Core.Path.{◌≡◌, refl, ap, ◌∙◌, sym}
use mathlib.Core.Logic.{⊎_elim}
use mathlib.Core.Bool.{Bool, true, false}
use mathlib.Core.Option.{Option, none, some}
use Prim.Native.Nat.{ℕ, ◌<◌}
use native.Mathlib.Decide.{dec_lt}
use native.Mathlib.Omega.{arith}
use Rattle.paper.specs.Language.{Agent, Config}
use Rattle.paper.specs.Transitions.{Choice}
use Rattle.paper.proofs.Relation.{false≢true}
use Rattle.deliberation.specs.Programs.{Bexp, Prog, execute, apply, select, while◌doing◌od, ◌⨾◌, ◌⊕◌, Rest, E, still, 𝒲}
use Rattle.deliberation.specs.MetaTransitions.{Label, idle, taking, MetaStep}
use Rattle.deliberation.specs.FirstMove.{Move, first_move}
use Rattle.deliberation.specs.Theorems.{NoTransition, FirstMoveLaws, WayOut, FirstMoveDetermined}
use Rattle.deliberation.proofs.Moves.{same_move, same_first}
use Rattle.deliberation.proofs.First.{is_one, none_exactly, lowest, left, right, in_first}
use Rattle.deliberation.proofs.Equivalence.{of_execute, of_apply, of_select, of_while, of_sequence}

-- a number that is not below another, nor the other below it
same_number : (j k : ℕ) → (j < k → ⊥) → (k < j → ⊥) → j ≡ k
same_number j k f g = elim (dec_lt j k) [ yes h ↦ absurd (f h) | no h ↦ elim (dec_lt k j) [ yes l ↦ absurd (g l) | no l ↦ omega arith ] ]

module _ (A : Agent) (s : Config) (first : Prog → Option (Move Rest)) (laws : (P : Prog) → FirstMoveLaws A s first P) (way : WayOut A s first) where
  -- both have a move or neither: it is enough that the moves are the same
  by_moves : (P : Prog) → ((m n : Move Rest) → first P ≡ some m → first_move A s P ≡ some n → m ≡ n) → first P ≡ first_move A s P
  by_moves P f =
      same_first (first P) (first_move A s P) (λ e. (none_exactly A s P).1 ((laws P).none_exactly.0 e))
      (λ e. (laws P).none_exactly.1 ((none_exactly A s P).0 e)) f

  -- a program all of whose transitions have one label and leave one rest
  abbrev OneWay : Prog → Label → Rest → Type 0
  OneWay P x R = (y : Label) (Q : Rest) (s' : Config) → MetaStep A P s y Q s' → (y ≡ x) × (Q ≡ R)

  one_way : (P : Prog) (x : Label) (R : Rest) → OneWay P x R → first P ≡ first_move A s P
  one_way P x R f =
      by_moves P (λ m n e g. (
      let (c, t) = (laws P).is_one m e in
      let (d, u) = is_one A s P n g in
      let (i, j) = f m.label m.remaining c t in
      let (k, l) = f n.label n.remaining d u in
      same_move m n (i ∙ sym k) (j ∙ sym l)))

  both_lowest : first execute ≡ first_move A s execute
  both_lowest =
      by_moves execute (λ m n e g. (
      let (c, t) = (laws execute).is_one m e in
      let (d, u) = is_one A s execute n g in
      let (j, (x, (r, v))) = of_execute t in
      let (k, (y, (q, w))) = of_execute u in
      let i : j ≡ k = same_number j k (λ h. lowest A s n k g y j h c v) (λ h. way.lowest m j e x k h d w) in
      same_move m n (x ∙ ap (λ i. taking (Choice.act i)) i ∙ sym y) (r ∙ sym q)))

  both_while : (b : Bexp) (P : Prog) → first (while b doing P od) ≡ first_move A s (while b doing P od)
  both_while b P = go (𝒲 b s) refl
    where
      go : (t : Bool) → 𝒲 b s ≡ t → first (while b doing P od) ≡ first_move A s (while b doing P od)
      go true h =
          one_way (while b doing P od) idle (still (P ⨾ while b doing P od))
          (λ y Q c t. (let (x, (e, w)) = of_while t in (x, ⊎_elim (λ u. u.1) (λ u. absurd (false≢true (sym u.0 ∙ h))) w)))
      go false h =
          one_way (while b doing P od) idle E
          (λ y Q c t. (let (x, (e, w)) = of_while t in (x, ⊎_elim (λ u. absurd (false≢true (sym h ∙ u.0))) (λ u. u.1) w)))

  both_sequence : (P₁ P₂ : Prog) → first P₁ ≡ first_move A s P₁ → first (P₁ ⨾ P₂) ≡ first_move A s (P₁ ⨾ P₂)
  both_sequence P₁ P₂ i = go (first_move A s P₁) refl
    where
      go : (o : Option (Move Rest)) → first_move A s P₁ ≡ o → first (P₁ ⨾ P₂) ≡ first_move A s (P₁ ⨾ P₂)
      go none e =
          let h : NoTransition A (P₁ ⨾ P₂) s = λ x R c t. (let (Q, (u, q)) = of_sequence t in (none_exactly A s P₁).0 e x Q c u) in
          (laws (P₁ ⨾ P₂)).none_exactly.1 h ∙ sym ((none_exactly A s (P₁ ⨾ P₂)).1 h)
      go (some m) e = way.sequence P₁ P₂ m (i ∙ e) ∙ sym (in_first A s P₁ P₂ m e)

  both_choice : (P₁ P₂ : Prog) → first P₁ ≡ first_move A s P₁ → first P₂ ≡ first_move A s P₂ → first (P₁ ⊕ P₂) ≡ first_move A s (P₁ ⊕ P₂)
  both_choice P₁ P₂ i j = go (first_move A s P₁) refl
    where
      go : (o : Option (Move Rest)) → first_move A s P₁ ≡ o → first (P₁ ⊕ P₂) ≡ first_move A s (P₁ ⊕ P₂)
      go none e = let h = (none_exactly A s P₁).0 e in way.right P₁ P₂ h ∙ j ∙ sym (right A s P₁ P₂ h)
      go (some m) e = let (c, t) = is_one A s P₁ m e in way.left P₁ P₂ m.label m.remaining c t ∙ i ∙ sym (left A s P₁ P₂ m.label m.remaining c t)

  only : (P : Prog) → first P ≡ first_move A s P
  only execute = both_lowest
  only (apply ρ) = one_way (apply ρ) (taking (Choice.revise ρ)) E (λ y Q c t. (let (x, (r, v)) = of_apply t in (x, r)))
  only (select ρ) = one_way (select ρ) (taking (Choice.select ρ)) E (λ y Q c t. (let (x, (r, v)) = of_select t in (x, r)))
  only (while b doing P od) = both_while b P
  only (P₁ ⨾ P₂) = both_sequence P₁ P₂ (only P₁)
  only (P₁ ⊕ P₂) = both_choice P₁ P₂ (only P₁) (only P₂)

pub first_move_determined : FirstMoveDetermined
first_move_determined = only
