-- The next of the numbers that remain, and what is left of them where its move is not made.
use mathlib.Core.Path.{◌≡◌, refl, ap, ◌∙◌, sym, subst}
use mathlib.Core.List.{◌∷◌}
use Prim.Native.Nat.{ℕ, ◌+◌, ◌≤◌, ◌<◌}
use native.Mathlib.Numerals.{add-one}
use native.Mathlib.Omega.{arith}
use lib.ListN.{length, drop, set, get_or, length-set, length-drop}
use lib.Seq.{drop-cons}
use Rattle.meaning.specs.declared.Layout.{Layout}
use Rattle.meaning.specs.declared.Configuration.{Configuration}
use Rattle.meaning.specs.Card.{Bytes}
use Rattle.choices.specs.Judged.{Marked}
use Rattle.deliberation.specs.Deliberate.{MoveResult, stuck, too_long, on}
use Rattle.deliberate.specs.declared.made.MoveMade.{MoveMade}
use Rattle.deliberate.specs.declared.made.AfterMove.{AfterMove}
use Rattle.deliberate.specs.Made.{made_of, configuration_after, numbers_after, Makes, Remains, stayed, kept_as, kept_in}
use Rattle.deliberate.proofs.Descending.{pushed, later_kept}

module _ (p stack : Bytes) (top : ℕ) (r : Remains p stack top) (h : top < 128) where
  pub next_first : drop top stack ≡ get_or stack top 0 ∷ drop (top + 1) stack
  next_first = let s = r.room in drop-cons stack top 0 (omega arith) ∙ ap (λ n. get_or stack top 0 ∷ drop n stack) (sym (add-one top))

module _ (l : Layout) (b p : Bytes) (c : Configuration) (stack : Bytes) (top : ℕ) (r : Remains p stack top) (h : top < 128) where
  abbrev next : ℕ
  next = get_or stack top 0

  -- the stack and the top after a descent, the move that is made then, and what it leaves
  module _ (down : Bytes) (rest : ℕ) (room : length down ≡ 128) (rising : rest ≤ top + 1) (behind : drop (top + 1) down ≡ drop (top + 1) stack)
      (x : AfterMove) (after : Configuration) (left : Bytes) where
    not_made : (m : MoveMade) (o : MoveResult) → Makes l b c (drop rest down) o x after left → m ≡ made_of o → numbers_after o (drop rest down) ≡ drop rest down
        → numbers_after o (drop top stack) ≡ drop top stack → configuration_after o c ≡ c → Makes l b c (drop top stack) o (stayed x.standing m top) after (set left top next)
    not_made m o k e f g u =
        let s = k.room in
        let w = k.within in
        let same : length (drop x.top left) ≡ length (drop rest down) = ap length (k.numbers ∙ f) in
        let t : x.top ≡ rest = (let d = length-drop x.top left in let v = length-drop rest down in omega arith) in
        let q : drop rest left ≡ drop rest down = ap (λ n. drop n left) (sym t) ∙ k.numbers ∙ f in
        let z = later_kept rest (top + 1) left down rising q ∙ behind in
        record {
          made = e;
          configuration = k.configuration;
          numbers = pushed left top next (omega arith) ∙ ap (λ ns. next ∷ ns) z ∙ sym (next_first p stack top r h) ∙ sym g;
          within = omega arith;
          room = simp length-set s;
          keeps = λ _ marks v. subst (λ (y : Configuration). Marked l b y.mind.beliefs y.mind.goals marks) (sym (k.configuration ∙ u)) v;
        }

    by_made : (o : MoveResult) → Makes l b c (drop rest down) o x after left
        → Makes l b c (drop top stack) o (kept_as x.made x top) after (kept_in x.made left top next)
    by_made stuck k = subst (λ m. Makes l b c (drop top stack) stuck (kept_as m x top) after (kept_in m left top next)) (sym k.made) (not_made MoveMade.Stuck stuck k refl refl refl refl)
    by_made too_long k = subst (λ m. Makes l b c (drop top stack) too_long (kept_as m x top) after (kept_in m left top next)) (sym k.made) (not_made MoveMade.Full too_long k refl refl refl refl)
    by_made (on ns s) k =
        subst (λ m. Makes l b c (drop top stack) (on ns s) (kept_as m x top) after (kept_in m left top next)) (sym k.made)
        (record { made = k.made; configuration = k.configuration; numbers = k.numbers; within = k.within; room = k.room; keeps = k.keeps })

    pub kept_so : (o : MoveResult) → Makes l b c (drop rest down) o x after left → (end : Bytes) → end ≡ kept_in x.made left top next
        → Makes l b c (drop top stack) o (kept_as x.made x top) after end
    kept_so o k end e = subst (λ z. Makes l b c (drop top stack) o (kept_as x.made x top) after z) (sym e) (by_made o k)

-- what a move that is made comes to, and one that is not
module _ (r : AfterMove) (top : ℕ) where
  pub kept_on : r.made ≡ MoveMade.On → kept_as r.made r top ≡ r
  kept_on e = ap (λ m. kept_as m r top) e

  pub kept_off : (r.made ≡ MoveMade.On → ⊥) → kept_as r.made r top ≡ stayed r.standing r.made top
  kept_off off = by r.made refl
    where
      by : (m : MoveMade) → r.made ≡ m → kept_as m r top ≡ stayed r.standing m top
      by MoveMade.On e = absurd (off e)
      by MoveMade.Stuck e = refl
      by MoveMade.Full e = refl
