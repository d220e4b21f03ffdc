-- Moves taken apart: of a choice, a while, a sequence, and of what takes one.
use mathlib.Core.Path.{◌≡◌, refl, ap, ap₂, ◌∙◌, sym}
use mathlib.Core.Bool.{Bool, true, false}
use mathlib.Core.Option.{Option, none, some}
use Rattle.paper.specs.Transitions.{Choice}
use Rattle.paper.proofs.Relation.{none≢some, some_inj}
use Rattle.deliberation.specs.MetaTransitions.{idle, taking}
use Rattle.deliberation.specs.FirstMove.{Move, by_choice, idles, followed_by, left_else_right}

module _ {R : Type 0} where
  -- a while has a move, whatever its condition says
  pub idles_holds : (r r' : R) → idles true r r' ≡ some (record { label = idle; remaining = r })
  idles_holds r r' = refl

  pub idles_fails : (r r' : R) → idles false r r' ≡ some (record { label = idle; remaining = r' })
  idles_fails r r' = refl

  pub idles_none : (b : Bool) (r r' : R) → idles b r r' ≡ none → ⊥
  idles_none true r r' e = none≢some (sym e ∙ idles_holds r r')
  idles_none false r r' e = none≢some (sym e ∙ idles_fails r r')

  -- a choice takes the left if it has a move
  pub either_left : (m : Move R) (u : Option (Move R)) → left_else_right (some m) u ≡ some m
  either_left m u = refl

  pub either_none : (o u : Option (Move R)) → left_else_right o u ≡ none → (o ≡ none) × (u ≡ none)
  either_none none u e = (refl, e)
  either_none (some m) u e = absurd (none≢some (sym e ∙ either_left m u))

  -- a sequence has the move of its left
  pub followed_some : (f : R → R) (o : Option (Move R)) (m : Move R) → followed_by f o ≡ some m
      → (n : Move R) × ((o ≡ some n) × (record { label = n.label; remaining = f n.remaining } ≡ m))
  followed_some f none m e = absurd (none≢some e)
  followed_some f (some n) m e = (n, (refl, some_inj e))

  pub followed_none : (f : R → R) (o : Option (Move R)) → followed_by f o ≡ none → o ≡ none
  followed_none f none e = refl
  followed_none f (some n) e = absurd (none≢some (sym e))

  pub takes_some : (o : Option Choice) (r : R) (m : Move R) → by_choice o r ≡ some m
      → (k : Choice) × ((o ≡ some k) × (record { label = taking k; remaining = r } ≡ m))
  takes_some none r m e = absurd (none≢some e)
  takes_some (some k) r m e = (k, (refl, some_inj e))

  pub takes_none : (o : Option Choice) (r : R) → by_choice o r ≡ none → o ≡ none
  takes_none none r e = refl
  takes_none (some k) r e = absurd (none≢some (sym e))

  -- a move, its label and what then remains
  pub same_move : (m n : Move R) → m.label ≡ n.label → m.remaining ≡ n.remaining → m ≡ n
  same_move m n e f = ap₂ (λ x r. record { label = x; remaining = r }) e f

  -- two that are none together are the same if their moves are
  pub same_first : (o u : Option (Move R)) → (o ≡ none → u ≡ none) → (u ≡ none → o ≡ none) → ((m n : Move R) → o ≡ some m → u ≡ some n → m ≡ n) → o ≡ u
  same_first none u f g h = sym (f refl)
  same_first (some m) none f g h = g refl
  same_first (some m) (some n) f g h = ap {B = Option (Move R)} (λ x. some x) (h m n refl refl)
