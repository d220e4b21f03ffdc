-- What comes of a step that may be refused: a value exactly if something holds, and else none.
use mathlib.Core.Path.{◌≡◌, refl}
use mathlib.Core.Bool.{Bool, true, false}
use mathlib.Core.List.{◌++◌}
use mathlib.Core.Option.{Option, none, some}
use Prim.Native.Nat.{ℕ, ◌+◌, ◌≤◌}
use native.Mathlib.Omega.{arith}
use borrow.Author.Tests.{leb-true, leb-false}
use lib.Dec.{leb}
use lib.ListN.{length}
use Rattle.paper.specs.Next.{if}
use Rattle.paper.proofs.Relation.{false≢true}
use Rattle.meaning.specs.Card.{Bytes}
use Rattle.notation.specs.Making.{bind, when, added}

-- o is some x exactly if P holds, and else none
pub data Exactly {X : Type 0} (P : Type 0) (x : X) (o : Option X) : Type 0 where
  holds : P → o ≡ some x → Exactly P x o
  fails : (P → ⊥) → o ≡ none → Exactly P x o

module _ {X : Type 0} {P : Type 0} where
  -- the same value
  pub exactly_as : {x y : X} {o : Option X} → x ≡ y → Exactly P x o → Exactly P y o
  exactly_as e (holds p f) = holds p (rw e at f)
  exactly_as e (fails n f) = fails n f

  -- the same option
  pub exactly_of : {x : X} {o r : Option X} → r ≡ o → Exactly P x o → Exactly P x r
  exactly_of e (holds p f) = holds p (cc)
  exactly_of e (fails n f) = fails n (cc)

  -- the same condition
  pub exactly_if : {Q : Type 0} {x : X} {o : Option X} → (P → Q) → (Q → P) → Exactly P x o → Exactly Q x o
  exactly_if f g (holds p e) = holds (f p) e
  exactly_if f g (fails n e) = fails (λ q. n (g q)) e

  -- one step, and another that goes on from it
  behind : {Y : Type 0} {Q : Type 0} {x : X} {y : Y} {o : Option X} (f : Option X → Option Y)
      → P → o ≡ some x → Exactly Q y (f (some x)) → Exactly (P × Q) y (f o)
  behind f p e (holds q h) = holds (p, q) (rw e h)
  behind f p e (fails m h) = fails (λ r. m r.1) (rw e h)

  pub and_then : {Y : Type 0} {Q : Type 0} {x : X} {y : Y} {o : Option X} (f : Option X → Option Y)
      → f none ≡ none → Exactly P x o → (P → Exactly Q y (f (some x))) → Exactly (P × Q) y (f o)
  and_then f n (holds p e) g = behind f p e (g p)
  and_then f n (fails m e) g = fails (λ r. m r.0) (rw e n)

  -- a step that is taken only if b is true
  pub exactly_when : (b : Bool) {x : X} {o : Option X} → (b ≡ true → Exactly P x o) → Exactly ((b ≡ true) × P) x (when b o)
  exactly_when true f = exactly_if (λ p. (refl, p)) (λ p. p.1) (f refl)
  exactly_when false f = fails (λ p. false≢true p.0) refl

-- a step whose value is a part of something
pub exactly_in : {X Y : Type 0} {P : Type 0} (f : X → Y) {x : X} {o : Option X}
    → Exactly P x o → Exactly P (f x) (bind o (λ y. some (f y)))
exactly_in f (holds p e) = holds p (rw e)
exactly_in f (fails n e) = fails n (rw e)

-- no step goes on from none
pub when_none : {X : Type 0} (b : Bool) → when {X = X} b none ≡ none
when_none true = refl
when_none false = refl

-- bytes at the end of a section
pub exactly_added : (room : ℕ) (e s : Bytes) → Exactly (length s + length e ≤ room) (s ++ e) (added room e s)
exactly_added room e s = go (leb (length s + length e) room) refl
  where
    go : (b : Bool) → leb (length s + length e) room ≡ b → Exactly (length s + length e ≤ room) (s ++ e) (if b (some (s ++ e)) none)
    go true h = holds (leb-true (length s + length e) room h) refl
    go false h = fails (λ p. omega (arith, leb-false (length s + length e) room h)) refl

-- as an equation
pub exactly_equal : {X : Type 0} (b : Bool) {x : X} {o : Option X} → Exactly (b ≡ true) x o → o ≡ if b (some x) none
exactly_equal true (holds p e) = e
exactly_equal true (fails n e) = absurd (n refl)
exactly_equal false (holds p e) = absurd (false≢true p)
exactly_equal false (fails n e) = e
