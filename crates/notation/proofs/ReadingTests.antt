-- Laws of what a reader chooses by: `if`, and `then` of what is read only if a test holds.
use mathlib.Core.Path.{◌≡◌, refl, sym}
use mathlib.Core.Bool.{Bool, true, false, ◌&&◌}
use Prim.Native.Nat.{ℕ, ◌≤◌, ◌<◌}
use native.Mathlib.Omega.{arith}
use borrow.Author.Tests.{leb-true, leb-false, lt-leb}
use lib.Dec.{leb}
use Rattle.paper.specs.Next.{if}
use Rattle.meaning.specs.Card.{Bytes}
use Rattle.notation.specs.Values.{Read, nested, got, then}

module _ {X : Type 0} where
  pub if_yes : {b : Bool} (x y : X) → b ≡ true → if b x y ≡ x
  if_yes x y e = rw e refl

  pub if_no : {b : Bool} (x y : X) → b ≡ false → if b x y ≡ y
  if_no x y e = rw e refl

-- what is read, if a test holds; nested otherwise
abbrev pub within : {X : Type 0} → Bool → X → Bytes → Read X
within b x t = if b (got x t) nested

module _ {X Y : Type 0} where
  -- what is read by two tests in a row is read by both together
  pub then_within : (a b : Bool) (x : X) (t : Bytes) (y : Y) (u : Bytes) (f : X → Bytes → Read Y)
      → f x t ≡ within b y u → then (within a x t) f ≡ within (a && b) y u
  then_within true b x t y u f e = e
  then_within false b x t y u f e = refl

  -- what is made of what is read
  pub then_made : (a : Bool) (x : X) (t : Bytes) (make : X → Y) → then (within a x t) (λ x t. got (make x) t) ≡ within a (make x) t
  then_made true x t make = refl
  then_made false x t make = refl

-- what is read behind something that nests m deep and is itself part of what nests n deep
module _ {X Y : Type 0} {m n : ℕ} (left : ℕ) (deeper : m ≤ n) (x : X) (t : Bytes) (y : Y) (u : Bytes) (f : X → Bytes → Read Y) where
  pub then_deeper : (m ≤ left → f x t ≡ within (leb n left) y u) → then (within (leb m left) x t) f ≡ within (leb n left) y u
  then_deeper e = go (leb m left) refl
    where
      go : (b : Bool) → leb m left ≡ b → then (within b x t) f ≡ within (leb n left) y u
      go true h = e (leb-true m left h)
      go false h =
          let l : left < m = leb-false m left h in
          let k : left < n = omega arith in
          sym (if_no (got y u) nested (lt-leb n left k))
