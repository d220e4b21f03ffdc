-- One pass over the nodes: what it makes of a node, from what it made of the lower ones.
use mathlib.Core.Path.{◌≡◌, refl, ap, ◌∙◌, sym, subst}
use mathlib.Core.List.{List, [], ◌∷◌, ◌++◌}
use Prim.Native.Nat.{ℕ, zero, suc, ◌+◌, ◌<◌}
use native.Mathlib.Nat.{le_of_suc-le-suc, not-suc-le-zero, add-zero, zero-add}
use native.Mathlib.Omega.{arith}
use lib.ListN.{length, get_or, length-append, get_or-append}
use lib.Seq.{get_or-append-add}
use Rattle.meaning.specs.declared.Node.{Node}
use Rattle.meaning.specs.Card.{pass_on, pass}

module _ {X : Type 0} (make : ℕ → Node → (ℕ → X) → X) (other : X) where
  -- the pass keeps what was made
  keeps : (made : List X) (ns : List Node) (i : ℕ) → i < length made → get_or (pass_on make other made ns) i other ≡ get_or made i other
  keeps made [] i h = refl
  keeps made (n ∷ ns) i h =
      let m = make (length made) n (λ j. get_or made j other) in
      keeps (made ++ (m ∷ [])) ns i (rw (length-append made (m ∷ [])) (omega arith))
      ∙ get_or-append made (m ∷ []) other i h

  -- what was made of node i, from what was made of those below it
  record MadeAt (all : List X) (n : Node) (i : ℕ) : Type 0 where
    below : ℕ → X
    agree : (j : ℕ) → j < i → below j ≡ get_or all j other
    made : get_or all i other ≡ make i n below

  made_on : (made : List X) (ns : List Node) (i : ℕ) (d : Node) → i < length ns → MadeAt (pass_on make other made ns) (get_or ns i d) (length made + i)
  made_on made [] i d h = absurd (not-suc-le-zero h)
  made_on made (n ∷ ns) zero d h =
      let m = make (length made) n (λ j. get_or made j other) in
      let l : length made < length (made ++ (m ∷ [])) = rw (length-append made (m ∷ [])) (omega arith) in
      rw (add-zero (length made))
      (record {
        below = λ j. get_or made j other;
        agree = λ j k. sym (keeps made (n ∷ ns) j k);
        made = keeps (made ++ (m ∷ [])) ns (length made) l ∙ ap (λ (k : ℕ). get_or (made ++ (m ∷ [])) k other) (sym (add-zero (length made))) ∙ get_or-append-add made (m ∷ []) 0 other;
      })
  made_on made (n ∷ ns) (suc i) d h =
      let m = make (length made) n (λ j. get_or made j other) in
      let l : length (made ++ (m ∷ [])) + i ≡ length made + suc i = rw (length-append made (m ∷ [])) (omega arith) in
      subst (λ k. MadeAt (pass_on make other (made ++ (m ∷ [])) ns) (get_or ns i d) k) l (made_on (made ++ (m ∷ [])) ns i d (le_of_suc-le-suc h))

  -- where what is made of node i looks only at lower nodes
  abbrev pub Lower : ℕ → Node → Type 0
  Lower i n = (q q' : ℕ → X) → ((j : ℕ) → j < i → q j ≡ q' j) → make i n q ≡ make i n q'

  pub pass_at : (ns : List Node) (i : ℕ) (d : Node) → i < length ns → Lower i (get_or ns i d)
      → get_or (pass make other ns) i other ≡ make i (get_or ns i d) (λ j. get_or (pass make other ns) j other)
  pass_at ns i d h lower =
      let m = rw zero-add at (made_on [] ns i d h) in
      m.made ∙ lower m.below (λ j. get_or (pass make other ns) j other) m.agree
