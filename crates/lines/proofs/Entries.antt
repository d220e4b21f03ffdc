-- An entry, written part by part.
use mathlib.Core.Path.{◌≡◌, ap, ◌∙◌}
use mathlib.Core.List.{[], ◌∷◌, ◌++◌, append-nil}
use Prim.Native.Nat.{ℕ}
use native.Mathlib.Omega.{arith}
use lib.ListN.{length, take, drop, replicate, length-append, drop_of_length-le}
use lib.Seq.{paste, take_at, take_all}
use Rattle.meaning.specs.Card.{Bytes}
use Rattle.lines.specs.Lines.{specification}

pub specification_made : (a n : ℕ) (add del e₁ e₂ : Bytes) → length add ≡ 16 → length del ≡ 16
    → e₁ ≡ paste (a ∷ (n ∷ replicate 34 0)) 4 add 16 → e₂ ≡ paste e₁ 20 del 16 → e₂ ≡ specification a n add del
specification_made a n add del e₁ e₂ la ld p q =
    let z : Bytes = replicate 16 0 in
    let one : e₁ ≡ a ∷ (n ∷ (0 ∷ (0 ∷ (add ++ z)))) = p ∙ ap (λ (x : Bytes). a ∷ (n ∷ (0 ∷ (0 ∷ (x ++ z))))) (take_all 16 add (omega arith)) in
    let f : take 16 (add ++ z) ≡ add = take_at add z 16 la in
    let g : take 16 del ≡ del = take_all 16 del (omega arith) in
    let long : length (add ++ z) ≡ 32 = length-append add z ∙ omega arith in
    let h : drop 32 (add ++ z) ≡ [] = drop_of_length-le (add ++ z) {i = 32} (omega arith) in
    q
    ∙ ap (λ (x : Bytes). paste x 20 del 16) one
    ∙ (λ i. a ∷ (n ∷ (0 ∷ (0 ∷ ((f i ++ g i) ++ h i)))))
    ∙ ap (λ (x : Bytes). a ∷ (n ∷ (0 ∷ (0 ∷ x)))) (append-nil (add ++ del))

pub specification_length : (a n : ℕ) (add del : Bytes) → length add ≡ 16 → length del ≡ 16 → length (specification a n add del) ≡ 36
specification_length a n add del la ld = let e = length-append add del in omega arith
