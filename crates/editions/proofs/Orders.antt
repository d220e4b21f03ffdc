-- The order 1, 2 of document 01 beside the order 1, 2, 1 of two editions, of a card or of a place: they answer alike unless a file
-- is short and its mark or edition is wrong.
use mathlib.Core.Path.{◌≡◌, refl, ap, sym}
use mathlib.Core.Logic.{◌⊎◌, inl, inr}
use mathlib.Core.Bool.{Bool, true, false, not}
use mathlib.Core.List.{List, [], ◌∷◌}
use Rattle.paper.proofs.Relation.{false≢true}
use Rattle.meaning.specs.declared.Refusal.{Refusal}
use Rattle.meaning.specs.Answers.{Answer}
use Rattle.std.specs.Prelude.{Err}
use Rattle.meaning.specs.Refusals.{Row, first_given}

-- two tables whose rows answer alike, one by one
abbrev pub RowsAlike : {X : Type 0} → X → List (Row X) → List (Row X) → Type 0
RowsAlike x [] [] = Unit {0}
RowsAlike x [] (r ∷ rs) = ⊥
RowsAlike x (q ∷ qs) [] = ⊥
RowsAlike x (q ∷ qs) (r ∷ rs) = (q.refusal x ≡ r.refusal x) × ((q.when x ≡ r.when x) × RowsAlike x qs rs)

pub rows_alike : {X : Type 0} (x : X) (qs rs : List (Row X)) → RowsAlike x qs rs → first_given qs x ≡ first_given rs x
unfolding first_given
rows_alike x [] [] h = refl
rows_alike x [] (r ∷ rs) h = absurd h
rows_alike x (q ∷ qs) [] h = absurd h
rows_alike x (q ∷ qs) (r ∷ rs) (e, (f, h)) = let g = rows_alike x qs rs h in λ i. elim (f i) [ true ↦ Err (e i) | false ↦ g i ]

-- document 01's first two rows: long enough, mark good, what follows
abbrev pub old : Bool → Bool → Answer → Answer
old long mark rest = elim (not long) [ true ↦ Err Refusal.Short | false ↦ elim (not mark) [ true ↦ Err Refusal.Mark | false ↦ rest ] ]

-- the first three of two editions: 4 bytes, mark good, long enough for the edition, what follows
abbrev pub new : Bool → Bool → Bool → Answer → Answer
new four mark long rest = elim (not four) [
  | true ↦ Err Refusal.Short
  | false ↦ elim (not mark) [ true ↦ Err Refusal.Mark | false ↦ elim (not long) [ true ↦ Err Refusal.Short | false ↦ rest ] ]
]

pub alike : (four mark long mark₁ long₁ : Bool) (rest rest₁ : Answer)
    → (long₁ ≡ true → four ≡ true)
    → (mark ≡ true → (mark₁ ≡ true) × ((long ≡ long₁) × (rest ≡ rest₁)))
    → (mark ≡ false → mark₁ ≡ false)
    → (new four mark long rest ≡ old long₁ mark₁ rest₁) ⊎ ((four ≡ true) × ((long₁ ≡ false) × (mark ≡ false)))
alike true true long mark₁ long₁ rest rest₁ h y n =
    let (m, (l, r)) = y refl in
    inl (λ i. old (l i) (sym m i) (r i))
alike true false long mark₁ true rest rest₁ h y n = inl (ap (λ m. old true m rest₁) (sym (n refl)))
alike true false long mark₁ false rest rest₁ h y n = inr (refl, (refl, refl))
alike false mark long mark₁ true rest rest₁ h y n = absurd (false≢true (h refl))
alike false mark long mark₁ false rest rest₁ h y n = inl refl

-- a short file is 1 by the one, and 2 by the other where its mark or edition is wrong
pub old_short : (long mark : Bool) (rest : Answer) → long ≡ false → old long mark rest ≡ Err Refusal.Short
old_short long mark rest e = ap (λ l. old l mark rest) e

pub new_wrong : (four mark long : Bool) (rest : Answer) → four ≡ true → mark ≡ false → new four mark long rest ≡ Err Refusal.Mark
new_wrong four mark long rest e f = λ i. new (e i) (f i) long rest

pub old_wrong : (long mark : Bool) (rest : Answer) → mark ≡ false
    → (old long mark rest ≡ Err Refusal.Short) ⊎ (old long mark rest ≡ Err Refusal.Mark)
old_wrong true mark rest e = inr (ap (λ m. old true m rest) e)
old_wrong false mark rest e = inl refl
