-- Why a choice is closed, by what asking for it answers.
use mathlib.Core.Path.{◌≡◌, refl, ap, sym, ◌∙◌}
use mathlib.Core.Bool.{Bool, true, false, not}
use Prim.Native.Nat.{ℕ}
use Rattle.paper.specs.Language.{𝐁, 𝐆, Config}
use Rattle.paper.specs.Transitions.{Choice, select, act, revise}
use Rattle.paper.specs.Next.{if}
use Rattle.paper.proofs.Relation.{false≢true}
use Rattle.std.specs.Prelude.{Err}
use Rattle.meaning.specs.declared.Refusal.{Refusal}
use Rattle.meaning.specs.declared.Layout.{Layout}
use Rattle.meaning.specs.Card.{Bytes, selection_at}
use Rattle.meaning.specs.Why.{front_first, rule_first, why}
use Rattle.door.specs.Asking.{judging, is_there, front_fits, conditions_of, asked_by, asked, answer_asked}
use Rattle.door.proofs.Asking.{is_enabled}

by_order : (there front holds : Bool) (n : ℕ) → is_enabled (asked_by there front (holds, n)) ≡ false
    → answer_asked (asked_by there front (holds, n)) ≡ Err (rule_first there (front_first front (Refusal.Condition n)))
by_order false front holds n e = refl
by_order true false holds n e = refl
by_order true true false n e = refl
by_order true true true n e = absurd (false≢true (sym e))

if_not : {X : Type 0} (v : Bool) (x y : X) → if (not v) x y ≡ if v y x
if_not true x y = refl
if_not false x y = refl

module _ (l : Layout) (b : Bytes) (c : Config) where
  by_questions : (k : Choice) → is_enabled (asked l b c k) ≡ false → answer_asked (asked l b c k) ≡ Err (rule_first (is_there l k) (front_first (front_fits l b c k) (Refusal.Condition (conditions_of l b c k).1)))
  unfolding asked
  by_questions k = by_order (is_there l k) (front_fits l b c k) (conditions_of l b c k).0 (conditions_of l b c k).1

  pub why_asked : (k : Choice) → is_enabled (asked l b c k) ≡ false → answer_asked (asked l b c k) ≡ Err (why l b c k)
  unfolding why
  why_asked (select n) e =
      let x = selection_at l b n in
      by_questions (select n) e
      ∙ ap (λ i. Err (rule_first (is_there l (select n)) (front_first (front_fits l b c (select n)) (Refusal.Condition i))))
      (if_not (judging 𝐁 l b c x.belief).0 (judging 𝐁 l b c x.belief).1 (judging 𝐆 l b c x.goal).1)
  why_asked (act n) e = by_questions (act n) e
  why_asked (revise n) e = by_questions (revise n) e
