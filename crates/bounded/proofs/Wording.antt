-- 11 and the refusals of other calls have no word among those of the two calls for bounded cards.
use mathlib.Core.Path.{sym, subst}
use mathlib.Core.List.{List, [], ◌∷◌}
use Prim.Native.Nat.{ℕ}
use denote.Enum.Declared.{tag_of}
use types.Run.{OneOf, miss}
use Rattle.meaning.specs.declared.Refusal.{Refusal}
use Rattle.meaning.specs.contracts.Refusal.{the_type}
use Rattle.std.specs.Prelude.{Ok, Err}
use Rattle.meaning.specs.declared.BoundedRefusal.{BoundedRefusal}
use Rattle.meaning.specs.BoundedCalls.{as_refusal, as_answer, HasWord}
use Rattle.meaning.proofs.Tables.{done≢refused, refused_inj}

-- the variants that have no word, by their tags
abbrev pub others : List ℕ
others = 13 ∷ 14 ∷ 15 ∷ 16 ∷ 17 ∷ 18 ∷ 19 ∷ 20 ∷ []

not_others : (q : BoundedRefusal) → OneOf others (tag_of the_type (as_refusal q)) → ⊥
unfolding as_refusal
not_others BoundedRefusal.Short h = miss others 0 tt h
not_others BoundedRefusal.Mark h = miss others 1 tt h
not_others BoundedRefusal.Count h = miss others 2 tt h
not_others BoundedRefusal.Offsets h = miss others 3 tt h
not_others BoundedRefusal.Weight h = miss others 4 tt h
not_others BoundedRefusal.Node h = miss others 5 tt h
not_others BoundedRefusal.Rule h = miss others 6 tt h
not_others BoundedRefusal.ActionByte h = miss others 7 tt h
not_others BoundedRefusal.Atom h = miss others 8 tt h
not_others BoundedRefusal.Configuration h = miss others 9 tt h
not_others BoundedRefusal.OpenOrHeavy h = miss others 21 tt h
not_others BoundedRefusal.NoRule h = miss others 10 tt h
not_others BoundedRefusal.Front h = miss others 11 tt h
not_others (BoundedRefusal.Condition n) h = miss others 12 tt h

-- a refusal that has a word is none of them
pub has_none : (r : Refusal) → HasWord (Err r) → OneOf others (tag_of the_type r) → ⊥
unfolding as_answer
has_none r (Ok _, e) h = done≢refused e
has_none r (Err q, e) h = not_others q (subst (λ (x : Refusal). OneOf others (tag_of the_type x)) (sym (refused_inj e)) h)
