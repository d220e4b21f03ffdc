use Rattle.paper.specs.Atoms.{◌∈◌}
use lib.ListN.{length-set, drop}
use lib.Seq.{drop-set-lt}
use Rattle.paper.specs.Next.{if}
use Rattle.deliberation.specs.Kinds.{entry_kind}
use Rattle.deliberate.specs.Descent.{Into, first_of, one_of}
use Rattle.deliberate.proofs.Descending.{pushed}
use mathlib.Core.List.{List, ◌∷◌}
use mathlib.Core.Path.{◌≡◌, refl, sym, ap, ◌∙◌, subst}
use Prim.Native.Nat.{ℕ, ◌+◌, ◌-◌, ◌<◌}
use native.Mathlib.Omega.{arith}
use Rattle.deliberate.proofs.descent.into_part.Goals as goal

pub returns-then-e-eq5 : goal.returns-then-e-eq5
returns-then-e-eq5 c =
    let a = c.args in
    let (_, _, _, j, k, s) = c.requires in
    let e : a.top - 1 + 1 ≡ a.top = omega arith in
    let five : a.e.kind ≡ 5 = omega arith in
    let low : a.top - 1 < a.top = omega arith in
    let p = pushed a.stack.now (a.top - 1) a.e.b (omega arith) ∙ ap (λ n. a.e.b ∷ drop n a.stack.now) e in record {
      into = subst (λ (ns : List ℕ). Into a.e (a.e.a ∈ a.movable.now) (drop a.top a.stack.now) a.e.a ns) (sym p) (first_of (ap entry_kind five));
      top_le_top = (omega arith, simp length-set s, drop-set-lt a.top a.stack.now (a.top - 1) a.e.b low);
    }

pub returns-then-has_member : goal.returns-then-has_member
returns-then-has_member c =
    let a = c.args in
    let (h, m, _, _, _, s) = c.requires in
    let six : a.e.kind ≡ 6 = (let t = c.if-e-eq5.false in omega arith) in
    let t = sym c.has_member.ensures ∙ c.if-has_member.true in
    let ns = drop a.top a.stack.now in record {
      into = subst (λ (j : ℕ). Into a.e (a.e.a ∈ a.movable.now) ns j ns) (ap (λ t. if t a.e.a a.e.b) t) (one_of (ap entry_kind six));
      top_le_top = (omega arith, s, refl);
    }

pub returns-else-has_member : goal.returns-else-has_member
returns-else-has_member c =
    let a = c.args in
    let (h, m, _, _, _, s) = c.requires in
    let six : a.e.kind ≡ 6 = (let t = c.if-e-eq5.false in omega arith) in
    let t = sym c.has_member.ensures ∙ c.if-has_member.false in
    let ns = drop a.top a.stack.now in record {
      into = subst (λ (j : ℕ). Into a.e (a.e.a ∈ a.movable.now) ns j ns) (ap (λ t. if t a.e.a a.e.b) t) (one_of (ap entry_kind six));
      top_le_top = (omega arith, s, refl);
    }
