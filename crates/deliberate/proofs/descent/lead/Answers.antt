use Rattle.deliberate.specs.Descent.{Into, first_of}
use Rattle.deliberate.proofs.Descending.{pushed, descended_start, descended_turn, first_known, one_more}
use Rattle.meaning.specs.declared.Node.{Node}
use Rattle.deliberation.specs.Kinds.{entry_kind}
use Rattle.deliberation.specs.Entries.{entry_of}
use mathlib.Core.Bool.{Bool, false}
use mathlib.Core.List.{List, ◌∷◌}
use mathlib.Core.Path.{◌≡◌, sym, ap, ◌∙◌, subst}
use Prim.Native.Nat.{ℕ, ◌+◌, ◌-◌, ◌≤◌, ◌<◌}
use native.Mathlib.Omega.{arith}
use borrow.Author.Rules.{rules}
use lib.ListN.{drop, set, length-set}
use lib.Seq.{drop-set-lt}
use Rattle.deliberate.proofs.descent.lead.Goals as goal

pub loop-e-init : goal.loop-e-init
loop-e-init c =
    let a = c.args in
    let (ly, (b, g)) = c.requires.0 in
    (λ has. descended_start ly b a.program.now g has a.from a.top a.stack.now c.requires.1, c.read_entry-e.ensures)

pub overflow_sub-stack : goal.overflow_sub-stack
overflow_sub-stack c =
    let a = c.args in
    let (ly, (b, g)) = c.requires.0 in
    let l = c.loop-e in
    let k : 5 ≤ (entry_of a.program.now l.at).kind = subst (λ (x : Node). 5 ≤ x.kind) l.invariant.1 (let t = c.loop-e-test.true in omega arith) in
    let one = one_more ly b a.program.now g (λ _. false) a.from a.top a.stack.now l.stack l.at l.rest (l.invariant.0 (λ _. false)) k in
    search (rules, one)

pub bounds-stack-rest : goal.bounds-stack-rest
bounds-stack-rest c =
    let l = c.loop-e in
    let w = (l.invariant.0 (λ _. false)).stack.within in
    search (rules, w)

pub overflow_sub-rest : goal.overflow_sub-rest
overflow_sub-rest c =
    let a = c.args in
    let (ly, (b, g)) = c.requires.0 in
    let l = c.loop-e in
    let k : 5 ≤ (entry_of a.program.now l.at).kind = subst (λ (x : Node). 5 ≤ x.kind) l.invariant.1 (let t = c.loop-e-test.true in omega arith) in
    let one = one_more ly b a.program.now g (λ _. false) a.from a.top a.stack.now l.stack l.at l.rest (l.invariant.0 (λ _. false)) k in
    search (rules, one)

pub read_entry-e-requires-in-loop-e : goal.read_entry-e-requires-in-loop-e
read_entry-e-requires-in-loop-e c =
    let a = c.args in
    let p = a.program.now in
    let (ly, (b, g)) = c.requires.0 in
    let l = c.loop-e in
    let k : 5 ≤ (entry_of p l.at).kind = subst (λ (x : Node). 5 ≤ x.kind) l.invariant.1 (let t = c.loop-e-test.true in omega arith) in
    let d = l.invariant.0 (λ _. false) in
    let low = first_known ly b p g (λ _. false) a.from a.top a.stack.now l.stack l.at l.rest d k in
    let same : l.e.a ≡ (entry_of p l.at).a = ap (λ (x : Node). x.a) l.invariant.1 in
    let h = d.known in
    let bytes = g.bytes in
    omega arith

pub loop-e-smaller : goal.loop-e-smaller
loop-e-smaller c =
    let a = c.args in
    let p = a.program.now in
    let (ly, (b, g)) = c.requires.0 in
    let l = c.loop-e in
    let k : 5 ≤ (entry_of p l.at).kind = subst (λ (x : Node). 5 ≤ x.kind) l.invariant.1 (let t = c.loop-e-test.true in omega arith) in
    let low = first_known ly b p g (λ _. false) a.from a.top a.stack.now l.stack l.at l.rest (l.invariant.0 (λ _. false)) k in
    let same : l.e.a ≡ (entry_of p l.at).a = ap (λ (x : Node). x.a) l.invariant.1 in
    omega arith

pub loop-e-preserved : goal.loop-e-preserved
loop-e-preserved c =
    let a = c.args in
    let p = a.program.now in
    let (ly, (b, g)) = c.requires.0 in
    let l = c.loop-e in
    let five : l.e.kind ≡ 5 = (let t = c.loop-e-test.true in omega arith) in
    let k : 5 ≤ (entry_of p l.at).kind = subst (λ (x : Node). 5 ≤ x.kind) l.invariant.1 (omega arith) in
    let d₀ = l.invariant.0 (λ _. false) in
    let one = one_more ly b p g (λ _. false) a.from a.top a.stack.now l.stack l.at l.rest d₀ k in
    let room = d₀.stack.room in
    let within = d₀.stack.within in
    let then = set l.stack (l.rest - 1) l.e.b in
    let back : l.rest - 1 + 1 ≡ l.rest = omega arith in
    let less : l.rest - 1 < l.rest = omega arith in
    let put = pushed l.stack (l.rest - 1) l.e.b (omega arith) ∙ ap (λ n. l.e.b ∷ drop n l.stack) back in
    let into : (has : ℕ → Bool) → Into (entry_of p l.at) (has (entry_of p l.at).a) (drop l.rest l.stack) l.e.a (drop (l.rest - 1) then) =
    (λ has. subst (λ (x : Node). Into x (has x.a) (drop l.rest l.stack) l.e.a (drop (l.rest - 1) then)) l.invariant.1
    (subst (λ (ns : List ℕ). Into l.e (has l.e.a) (drop l.rest l.stack) l.e.a ns) (sym put) (first_of (ap entry_kind five)))) in (
      λ has.
          descended_turn ly b p g has a.from a.top a.stack.now l.stack l.at l.rest (l.invariant.0 has) then l.e.a (l.rest - 1) (into has) (omega arith) (simp length-set room) (drop-set-lt l.rest l.stack (l.rest - 1) l.e.b less),
      c.read_entry-e-in-loop-e.ensures,
    )

pub returns : goal.returns
returns c =
    let l = c.loop-e in
    let d = l.invariant.0 (λ _. false) in record {
      by_index = (λ has. (l.invariant.0 has).down);
      reaches = (record { entry = l.invariant.1; stacked = d.stack }, d.rising, d.kept);
    }
