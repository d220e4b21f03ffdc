use Rattle.plain.proofs.Making.{copied}
use mathlib.Core.Path.{◌≡◌, ap, ◌∙◌}
use mathlib.Core.List.{List}
use Prim.Native.Nat.{ℕ, ◌-◌}
use native.Mathlib.Omega.{arith}
use borrow.Author.Rules.{rules}
use lib.ListN.{length, drop}
use lib.Seq.{paste}
use Rattle.plain.proofs.make.copy_plan.Goals as goal

pub returns : goal.returns
returns c =
    let a = c.args in
    let l : length a.plan ≡ 1024 = search rules in
    let p = c.requires in
    c.copy-2.ensures
    ∙ ap (λ (x : List ℕ). paste x a.n (drop a.from a.plan) (a.len - a.from)) c.copy.ensures
    ∙ copied a.card.now a.plan a.at a.n a.from a.len p.0 p.1 (omega arith) p.3
