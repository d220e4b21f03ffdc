-- What row 19 leaves of a program.
use mathlib.Core.Path.{◌≡◌}
use mathlib.Core.Bool.{true}
use Prim.Native.Nat.{ℕ}
use borrow.Author.Tests.{ltb-true, not-true}
use lib.Dec.{ltb}
use Rattle.paper.proofs.Relation.{both}
use Rattle.meaning.specs.declared.Layout.{Layout}
use Rattle.meaning.specs.Card.{Bytes}
use Rattle.meaning.specs.Refusals.{containing, condition_good}
use Rattle.card.specs.GoodCard.{GoodCondition}
use Rattle.deliberation.specs.Entries.{program_good}
use Rattle.deliberation.proofs.Named.{entry_laws}
use Rattle.deliberation.proofs.Good.{entry_known, entry_rule, some_entries, most_entries, no_byte_more}
use Rattle.program.specs.GoodProgram.{GoodProgram}

condition : (l : Layout) (b : Bytes) (n : ℕ) → condition_good l (containing 2 l b) n ≡ true → GoodCondition l b 2 n
condition l b n e =
    let (h, k) = both (ltb n l.nodes.count) _ e in
    record { known = ltb-true n l.nodes.count h; kind = not-true _ k }

pub good_program : (l : Layout) (b p : Bytes) → program_good (containing 2 l b) l p ≡ true → GoodProgram l b p
good_program l b p e =
    let gs = containing 2 l b in
    record {
      good = e;
      some = some_entries gs l p e;
      most = most_entries gs l p e;
      bytes = no_byte_more gs l p e;
      entries = λ i h. record { kinds = entry_known gs l p e i h; names = entry_laws (λ k. k) (λ k. k) (condition l b) (entry_rule gs l p e i h) };
    }
