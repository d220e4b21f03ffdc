use Rattle.std.proofs.lemmas.Slice.{put_mid-paste}
use Rattle.meaning.specs.Card.{Bytes}
use Rattle.lines.proofs.Entries.{specification_made}
use mathlib.Core.Path.{◌≡◌, refl, sym}
use mathlib.Core.List.{◌∷◌}
use native.Mathlib.Omega.{arith}
use borrow.Rule.Slice.PartMut.{put_mid}
use lib.ListN.{length, replicate}
use Rattle.lines.proofs.put.specification_bytes.Goals as goal

pub returns : goal.returns
returns c =
    let a = c.args in
    let la : length c.args.add ≡ 16 = omega arith in
    let ld : length c.args.del ≡ 16 = omega arith in
    let e : Bytes = c.args.action ∷ (c.args.node ∷ replicate 34 0) in
    let first = c.copy_from_slice in
    specification_made a.action a.node a.add a.del _ _ la ld (put_mid-paste 4 16 e _ a.add 16 first.ensures.after refl (sym la))
    (put_mid-paste 20 16 (put_mid 4 16 e first.new.self) _ a.del 16 c.copy_from_slice-2.ensures.after refl (sym ld))
