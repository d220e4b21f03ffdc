use Rattle.std.proofs.lemmas.Slice.{put_mid-paste}
use Rattle.lines.proofs.Telling.{start_put}
use mathlib.Core.Path.{◌≡◌, refl, sym}
use borrow.Author.Rules.{rules}
use lib.ListN.{length}
use Rattle.lines.proofs.put.put_start.Goals as goal

pub returns : goal.returns
returns c =
    let a = c.args in
    let lb : length c.args.beliefs ≡ 16 = search rules in
    let lg : length c.args.goals ≡ 16 = search rules in
    start_put a.m a.card.now c.requires.0 a.beliefs a.goals a.start a.len lb lg c.requires.1 c.if-m.false _ _
    (put_mid-paste 32 16 _ _ a.beliefs 16 c.copy_from_slice.ensures.after refl (sym lb))
    (put_mid-paste 48 16 _ _ a.goals 16 c.copy_from_slice-2.ensures.after refl (sym lg))
