use Rattle.reader.proofs.Packing.{header_written}
use mathlib.Core.Path.{◌∙◌}
use Rattle.reader.proofs.assemble.write_header.Goals as goal

pub returns : goal.returns
returns c =
    header_written c.args.m c.args.card.now _ _ (c.copy_from_slice.ensures.after ∙ c.eight_numbers-front.ensures)
    (c.copy_from_slice-2.ensures.after ∙ c.eight_numbers-back.ensures)
