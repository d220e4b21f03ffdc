-- The plain engine answers as the first does: both answer what the definitions say.
use mathlib.Core.Path.{sym, ◌∙◌}
use Rattle.plain.specs.Same.{SameAnswers}

pub same_answers : SameAnswers
same_answers = record {
  load = λ b first plain f p. p ∙ sym f;
  list = λ b c out first plain left left' f p. (p.0 ∙ sym f.0, p.1 ∙ sym f.1);
  take = λ b c choice first plain f p. p ∙ sym f;
  run = λ b c budget first plain f p. p ∙ sym f;
}
