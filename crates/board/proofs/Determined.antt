-- A contract for C leaves one answer: two that meet it are both what its definition says, and a text has one answer.
use mathlib.Core.Path.{ap, sym, ◌∙◌}
use Rattle.meaning.specs.declared.Configuration.{Configuration}
use Rattle.meaning.specs.Refusals.{answer_number, answer_carried}
use Rattle.notation.proofs.Laws.{read_determined}
use Rattle.demands.proofs.Demands.{same}
use Rattle.board.specs.Determined.{DeterminedParts}

pub determined : DeterminedParts
determined =
    record {
      check = λ card n n' e f. same e f;
      load = λ card n n' c c' e f. (same e.0 f.0, same e.1 f.1);
      grade = λ card n n' v v' o o' k k' e f. (same e.0 f.0, same e.1 f.1, same e.2 f.2, same e.3 f.3);
      list = λ card d list left left' n n' k k' e f. (same e.0 f.0, same e.2 f.2, same e.1 f.1);
      list_looks = λ card d list left left' n n' k k' j j' g g' e f. (same e.0 f.0, same e.4 f.4, same e.1 f.1, same e.2 f.2, same e.3 f.3);
      take = λ card d choice n n' c c' k k' e f. (same e.0 f.0, same e.1 f.1, same e.2 f.2);
      run = λ card d budget n n' c c' k k' a a' e f. (same e.0 f.0, same e.1 f.1, same e.2 f.2, same e.3 f.3);
      take_bounded = λ card d choice n n' c c' k k' e f. (same e.0 f.0, same e.1 f.1, same e.2 f.2);
      run_bounded = λ card d budget n n' c c' k k' a a' e f. (same e.0 f.0, same e.1 f.1, same e.2 f.2, same e.3 f.3);
      next = λ card d n n' k k' a a' e f. (same e.0 f.0, same e.1 f.1, same e.2 f.2);
      deliberate = λ card program d budget lent n n' c c' k k' a a' ns ns' l l' e f. (
        same e.0 f.0,
        same e.1 f.1,
        same e.2 f.2,
        same e.3 f.3,
        same e.4 f.4,
        same e.5 f.5,
      );
      go_on = λ card program numbers d budget lent n n' c c' k k' a a' ns ns' l l' e f. (
        same e.0 f.0,
        same e.1 f.1,
        same e.2 f.2,
        same e.3 f.3,
        same e.4 f.4,
        same e.5 f.5,
      );
      save = λ card d place left left' n n' k k' e f. (same e.0 f.0, same e.2 f.2, same e.1 f.1);
      restore = λ card place n n' c c' e f. (same e.0 f.0, same e.1 f.1);
      text = λ text card left left' n n' k k' p p' e f.
          let (a, m, l) = read_determined.read text card e.0 f.0 k k' left left' e.1 f.1 in (
            e.2.0 ∙ ap answer_number a ∙ sym f.2.0,
            l,
            m,
            e.2.1 ∙ ap answer_carried a ∙ sym f.2.1,
          );
      print = λ card node text left left' n n' k k' e f.
          let p = e.1 in
          let q = f.1 in (
            e.2 ∙ ap answer_number (same p.answer q.answer) ∙ sym f.2,
            same p.leaves q.leaves,
            same p.counted q.counted,
          );
      name = λ card asked n n' s s' a a' l l' e f. (same e.0 f.0, same e.1 f.1, same e.2 f.2, same e.3 f.3);
      parts = λ b b' g g' p p' n n' f f' m m' e. (
        ap (λ (c : Configuration). c.mind.beliefs) e,
        ap (λ (c : Configuration). c.mind.goals) e,
        ap (λ (c : Configuration). c.plan) e,
        ap (λ (c : Configuration). c.mind.length) e,
        ap (λ (c : Configuration). c.mind.phase) e,
        ap (λ (c : Configuration). c.mind.finished) e,
      );
    }
