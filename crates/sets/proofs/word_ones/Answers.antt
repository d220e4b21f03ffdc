use Rattle.std.proofs.Common.{◌∙◌, ◌<◌, ◌+◌, ap, sym, arith, rules, get_or, ℕ}
use lib.Count.{ones}
use Rattle.sets.proofs.Ones.{word_of, ones_word}
use Rattle.sets.proofs.word_ones.Goals as goal

pub returns : goal.returns
returns c =
    let s = c.args.s.now in
    let i = c.args.i in
    let at : (k : ℕ) → get_or s k 0 < 256 = λ k. search rules in
    ap ones c.from_le_bytes.ensures
    ∙ ones_word _ _ _ _ _ _ _ _ (at i) (at (i + 1)) (at (i + 2)) (at (i + 3)) (at (i + 4)) (at (i + 5)) (at (i + 6))
    ∙ sym (word_of s i (omega arith))
