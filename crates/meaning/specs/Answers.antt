-- The answers of src/lib.rt by their names: each is Ok, with what there is to hand out, or Err, with the refusal.
use Rattle.std.specs.Prelude.{Result}
use Rattle.meaning.specs.declared.Refusal.{Refusal}
use Rattle.meaning.specs.declared.Layout.{Layout}
use Rattle.meaning.specs.declared.BoundedRefusal.{BoundedRefusal}

-- 01, "Numbers the guide may answer": "done", row 0, or one of the others.
abbrev pub Answer : Type 0
Answer = Result (Unit {0}) Refusal

-- What check answers: 01, "Expected forms by place": "each check answers an enum": the card's layout, or the refusal.
abbrev pub Checked : Type 0
Checked = Result Layout Refusal

-- What the two calls for bounded cards answer: 01, "Numbers the guide may answer": "done", row 0, or one of theirs.
abbrev pub BoundedAnswer : Type 0
BoundedAnswer = Result (Unit {0}) BoundedRefusal
