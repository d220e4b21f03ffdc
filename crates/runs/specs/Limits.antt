-- The limits, each by a name of its own: three are 1,024.
use Rattle.std.specs.Prelude.{ℕ}

-- 01, "A configuration and its transitions": "a plan (0 to 1,024 action numbers)"
abbrev pub longest_plan : ℕ
longest_plan = 1024

-- 01, "Weight and grading": "Each action weighs 1 to 1,024."
abbrev pub heaviest_action : ℕ
heaviest_action = 1024

-- 00, demand 3: "its starting plans weigh at most 1,024"
abbrev pub heaviest_plan : ℕ
heaviest_plan = 1024

-- 02, Wish 4: "stopping at 65,535"
abbrev pub most_finished : ℕ
most_finished = 65535
