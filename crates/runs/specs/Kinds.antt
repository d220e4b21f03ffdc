-- The kinds of a choice by their numbers (01, "A configuration and its transitions").
use Rattle.std.specs.Prelude.{ℕ}
use Rattle.runs.specs.declared.Kind.{Kind}

-- 01, "A configuration and its transitions": "the kind (0 selection, 1 action, 2 revision)"
abbrev pub kind_number : Kind → ℕ
kind_number Kind.Selection = 0
kind_number Kind.Action = 1
kind_number Kind.Revision = 2
