-- docs/TEXT.md: the grammar of a condition, with the tree that it stands for and how deep brackets and `!` nest in it.
use Rattle.std.specs.Prelude.{List, [], ◌++◌, map, ℕ, suc, max}
use Rattle.meaning.specs.Trees.{Tree, true, believes, goal, not, and, or}
use Rattle.meaning.specs.Card.{Bytes}
use Rattle.notation.specs.Words.{word, Number}

-- A condition as it is written: its tree, and 02, Wish 2: "brackets and `!` together may nest 32 deep": how deep they do.
pub record Condition : Type 0 where
  pub tree : Tree
  pub depth : ℕ

-- 02, Wish 2: "a unit is `T`, `B` and a number, `G` and a number": nothing is nested in it.
abbrev pub plain : Tree → Condition
plain t = record { tree = t; depth = 0 }

-- 02, Wish 2: "`!` before a unit"
abbrev pub negated : Condition → Condition
negated c = record { tree = not c.tree; depth = suc c.depth }

-- 02, Wish 2: "or a bracketed or-list"
abbrev pub bracketed : Condition → Condition
bracketed c = record { tree = c.tree; depth = suc c.depth }

-- Two conditions joined by an operator. "Groups run to the left" is said where it is used.
abbrev pub joined : (Tree → Tree → Tree) → Condition → Condition → Condition
joined op l r = record { tree = op l.tree r.tree; depth = max l.depth r.depth }

-- The trees of several conditions.
abbrev pub trees_of : List Condition → List Tree
trees_of cs = map (λ c. c.tree) cs

mutual
  -- docs/TEXT.md: "unit = "T" | "B" number | "G" number | "!" unit | "(" or-list ")""
  pub data Unit : Bytes → Condition → Type 0 where
    T : Unit (word "T") (plain true)
    B : {u : Bytes} {n : ℕ} → Number u n → Unit (word "B" ++ u) (plain (believes n))
    G : {u : Bytes} {n : ℕ} → Number u n → Unit (word "G" ++ u) (plain (goal n))
    ! : {u : Bytes} {c : Condition} → Unit u c → Unit (word "!" ++ u) (negated c)
    brackets : {u : Bytes} {c : Condition} → OrList u c → Unit (word "(" ++ (u ++ word ")")) (bracketed c)

  -- docs/TEXT.md: "and-list = unit { "&" unit }"
  pub data AndList : Bytes → Condition → Type 0 where
    units : {u v : Bytes} {c d : Condition} → Unit u c → AndMore v c d → AndList (u ++ v) d

  -- docs/TEXT.md: "{ "&" unit }", behind a condition c. "Groups run to the left": what stands before is the left of the next.
  pub data AndMore : Bytes → Condition → Condition → Type 0 where
    last_unit : {c : Condition} → AndMore [] c c
    next_unit : {u v : Bytes} {c d e : Condition} → Unit u d → AndMore v (joined and c d) e → AndMore (word "&" ++ (u ++ v)) c e

  -- docs/TEXT.md: "or-list = and-list { "|" and-list }"
  pub data OrList : Bytes → Condition → Type 0 where
    and_lists : {u v : Bytes} {c d : Condition} → AndList u c → OrMore v c d → OrList (u ++ v) d

  -- docs/TEXT.md: "{ "|" and-list }", behind a condition c.
  pub data OrMore : Bytes → Condition → Condition → Type 0 where
    last_list : {c : Condition} → OrMore [] c c
    next_list : {u v : Bytes} {c d e : Condition} → AndList u d → OrMore v (joined or c d) e → OrMore (word "|" ++ (u ++ v)) c e
