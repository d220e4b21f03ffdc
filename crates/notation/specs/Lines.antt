-- docs/TEXT.md: the grammar of the lines and of a whole text, with what they stand for.
use mathlib.Core.List.{List, [], ◌∷◌, ◌++◌, map, flatten}
use Rattle.std.specs.Prelude.{◌≡◌, ℕ}
use Rattle.meaning.specs.Card.{Bytes}
use Rattle.notation.specs.Words.{word, LF, Number, Numbers}
use Rattle.notation.specs.Conditions.{Condition, OrList}

-- ---- what the lines stand for

-- 02, Wish 2: "A text card gives atoms, actions with weights, specifications, rules and the start one to a line.": a do line.
pub record Do : Type 0 where
  pub action : ℕ
  pub condition : Condition
  pub add : List ℕ
  pub del : List ℕ

-- a select line
pub record Select : Type 0 where
  pub belief : Condition
  pub goal : Condition
  pub plan : List ℕ

-- a revise line
pub record Revise : Type 0 where
  pub head : List ℕ
  pub condition : Condition
  pub body : List ℕ

-- the begin line
pub record Begin : Type 0 where
  pub beliefs : List ℕ
  pub goals : List ℕ
  pub plan : List ℕ

-- a whole text: the atoms line's number, the weights of the actions, and the other lines
pub record Said : Type 0 where
  pub atoms : ℕ
  pub weights : List ℕ
  pub dos : List Do
  pub selects : List Select
  pub revises : List Revise
  pub begin : Begin

-- The conditions of a text, in its order. docs/TEXT.md: "In a select line the belief condition comes first."
abbrev pub conditions : Said → List Condition
conditions s =
    map (λ d. d.condition) s.dos ++ (flatten (map (λ s. s.belief ∷ s.goal ∷ []) s.selects) ++ map (λ r. r.condition) s.revises)

-- The plans of a text, in its order. docs/TEXT.md: "those of the select lines, then each revision's head and body, then the
-- start's"
abbrev pub plans : Said → List (List ℕ)
plans s = map (λ s. s.plan) s.selects ++ (flatten (map (λ r. r.head ∷ r.body ∷ []) s.revises) ++ (s.begin.plan ∷ []))

-- The sets of a text.
abbrev pub sets : Said → List (List ℕ)
sets s = flatten (map (λ d. d.add ∷ d.del ∷ []) s.dos) ++ (s.begin.beliefs ∷ s.begin.goals ∷ [])

-- ---- the lines

-- docs/TEXT.md: "text = { any byte but LF }"
pub data Remark : Bytes → Type 0 where
  none : Remark []
  more : {x : ℕ} {u : Bytes} → (x ≡ LF → ⊥) → Remark u → Remark (x ∷ u)

-- docs/TEXT.md: "note = LF | "#" text LF"
pub data Note : Bytes → Type 0 where
  empty : Note (LF ∷ [])
  remark : {u : Bytes} → Remark u → Note (word "#" ++ (u ++ (LF ∷ [])))

-- docs/TEXT.md: "end = LF | " #" text LF"
pub data End : Bytes → Type 0 where
  plain : End (LF ∷ [])
  remark : {u : Bytes} → Remark u → End (word " #" ++ (u ++ (LF ∷ [])))

-- docs/TEXT.md: "atoms = "atoms " number end"
pub data AtomsLine : Bytes → ℕ → Type 0 where
  counts : {u e : Bytes} {n : ℕ} → Number u n → End e → AtomsLine (word "atoms " ++ (u ++ e)) n

-- docs/TEXT.md: "action = "action " number end"
pub data ActionLine : Bytes → ℕ → Type 0 where
  weighs : {u e : Bytes} {n : ℕ} → Number u n → End e → ActionLine (word "action " ++ (u ++ e)) n

-- docs/TEXT.md: "do = "do " number " if " condition " add" list " del" list end"
pub data DoLine : Bytes → Do → Type 0 where
  does : {u v w x e : Bytes} {n : ℕ} {c : Condition} {ns ms : List ℕ} → Number u n → OrList v c → Numbers w ns → Numbers x ms → End e
      → DoLine (word "do " ++ (u ++ (word " if " ++ (v ++ (word " add" ++ (w ++ (word " del" ++ (x ++ e))))))))
      (record { action = n; condition = c; add = ns; del = ms })

-- docs/TEXT.md: "select = "select if " condition " goal " condition " plan" list end"
pub data SelectLine : Bytes → Select → Type 0 where
  selects : {u v w e : Bytes} {b g : Condition} {ps : List ℕ} → OrList u b → OrList v g → Numbers w ps → End e
      → SelectLine (word "select if " ++ (u ++ (word " goal " ++ (v ++ (word " plan" ++ (w ++ e))))))
      (record { belief = b; goal = g; plan = ps })

-- docs/TEXT.md: "revise = "revise" list " if " condition " to" list end"
pub data ReviseLine : Bytes → Revise → Type 0 where
  revises : {u v w e : Bytes} {c : Condition} {hs bs : List ℕ} → Numbers u hs → OrList v c → Numbers w bs → End e
      → ReviseLine (word "revise" ++ (u ++ (word " if " ++ (v ++ (word " to" ++ (w ++ e))))))
      (record { head = hs; condition = c; body = bs })

-- docs/TEXT.md: "begin = "begin beliefs" list " goals" list " plan" list end"
pub data BeginLine : Bytes → Begin → Type 0 where
  begins : {u v w e : Bytes} {bs gs ps : List ℕ} → Numbers u bs → Numbers v gs → Numbers w ps → End e
      → BeginLine (word "begin beliefs" ++ (u ++ (word " goals" ++ (v ++ (word " plan" ++ (w ++ e))))))
      (record { beliefs = bs; goals = gs; plan = ps })

-- ---- the text

-- docs/TEXT.md: "{ note }"
pub data Notes : Bytes → Type 0 where
  none : Notes []
  more : {u v : Bytes} → Note u → Notes v → Notes (u ++ v)

-- docs/TEXT.md: "{ action | note }" and the like: lines of one kind and notes, with what the lines stand for.
pub data Lines {X : Type 0} (Line : Bytes → X → Type 0) : Bytes → List X → Type 0 where
  none : Lines Line [] []
  note : {u v : Bytes} {xs : List X} → Note u → Lines Line v xs → Lines Line (u ++ v) xs
  line : {u v : Bytes} {x : X} {xs : List X} → Line u x → Lines Line v xs → Lines Line (u ++ v) (x ∷ xs)

-- docs/TEXT.md: "card = { note } atoms { action | note } { do | note } { select | note } { revise | note } begin { note }"
pub data Text : Bytes → Said → Type 0 where
  card : {u a w d s r b v : Bytes} {n : ℕ} {ws : List ℕ} {dos : List Do} {sels : List Select} {revs : List Revise} {beg : Begin}
      → Notes u → AtomsLine a n → Lines ActionLine w ws → Lines DoLine d dos → Lines SelectLine s sels → Lines ReviseLine r revs
      → BeginLine b beg → Notes v
      → Text (u ++ (a ++ (w ++ (d ++ (s ++ (r ++ (b ++ v)))))))
      (record { atoms = n; weights = ws; dos = dos; selects = sels; revises = revs; begin = beg })
