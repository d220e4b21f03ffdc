-- Cases of reading and printing: the stripe card as text (docs/TEXT.md), and texts at the edges of the limits.
use Rattle.std.specs.Prelude.{◌≡◌, List, [], ◌∷◌, ◌++◌, map, ℕ, replicate, Ok, Err}
use Prim.Native.Char.{code}
use Prim.Native.String.{String}
use Rattle.meaning.specs.declared.Refusal.{Refusal}
use Rattle.meaning.specs.Trees.{Tree, true, believes, goal, not, and, or}
use Rattle.meaning.specs.Card.{Bytes}
use Rattle.meaning.specs.Assembled.{assembled}
use Rattle.meaning.specs.Calls.{loads, runs}
use Rattle.meaning.specs.Stripe.{card_set, set, specification, selection, revision}
use Rattle.meaning.specs.Cases.{shown_run}
use Rattle.notation.specs.Words.{word, LF}
use Rattle.notation.specs.Built.{node}
use Rattle.notation.specs.Reading.{Reads}
use Rattle.notation.specs.Printing.{text_of}

-- A line of a text. Serves stripe_text and TextCases.
abbrev pub line : String → Bytes
line w = word w ++ (LF ∷ [])

-- docs/TEXT.md: the stripe card.
unfoldable pub stripe_text : Bytes
stripe_text =
    line "# the stripe card: 0 threaded, 1 bobbin, 2 band, 3 broken"
    ++ (line "atoms 4"
    ++ (line "action 1 # 0 weave"
    ++ (line "action 1 # 1 wind"
    ++ (line "action 1 # 2 repair"
    ++ (line "action 3 # 3 pick"
    ++ (line "action 5 # 4 stripe"
    ++ (line "do 0 if B1&!B3 add 2 del 1"
    ++ (line "do 1 if T add 1 del"
    ++ (line "do 2 if B3 add del 3"
    ++ (line "select if T goal G2 plan 4"
    ++ (line "revise 4 if T to 1 3"
    ++ (line "revise 3 if B3 to 2 0"
    ++ (line "revise 3 if !B3 to 0" ++ line "begin beliefs 0 3 goals 2 plan")))))))))))))

-- docs/TEXT.md: "the text above makes a card of 283 bytes": its nodes are written out as they are completed, and so is its pool.
unfoldable pub stripe_of_text : Bytes
stripe_of_text =
    assembled 4 (1 ∷ 1 ∷ 1 ∷ 3 ∷ 5 ∷ [])
    (node 1 1 0 ∷ node 1 3 0 ∷ node 3 1 0 ∷ node 4 0 2 ∷ node 0 0 0 ∷ node 1 3 0
    ∷ node 0 0 0 ∷ node 2 2 0 ∷ node 0 0 0 ∷ node 1 3 0 ∷ node 1 3 0 ∷ node 3 10 0 ∷ [])
    (specification 0 3 4 2 ∷ specification 1 4 2 0 ∷ specification 2 5 0 8 ∷ [])
    (selection 6 7 0 1 ∷ [])
    (revision 8 1 1 2 2 ∷ revision 9 4 1 5 2 ∷ revision 11 7 1 8 1 ∷ [])
    (4 ∷ 4 ∷ 1 ∷ 3 ∷ 3 ∷ 2 ∷ 0 ∷ 3 ∷ 0 ∷ []) (card_set 9) (card_set 4) 9 0

-- A text with one condition. Serves TextCases.
abbrev pub asking : Bytes → Bytes
asking u = line "atoms 1" ++ (line "action 1" ++ (word "do 0 if " ++ (u ++ (line " add del" ++ line "begin beliefs goals plan"))))

-- A lent buffer of n bytes. Serves TextCases.
abbrev pub lent : ℕ → Bytes
lent n = replicate n 0xEE

-- ---- reading

-- The cases of reading.
pub record TextCases : Type 0 where
  -- docs/TEXT.md: "the text above makes a card of 283 bytes that runs as the stripe card of 255 does"; what lies behind it stays
  pub stripe_read : Reads stripe_text (lent 285) (Ok tt) 283 (stripe_of_text ++ lent 2)
  pub stripe_runs : shown_run (runs stripe_of_text (loads stripe_of_text).configuration 1000)
      ≡ 0 ∷ 1 ∷ 6 ∷ (set 5 ++ (set 0 ++ (2 ∷ [])))
  pub stripe_no_room : Reads stripe_text (lent 282) (Err Refusal.NoRoom) 0 (lent 282)
  -- 02, Wish 2: "the place of the first byte that no continuation could make right (the length, if it just ends)"
  pub nothing : Reads [] [] (Err (Refusal.Text 0)) 0 []
  pub just_ends : Reads (word "atoms 4") [] (Err (Refusal.Text 7)) 0 []
  pub capital : Reads (line "Atoms 4") [] (Err (Refusal.Text 0)) 0 []
  pub behind_33_brackets : Reads (asking (replicate 33 (code "(") ++ word "&")) [] (Err (Refusal.Text 58)) 0 []
  -- 02, Wish 2: "brackets and `!` together may nest 32 deep"
  pub nested_32 : Reads (asking (replicate 32 (code "!") ++ word "T")) [] (Err Refusal.NoRoom) 0 []
  pub nested_33 : Reads (asking (replicate 33 (code "!") ++ word "T")) (lent 300) (Err Refusal.Nested) 0 (lent 300)
  -- 02, Wish 2: "a number too large for its field"
  pub atom_256 : Reads (asking (word "B256")) (lent 300) (Err Refusal.Large) 0 (lent 300)
  -- "then 3 and 5 to 9": an atom that the card does not have
  pub atom_1 : Reads (asking (word "B1")) (lent 300) (Err Refusal.Node) 0 (lent 300)

-- ---- printing

-- A tree and its text, written as it is in docs/TEXT.md.
pub record PrintCase : Type 0 where
  pub given : Tree
  pub said : String

-- docs/TEXT.md, "The printer": "`a&(b&c)`, `a|(b|c)`, `(a|b)&c` and `!(a&b)` keep their brackets; `(a&b)&c` is `a&b&c`, `(a&b)|c`
-- is `a&b|c`, and `!!a` has none."
unfoldable pub print_cases : List PrintCase
print_cases =
    let a = believes 0 in
    let b = goal 10 in
    let c = true in
    record { given = and a (and b c); said = "B0&(G10&T)" }
    ∷ record { given = or a (or b c); said = "B0|(G10|T)" }
    ∷ record { given = and (or a b) c; said = "(B0|G10)&T" }
    ∷ record { given = not (and a b); said = "!(B0&G10)" }
    ∷ record { given = and (and a b) c; said = "B0&G10&T" }
    ∷ record { given = or (and a b) c; said = "B0&G10|T" }
    ∷ record { given = not (not (believes 127)); said = "!!B127" }
    -- 02, Wish 9: "a printed condition of an edition 2 card": its last atom
    ∷ record { given = goal 255; said = "G255" }
    ∷ []

abbrev pub PrintCases : Type 0
PrintCases = map (λ c. text_of c.given) print_cases ≡ map (λ c. word c.said) print_cases
