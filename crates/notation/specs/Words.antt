-- docs/TEXT.md: bytes, words and numbers.
use Rattle.std.specs.Prelude.{List, [], ◌∷◌, ◌++◌, ℕ, ◌+◌, ◌*◌, ◌≤◌}
use Prim.Native.Char.{code}
use Prim.Native.String.{String}
use Rattle.meaning.specs.Card.{Bytes}

-- A word of the notation, as its bytes.
abbrev pub word : String → Bytes
word String.[] = []
word (String.◌∷◌ c w) = code c ∷ word w

-- docs/TEXT.md: "Every line ends with LF (byte 10)"
abbrev pub LF : ℕ
LF = 10

-- docs/TEXT.md: "{ digit }", behind digits that have the value n; the last number is the value of them all.
pub data Digits : Bytes → ℕ → ℕ → Type 0 where
  none : {n : ℕ} → Digits [] n n
  more : {u : Bytes} {n m : ℕ} (d : ℕ) → d ≤ 9 → Digits u (10 * n + d) m → Digits ((code "0" + d) ∷ u) n m

-- docs/TEXT.md: "number = digit { digit }", with its value.
pub data Number : Bytes → ℕ → Type 0 where
  digits : {u : Bytes} {m : ℕ} (d : ℕ) → d ≤ 9 → Digits u d m → Number ((code "0" + d) ∷ u) m

-- docs/TEXT.md: "list = { " " number }", with its numbers.
pub data Numbers : Bytes → List ℕ → Type 0 where
  none : Numbers [] []
  more : {u v : Bytes} {n : ℕ} {ns : List ℕ} → Number u n → Numbers v ns → Numbers (word " " ++ (u ++ v)) (n ∷ ns)
