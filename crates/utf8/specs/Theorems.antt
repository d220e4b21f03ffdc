-- What is proved of UTF-8.
use Rattle.std.specs.Prelude.{◌≡◌, true, ℕ}
use Rattle.meaning.specs.Card.{Bytes}
use Rattle.utf8.specs.Grammar.{UTF8_char, UTF8_octets}
use Rattle.utf8.specs.Characters.{CodePoint, encode, decode}
use Rattle.utf8.specs.Reading.{utf8}

-- Bytes are accepted exactly if RFC 3629's grammar has them.
abbrev pub Utf8Exactly : Type 0
Utf8Exactly = (s : Bytes) → (utf8 s ≡ true → UTF8_octets s) × (UTF8_octets s → utf8 s ≡ true)

-- Each code point has a form, which is a character of the grammar and spells it,
abbrev pub HasForm : Type 0
HasForm = (c : ℕ) → CodePoint c → UTF8_char (encode c) × (decode (encode c) ≡ c)

-- and only that one: each character of the grammar spells a code point, and is its form.
abbrev pub OneForm : Type 0
OneForm = (s : Bytes) → UTF8_char s → CodePoint (decode s) × (s ≡ encode (decode s))
