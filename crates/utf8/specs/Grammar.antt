-- UTF-8: 02, Wish 8: "in UTF-8 as RFC 3629 defines it": section 4 of that RFC, "Syntax of UTF-8 Byte Sequences", production by
-- production, in its words and order from the last to the first.
use Rattle.std.specs.Prelude.{[], ◌∷◌, ◌++◌, ℕ, ◌≤◌}
use Rattle.meaning.specs.Card.{Bytes}

-- A byte of a range, as RFC 3629 writes "%x80-BF".
pub record From (low high x : ℕ) : Type 0 where
  pub least : low ≤ x
  pub most : x ≤ high

-- RFC 3629, section 4: "UTF8-tail   = %x80-BF"
abbrev pub UTF8_tail : ℕ → Type 0
UTF8_tail x = From 0x80 0xBF x

-- RFC 3629, section 4: "UTF8-1      = %x00-7F"
pub data UTF8_1 : Bytes → Type 0 where
  plain : {a : ℕ} → From 0 0x7F a → UTF8_1 (a ∷ [])

-- RFC 3629, section 4: "UTF8-2      = %xC2-DF UTF8-tail"
pub data UTF8_2 : Bytes → Type 0 where
  from_c2 : {a b : ℕ} → From 0xC2 0xDF a → UTF8_tail b → UTF8_2 (a ∷ (b ∷ []))

-- RFC 3629, section 4: "UTF8-3      = %xE0 %xA0-BF UTF8-tail / %xE1-EC 2( UTF8-tail ) / %xED %x80-9F UTF8-tail / %xEE-EF 2(
-- UTF8-tail )"
pub data UTF8_3 : Bytes → Type 0 where
  at_e0 : {a b c : ℕ} → From 0xE0 0xE0 a → From 0xA0 0xBF b → UTF8_tail c → UTF8_3 (a ∷ (b ∷ (c ∷ [])))
  from_e1 : {a b c : ℕ} → From 0xE1 0xEC a → UTF8_tail b → UTF8_tail c → UTF8_3 (a ∷ (b ∷ (c ∷ [])))
  at_ed : {a b c : ℕ} → From 0xED 0xED a → From 0x80 0x9F b → UTF8_tail c → UTF8_3 (a ∷ (b ∷ (c ∷ [])))
  from_ee : {a b c : ℕ} → From 0xEE 0xEF a → UTF8_tail b → UTF8_tail c → UTF8_3 (a ∷ (b ∷ (c ∷ [])))

-- RFC 3629, section 4: "UTF8-4      = %xF0 %x90-BF 2( UTF8-tail ) / %xF1-F3 3( UTF8-tail ) / %xF4 %x80-8F 2( UTF8-tail )"
pub data UTF8_4 : Bytes → Type 0 where
  at_f0 : {a b c d : ℕ} → From 0xF0 0xF0 a → From 0x90 0xBF b → UTF8_tail c → UTF8_tail d → UTF8_4 (a ∷ (b ∷ (c ∷ (d ∷ []))))
  from_f1 : {a b c d : ℕ} → From 0xF1 0xF3 a → UTF8_tail b → UTF8_tail c → UTF8_tail d → UTF8_4 (a ∷ (b ∷ (c ∷ (d ∷ []))))
  at_f4 : {a b c d : ℕ} → From 0xF4 0xF4 a → From 0x80 0x8F b → UTF8_tail c → UTF8_tail d → UTF8_4 (a ∷ (b ∷ (c ∷ (d ∷ []))))

-- RFC 3629, section 4: "UTF8-char   = UTF8-1 / UTF8-2 / UTF8-3 / UTF8-4"
pub data UTF8_char : Bytes → Type 0 where
  one : {s : Bytes} → UTF8_1 s → UTF8_char s
  two : {s : Bytes} → UTF8_2 s → UTF8_char s
  three : {s : Bytes} → UTF8_3 s → UTF8_char s
  four : {s : Bytes} → UTF8_4 s → UTF8_char s

-- RFC 3629, section 4: "UTF8-octets = *( UTF8-char )"
pub data UTF8_octets : Bytes → Type 0 where
  none : UTF8_octets []
  more : (s : Bytes) {t : Bytes} → UTF8_char s → UTF8_octets t → UTF8_octets (s ++ t)
