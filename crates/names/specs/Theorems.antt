-- What is proved of sheets, and of the call.
use Rattle.std.specs.Prelude.{◌≡◌, true, ◌⊎◌, [], ℕ, ◌+◌, ◌*◌, ◌≤◌, ◌<◌, length, Ok, Err}
use Rattle.meaning.specs.declared.Refusal.{Refusal}
use Rattle.meaning.specs.Card.{Bytes, layout, number_at}
use Rattle.utf8.specs.Grammar.{UTF8_octets}
use Rattle.names.specs.declared.Named.{Named}
use Rattle.names.specs.declared.sheet.Sheet as Which
use Rattle.names.specs.Sheets.{offset_at, name_span, bytes_of, shed_good, master_good}
use Rattle.names.specs.Naming.{Question, name_answer, refused_name, named, names, sheet_of, name_of}

-- 02, Wish 8: "A sheet has a count n, n + 1 offsets that never fall (two bytes each, the first 2n + 4, the last the sheet's
-- length), then the names, each in UTF-8 as RFC 3629 defines it." Each has so many bytes at least: 0, or 1 where none is empty.
pub record Sheet (least n : ℕ) (s : Bytes) : Type 0 where
  pub count : number_at s 0 ≡ n
  pub first : offset_at s 0 ≡ 2 * n + 4
  pub last : offset_at s n ≡ length s
  pub never_fall : (i : ℕ) → i < n → offset_at s i + least ≤ offset_at s (i + 1)
  pub in_utf8 : (i : ℕ) → i < n → UTF8_octets (bytes_of s (name_span s i))

-- A sheet is accepted exactly if the rules hold: the shed's may be none, and no master name is empty.
abbrev pub SheetsExactly : Type 0
SheetsExactly = (n : ℕ) (s : Bytes)
    → (shed_good n s ≡ true → (s ≡ []) ⊎ Sheet 0 n s)
    × ((s ≡ []) ⊎ Sheet 0 n s → shed_good n s ≡ true)
    × (master_good n s ≡ true → Sheet 1 n s)
    × (Sheet 1 n s → master_good n s ≡ true)

-- A part that lies within its sheet, is not empty, and holds a name, in UTF-8.
pub record PartOf (q : Question) (n : Named) : Type 0 where
  pub within : n.part.start + n.part.length ≤ length (sheet_of n q.shed q.master)
  pub some : 0 < n.part.length
  pub in_utf8 : UTF8_octets (name_of n q.shed q.master)

-- What an answer "done" has: a known action, such a part, and the shed's exactly if that name is there and not empty.
pub record DoneName (b : Bytes) (q : Question) : Type 0 where
  pub known : q.action < (layout b).actions
  pub part : PartOf q (names b q)
  pub own : 0 < (name_span q.shed q.action).length → names b q ≡ named (Ok tt) Which.Sheet.Shed (name_span q.shed q.action)
  pub other : (name_span q.shed q.action).length ≡ 0 → names b q ≡ named (Ok tt) Which.Sheet.Master (name_span q.master q.action)

abbrev pub OnDone : Type 0
OnDone = (b : Bytes) (q : Question) → name_answer b q ≡ Ok tt → DoneName b q

-- 02, Wish 8: "Refusals, with an empty part of the master"
abbrev pub OnRefusal : Type 0
OnRefusal = (b : Bytes) (q : Question) (r : Refusal) → name_answer b q ≡ Err r → names b q ≡ refused_name (Err r)
