-- The place (01, "The place").
use Rattle.std.specs.Prelude.{[], ◌∷◌, ◌++◌, ℕ, ◌/◌, ◌%◌, length, take, drop}
use Rattle.paper.specs.Language.{⟨◌/◌/◌⟩}
use Rattle.runs.specs.Order.{State}
use Rattle.meaning.specs.declared.Layout.{Layout}
use Rattle.meaning.specs.Sizes.{set_bytes, place_goals_at, plan_at}
use Rattle.meaning.specs.Card.{Bytes, number_at, set_at}

-- 01, "The card, edition 1": "Numbers are two bytes, low byte first"
abbrev pub two_bytes : ℕ → Bytes
two_bytes n = n % 256 ∷ n / 256 % 256 ∷ []

-- 01, "The place": "Bytes 33 50 hex; edition 1 at 2; plan length L at 4; plan offset 44 at 6; phase at 8"; 02, Wish 4: "It stands
-- in bytes 10 and 11 of the place, which were zero"; Wish 9: "a place is saved in its card's edition"
unfoldable pub place_header : Layout → ℕ → ℕ → ℕ → Bytes
place_header l L phase finished =
    0x33 ∷ 0x50 ∷ (two_bytes l.edition ++ (two_bytes L ++ (two_bytes (plan_at (set_bytes l)) ++ (two_bytes phase ++ two_bytes finished))))

-- 01, "The place": "beliefs at 12; goals at 28; the plan's L bytes at 44. Exactly 44 + L bytes.": of each set the bytes that its
-- edition has.
unfoldable pub place : Layout → State → Bytes
place l s =
    place_header l (length s.mental.π) s.phase s.finished
    ++ (take (set_bytes l) s.mental.σ ++ (take (set_bytes l) s.mental.γ ++ s.mental.π))

-- 01, "The place": "phase at 8; …; beliefs at 12; goals at 28; the plan's L bytes at 44": the state that a place's bytes stand
-- for. 02, Wish 4: "old places read as count 0".
unfoldable pub placed : Layout → Bytes → State
placed l p = record {
  mental = ⟨ set_at l p 12 / drop (plan_at (set_bytes l)) p / set_at l p (place_goals_at (set_bytes l)) ⟩;
  phase = number_at p 8;
  finished = number_at p 10;
}
