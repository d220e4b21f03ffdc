-- The codes of the enabled choices: as a set of codes, "bit (k modulo 8) of byte (k divided by 8)", and written over a lent list.
use Rattle.std.specs.Prelude.{◌≡◌, Bool, false, ◌&&◌, List, ◌++◌, ℕ, ◌+◌, ◌*◌, ◌/◌, ◌%◌, ◌≤◌, ◌<◌, ltb, length, take, drop}
use Rattle.paper.specs.Atoms.{Atoms, ◌∈◌}
use Rattle.paper.specs.Next.{enabled}
use Rattle.runs.specs.Order.{numbers, keep}
use Rattle.meaning.specs.declared.Layout.{Layout}
use Rattle.meaning.specs.declared.Configuration.{Configuration}
use Rattle.meaning.specs.Card.{Bytes, agent_for}
use Rattle.meaning.specs.Configurations.{state_of}
use Rattle.meaning.specs.Calls.{over}
use Rattle.layout.specs.Entries.{count_of}
use Rattle.door.specs.Asking.{choice_at}

-- whether the choice of a code is enabled: "256 times the kind … plus the number"
abbrev pub enabled_code : Layout → Bytes → Configuration → ℕ → Bool
enabled_code l b c k = enabled (agent_for l b) (state_of c).mental (choice_at (k / 256) (k % 256))

-- of the n codes from k on, those that pass a test
unfoldable pub codes_of : (ℕ → Bool) → ℕ → ℕ → List ℕ
codes_of t k n = keep t (numbers k n)

-- of the n codes from k on, those that are in a set
abbrev pub codes_in : Atoms → ℕ → ℕ → List ℕ
codes_in s k n = codes_of (λ c. c ∈ s) k n

-- a set has the codes below x that pass a test and no other, and they are n
pub record Gathered (t : ℕ → Bool) (x : ℕ) (s : Atoms) (n : ℕ) : Type 0 where
  pub each : (k : ℕ) → k ∈ s ≡ (ltb k x && t k)
  pub many : n ≡ length (codes_of t 0 x)

-- a set of 96 bytes has no code of a kind past the card's last choice of it
pub record CardCodes (l : Layout) (s : Atoms) : Type 0 where
  pub few : (kind : ℕ) → count_of l kind ≤ 256
  pub none_behind : (kind i : ℕ) → kind < 3 → count_of l kind ≤ i → i < 256 → 256 * kind + i ∈ s ≡ false
  pub long : length s ≡ 96

-- a lent list with something written from an entry on
abbrev pub over_from : ℕ → List ℕ → List ℕ → List ℕ
over_from at xs out = take at out ++ over xs (drop at out)
