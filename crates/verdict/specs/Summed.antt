-- A card's pool, as the running sums over it need it, and these sums.
use Rattle.std.specs.Prelude.{◌≡◌, List, ℕ, ◌+◌, ◌*◌, ◌≤◌, ◌<◌, length, get_or}
use Rattle.runs.specs.Weight.{weigh}
use Rattle.meaning.specs.declared.Section.{Section}
use Rattle.meaning.specs.Card.{Bytes, byte, number_at, part, weight}

-- n actions of a card from a place on, each of which weighs what stands for it in the weights, which begin at a place too
pub record Weighable (b : Bytes) (weights at n : ℕ) : Type 0 where
  pub few : n ≤ 8192
  pub inside : at + n ≤ length b
  pub near : at + n ≤ 65536
  pub weights_near : weights ≤ 65535
  pub there : (i : ℕ) → i < n → weights + 2 * byte b (at + i) + 2 ≤ length b
  pub weighs : (i : ℕ) → i < n → number_at b (weights + 2 * byte b (at + i)) ≡ weight b (byte b (at + i))
  pub light : (a : ℕ) → weight b a ≤ 1024

-- Entry k is the weight of the pool's first 32·k actions, for each k with 32·k at most the pool's count.
abbrev pub Summed : Section → Bytes → List ℕ → Type 0
Summed pool b sums = (k : ℕ) → 32 * k ≤ pool.count → get_or sums k 0 ≡ weigh (weight b) (part b pool.offset (32 * k))
