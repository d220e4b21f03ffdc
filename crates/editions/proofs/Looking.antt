-- A condition has one value with sets in 32 bytes and in 16; a listing judges as many conditions, and as many goals are open.
use mathlib.Core.Path.{◌≡◌, refl, ap, ap₂, ◌∙◌, sym}
use mathlib.Core.Bool.{Bool, false, not, ◌&&◌, ◌||◌}
use Prim.Native.Nat.{ℕ, zero, suc, ◌+◌, ◌-◌, ◌*◌, ◌≤◌}
use native.Mathlib.Nat.{add-zero}
use native.Mathlib.Omega.{arith}
use lib.ListN.{length}
use Rattle.paper.specs.Atoms.{Atoms, ◌∈◌}
use Rattle.paper.specs.Language.{Letter, 𝐁, 𝐆, Query, ⊤, atom, ¬', ◌∧'◌, ◌∨'◌, Specification, Agent, Config}
use Rattle.paper.specs.Transitions.{◌⊨◌, base}
use Rattle.paper.proofs.Sets.{past}
use Rattle.paper.specs.Next.{if, is_empty, starts_with, is_prefix}
use Rattle.runs.specs.Order.{numbers}
use Rattle.meaning.specs.Card.{widened}
use Rattle.meaning.specs.Looking.{how_many, conditions_judged, size, goals_open}
use Rattle.meaning.proofs.Widening.{length_widened, ∈-widened}
use Rattle.meaning.proofs.Looking.{many_no, many_made, many_both, many_same}
use Rattle.editions.specs.Moves.{widened_specification, widened_agent, widened_config, SetsFit}

-- ---- a condition

at_base : (L : Letter) (c : Config) → base L (widened_config c) ≡ widened (base L c)
unfolding widened_config
at_base 𝐁 c = refl
at_base 𝐆 c = refl

pub judged : (L : Letter) (c : Config) (φ : Query L) → (widened_config c ⊨ φ) ≡ (c ⊨ φ)
unfolding ◌⊨◌
judged L c ⊤ = refl
judged L c (atom p) = ap (λ s. p ∈ s) (at_base L c) ∙ ∈-widened p (base L c)
judged L c (¬' φ) = ap not (judged L c φ)
judged L c (φ ∧' ψ) = ap₂ ◌&&◌ (judged L c φ) (judged L c ψ)
judged L c (φ ∨' ψ) = ap₂ ◌||◌ (judged L c φ) (judged L c ψ)

-- ---- the two numbers

pub judged_same : (A : Agent) (c : Config) → conditions_judged (widened_agent A) (widened_config c) ≡ conditions_judged A c
unfolding conditions_judged widened_agent widened_config widened_specification
judged_same A c =
    ap₂ (if (is_empty c.π))
    (λ i. length A.PS + how_many (λ r. judged 𝐁 c r.β i) A.PS)
    (ap (λ n. n + how_many (λ r. is_prefix r.πₕ c.π) A.PR) (many_made widened_specification (λ (s : Specification). starts_with s.a c.π) A.AS))

-- no number passes
many_none : (t : ℕ → Bool) (k n : ℕ) → ((i : ℕ) → t (k + i) ≡ false) → how_many t (numbers k n) ≡ 0
unfolding numbers
many_none t k zero h = refl
many_none t k (suc n) h =
    many_no t k (numbers (suc k) n) (ap t (sym (add-zero k)) ∙ h 0)
    ∙ many_none t (suc k) n (λ i. (let e : suc k + i ≡ k + suc i = omega arith in ap t e ∙ h (suc i)))

size_same : (s : Atoms) → length s ≤ 32 → size (widened s) ≡ size s
unfolding size
size_same s h =
    let n : 8 * length (widened s) ≡ 8 * length s + 8 * (32 - length s) = (let e = length_widened s h in omega arith) in
    let b = many_both (λ k. k ∈ widened s) 0 (8 * length s) (8 * (32 - length s)) in
    let f = many_same (λ k. k ∈ widened s) (λ k. k ∈ s) 0 0 (8 * length s) (λ i. ∈-widened (0 + i) s) in
    let z = many_none (λ k. k ∈ widened s) (0 + 8 * length s) (8 * (32 - length s)) (λ i. ∈-widened (0 + 8 * length s + i) s ∙ past s (0 + 8 * length s + i) (omega arith)) in
    rw n (omega (arith, b, f, z))

pub goals_same : (c : Config) → SetsFit c → goals_open (widened_config c) ≡ goals_open c
unfolding goals_open widened_config
goals_same c (h, g) = size_same c.γ g
