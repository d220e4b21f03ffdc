-- What judging a node answers, as the plain engine has it.
use Rattle.std.specs.Prelude.{◌≡◌, Bool, false, List, ℕ, ◌≤◌, ◌<◌, get_or}
use Rattle.paper.specs.Atoms.{Atoms, ◌∈◌}
use Rattle.meaning.specs.declared.Layout.{Layout}
use Rattle.meaning.specs.declared.Node.{Node}
use Rattle.meaning.specs.declared.Configuration.{Configuration}
use Rattle.meaning.specs.Kinds.{node_kind}
use Rattle.meaning.specs.Card.{Bytes}
use Rattle.door.specs.Ready.{Ready}
use Rattle.choices.specs.OnePass.{kept_of, kept}
use Rattle.unpacked.specs.declared.tables.Tables.{Tables}
use Rattle.unpacked.specs.declared.configuration.Unpacked.{Unpacked}
use Rattle.unpacked.specs.Tables.{Tabled}
use Rattle.unpacked.specs.Truths.{configuration_from}
use Rattle.plain.specs.declared.judge.Judgement.{Judgement}

-- the value and the settling node as a pair
abbrev pub pair_of : Judgement → Bool × ℕ
pair_of j = (j.value, j.node)

-- of a node, by its number
abbrev pub judgement_at : List Judgement → ℕ → Bool × ℕ
judgement_at js n = pair_of (get_or js n (record { value = false; node = 0 }))

-- node i, by the truth values of its atom and the judgements of its children: what one pass keeps of it
abbrev pub JudgesNode : ℕ → Node → Bool → Bool → Judgement → Judgement → Judgement → Type 0
JudgesNode i x held wanted left right r = x.kind ≤ 5 → (σ γ : Atoms) (below : ℕ → Bool × ℕ)
    → held ≡ (x.a ∈ σ) → wanted ≡ (x.a ∈ γ) → pair_of left ≡ below x.a → pair_of right ≡ below x.b
    → pair_of r ≡ kept_of i (node_kind x.kind) x.a x.b σ γ below

-- of every node of a card what one pass keeps of it
abbrev pub JudgedAll : Layout → Bytes → Configuration → List Judgement → Type 0
JudgedAll l b c js = (n : ℕ) → n < l.nodes.count → judgement_at js n ≡ get_or (kept l b c.mind.beliefs c.mind.goals) n (false, 0)

-- the same, of an accepted card and configuration, unpacked
abbrev pub JudgesAll : Layout → Tables → Unpacked → List Judgement → Type 0
JudgesAll l t u js = (b : Bytes) → Ready l b (configuration_from u) → Tabled l b t → JudgedAll l b (configuration_from u) js
