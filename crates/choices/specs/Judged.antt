-- What the pass keeps of each node as the code has it, in one number a node.
use Rattle.std.specs.Prelude.{◌≡◌, Bool, false, ◌||◌, List, ℕ, ◌%◌, ◌<◌, leb, get_or}
use Rattle.paper.specs.Atoms.{Atoms}
use Rattle.paper.specs.Next.{if}
use Rattle.meaning.specs.declared.Layout.{Layout}
use Rattle.meaning.specs.declared.Standing.{Standing}
use Rattle.meaning.specs.declared.Configuration.{Configuration}
use Rattle.meaning.specs.Card.{Bytes}
use Rattle.layout.specs.PlaceParts.{configured}
use Rattle.door.specs.Ready.{Ready}
use Rattle.choices.specs.OnePass.{kept}

-- 02, Wish 3: "one mark and the settling atom", by their number: that of the node that settled it, and 256 more where the mark
-- is true
abbrev pub of_mark : ℕ → Bool × ℕ
of_mark mark = (leb 256 mark, mark % 256)

-- of a node
abbrev pub mark_at : List ℕ → ℕ → Bool × ℕ
mark_at marks n = of_mark (get_or marks n 0)

-- one of two conditions: whether one holds, and 02, Wish 1: "the left child's where the left alone settles the value, else the
-- right's"
abbrev pub either : Bool × ℕ → Bool × ℕ → Bool × ℕ
either p q = (p.0 || q.0, if p.0 p.1 q.1)

-- 02, Wish 3: "keeping one mark and the settling atom for each node": marks that tell, of beliefs and goals, what the pass keeps
abbrev pub Marked : Layout → Bytes → Atoms → Atoms → List ℕ → Type 0
Marked l b σ γ marks = (n : ℕ) → n < l.nodes.count → mark_at marks n ≡ get_or (kept l b σ γ) n (false, 0)

-- an accepted card and configuration, with such marks
pub record Judged (l : Layout) (b : Bytes) (c : Configuration) (marks : List ℕ) : Type 0 where
  pub ready : Ready l b c
  pub marked : Marked l b c.mind.beliefs c.mind.goals marks

-- the same of some beliefs and goals: whoever asks for a choice looks at the marks, and at no set
pub record SomeSets (l : Layout) (b : Bytes) (m : Standing) (p : Bytes) (marks : List ℕ) : Type 0 where
  pub beliefs : Atoms
  pub goals : Atoms
  pub judged : Judged l b (configured beliefs goals m p) marks

-- what is so of whichever beliefs and goals the marks were judged
abbrev pub AllSets : Layout → Bytes → Standing → Bytes → List ℕ → (Configuration → Type 0) → Type 0
AllSets l b m p marks so = (σ γ : Atoms) → Judged l b (configured σ γ m p) marks → so (configured σ γ m p)
