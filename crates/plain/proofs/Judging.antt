-- One turn of judging every node: what one pass keeps of a node, by what was judged of the lower ones.
use mathlib.Core.Path.{◌≡◌, refl, ap, sym, ◌∙◌}
use mathlib.Core.Bool.{Bool, true, false}
use mathlib.Core.List.{List}
use Prim.Native.Nat.{ℕ, ◌+◌, ◌*◌, ◌≤◌, ◌<◌}
use native.Mathlib.Omega.{arith}
use lib.ListN.{length, get_or, set}
use Rattle.paper.specs.Atoms.{Atoms}
use Rattle.meaning.specs.declared.Layout.{Layout}
use Rattle.meaning.specs.declared.Node.{Node}
use Rattle.meaning.specs.Kinds.{node_kind}
use Rattle.meaning.specs.Card.{Bytes, node_at}
use Rattle.meaning.specs.Sizes.{edition2_set}
use Rattle.meaning.specs.Refusals.{nodes_good}
use Rattle.meaning.proofs.Nodes.{node_rule}
use Rattle.choices.specs.OnePass.{kept_of, kept}
use Rattle.choices.proofs.OnePass.{kept_next}
use Rattle.choices.proofs.Passing.{told_turn}
use Rattle.unpacked.specs.Tables.{Holds, no_node}
use Rattle.unpacked.specs.Truths.{packed}
use Rattle.unpacked.proofs.Values.{member_packed}
use Rattle.plain.specs.declared.judge.Judgement.{Judgement}
use Rattle.plain.specs.Judging.{pair_of, judgement_at, JudgesNode}

-- what stands past the last node
abbrev unjudged : Judgement
unjudged = record { value = false; node = 0 }

-- by a table of n nodes and the truth values of the beliefs and the goals
module _ (nodes : List Node) (beliefs goals : List Bool) (n : ℕ) where
  abbrev σ : Atoms
  σ = packed edition2_set beliefs

  abbrev γ : Atoms
  γ = packed edition2_set goals

  -- of each node below i what one pass keeps of it, on whatever card has these nodes
  abbrev pub JudgedTo : List Judgement → ℕ → Type 0
  JudgedTo js i = (l : Layout) (b : Bytes) → nodes_good l b ≡ true → l.nodes.count ≡ n → Holds no_node (node_at l b) n nodes
      → (j : ℕ) → j < i → judgement_at js j ≡ get_or (kept l b σ γ) j (false, 0)

  abbrev x : ℕ → Node
  x i = get_or nodes i no_node

  -- one node more
  pub judged_turn : length beliefs ≡ 8 * edition2_set → length goals ≡ 8 * edition2_set → (js : List Judgement) (i : ℕ) (r : Judgement)
      → i < length js → i < n → JudgedTo js i
      → JudgesNode i (x i) (get_or beliefs (x i).a false) (get_or goals (x i).a false) (get_or js (x i).a unjudged) (get_or js (x i).b unjudged) r
      → JudgedTo (set js i r) (i + 1)
  judged_turn lb lg js i r room h low judges l b good count held =
      let k : i < l.nodes.count = omega arith in
      let e : x i ≡ node_at l b i = held i h in
      let kind : (x i).kind ≤ 5 = rw e (node_rule l b good i k).kinds in
      told_turn pair_of unjudged (λ j. get_or (kept l b σ γ) j (false, 0)) js i r room (low l b good count held)
      (judges kind σ γ (judgement_at js) (sym (member_packed edition2_set beliefs lb (x i).a)) (sym (member_packed edition2_set goals lg (x i).a)) refl refl
      ∙ ap (λ (y : Node). kept_of i (node_kind y.kind) y.a y.b σ γ (judgement_at js)) e
      ∙ kept_next l b good σ γ i k (judgement_at js) (low l b good count held))
