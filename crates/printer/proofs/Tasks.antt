-- Tasks taken apart: the parts write the same, with less work.
use mathlib.Core.Path.{◌≡◌, refl, sym, ap, ◌∙◌}
use mathlib.Core.Bool.{Bool, true, false}
use mathlib.Core.List.{List, [], ◌∷◌, ◌++◌, append-nil}
use Prim.Native.Nat.{ℕ, zero, suc, ◌+◌, ◌*◌, ◌-◌, ◌/◌, ◌%◌, ◌≤◌, ◌<◌}
use native.Mathlib.Omega.{arith}
use borrow.Author.Tests.{ltb-true, ltb-false}
use lib.Dec.{ltb}
use lib.ListN.{length, length-append}
use Rattle.meaning.specs.declared.Layout.{Layout}
use Rattle.meaning.specs.declared.Node.{Node}
use Rattle.meaning.specs.Kinds.{NodeKind, True, Believes, HasGoal, Not, And, Or, Unknown, node_kind}
use Rattle.meaning.specs.Trees.{tree_of}
use Rattle.meaning.specs.Card.{Bytes, node_at, tree_at}
use Rattle.meaning.proofs.NodeKinds.{is_true, is_belief, is_goal, is_not, is_and, is_or, Known, leaf, inner, known_kind}
use Rattle.meaning.proofs.Nodes.{Rule, node_rule, tree_at_lem}
use Rattle.card.specs.GoodCard.{GoodCard}
use Rattle.notation.specs.Built.{size}
use Rattle.notation.specs.Printing.{decimal, brackets_if, text_as, depth_as}
use Rattle.notation.proofs.Decimals.{decimal_one, decimal_more}
use Rattle.printer.specs.Measures.{pairs, lower}
use Rattle.printer.proofs.Measures.{one_digit, more_digits, few_digits, some_digit}
use Rattle.printer.specs.Tasks.{task_of, text_of_kind, task_text, work_of_kind, work, GoodTask, texts, works, AllGood, none, more, Splits, node_parts, number_parts, height_of_kind, height, heights}
use Rattle.printer.proofs.Trees.{some_node, depth_around, text_around}

-- ---- one task

module _ (l : Layout) (b : Bytes) where
  module _ (k v : ℕ) (h : v < 256) where
    kind_is : task_of k v / 256 ≡ k
    kind_is = omega arith

    value-is : task_of k v % 256 ≡ v
    value-is = omega arith

    pub height_task : height l b (task_of k v) ≡ height_of_kind l b k v
    unfolding height
    height_task = (λ i. height_of_kind l b (kind_is i) (value-is i))

    pub text_task : task_text l b (task_of k v) ≡ text_of_kind l b k v
    unfolding task_text
    text_task = (λ i. text_of_kind l b (kind_is i) (value-is i))

  module _ (x : ℕ) (h : x < 256) where
    zero_kind : x / 256 ≡ 0
    zero_kind = omega arith

    pub text_byte : task_text l b x ≡ x ∷ []
    unfolding task_text
    text_byte = let e : x % 256 ≡ x = omega arith in (λ i. text_of_kind l b (zero_kind i) (e i))

    pub height_byte : height l b x ≡ 1
    unfolding height
    height_byte = let e : x % 256 ≡ x = omega arith in (λ i. height_of_kind l b (zero_kind i) (e i))

    pub work_byte : work l b x ≡ 1
    unfolding work
    work_byte = ap (λ k. work_of_kind k (length (task_text l b x))) zero_kind

    pub good_byte : GoodTask l x
    good_byte = let e = zero_kind in record { known = λ g. absurd (omega arith) }

  -- anything else
  module _ (t : ℕ) (h : 256 ≤ t) where
    pub work_other : work l b t ≡ 2 * length (task_text l b t)
    unfolding work
    work_other = let e : t / 256 ≡ suc (t / 256 - 1) = omega arith in ap (λ k. work_of_kind k (length (task_text l b t))) e

  pub good_node : (k v : ℕ) → v < 256 → v < l.nodes.count → GoodTask l (task_of k v)
  good_node k v h g = record { known = λ _ _. rw (value-is k v h) g }

  good_number : (v : ℕ) → v < 256 → GoodTask l (task_of 4 v)
  good_number v h = let e = kind_is 4 v h in record { known = λ _ m. absurd (omega arith) }

  -- ---- work

  work_most : (t : ℕ) → work l b t ≤ 2 * length (task_text l b t)
  work_most t = go (ltb t 256) refl
    where
      go : (s : Bool) → ltb t 256 ≡ s → work l b t ≤ 2 * length (task_text l b t)
      go true e =
          let h = ltb-true t 256 e in
          let n = ap length (text_byte t h) in
          let w = work_byte t h in
          omega arith
      go false e = let w = work_other t (ltb-false t 256 e) in omega arith

  works_most : (ts : List ℕ) → works l b ts ≤ 2 * length (texts l b ts)
  works_most [] = omega arith
  works_most (t ∷ ts) =
      let h = works_most ts in
      let w = work_most t in
      let e = length-append (task_text l b t) (texts l b ts) in
      omega arith

  works_first : (x : ℕ) (ts : List ℕ) → x < 256 → works l b (x ∷ ts) < 2 * length (texts l b (x ∷ ts))
  works_first x ts h =
      let w = work_byte x h in
      let n = ap length (text_byte x h) in
      let m = works_most ts in
      let e = length-append (task_text l b x) (texts l b ts) in
      omega arith

  works_second : (t x : ℕ) (ts : List ℕ) → x < 256 → works l b (t ∷ (x ∷ ts)) < 2 * length (texts l b (t ∷ (x ∷ ts)))
  works_second t x ts h =
      let m = works_first x ts h in
      let w = work_most t in
      let e = length-append (task_text l b t) (texts l b (x ∷ ts)) in
      omega arith

  splits : (t : ℕ) (ts : List ℕ) → 256 ≤ t → texts l b ts ≡ task_text l b t → works l b ts < 2 * length (texts l b ts) → heights l b ts ≤ height l b t
      → AllGood l ts → Splits l b t ts
  splits t ts h e w m g =
      let n = ap length e in
      let o = work_other t h in
      record { text = e; less = omega arith; low = m; good = g }

  -- ---- a number

  module _ (n : ℕ) (h : n < 256) where
    number_text : (s : Bool) → ltb n 10 ≡ s → texts l b (number_parts n) ≡ decimal n
    number_text true e =
        let lt = ltb-true n 10 e in
        let x : 48 + n < 256 = omega arith in
        rw (e, number_parts) (rw (text_byte (48 + n) x) (sym (decimal_one n lt)))
    number_text false e =
        let le = ltb-false n 10 e in
        let x : 48 + n % 10 < 256 = omega arith in
        let y : n / 10 < 256 = omega arith in
        rw (e, number_parts) (rw (text_byte (48 + n % 10) x, text_task 4 (n / 10) y) (sym (decimal_more n le)))

    number_works : (s : Bool) → ltb n 10 ≡ s → works l b (number_parts n) < 2 * length (texts l b (number_parts n))
    number_works true e = let lt = ltb-true n 10 e in let x : 48 + n < 256 = omega arith in rw (e, number_parts) (works_first (48 + n) [] x)
    number_works false e = let x : 48 + n % 10 < 256 = omega arith in rw (e, number_parts) (works_second (task_of 4 (n / 10)) (48 + n % 10) [] x)

    number_low : (s : Bool) → ltb n 10 ≡ s → heights l b (number_parts n) ≤ length (decimal n)
    number_low true e =
        let lt = ltb-true n 10 e in
        let x : 48 + n < 256 = omega arith in
        let d = one_digit n lt in
        let o = height_byte (48 + n) x in
        rw (e, number_parts) (omega arith)
    number_low false e =
        let le = ltb-false n 10 e in
        let x : 48 + n % 10 < 256 = omega arith in
        let y : n / 10 < 256 = omega arith in
        let d = more_digits n le in
        let o = height_byte (48 + n % 10) x in
        let p = height_task 4 (n / 10) y in
        let q = some_digit (n / 10) in
        rw (e, number_parts) (omega arith)

    number_good : (s : Bool) → ltb n 10 ≡ s → AllGood l (number_parts n)
    number_good true e = let lt = ltb-true n 10 e in let x : 48 + n < 256 = omega arith in rw (e, number_parts) (more (good_byte (48 + n) x) none)
    number_good false e =
        let x : 48 + n % 10 < 256 = omega arith in
        let y : n / 10 < 256 = omega arith in
        rw (e, number_parts) (more (good_number (n / 10) y) (more (good_byte (48 + n % 10) x) none))

  pub split_number : (t : ℕ) → 4 ≤ t / 256 → Splits l b t (number_parts (t % 256))
  unfolding task_text height
  split_number t h =
      let n : t % 256 < 256 = omega arith in
      let k : t / 256 ≡ suc (suc (suc (suc (t / 256 - 4)))) = omega arith in
      let e : task_text l b t ≡ decimal (t % 256) = ap (λ k. text_of_kind l b k (t % 256)) k in
      let f : height l b t ≡ length (decimal (t % 256)) = ap (λ k. height_of_kind l b k (t % 256)) k in
      let s = ltb (t % 256) 10 in
      splits t (number_parts (t % 256)) (omega arith) (number_text (t % 256) n s refl ∙ sym e) (number_works (t % 256) n s refl) (rw f (number_low (t % 256) n s refl)) (number_good (t % 256) n s refl)

  -- ---- a node

  node_text : {k : ℕ} {κ : NodeKind} → Known k κ → (a b' : ℕ) → (1 ≤ k → a < 256) → (4 ≤ k → b' < 256) → texts l b (node_parts κ a b') ≡ text_as 0 (tree_of κ a b' (tree_at l b))
  unfolding text_as
  node_text (leaf is_true) a b' p q = rw (text_byte 84 (omega arith))
  node_text (leaf is_belief) a b' p q = rw (text_byte 66 (omega arith), text_task 4 a (p (omega arith))) (ap (λ u. 66 ∷ u) (append-nil (decimal a)))
  node_text (leaf is_goal) a b' p q = rw (text_byte 71 (omega arith), text_task 4 a (p (omega arith))) (ap (λ u. 71 ∷ u) (append-nil (decimal a)))
  node_text (inner is_not) a b' p q = rw (text_byte 33 (omega arith), text_task 3 a (p (omega arith))) (ap (λ u. 33 ∷ u) (append-nil (text_as 2 (tree_at l b a))))
  node_text (inner is_and) a b' p q =
      rw (text_byte 38 (omega arith), text_task 2 a (p (omega arith)), text_task 3 b' (q (omega arith))) (ap (λ u. text_as 1 (tree_at l b a) ++ (38 ∷ u)) (append-nil (text_as 2 (tree_at l b b'))))
  node_text (inner is_or) a b' p q =
      rw (text_byte 124 (omega arith), text_task 1 a (p (omega arith)), text_task 2 b' (q (omega arith))) (ap (λ u. text_as 0 (tree_at l b a) ++ (124 ∷ u)) (append-nil (text_as 1 (tree_at l b b'))))

  node_works : (κ : NodeKind) (a b' : ℕ) → works l b (node_parts κ a b') < 2 * length (texts l b (node_parts κ a b'))
  node_works True a b' = works_first 84 [] (omega arith)
  node_works Believes a b' = works_first 66 (task_of 4 a ∷ []) (omega arith)
  node_works HasGoal a b' = works_first 71 (task_of 4 a ∷ []) (omega arith)
  node_works Not a b' = works_first 33 (task_of 3 a ∷ []) (omega arith)
  node_works And a b' = works_second (task_of 2 a) 38 (task_of 3 b' ∷ []) (omega arith)
  node_works Or a b' = works_second (task_of 1 a) 124 (task_of 2 b' ∷ []) (omega arith)
  node_works Unknown a b' = works_first 84 [] (omega arith)

  node_low : {k : ℕ} {κ : NodeKind} → Known k κ → (a b' : ℕ) → (1 ≤ k → a < 256) → (4 ≤ k → b' < 256)
      → heights l b (node_parts κ a b') ≤ size (tree_of κ a b' (tree_at l b)) + depth_as 0 (tree_of κ a b' (tree_at l b)) + 3
  unfolding size depth_as
  node_low (leaf is_true) a b' p q = let o = height_byte 84 (omega arith) in omega arith
  node_low (leaf is_belief) a b' p q = let c = p (omega arith) in omega (arith, height_byte 66 (omega arith), height_task 4 a c, few_digits a (omega arith))
  node_low (leaf is_goal) a b' p q = let c = p (omega arith) in omega (arith, height_byte 71 (omega arith), height_task 4 a c, few_digits a (omega arith))
  node_low (inner is_not) a b' p q = omega (arith, height_byte 33 (omega arith), height_task 3 a (p (omega arith)))
  node_low (inner is_and) a b' p q = omega (arith, height_byte 38 (omega arith), height_task 2 a (p (omega arith)), height_task 3 b' (q (omega arith)), some_node (tree_at l b a), some_node (tree_at l b b'))
  node_low (inner is_or) a b' p q = omega (arith, height_byte 124 (omega arith), height_task 1 a (p (omega arith)), height_task 2 b' (q (omega arith)), some_node (tree_at l b a), some_node (tree_at l b b'))

  node_good : {k : ℕ} {κ : NodeKind} → Known k κ → (a b' : ℕ) → (1 ≤ k → a < 256) → (4 ≤ k → b' < 256) → (3 ≤ k → a < l.nodes.count) → (4 ≤ k → b' < l.nodes.count) → AllGood l (node_parts κ a b')
  node_good (leaf is_true) a b' p q f s = more (good_byte 84 (omega arith)) none
  node_good (leaf is_belief) a b' p q f s = more (good_byte 66 (omega arith)) (more (good_number a (p (omega arith))) none)
  node_good (leaf is_goal) a b' p q f s = more (good_byte 71 (omega arith)) (more (good_number a (p (omega arith))) none)
  node_good (inner is_not) a b' p q f s = more (good_byte 33 (omega arith)) (more (good_node 3 a (p (omega arith)) (f (omega arith))) none)
  node_good (inner is_and) a b' p q f s =
      more (good_node 2 a (p (omega arith)) (f (omega arith))) (more (good_byte 38 (omega arith)) (more (good_node 3 b' (q (omega arith)) (s (omega arith))) none))
  node_good (inner is_or) a b' p q f s =
      more (good_node 1 a (p (omega arith)) (f (omega arith))) (more (good_byte 124 (omega arith)) (more (good_node 2 b' (q (omega arith)) (s (omega arith))) none))

kind_text : (l : Layout) (b : Bytes) (k v : ℕ) → 1 ≤ k → k < 4 → text_of_kind l b k v ≡ text_as (k - 1) (tree_at l b v)
kind_text l b zero v h g = absurd (omega arith)
kind_text l b (suc zero) v h g = refl
kind_text l b (suc (suc zero)) v h g = refl
kind_text l b (suc (suc (suc zero))) v h g = refl
kind_text l b (suc (suc (suc (suc k)))) v h g = absurd (omega arith)

kind_height : (l : Layout) (b : Bytes) (k v : ℕ) → 1 ≤ k → k < 4 → height_of_kind l b k v ≡ size (tree_at l b v) + depth_as (k - 1) (tree_at l b v) + 3
kind_height l b zero v h g = absurd (omega arith)
kind_height l b (suc zero) v h g = refl
kind_height l b (suc (suc zero)) v h g = refl
kind_height l b (suc (suc (suc zero))) v h g = refl
kind_height l b (suc (suc (suc (suc k)))) v h g = absurd (omega arith)

-- ---- a task that writes a node's text

module _ (l : Layout) (b : Bytes) (card : GoodCard l b) (t : ℕ) (h : 256 ≤ t) (g : t / 256 < 4) (known : GoodTask l t) where
  abbrev n : ℕ
  n = t % 256

  pub node_known : n < l.nodes.count
  node_known = known.known (omega arith) (omega arith)

  module _ (x : Node) (so : x ≡ node_at l b n) where
    rule : Rule l.atoms n x.kind x.a x.b
    rule = rw so (node_rule l b card.nodes n node_known)

    pub node_kind_lem : x.kind ≤ 5
    node_kind_lem = rule.kinds

    abbrev κ : NodeKind
    κ = node_kind x.kind

    known_node : Known x.kind κ
    known_node = known_kind x.kind node_kind_lem

    tree_is : tree_at l b n ≡ tree_of κ x.a x.b (tree_at l b)
    tree_is = rw so (tree_at_lem l b card.nodes n node_known)

    text_is : task_text l b t ≡ brackets_if (lower (t / 256 - 1) κ) (text_as 0 (tree_at l b n))
    unfolding task_text
    text_is =
        kind_text l b (t / 256) n (omega arith) g
        ∙ ap (text_as (t / 256 - 1)) tree_is
        ∙ text_around x.a x.b (tree_at l b) (t / 256 - 1) κ
        ∙ ap (λ r. brackets_if (lower (t / 256 - 1) κ) (text_as 0 r)) (sym tree_is)

    height_is : height l b t ≡ size (tree_at l b n) + (depth_as 0 (tree_at l b n) + pairs (lower (t / 256 - 1) κ)) + 3
    unfolding height
    height_is =
        let e : depth_as (t / 256 - 1) (tree_at l b n) ≡ depth_as 0 (tree_at l b n) + pairs (lower (t / 256 - 1) κ) =
        rw tree_is (depth_around x.a x.b (tree_at l b) (t / 256 - 1) κ) in
        kind_height l b (t / 256) n (omega arith) g ∙ ap (λ d. size (tree_at l b n) + d + 3) e

    left_small : 1 ≤ x.kind → x.a < 256
    left_small k = go (ltb x.kind 3) refl
      where
        go : (s : Bool) → ltb x.kind 3 ≡ s → x.a < 256
        go true e =
            let lt = ltb-true x.kind 3 e in
            let a = rule.atom k (omega arith) in
            let m = card.layout.atoms in
            omega arith
        go false e = let a = rule.first (ltb-false x.kind 3 e) in omega arith

    right_small : 4 ≤ x.kind → x.b < 256
    right_small k = let a = rule.second k in omega arith

    -- in brackets
    pub split_lower : lower (t / 256 - 1) κ ≡ true → Splits l b t (40 ∷ (task_of 1 n ∷ (41 ∷ [])))
    split_lower e =
        let small : n < 256 = omega arith in
        let words : texts l b (40 ∷ (task_of 1 n ∷ (41 ∷ []))) ≡ task_text l b t =
        rw (text_byte l b 40 (omega arith), text_byte l b 41 (omega arith), text_task l b 1 n small) (sym (text_is ∙ ap (λ s. brackets_if s (text_as 0 (tree_at l b n))) e)) in
        splits l b t (40 ∷ (task_of 1 n ∷ (41 ∷ []))) h words
        (works_first l b 40 (task_of 1 n ∷ (41 ∷ [])) (omega arith))
        (let i = height_is in let j = ap pairs e in let o = height_byte l b 40 (omega arith) in let u = height_task l b 1 n small in let v = height_byte l b 41 (omega arith) in omega arith)
        (more (good_byte l b 40 (omega arith)) (more (good_node l b 1 n small node_known) (more (good_byte l b 41 (omega arith)) none)))

    -- without
    pub split_node : lower (t / 256 - 1) κ ≡ false → Splits l b t (node_parts κ x.a x.b)
    split_node e =
        let k = node_known in
        let words : texts l b (node_parts κ x.a x.b) ≡ task_text l b t =
        node_text l b known_node x.a x.b left_small right_small
        ∙ ap (text_as 0) (sym tree_is)
        ∙ sym (text_is ∙ ap (λ s. brackets_if s (text_as 0 (tree_at l b n))) e) in
        splits l b t (node_parts κ x.a x.b) h words (node_works l b κ x.a x.b)
        (let i = height_is in let j = ap pairs e in let v = rw (sym tree_is) at (node_low l b known_node x.a x.b left_small right_small) in omega arith)
        (node_good l b known_node x.a x.b left_small right_small (λ c. (let a = rule.first c in omega arith)) (λ c. (let a = rule.second c in omega arith)))
