-- The writer's loop: what is written, and what the tasks on the stack still write, are the whole text.
use mathlib.Core.Path.{◌≡◌, refl, sym, ap, ◌∙◌, subst}
use mathlib.Core.Bool.{Bool, true, false}
use mathlib.Core.List.{List, [], ◌∷◌, ◌++◌, append-nil, append_assoc}
use Prim.Native.Nat.{ℕ, zero, suc, max, ◌+◌, ◌*◌, ◌-◌, ◌/◌, ◌%◌, ◌≤◌, ◌<◌}
use native.Mathlib.Omega.{arith}
use native.Mathlib.Nat.{zero-add}
use native.Mathlib.Numerals.{add-one}
use lib.Dec.{ltb}
use lib.ListN.{length, get_or, set, drop, length-append, length-set, length-drop}
use lib.Seq.{drop-cons, paste, paste-zero, paste-suc, take-length}
use Rattle.meaning.specs.declared.Layout.{Layout}
use Rattle.meaning.specs.Kinds.{NodeKind, And, Or}
use Rattle.meaning.specs.Trees.{Tree, tree_of}
use Rattle.meaning.specs.Card.{Bytes, node_at, tree_at}
use Rattle.meaning.specs.Calls.{over}
use Rattle.meaning.proofs.NodeKinds.{is_true, is_belief, is_goal, is_not, is_and, is_or, Known, leaf, inner, known_kind}
use Rattle.meaning.proofs.Nodes.{node_rule, tree_at_lem}
use Rattle.card.specs.GoodCard.{GoodCard}
use Rattle.notation.specs.Words.{word}
use Rattle.notation.specs.Built.{size}
use Rattle.notation.specs.Printing.{text_as, text_of, depth_of}
use Rattle.printer.specs.Measures.{pairs}
use Rattle.printer.specs.Tasks.{task_of, task_text, height_of_kind, height, heights, GoodTask, texts, works, AllGood, none, more, Splits, tasks}
use Rattle.printer.proofs.Measures.{few_digits, some_digit}
use Rattle.printer.proofs.Trees.{length_around}
use Rattle.printer.proofs.Tasks.{text_byte, work_byte, text_task, good_node, height_task}
use Rattle.printer.proofs.Stacks.{length_tasks, tasks_top}

-- ---- a text of n nodes has at most 4 n bytes

pairs_most : (s : Bool) → pairs s ≤ 1
pairs_most true = omega arith
pairs_most false = omega arith

abbrev Short : Tree → Type 0
Short t = (w : ℕ) → length (text_as w t) ≤ 4 * size t

node_short : {k : ℕ} {κ : NodeKind} → Known k κ → (a b : ℕ) (q : ℕ → Tree) → (1 ≤ k → k ≤ 2 → a < 1000) → (3 ≤ k → Short (q a)) → (4 ≤ k → Short (q b)) → Short (tree_of κ a b q)
unfolding text_as size
node_short (leaf is_true) a b q n f s w = omega arith
node_short (leaf is_belief) a b q n f s w = let d = few_digits a (n (omega arith) (omega arith)) in omega arith
node_short (leaf is_goal) a b q n f s w = let d = few_digits a (n (omega arith) (omega arith)) in omega arith
node_short (inner is_not) a b q n f s w = let d = f (omega arith) 2 in omega arith
node_short (inner is_and) a b q n f s w = omega (arith, f (omega arith) 1, s (omega arith) 2, length-append (text_as 1 (q a)) (word "&" ++ text_as 2 (q b)), length_around a b q w And, pairs_most (ltb 1 w))
node_short (inner is_or) a b q n f s w = omega (arith, f (omega arith) 0, s (omega arith) 1, length-append (text_as 0 (q a)) (word "|" ++ text_as 1 (q b)), length_around a b q w Or, pairs_most (ltb 0 w))

module _ (l : Layout) (b : Bytes) (card : GoodCard l b) where
  short_below : (m n : ℕ) → n < m → n < l.nodes.count → Short (tree_at l b n)
  short_below zero n h k = absurd (omega arith)
  short_below (suc m) n h k =
      let r = node_rule l b card.nodes n k in
      let x = node_at l b n in
      subst Short (sym (tree_at_lem l b card.nodes n k))
      (node_short (known_kind x.kind r.kinds) x.a x.b (tree_at l b)
      (λ c d. (let a = r.atom c d in let e = card.layout.atoms in omega arith))
      (λ c. (let a = r.first c in short_below m x.a (omega arith) (omega arith)))
      (λ c. (let a = r.second c in short_below m x.b (omega arith) (omega arith))))

  pub short : (n : ℕ) → n < l.nodes.count → size (tree_at l b n) ≤ 256 → length (text_of (tree_at l b n)) ≤ 1024
  short n k h = let e = short_below (suc n) n (omega arith) k 0 in omega arith

-- ---- how high the stack grows

module _ (l : Layout) (b : Bytes) where
  some_kind : (k v : ℕ) → 1 ≤ height_of_kind l b k v
  some_kind zero v = omega arith
  some_kind (suc zero) v = omega arith
  some_kind (suc (suc zero)) v = omega arith
  some_kind (suc (suc (suc zero))) v = omega arith
  some_kind (suc (suc (suc (suc k)))) v = some_digit v

  some_height : (t : ℕ) → 1 ≤ height l b t
  unfolding height
  some_height t = some_kind (t / 256) (t % 256)

  many : (ts : List ℕ) → length ts ≤ heights l b ts
  many [] = omega arith
  many (t ∷ ts) = let h = some_height t in omega arith

  heights_append : (ts us : List ℕ) → heights l b (ts ++ us) ≤ max (heights l b ts + length us) (heights l b us)
  heights_append [] us = omega arith
  heights_append (t ∷ ts) us =
      let h = heights_append ts us in
      let e = length-append ts us in
      omega arith

  -- ---- several tasks, and several behind them

  texts_append : (ts us : List ℕ) → texts l b (ts ++ us) ≡ texts l b ts ++ texts l b us
  texts_append [] us = refl
  texts_append (t ∷ ts) us = ap (λ u. task_text l b t ++ u) (texts_append ts us) ∙ sym (append_assoc (task_text l b t) (texts l b ts) (texts l b us))

  works_append : (ts us : List ℕ) → works l b (ts ++ us) ≡ works l b ts + works l b us
  works_append [] us = omega arith
  works_append (t ∷ ts) us = let e = works_append ts us in omega arith

  good_append : {ts us : List ℕ} → AllGood l ts → AllGood l us → AllGood l (ts ++ us)
  good_append none h = h
  good_append (more g r) h = more g (good_append r h)

  good_first : {t : ℕ} {ts : List ℕ} → AllGood l (t ∷ ts) → GoodTask l t × AllGood l ts
  good_first (more g r) = (g, r)

-- ---- the loop

-- a text that is written up to a place, and the tasks that write the rest
pub record WritingOn (l : Layout) (b text before : Bytes) (s : List ℕ) (k : ℕ) (out : Bytes) (at : ℕ) : Type 0 where
  pub room : length s ≡ 291
  pub low : heights l b (tasks s k) ≤ 291
  pub long : length text ≤ 1024
  pub fits : length text ≤ length before
  pub same : length out ≡ length before
  pub inside : at ≤ length text
  pub left : texts l b (tasks s k) ≡ drop at text
  pub good : AllGood l (tasks s k)
  pub written : out ≡ paste before 0 text at

module _ (l : Layout) (b text before : Bytes) where
  pub writing_start : (n : ℕ) (s : List ℕ) (k x : ℕ) → length text ≤ 1024 → length text ≤ length before → text ≡ text_of (tree_at l b n)
      → size (tree_at l b n) ≤ 256 → depth_of (tree_at l b n) ≤ 32
      → n < 256 → n < l.nodes.count → x ≡ task_of 1 n → length s ≡ 291 → tasks s k ≡ x ∷ [] → WritingOn l b text before s k before 0
  writing_start n s k x long fits is few shallow small known so room e =
      let e' : tasks s k ≡ task_of 1 n ∷ [] = e ∙ ap (λ y. y ∷ []) so in
      record {
        room = room;
        low = (let f = ap (heights l b) e' in let g = height_task l b 1 n small in omega arith);
        long = long;
        fits = fits;
        same = refl;
        inside = omega arith;
        left = ap (texts l b) e' ∙ append-nil (task_text l b (task_of 1 n)) ∙ text_task l b 1 n small ∙ sym is;
        good = rw e' (more (good_node l b 1 n small known) none);
        written = paste-zero before 0 text;
      }

  module _ (s : List ℕ) (k : ℕ) (out : Bytes) (at : ℕ) (w : WritingOn l b text before s k out at) where
    -- the end
    pub writing_end : k ≡ 0 → out ≡ over text before
    writing_end z =
        let e : ◌≡◌ {A = Bytes} [] (drop at text) = ap (λ k. texts l b (tasks s k)) (sym z) ∙ w.left in
        let n = ap length e in
        let m = length-drop at text in
        let i = w.inside in
        let q : at ≡ length text = omega arith in
        w.written ∙ ap (paste before 0 text) q ∙ (λ i. take-length text i ++ drop (zero-add (length text) i) before)

    module _ (h : 0 < k) where
      abbrev t : ℕ
      t = get_or s (k - 1) 0

      top : tasks s k ≡ t ∷ tasks s (k - 1)
      top = tasks_top s k h

      rest : task_text l b t ++ texts l b (tasks s (k - 1)) ≡ drop at text
      rest = ap (texts l b) (sym top) ∙ w.left

      goods : GoodTask l t × AllGood l (tasks s (k - 1))
      goods = good_first l b (rw top at w.good)

      pub writing_top : k ≤ 291
      writing_top =
          let n = length_tasks s k in
          let m = many l b (tasks s k) in
          let o = w.low in
          omega arith

      pub writing_good : GoodTask l t
      writing_good = goods.0

      -- a byte
      module _ (small : t < 256) where
        byte_rest : t ∷ texts l b (tasks s (k - 1)) ≡ drop at text
        byte_rest = ap (λ u. u ++ texts l b (tasks s (k - 1))) (sym (text_byte l b t small)) ∙ rest

        byte_inside : at < length text
        byte_inside = let e = ap length byte_rest in let d = length-drop at text in omega arith

        pub byte_fits : at < length out
        byte_fits = let i = byte_inside in let f = w.fits in let s = w.same in omega arith

        parted : t ∷ texts l b (tasks s (k - 1)) ≡ get_or text at 0 ∷ drop (suc at) text
        parted = byte_rest ∙ drop-cons text at 0 byte_inside

        pub writing_byte : WritingOn l b text before s (k - 1) (set out at t) (at + 1)
        writing_byte =
            let i = byte_inside in
            let same = w.same in
            let fits = w.fits in
            let z : 0 + at ≡ at = zero-add at in
            let head : t ≡ get_or text at 0 = cc parted in
            let tail : texts l b (tasks s (k - 1)) ≡ drop (suc at) text = cc parted in
            let set_is : set (paste before 0 text at) at (get_or text at 0) ≡ paste before 0 text (suc at) =
            subst (λ (j : ℕ). set (paste before 0 text at) j (get_or text at 0) ≡ paste before 0 text (suc at)) z (paste-suc before 0 text at 0 (omega arith) i) in
            record {
              room = w.room;
              low = (let f = ap (heights l b) top in let o = w.low in omega arith);
              long = w.long;
              fits = fits;
              same = length-set out at t ∙ same;
              inside = omega arith;
              left = tail ∙ ap (λ n. drop n text) (sym (add-one at));
              good = goods.1;
              written = (λ i. set (w.written i) at (head i)) ∙ set_is ∙ ap (paste before 0 text) (sym (add-one at));
            }

        pub byte_less : works l b (tasks s (k - 1)) < works l b (tasks s k)
        byte_less =
            let e = ap (works l b) top in
            let n = work_byte l b t small in
            omega arith

      -- a task taken apart
      module _ (ts : List ℕ) (split : Splits l b t ts) where
        split_rest : texts l b (ts ++ tasks s (k - 1)) ≡ drop at text
        split_rest = texts_append l b ts (tasks s (k - 1)) ∙ ap (λ u. u ++ texts l b (tasks s (k - 1))) split.text ∙ rest

        split_low : heights l b (ts ++ tasks s (k - 1)) ≤ 291
        split_low =
            let h = heights_append l b ts (tasks s (k - 1)) in
            let f = ap (heights l b) top in
            let n = split.low in
            let o = w.low in
            omega arith

        pub split_fits : k - 1 + length ts ≤ 291
        split_fits =
            let m = many l b (ts ++ tasks s (k - 1)) in
            let a = length-append ts (tasks s (k - 1)) in
            let n = length_tasks s (k - 1) in
            let o = split_low in
            omega arith

        module _ (s' : List ℕ) (k' : ℕ) (room : length s' ≡ 291) (put : tasks s' k' ≡ ts ++ tasks s (k - 1)) where
          pub writing_split : WritingOn l b text before s' k' out at
          writing_split = record {
            room = room;
            low = (let f = ap (heights l b) put in let o = split_low in omega arith);
            long = w.long;
            fits = w.fits;
            same = w.same;
            inside = w.inside;
            left = ap (texts l b) put ∙ split_rest;
            good = rw put (good_append l b split.good goods.1);
            written = w.written;
          }

          pub split_less : works l b (tasks s' k') < works l b (tasks s k)
          split_less =
              let e = ap (works l b) put in
              let f = works_append l b ts (tasks s (k - 1)) in
              let g = ap (works l b) top in
              let n = split.less in
              omega arith
