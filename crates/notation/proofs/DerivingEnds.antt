-- The same of the end of a line and of a remark.
use mathlib.Core.Path.{◌≡◌, refl, ap, sym, ◌∙◌, subst}
use mathlib.Core.Bool.{true}
use mathlib.Core.List.{List, [], ◌∷◌, ◌++◌, append_assoc}
use mathlib.Core.Option.{none, some}
use Prim.Native.Nat.{ℕ, ◌+◌}
use native.Mathlib.Omega.{arith}
use borrow.Author.Tests.{eqb-true, eqb-false, ne_eqb}
use lib.Dec.{eqb}
use Rattle.meaning.specs.Card.{Bytes}
use Rattle.notation.specs.Words.{word, LF, Numbers}
use Rattle.notation.specs.Words as Words
use Rattle.notation.specs.Lines.{Remark, End}
use Rattle.notation.specs.Lines as Lines
use Rattle.notation.specs.Scanning.{ScanState, rest, digits, list_end, spaced_end, end, remark, digit, when, step}
use Rattle.notation.proofs.Following.{Stops, Lang}
use Rattle.notation.proofs.Deriving.{same_head, same_tail, eqb_same, is_digit, digit_of, rebased, By, by_yes, by_no, split, Derives, derive_rest}

module _ (k : ScanState) where
  pub remark_more : Derives (remark k)
  unfolding Lang step
  remark_more x t = (
    λ (u, (v, (e, (r, l)))). go u v e r l,
    split k (some (remark k)) t (eqb x LF)
        (λ f l. ([], (t, ((λ i. eqb-true x LF f i ∷ t), (Lines.none, l)))))
        (λ f (u, (v, (e, (r, l)))). (x ∷ u, (v, ((λ i. x ∷ e i), (Lines.more (eqb-false x LF f) r, l))))),
  )
    where
      go : (u v : Bytes) → x ∷ t ≡ u ++ (LF ∷ v) → Remark u → Lang k v → By (when (eqb x LF) k (some (remark k))) t
      go _ v e Lines.none l = by_yes k (some (remark k)) t (eqb_same (same_head e)) (subst (Lang k) (sym (same_tail e)) l)
      go _ v e (Lines.more {x = y} {u = u} n r) l =
          by_no k (some (remark k)) t (ne_eqb x LF (λ g. n (sym (same_head e) ∙ g))) (u, (v, (same_tail e, (r, l))))

  -- behind " " of an end
  hash : Derives (rest (word "#") (remark k))
  hash = derive_rest (remark k) remark_more (word "#")

  -- a remark behind " #"
  remarked : (u v t : Bytes) → t ≡ (u ++ (LF ∷ [])) ++ v → Remark u → Lang k v → Lang (remark k) t
  unfolding Lang
  remarked u v t e r l = (u, (v, (e ∙ append_assoc u (LF ∷ []) v, (r, l))))

  pub end_more : Derives (end k)
  unfolding Lang step
  end_more x t = (
    λ (d, (v, (e, (h, l)))). go d v e h l,
    split k (when (eqb x 32) (rest (word "#") (remark k)) none) t (eqb x LF)
        (λ f l. (LF ∷ [], (t, ((λ i. eqb-true x LF f i ∷ t), (Lines.plain, l)))))
        (λ f. split (rest (word "#") (remark k)) none t (eqb x 32) back (λ g h. absurd h)),
  )
    where
      go : (d v : Bytes) → x ∷ t ≡ d ++ v → End d → Lang k v → By (when (eqb x LF) k (when (eqb x 32) (rest (word "#") (remark k)) none)) t
      go _ v e Lines.plain l = by_yes k (when (eqb x 32) (rest (word "#") (remark k)) none) t (eqb_same (same_head e)) (subst (Lang k) (sym (same_tail e)) l)
      go _ v e (Lines.remark {u} r) l =
          by_no k (when (eqb x 32) (rest (word "#") (remark k)) none) t (ap (λ y. eqb y LF) (same_head e))
          (by_yes (rest (word "#") (remark k)) none t (eqb_same (same_head e)) ((u ++ (LF ∷ [])) ++ v, (same_tail e, remarked u v ((u ++ (LF ∷ [])) ++ v) refl r l)))

      back : eqb x 32 ≡ true → Lang (rest (word "#") (remark k)) t → Lang (end k) (x ∷ t)
      back f (y, (e, (u, (v, (e2, (r, l)))))) =
          let p : t ≡ 35 ∷ ((u ++ (LF ∷ [])) ++ v) = e ∙ (λ i. 35 ∷ (e2 ∙ sym (append_assoc u (LF ∷ []) v)) i) in
          (32 ∷ (35 ∷ (u ++ (LF ∷ []))), (v, ((λ i. eqb-true x 32 f i ∷ p i), (Lines.remark r, l))))

  pub list_end_more : Derives (list_end k)
  unfolding Lang step
  list_end_more x t = (
    λ (u, (d, (v, (ns, (e, (h, (g, l))))))). go u d v ns e h g l,
    split k (when (eqb x 32) (spaced_end k) none) t (eqb x LF)
        (λ f l. ([], (LF ∷ [], (t, ([], ((λ i. eqb-true x LF f i ∷ t), (Words.none, (Lines.plain, l))))))))
        (λ f. split (spaced_end k) none t (eqb x 32) back (λ g h. absurd h)),
  )
    where
      -- behind a space
      space : (u d v : Bytes) (ns : List ℕ) → x ≡ 32 → x ∷ t ≡ u ++ (d ++ v) → Numbers u ns → End d → Lang k v → By (when (eqb x LF) k (when (eqb x 32) (spaced_end k) none)) t
      space u d v ns f e h g l =
          by_no k (when (eqb x 32) (spaced_end k) none) t (ap (λ y. eqb y LF) f)
          (by_yes (spaced_end k) none t (eqb_same f) (u, (d, (v, (ns, ((λ i. sym f i ∷ t) ∙ e, (h, (g, l))))))))

      go : (u d v : Bytes) (ns : List ℕ) → x ∷ t ≡ u ++ (d ++ v) → Numbers u ns → End d → Lang k v → By (when (eqb x LF) k (when (eqb x 32) (spaced_end k) none)) t
      go _ _ v _ e Words.none Lines.plain l = by_yes k (when (eqb x 32) (spaced_end k) none) t (eqb_same (same_head e)) (subst (Lang k) (sym (same_tail e)) l)
      go _ _ v _ e Words.none (Lines.remark r) l = space _ _ v _ (same_head e) e Words.none (Lines.remark r) l
      go _ d v _ e (Words.more n ns) g l = space _ d v _ (same_head e) e (Words.more n ns) g l

      back : eqb x 32 ≡ true → Lang (spaced_end k) t → Lang (list_end k) (x ∷ t)
      back f (u, (d, (v, (ns, (e, (h, (g, l))))))) = (u, (d, (v, (ns, ((λ i. eqb-true x 32 f i ∷ t) ∙ e, (h, (g, l)))))))

  -- neither a list nor the end of a line begins with a digit
  end_stops : {u d : Bytes} (v : Bytes) {ns : List ℕ} → Numbers u ns → End d → Stops (u ++ (d ++ v))
  end_stops v Words.none Lines.plain = refl
  end_stops v Words.none (Lines.remark r) = refl
  end_stops v (Words.more n ns) g = refl

  pub spaced_end_more : Derives (spaced_end k)
  unfolding Lang step
  spaced_end_more x t = (
    λ (u, (d, (v, (ns, (e, (h, (g, l))))))). go u d v ns e h g l,
    split (digits (list_end k)) (when (eqb x 35) (remark k) none) t (digit x) back
        (λ f. split (remark k) none t (eqb x 35) leave (λ g h. absurd h)),
  )
    where
      go : (u d v : Bytes) (ns : List ℕ) → 32 ∷ (x ∷ t) ≡ u ++ (d ++ v) → Numbers u ns → End d → Lang k v
          → By (when (digit x) (digits (list_end k)) (when (eqb x 35) (remark k) none)) t
      go _ _ v _ e Words.none Lines.plain l = let z : ◌≡◌ {A = ℕ} 32 10 = same_head e in absurd (omega arith)
      go _ _ v _ e Words.none (Lines.remark {u} r) l =
          let f = same_tail e in
          by_no (digits (list_end k)) (when (eqb x 35) (remark k) none) t (ap digit (same_head f))
          (by_yes (remark k) none t (eqb_same (same_head f)) (remarked u v t (same_tail f) r l))
      go _ d v _ e (Words.more {v = u2} {ns = ns} (Words.digits {u = u1} b h r) m) g l =
          let f = same_tail e in
          let (n, r') = rebased k 0 r in
          by_yes (digits (list_end k)) (when (eqb x 35) (remark k) none) t (ap digit (same_head f) ∙ is_digit b h)
          (u1, (u2 ++ (d ++ v), (n, (same_tail f ∙ append_assoc u1 u2 (d ++ v), (r', (end_stops v m g, (u2, (d, (v, (ns, (refl, (m, (g, l)))))))))))))

      back : digit x ≡ true → Lang (digits (list_end k)) t → Lang (spaced_end k) (x ∷ t)
      back f (u1, (y, (n, (e, (r, (st, (u2, (d, (v, (ns, (e2, (m, (g, l))))))))))))) =
          let (b, (h, q)) = digit_of x f in
          let (n', r') = rebased k b r in
          let p : t ≡ (u1 ++ u2) ++ (d ++ v) = e ∙ ap (λ z. u1 ++ z) e2 ∙ sym (append_assoc u1 u2 (d ++ v)) in
          (32 ∷ ((48 + b) ∷ (u1 ++ u2)), (d, (v, (n' ∷ ns, ((λ i. 32 ∷ (q i ∷ p i)), (Words.more (Words.digits b h r') m, (g, l)))))))

      leave : eqb x 35 ≡ true → Lang (remark k) t → Lang (spaced_end k) (x ∷ t)
      leave f (u, (v, (e, (r, l)))) =
          let p : t ≡ (u ++ (LF ∷ [])) ++ v = e ∙ sym (append_assoc u (LF ∷ []) v) in
          ([], (32 ∷ (35 ∷ (u ++ (LF ∷ []))), (v, ([], ((λ i. 32 ∷ (eqb-true x 35 f i ∷ p i)), (Words.none, (Lines.remark r, l)))))))
