-- Demand 2: the lent list holds exactly the moves, and one list alone does.
use mathlib.Core.Path.{◌≡◌, refl, ap, ap₂, ◌∙◌, sym}
use mathlib.Core.Logic.{◌⊎◌, inl, inr, ⊎_elim}
use mathlib.Core.List.Memᴰ
use mathlib.Core.List.{List, [], ◌∷◌, Memᴰ}
use Prim.Native.Nat.{ℕ, ◌<◌}
use native.Mathlib.Omega.{arith}
use lib.ListN.{length, take, drop}
use lib.Seq.{take-append_seam, drop-append_seam}
use Rattle.runs.specs.Order.{enabled_codes}
use Rattle.runs.specs.Theorems.{Rising, no_number, one_number, more_numbers}
use Rattle.runs.proofs.Listing.{list_laws}
use Rattle.std.specs.Prelude.{Ok}
use Rattle.meaning.specs.declared.Configuration.{Configuration}
use Rattle.meaning.specs.declared.Written.{Written}
use Rattle.meaning.specs.Card.{Bytes, agent}
use Rattle.meaning.specs.Configurations.{state_of}
use Rattle.meaning.specs.Calls.{over}
use Rattle.meaning.proofs.Tables.{done≢refused}
use Rattle.meaning.proofs.Accepted.{card_laws}
use Rattle.demands.specs.Demands.{OnAccepted, AllMoves, ListedMoves, RoomFor}
use Rattle.demands.proofs.Codes.{card_accepted}
use Rattle.demands.proofs.Ways.{Writing, refused, no_room, done}

-- ---- a rising list is known by its members

behind : {n : ℕ} {ns : List ℕ} → Rising (n ∷ ns) → Rising ns
behind one_number = no_number
behind (more_numbers h r) = r

first_lowest : {n m : ℕ} {ns : List ℕ} → Rising (n ∷ ns) → Memᴰ m ns → n < m
first_lowest one_number i = absurd (Memᴰ.not-nil i)
first_lowest {n} {m} (more_numbers {n = k} h r) i =
    ⊎_elim (λ (e : m ≡ k). (let l : n < m = omega arith in l)) (λ j. (let g : k < m = first_lowest r j in let l : n < m = omega arith in l)) (Memᴰ.cases_cons i)

abbrev Within : List ℕ → List ℕ → Type 0
Within ns ms = (n : ℕ) → Memᴰ n ns → Memᴰ n ms

same_first : (n m : ℕ) (ns ms : List ℕ) → Rising (n ∷ ns) → Rising (m ∷ ms) → Within (n ∷ ns) (m ∷ ms) → Within (m ∷ ms) (n ∷ ns) → n ≡ m
same_first n m ns ms p q f g = go (Memᴰ.cases_cons (f n (Memᴰ.head refl))) (Memᴰ.cases_cons (g m (Memᴰ.head refl)))
  where
    go : (n ≡ m) ⊎ Memᴰ n ms → (m ≡ n) ⊎ Memᴰ m ns → n ≡ m
    go (inl e) y = e
    go (inr i) (inl e) = sym e
    go (inr i) (inr j) = absurd (let h = first_lowest q i in let k = first_lowest p j in omega arith)

-- the same without the first number
rest_within : (n m : ℕ) (ns ms : List ℕ) → n ≡ m → Rising (n ∷ ns) → Within (n ∷ ns) (m ∷ ms) → Within ns ms
rest_within n m ns ms e p f k i =
    ⊎_elim (λ z. absurd (let h : n < k = first_lowest p i in omega arith)) (λ j. j) (Memᴰ.cases_cons (f k (Memᴰ.tail i)))

one_rising : (ns ms : List ℕ) → Rising ns → Rising ms → Within ns ms → Within ms ns → ns ≡ ms
one_rising [] [] p q f g = refl
one_rising [] (m ∷ ms) p q f g = absurd (Memᴰ.not-nil (g m (Memᴰ.head refl)))
one_rising (n ∷ ns) [] p q f g = absurd (Memᴰ.not-nil (f n (Memᴰ.head refl)))
one_rising (n ∷ ns) (m ∷ ms) p q f g =
    let e : n ≡ m = same_first n m ns ms p q f g in
    ap₂ ◌∷◌ e (one_rising ns ms (behind p) (behind q) (rest_within n m ns ms e p f) (rest_within m n ms ns (sym e) q g))

moves_within : (b : Bytes) (c : Configuration) (ns ms : List ℕ) → AllMoves b c ns → AllMoves b c ms → Within ns ms
moves_within b c ns ms p q n i =
    let (k, e, m) = p.none_added n i in
    rw e at (q.none_missing k m.0 m.1)

pub moves_one : (b : Bytes) (c : Configuration) (ns ms : List ℕ) → AllMoves b c ns → AllMoves b c ms → ns ≡ ms
moves_one b c ns ms p q = one_rising ns ms p.rising q.rising (moves_within b c ns ms p q) (moves_within b c ms ns q p)

-- ---- the room

pub room_for : (b : Bytes) (c : Configuration) → OnAccepted b c → (xs out left : List ℕ) (r : Written) → Writing b c xs out r left
    → RoomFor (length xs) out r.answer
room_for b c on xs out left r (refused h) = absurd (done≢refused (sym on ∙ h))
room_for b c on xs out left r (no_room h l) =
    record { done_exactly = (λ e. absurd (done≢refused (sym e)), λ g. absurd (omega arith)); no_room_exactly = (λ e. l, λ g. refl) }
room_for b c on xs out left r (done h l) =
    record { done_exactly = (λ e. l, λ g. refl); no_room_exactly = (λ e. absurd (done≢refused e), λ g. absurd (omega arith)) }

-- ---- the list

module _ (b : Bytes) (c : Configuration) (on : OnAccepted b c) where
  pub its_moves : AllMoves b c (enabled_codes (agent b) (state_of c).mental)
  its_moves =
      let l = list_laws (agent b) (state_of c).mental in
      record { none_missing = l.has; none_added = l.only; rising = l.rising (card_laws b (card_accepted b c on)).numbered }

  pub listed : (out left : List ℕ) (r : Written) → Writing b c (enabled_codes (agent b) (state_of c).mental) out r left → r.answer ≡ Ok tt
      → ListedMoves b c out left r.count
  listed out left r (refused h) e = absurd (done≢refused (sym e))
  listed out left r (no_room h l) e = absurd (done≢refused (sym e))
  listed out left r (done h l) e =
      let xs = enabled_codes (agent b) (state_of c).mental in
      let t : take (length xs) (over xs out) ≡ xs = take-append_seam xs (drop (length xs) out) in
      record {
        counted = ap (λ (ns : List ℕ). length ns) t;
        moves = rw t its_moves;
        stays = drop-append_seam xs (drop (length xs) out);
      }
