-- Demand 2: a place that is saved is accepted, and restored it is the same configuration.
use mathlib.Core.Path.{◌≡◌, refl, ap, ◌∙◌, sym, subst}
use mathlib.Core.Bool.{true, false, not, ◌&&◌}
use mathlib.Core.List.{List, [], ◌∷◌, ◌++◌}
use Prim.Native.Nat.{◌+◌, ◌≤◌}
use native.Mathlib.Omega.{arith}
use lib.Dec.{leb, eqb}
use lib.ListN.{length, take, drop, length-append}
use lib.Seq.{take-append_seam, drop-append_seam}
use borrow.Author.Tests.{le-leb, eq-eqb}
use Rattle.runs.specs.Limits.{most_finished}
use Rattle.runs.specs.Order.{State}
use Rattle.std.specs.Prelude.{Ok}
use Rattle.meaning.specs.declared.Layout.{Layout}
use Rattle.meaning.specs.declared.Configuration.{Configuration}
use Rattle.meaning.specs.declared.Reply.{Reply}
use Rattle.meaning.specs.declared.Written.{Written}
use Rattle.meaning.specs.Sizes.{set_bytes, place_goals_at, plan_at}
use Rattle.meaning.specs.Card.{Bytes, number_at, set_at, layout}
use Rattle.meaning.specs.Configurations.{state_of, configuration_of}
use Rattle.meaning.specs.Place.{place_header, place, placed}
use Rattle.meaning.specs.Refusals.{Row, first_given, and_then, has_edition, card_answer, place_mark_good, place_table, place_answer, actions_good, set_good}
use Rattle.meaning.specs.Theorems.{Holds}
use Rattle.meaning.specs.Calls.{reply, over, restores}
use Rattle.meaning.proofs.Every.{both_true}
use Rattle.meaning.proofs.Tables.{done≢refused, not_given}
use Rattle.meaning.proofs.Places.{two_bytes, place_laws}
use Rattle.meaning.proofs.Accepted.{accepted, edition_known, counts}
use Rattle.meaning.proofs.Widening.{set_most, length_held}
use Rattle.meaning.proofs.Configurations.{configuration_laws}
use Rattle.demands.specs.CallContracts.{Shaped, Restores}
use Rattle.demands.specs.Demands.{RoomFor, OnAccepted}
use Rattle.demands.proofs.Codes.{card_accepted}
use Rattle.demands.proofs.Ordering.{passed_good}
use Rattle.meaning.proofs.Calls.{restores_good}
use Rattle.demands.proofs.Moving.{room_for}
use Rattle.demands.proofs.Known.{Known, known_of, known_held}
use Rattle.demands.proofs.Ways.{Writing, refused, no_room, done}

-- ---- a table whose rows are passed

module _ {X : Type 0} where
  row_passed : (q : Row X) (rows : List (Row X)) (x : X) → q.when x ≡ false → first_given rows x ≡ Ok tt → first_given (q ∷ rows) x ≡ Ok tt
  row_passed q rows x h e = not_given q rows x h ∙ e

  no_row : (x : X) → first_given [] x ≡ Ok tt
  unfolding first_given
  no_row x = refl

-- ---- what is saved is accepted

-- a state whose place is accepted under a card's layout
pub record Kept (l : Layout) (s : State) : Type 0 where
  pub beliefs : Holds l s.mental.σ
  pub goals : Holds l s.mental.γ
  pub finished : s.finished ≤ most_finished
  pub known : Known l s

module _ (l : Layout) (s : State) (k : Kept l s) where
  same : placed l (place l s) ≡ s
  same = place_laws.saved_restored l s k.beliefs k.goals k.known.phase k.finished

  length_place : length (place l s) ≡ plan_at (set_bytes l) + length s.mental.π
  unfolding place place_header
  length_place =
      let σ = take (set_bytes l) s.mental.σ in
      let γ = take (set_bytes l) s.mental.γ in
      let π = s.mental.π in
      let x : length (σ ++ (γ ++ π)) ≡ length σ + length (γ ++ π) = length-append σ (γ ++ π) in
      let y : length (γ ++ π) ≡ length γ + length π = length-append γ π in
      let m : length σ ≡ set_bytes l = length_held l s.mental.σ k.beliefs in
      let n : length γ ≡ set_bytes l = length_held l s.mental.γ k.goals in
      omega arith

  length_at : number_at (place l s) 4 ≡ length s.mental.π
  unfolding place place_header
  length_at = let f = k.known.fits in two_bytes (length s.mental.π) (omega arith)

  phase_at : number_at (place l s) 8 ≡ s.phase
  unfolding placed
  phase_at = ap (λ (x : State). x.phase) same

  plan_at_lem : drop (plan_at (set_bytes l)) (place l s) ≡ s.mental.π
  unfolding placed
  plan_at_lem = ap (λ (x : State). x.mental.π) same

  beliefs_at : set_at l (place l s) 12 ≡ s.mental.σ
  unfolding placed
  beliefs_at = ap (λ (x : State). x.mental.σ) same

  goals_at : set_at l (place l s) (place_goals_at (set_bytes l)) ≡ s.mental.γ
  unfolding placed
  goals_at = ap (λ (x : State). x.mental.γ) same

  marked : l.edition ≤ 2 → place_mark_good l (place l s) ≡ true
  unfolding place place_header
  marked h = eq-eqb _ _ (two_bytes l.edition (omega arith))

  offset : eqb (number_at (place l s) 6) (plan_at (set_bytes l)) ≡ true
  unfolding place place_header
  offset = let m = set_most l.edition in eq-eqb _ _ (two_bytes (plan_at (set_bytes l)) (omega arith))

  counted : (leb (number_at (place l s) 4) 1024 && leb (number_at (place l s) 8) 2) ≡ true
  counted =
      let a : leb (number_at (place l s) 4) 1024 ≡ true = rw length_at (le-leb _ _ k.known.fits) in
      let b : leb (number_at (place l s) 8) 2 ≡ true = rw phase_at (le-leb _ _ k.known.phase) in
      both_true _ _ a b

  laid_out : (eqb (number_at (place l s) 6) (plan_at (set_bytes l)) && eqb (length (place l s)) (plan_at (set_bytes l) + number_at (place l s) 4)) ≡ true
  laid_out = both_true _ _ offset (eq-eqb _ _ (length_place ∙ ap (λ n. plan_at (set_bytes l) + n) (sym length_at)))

  has_edition_lem : has_edition (place l s) ≡ true
  unfolding has_edition
  has_edition_lem = let e = length_place in le-leb 4 (length (place l s)) (omega arith)

  long_enough : leb (plan_at (set_bytes l)) (length (place l s)) ≡ true
  long_enough = let e = length_place in le-leb (plan_at (set_bytes l)) (length (place l s)) (omega arith)

  plan_good : actions_good l.actions (drop (plan_at (set_bytes l)) (place l s)) ≡ true
  plan_good = rw plan_at_lem k.known.actions

  beliefs_good : set_good l.atoms (set_at l (place l s) 12) ≡ true
  beliefs_good = rw beliefs_at k.known.beliefs

  goals_good : set_good l.atoms (set_at l (place l s) (place_goals_at (set_bytes l))) ≡ true
  goals_good = rw goals_at k.known.goals

  pub place_done : l.edition ≤ 2 → first_given (place_table l) (place l s) ≡ Ok tt
  unfolding place_table
  place_done h =
      row_passed _ _ (place l s) (ap not has_edition_lem)
      (row_passed _ _ (place l s) (ap not (marked h))
      (row_passed _ _ (place l s) (ap not long_enough)
      (row_passed _ _ (place l s) (ap not counted)
      (row_passed _ _ (place l s) (ap not laid_out)
      (row_passed _ _ (place l s) (ap not plan_good)
      (row_passed _ _ (place l s) (ap not (both_true _ _ beliefs_good goals_good))
      (no_row (place l s))))))))

place_accepted : (b : Bytes) (s : State) → card_answer b ≡ Ok tt → Kept (layout b) s → place_answer b (place (layout b) s) ≡ Ok tt
unfolding place_answer
place_accepted b s e k =
    ap (λ a. and_then a (first_given (place_table (layout b)) (place (layout b) s))) e ∙ place_done (layout b) s k (edition_known b (accepted b e).marked)

-- ---- a configuration that a turn gives back

-- one that is nothing beside its state, whose place is accepted
pub record Sized (b : Bytes) (c : Configuration) : Type 0 where
  pub keeps : OnAccepted b c → Kept (layout b) (state_of c)
  pub whole : OnAccepted b c → configuration_of (state_of c) ≡ c

-- what the types of its fields say, and row 13, make it so
pub sized : (b : Bytes) (c : Configuration) → Shaped c → Sized b c
unfolding state_of
sized b c h = record { keeps = keeps; whole = λ on. configuration_laws.of_configuration (layout b) c h.plan (passed_good b c on) }
  where
    keeps : OnAccepted b c → Kept (layout b) (state_of c)
    keeps on =
        let l = layout b in
        let k = known_of l c (passed_good b c on) in
        let most = (counts l (accepted b (card_accepted b c on)).counts).atoms in
        record {
          beliefs = known_held l c.mind.beliefs most h.beliefs h.belief_bytes k.beliefs;
          goals = known_held l c.mind.goals most h.goals h.goal_bytes k.goals;
          finished = h.finished;
          known = k;
        }

-- and what is handed out for a state that is kept
pub handed_out : (b : Bytes) (s : State) → Kept (layout b) s → Sized b (configuration_of s)
handed_out b s k =
    let e : state_of (configuration_of s) ≡ s = configuration_laws.of_state s k.known.fits in
    record { keeps = λ on. subst (Kept (layout b)) (sym e) k; whole = λ on. ap configuration_of e }

-- ---- so it is restored as it was

pub saved_restored : (b : Bytes) (c : Configuration) → Sized b c → (out left : Bytes) (r : Written) → Writing b c (place (layout b) (state_of c)) out r left
    → r.answer ≡ Ok tt → (r' : Reply) → Restores b (take r.count left) r' → (r'.answer ≡ Ok tt) × (r'.configuration ≡ c)
saved_restored b c h out left r (refused w) e r' f = absurd (done≢refused (sym e))
saved_restored b c h out left r (no_room w l) e r' f = absurd (done≢refused (sym e))
saved_restored b c h out left r (done on l) e r' f =
    let p = place (layout b) (state_of c) in
    let k = h.keeps on in
    let t : take (length p) (over p out) ≡ p = take-append_seam p (drop (length p) out) in
    let a : place_answer b p ≡ Ok tt = place_accepted b (state_of c) (card_accepted b c on) k in
    let z : r' ≡ reply (Ok tt) (configuration_of (placed (layout b) p)) = f ∙ ap (restores b) t ∙ restores_good b p a in
    let y : configuration_of (placed (layout b) p) ≡ c = ap configuration_of (same (layout b) (state_of c) k) ∙ h.whole on in
    (ap (λ (x : Reply). x.answer) z, ap (λ (x : Reply). x.configuration) z ∙ y)

-- ---- plan_at (set_bytes (layout b)) + L bytes, and no others

saved_length : (b : Bytes) (c : Configuration) → Sized b c → OnAccepted b c → length (place (layout b) (state_of c)) ≡ plan_at (set_bytes (layout b)) + c.mind.length
unfolding configuration_of
saved_length b c h on =
    let n : length (state_of c).mental.π ≡ c.mind.length = ap (λ (x : Configuration). x.mind.length) (h.whole on) in
    length_place (layout b) (state_of c) (h.keeps on) ∙ ap (λ k. plan_at (set_bytes (layout b)) + k) n

pub saved_room : (b : Bytes) (c : Configuration) → Sized b c → OnAccepted b c → (out left : Bytes) (r : Written) → Writing b c (place (layout b) (state_of c)) out r left
    → RoomFor (plan_at (set_bytes (layout b)) + c.mind.length) out r.answer
saved_room b c h on out left r w = rw (saved_length b c h on) at (room_for b c on _ out left r w)

pub saved : (b : Bytes) (c : Configuration) → Sized b c → (out left : Bytes) (r : Written) → Writing b c (place (layout b) (state_of c)) out r left → r.answer ≡ Ok tt
    → (r.count ≡ plan_at (set_bytes (layout b)) + c.mind.length) × (drop r.count left ≡ drop r.count out)
saved b c h out left r (refused w) e = absurd (done≢refused (sym e))
saved b c h out left r (no_room w l) e = absurd (done≢refused (sym e))
saved b c h out left r (done on l) e = (saved_length b c h on, drop-append_seam (place (layout b) (state_of c)) (drop (length (place (layout b) (state_of c))) out))
