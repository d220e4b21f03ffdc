-- Demand 2: an accepted place, restored, is an accepted configuration, and saved again it is the same bytes.
use mathlib.Core.Path.{◌≡◌, refl, ap, ◌∙◌, sym, subst}
use Prim.Native.Nat.{◌≤◌}
use native.Mathlib.Omega.{arith}
use lib.ListN.{length, take, drop, length-drop}
use lib.Seq.{take-append_seam, drop-append_seam}
use Rattle.paper.specs.Theorems.{AreBytes}
use Rattle.std.specs.Prelude.{Ok}
use Rattle.meaning.specs.declared.Layout.{Layout}
use Rattle.meaning.specs.declared.Configuration.{Configuration}
use Rattle.meaning.specs.declared.Reply.{Reply}
use Rattle.meaning.specs.declared.Written.{Written}
use Rattle.meaning.specs.Sizes.{set_bytes, plan_at}
use Rattle.meaning.specs.Card.{Bytes, layout}
use Rattle.meaning.specs.Configurations.{state_of, configuration_of}
use Rattle.meaning.specs.Place.{place, placed}
use Rattle.meaning.specs.Refusals.{first_given, card_answer, place_table, place_answer}
use Rattle.meaning.proofs.Tables.{done≢refused, and_then_done}
use Rattle.meaning.proofs.Places.{GoodPlace, good_place, place_laws}
use Rattle.meaning.proofs.Configurations.{configuration_laws}
use Rattle.meaning.proofs.Calls.{configuration_good_lem}
use Rattle.demands.specs.CallContracts.{Saves}
use Rattle.demands.specs.Demands.{OnAccepted}
use Rattle.demands.proofs.Known.{Known, known_good}
use Rattle.demands.proofs.Ways.{Writing, Replying, refused, no_room, done, saving}

-- ---- what is restored is accepted, and saved again

plan_fits : (l : Layout) (p : Bytes) → GoodPlace l p → length (placed l p).mental.π ≤ 1024
unfolding placed
plan_fits l p g =
    let f = g.fits in
    let e = g.ends in
    rw (length-drop (plan_at (set_bytes l)) p) (omega arith)

pub restored_known : (l : Layout) (p : Bytes) → GoodPlace l p → Known l (placed l p)
unfolding placed
restored_known l p g = record {
  beliefs = g.beliefs;
  goals = g.goals;
  actions = g.actions;
  fits = plan_fits l p g;
  phase = g.phase;
}

-- p is written where there is room
resaved : (b : Bytes) (c : Configuration) (p out left : Bytes) (r : Written) → OnAccepted b c → length p ≤ length out → Writing b c p out r left
    → (r.answer ≡ Ok tt) × ((r.count ≡ length p) × ((take (length p) left ≡ p) × (drop (length p) left ≡ drop (length p) out)))
resaved b c p out left r on h (refused w) = absurd (done≢refused (sym on ∙ w))
resaved b c p out left r on h (no_room w l) = absurd (omega arith)
resaved b c p out left r on h (done w l) = (refl, (refl, (take-append_seam p (drop (length p) out), drop-append_seam p (drop (length p) out))))

pub restored_good : (b p : Bytes) → place_answer b p ≡ Ok tt → (card_answer b ≡ Ok tt) × (first_given (place_table (layout b)) p ≡ Ok tt)
unfolding place_answer
restored_good b p e = and_then_done (card_answer b) (first_given (place_table (layout b)) p) e

pub restored_saved : (b p : Bytes) → AreBytes p → (r : Reply) → Replying (place_answer b p) (placed (layout b) p) r → r.answer ≡ Ok tt
    → (out left : Bytes) → length p ≤ length out → (r' : Written) → Saves b r.configuration out r' left
    → (r'.answer ≡ Ok tt) × ((r'.count ≡ length p) × ((take (length p) left ≡ p) × (drop (length p) left ≡ drop (length p) out)))
restored_saved b p bytes r (refused h) e out left room r' w = absurd (done≢refused (sym e))
restored_saved b p bytes r (done h) e out left room r' w =
    let (card, table) = restored_good b p h in
    let c = configuration_of (placed (layout b) p) in
    let k = good_place (layout b) p table in
    let on : OnAccepted b c = configuration_good_lem b c card (known_good (layout b) (placed (layout b) p) (restored_known (layout b) p k)) in
    let s : state_of c ≡ placed (layout b) p = configuration_laws.of_state (placed (layout b) p) (plan_fits (layout b) p k) in
    let q : place (layout b) (state_of c) ≡ p = ap (place (layout b)) s ∙ place_laws.restored_saved (layout b) p bytes table in
    resaved b c p out left r' on room (subst (λ (x : Bytes). Writing b c x out r' left) q (saving b c out left r' w))
