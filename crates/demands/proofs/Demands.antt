-- The three demands, each field from the file that proves its sentence; and that a contract leaves one answer.
use mathlib.Core.Path.{◌≡◌, ◌∙◌, sym}
use Rattle.runs.specs.Order.{enabled_codes}
use Rattle.runs.proofs.Order.{order_laws}
use Rattle.meaning.specs.Card.{agent}
use Rattle.meaning.specs.Configurations.{state_of}
use Rattle.meaning.proofs.Calls.{written_of}
use Rattle.demands.specs.Demands.{Demand1, Demand2, Demand3, Determined}
use Rattle.demands.proofs.Among.{card_among, place_among}
use Rattle.demands.proofs.Ways.{checking, loading, grading, listing, taking, running, saving, restoring}
use Rattle.demands.proofs.Looking.{looks_refused}
use Rattle.demands.proofs.Refusing as Refusing
use Rattle.demands.proofs.Codes as Codes
use Rattle.demands.proofs.Choosing as Choosing
use Rattle.demands.proofs.Moving as Moving
use Rattle.demands.proofs.Offering as Offering
use Rattle.demands.proofs.Ordering as Ordering
use Rattle.demands.proofs.Saving as Saving
use Rattle.demands.proofs.Restoring as Restoring
use Rattle.demands.proofs.Bounding as Bounding

pub demand_1 : Demand1
demand_1 =
    record {
      check_listed = λ b r h. Refusing.checked_among b r (checking b r h);
      load_listed = λ b r h. Refusing.replied_among _ _ r (loading b r h) (card_among b);
      grade_listed = λ b r h. Refusing.graded_among b r (grading b r h);
      list-listed = λ b c out left r h. Refusing.written_among b c _ out left (written_of r) (listing b c out left r h);
      take_listed = λ b c n r h. Refusing.taken_among b c n r (taking b c n r h);
      run_listed = λ b c budget r h. Refusing.ran_among b c budget r (running b c budget r h);
      save_listed = λ b c out left r h. Refusing.written_among b c _ out left r (saving b c out left r h);
      restore_listed = λ b p r h. Refusing.replied_among _ _ r (restoring b p r h) (place_among b p);
      list_hands_back = λ b c out left r h q e. (let (p, n) = (Refusing.written_refused b c _ out left (written_of r) (listing b c out left r h) q e).1 in let (j, g) = looks_refused b c out left r h q e in (p, n, j, g));
      take_hands_back = λ b c n r h. Refusing.taken_refused b c n r (taking b c n r h);
      run_hands_back = λ b c budget r h. Refusing.ran_refused b c budget r (running b c budget r h);
      save_hands_back = λ b c out left r h q e. (Refusing.written_refused b c _ out left r (saving b c out left r h) q e).1;
      load_hands_empty = λ b r h. Refusing.replied_refused _ _ r (loading b r h);
      grade_hands_empty = λ b r h q e. Refusing.graded_empty b r (grading b r h);
      restore_hands_empty = λ b p r h. Refusing.replied_refused _ _ r (restoring b p r h);
      list_leaves = λ b c out left r h q e. (Refusing.written_refused b c _ out left (written_of r) (listing b c out left r h) q e).0;
      save_leaves = λ b c out left r h q e. (Refusing.written_refused b c _ out left r (saving b c out left r h) q e).0;
    }

pub demand_2 : Demand2
demand_2 =
    record {
      moves = λ b c on out left r h. Moving.listed b c on out left (written_of r) (listing b c out left r h);
      moves_room = λ b c on out left r h. (enabled_codes (agent b) (state_of c).mental, (Moving.its_moves b c on, Moving.room_for b c on _ out left (written_of r) (listing b c out left r h)));
      moves_one = Moving.moves_one;
      taken_exactly = λ b c on n r h. Choosing.taken_exactly b c on n r (taking b c n r h);
      taken_to = λ b c on n r h. Choosing.taken_to b c on n r (taking b c n r h);
      closed_exactly = λ b c on n r h. Choosing.closed_exactly b c on n r (taking b c n r h);
      plan_full_exactly = λ b c on n r h. Choosing.plan_full_exactly b c on n r (taking b c n r h);
      read_back = λ b c on k c' s. Codes.read_back b c on s;
      offered = λ b c on out left r h e n r' g. Offering.offered b c on _ (Moving.listed b c on out left (written_of r) (listing b c out left r h) e).moves n r' (taking b c n r' g);
      own_move = λ b s. order_laws (agent b) s;
      own_order = λ b c on budget r h. Ordering.own_order b c on budget r (running b c budget r h);
      rest_exactly = λ b c on budget r h. Ordering.rest_exactly b c on budget r (running b c budget r h);
      saved_room = λ b c s on out left r h. Saving.saved_room b c (Saving.sized b c s) on out left r (saving b c out left r h);
      saved = λ b c s out left r h. Saving.saved b c (Saving.sized b c s) out left r (saving b c out left r h);
      saved_restored = λ b c s out left r h. Saving.saved_restored b c (Saving.sized b c s) out left r (saving b c out left r h);
      restored_saved = λ b p bytes r h. Restoring.restored_saved b p bytes r (restoring b p r h);
    }

pub demand_3 : Demand3
demand_3 =
    record {
      exactly = λ b e g h. Bounding.graded_exactly b e g (grading b g h);
      refused_never = λ b g h. Bounding.refused_never b g (grading b g h);
      without_selection = λ b g e v c c' ks h r s. (Bounding.law b g e v).without_selection (Bounding.bounded b g e v) h r s;
      with_selections = λ b g e v c c' ks h r. (Bounding.law b g e v).with_selections (Bounding.bounded b g e v) h r;
      never_too_long = λ b g e v c c' ks h r. (Bounding.law b g e v).never_too_long (Bounding.bounded b g e v) h r;
      never_full = λ b g e v c w budget r h. Bounding.never_full b g e v c w budget r (running b c budget r h);
      run_count = λ b g e v c w budget r h. Bounding.run_count b g e v c w budget r (running b c budget r h);
      never_plan_full = λ b g e v c w n r h. Bounding.never_plan_full b g e v c w n r (taking b c n r h);
    }

-- both are what the contract names
pub same : {X : Type 0} {r r' x : X} → r ≡ x → r' ≡ x → r ≡ r'
same e f = e ∙ sym f

pub determined : Determined
determined =
    record {
      check = λ b r r' p q. same p q;
      load = λ b r r' p q. same p q;
      grade = λ b r r' p q. same p q;
      list = λ b c out left left' r r' p q. (same p.0 q.0, same p.1 q.1);
      take = λ b c n r r' p q. same p q;
      run = λ b c budget r r' p q. same p q;
      save = λ b c out left left' r r' p q. (same p.0 q.0, same p.1 q.1);
      restore = λ b p r r' e f. same e f;
    }
