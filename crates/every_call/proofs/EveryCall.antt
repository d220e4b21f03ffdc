-- What the documents say of every public call, from what is proved of each.
use mathlib.Core.Path.{◌≡◌, refl, ◌∙◌, sym}
use Prim.Native.Nat.{ℕ}
use lib.ListN.{length, take, drop}
use lib.Seq.{take_at}
use Rattle.meaning.specs.Answers.{Answer}
use Rattle.std.specs.Prelude.{Ok}
use Rattle.meaning.specs.declared.Configuration.{Configuration}
use Rattle.meaning.specs.declared.Next.{Next}
use Rattle.meaning.specs.Card.{Bytes}
use Rattle.meaning.specs.Refusals.{and_then, first_given, card_answer}
use Rattle.meaning.specs.Calls.{room_for, over}
use Rattle.meaning.proofs.BoundedCalls.{as_reply_one, as_ran_one}
use Rattle.meaning.proofs.Tables.{done≢refused, and_then_done}
use Rattle.demands.specs.CallContracts.{Nexts}
use Rattle.demands.specs.Demands.{OnAccepted}
use Rattle.demands.proofs.Demands.{demand_1, determined}
use Rattle.demands.proofs.Telling.{next_laws}
use Rattle.demands.proofs.BoundedCalls.{word_among, run_listed, take_hands_back, run_hands_back}
use Rattle.demands.proofs.Testing.{test_order}
use Rattle.demands.proofs.AcceptedAgain.{again}
use Rattle.demands.proofs.Striking.{struck}
use Rattle.notation.specs.Lines.{Said}
use Rattle.notation.specs.Built.{built}
use Rattle.notation.specs.Reading.{text_table, said_answer, Reads, no_text, refused, done}
use Rattle.notation.proofs.Laws.{read_law, read_determined}
use Rattle.deliberation.proofs.Call.{refusal_law, determined_law}
use Rattle.every_call.specs.EveryCall.{EveryCall, EveryOrder, EveryAnswer, EveryDone, EveryGoal}
use Rattle.every_call.proofs.Listed.{go_on_answer_lem, name_answer_lem, go_on_among, name_among, print_among, text_among, name_refused, print_refused}
use Rattle.every_call.proofs.Ordered.{name_card, name_shed, name_master, name_action, print_card, print_next, print_room, text_next, text_card, text_room}
use Rattle.every_call.proofs.OnBounded.{take_bounded_refused, run_bounded_answer, take_bounded_again, run_bounded_again, take_bounded_struck, run_bounded_struck}
use Rattle.every_call.proofs.Deliberating.{go_on_again, accepted_numbers, go_on_struck}

pub every_call : EveryCall
every_call = record {
  eight = demand_1;
  next_listed = next_laws.listed;
  take_bounded_listed = λ b c n r w. word_among r.answer;
  run_bounded_listed = run_listed;
  go_on_listed = λ b p ns c budget lent r w. rw (go_on_answer_lem b p ns c budget lent r w) (go_on_among b p ns c);
  name_listed = λ b q r w. rw (name_answer_lem b q r w) (name_among b q);
  text_listed = text_among;
  print_listed = λ b n out left a count w. rw w.answer (print_among b n out);
  next_hands_back = λ b c r w q e. (next_laws.unchanged b c r w, next_laws.refused b c r w q e);
  take_bounded_hands_back = take_hands_back;
  run_bounded_hands_back = run_hands_back;
  go_on_hands_back = λ b p ns c budget lent r w. (refusal_law b p ns c budget lent r w).hands_back;
  name_hands_back = name_refused;
  text_leaves = λ t out left a n w. (read_law t out a n left w).nothing_written;
  print_leaves = print_refused;
}

pub every_order : EveryOrder
every_order = record {
  eight = test_order;
  next = next_laws.answered;
  take_bounded = take_bounded_refused;
  run_bounded = run_bounded_answer;
  go_on = refusal_law;
  name_card = name_card;
  print_card = print_card;
  name_shed = name_shed;
  name_master = name_master;
  name_action = name_action;
  text_first = λ t out left a n w. (read_law t out a n left w).text_exactly.1;
  text_next = text_next;
  text_card = text_card;
  text_room = text_room;
  print_next = print_next;
  print_room = print_room;
}

pub every_answer : EveryAnswer
every_answer = record {
  eight = determined;
  next = next_laws.determined;
  take_bounded = λ b c n r r' w w'. as_reply_one (w ∙ sym w');
  run_bounded = λ b c budget r r' w w'. as_ran_one (w ∙ sym w');
  go_on = determined_law;
  name = λ b q r r' e e'. e ∙ sym e';
  text = read_determined;
  print = λ b n out left left' a a' count count' w w'. (w.answer ∙ sym w'.answer, w.counted ∙ sym w'.counted, w.leaves ∙ sym w'.leaves);
}

built_accepted : (s : Said) (out : Bytes) → said_answer s out ≡ Ok tt → card_answer (built s) ≡ Ok tt
unfolding said_answer
built_accepted s out e =
    let (f, g) = and_then_done (first_given text_table s) (and_then (card_answer (built s)) (room_for (built s) out)) e in
    (and_then_done (card_answer (built s)) (room_for (built s) out) g).0

text_accepted : (t out left : Bytes) (a : Answer) (n : ℕ) → Reads t out a n left → a ≡ Ok tt → card_answer (take n left) ≡ Ok tt
text_accepted t out left a n (no_text w) h = absurd (done≢refused (sym h))
text_accepted t out left a n (refused x e) h = absurd (done≢refused (sym h))
text_accepted t out left a n (done {s} x e) h =
    let z : take (length (built s)) (over (built s) out) ≡ built s = take_at (built s) (drop (length (built s)) out) (length (built s)) refl in
    rw z (built_accepted s out e)

next_again : (b : Bytes) (c : Configuration) (r : Next) → Nexts b c r → r.answer ≡ Ok tt → OnAccepted b r.configuration
next_again b c r w d = rw (next_laws.unchanged b c r w) (sym (next_laws.answered b c r w) ∙ d)

pub every_done : EveryDone
every_done = record { eight = again; next = next_again; take_bounded = take_bounded_again; run_bounded = run_bounded_again; go_on = go_on_again; numbers = accepted_numbers; text = text_accepted }

pub every_goal : EveryGoal
every_goal = record {
  eight = struck;
  next = λ b c r w u. rw (next_laws.unchanged b c r w) u;
  take_bounded = take_bounded_struck;
  run_bounded = run_bounded_struck;
  go_on = go_on_struck;
}
