-- The node that a refused choice on a bounded card carries fits in the two bytes that it is written in.
use mathlib.Core.Path.{◌≡◌, refl, sym, ◌∙◌, subst}
use mathlib.Core.Bool.{Bool, true, false}
use Prim.Native.Nat.{ℕ, ◌<◌}
use native.Mathlib.Omega.{arith}
use Rattle.meaning.specs.declared.Refusal.{Refusal}
use Rattle.meaning.specs.Answers.{Answer}
use Rattle.std.specs.Prelude.{Ok, Err}
use Rattle.meaning.specs.declared.Configuration.{Configuration}
use Rattle.meaning.specs.declared.Reply.{Reply}
use Rattle.meaning.specs.declared.BoundedReply.{BoundedReply}
use Rattle.meaning.specs.Card.{Bytes}
use Rattle.meaning.specs.Refusals.{carried, answer_carried, configuration_answer}
use Rattle.meaning.specs.Calls.{reply}
use Rattle.meaning.specs.BoundedCalls.{as_answer, as_reply, bounded_good, bounded_answer}
use Rattle.meaning.proofs.Calls.{takes_refused}
use Rattle.meaning.proofs.Tables.{done≢refused}
use Rattle.meaning.proofs.BoundedCalls.{bounded_refused, bounded_good_lem, bounded_heavy}
use Rattle.demands.specs.CallContracts.{BoundedTakes}
use Rattle.demands.proofs.OnBounded.{BoundedTaking, as_take, refused, bounded_taking}
use Rattle.demands.proofs.Showing.{node_narrow}

module _ (b : Bytes) (c : Configuration) (n : ℕ) where
  -- what is refused before the choice is asked for carries nothing
  before_narrow : (q : Refusal) → bounded_answer b c ≡ Err q → answer_carried (Err q) < 65536
  unfolding answer_carried carried
  before_narrow q e = go (configuration_answer b c) refl
    where
      good : configuration_answer b c ≡ Ok tt → (t : Bool) → bounded_good b c ≡ t → answer_carried (Err q) < 65536
      good on true h = absurd (done≢refused (sym (bounded_good_lem b c on h) ∙ e))
      good on false h = subst (λ (x : Answer). answer_carried x < 65536) (sym (bounded_heavy b c on h) ∙ e) (omega arith)

      go : (a : Answer) → configuration_answer b c ≡ a → answer_carried (Err q) < 65536
      go (Ok _) h = good h (bounded_good b c) refl
      go (Err p) h = subst (λ (x : Answer). answer_carried x < 65536) (sym (bounded_refused b c p h) ∙ e) (node_narrow b c n (reply (Err p) c) (sym (takes_refused b c n p h)))

  pub bounded_node_narrow : (r : BoundedReply) → BoundedTakes b c n r → answer_carried (as_answer r.answer) < 65536
  bounded_node_narrow r w = go (bounded_taking b c n r w)
    where
      go : BoundedTaking b c n r → answer_carried (as_answer r.answer) < 65536
      go (as_take on t) = node_narrow b c n (as_reply r) t
      go (refused q e h) = subst (λ (x : Reply). answer_carried x.answer < 65536) (sym h) (before_narrow q e)
