-- What a deliberation answers when it is done is accepted again, its numbers too, and no goal gets believed.
use mathlib.Core.Path.{◌≡◌, refl, ap, ◌∙◌, sym}
use mathlib.Core.List.{List}
use Prim.Native.Nat.{ℕ, ◌≤◌}
use lib.ListN.{length, take}
use Rattle.runs.specs.Order.{State}
use Rattle.meaning.specs.Answers.{Answer}
use Rattle.std.specs.Prelude.{Ok, Err}
use Rattle.meaning.specs.declared.Layout.{Layout}
use Rattle.meaning.specs.declared.Configuration.{Configuration}
use Rattle.meaning.specs.Card.{Bytes, layout}
use Rattle.meaning.specs.Configurations.{padded, state_of, configuration_of}
use Rattle.meaning.proofs.Calls.{configuration_good_lem}
use Rattle.meaning.proofs.Configurations.{take_padded, configuration_laws}
use Rattle.demands.specs.Demands.{OnAccepted, StandsFor}
use Rattle.demands.specs.Struck.{Unbelieved}
use Rattle.demands.proofs.AcceptedAgain.{accepted_again, handed_in}
use Rattle.demands.proofs.Known.{Known, known_agent, known_after}
use Rattle.demands.proofs.Ordering.{passed_good}
use Rattle.deliberation.specs.declared.Deliberated.{Deliberated}
use Rattle.deliberation.specs.Entries.{go_on_answer}
use Rattle.deliberation.specs.Deliberate.{Outcome}
use Rattle.deliberation.specs.Theorems.{numbers_in, GoesOn}
use Rattle.deliberation.proofs.Followed.{keeps}
use Rattle.deliberation.proofs.Call.{outcome, goes_on_done, nothing_refused, passed, tells_law, none_believed, refusal_law}
use Rattle.every_call.proofs.Listed.{go_on_answer_lem}

-- a state whose configuration stands for one that the card knows is that one
stands_back : (l : Layout) (s : State) → Known l (state_of (configuration_of s)) → state_of (configuration_of s) ≡ s
unfolding state_of configuration_of
stands_back l s k =
    let π = s.mental.π in
    let h : length (take (length π) (padded π)) ≤ 1024 = k.fits in
    let e : take (length π) (padded π) ≡ π = take_padded π (length π) refl in
    configuration_laws.of_state s (rw e at h)

module _ (b p : Bytes) (ns : List ℕ) (c : Configuration) (budget : ℕ) (lent : Bytes) (r : Deliberated) (w : GoesOn b p ns c budget lent r) where
  module _ (d : r.answer ≡ Ok tt) where
    pub go_on_done : go_on_answer b p ns c ≡ Ok tt
    go_on_done = sym (go_on_answer_lem b p ns c budget lent r w) ∙ d

    abbrev o : Outcome
    o = outcome b p ns c budget

    known : Known (layout b) (state_of r.configuration)
    known =
        let pass = passed b p ns c go_on_done in
        let on = configuration_good_lem b c pass.card pass.configuration_good_lem in
        keeps (Known (layout b)) (λ s k c h t f. known_after (known_agent b pass.card) s h t f)
        (tells_law b p ns c budget lent go_on_done r w).followed (handed_in b c on)

    -- what is answered is handed out for the state reached, and stands for it
    pub go_on_stands : StandsFor r.configuration o.state
    go_on_stands =
        let z : r.configuration ≡ configuration_of o.state = ap (λ (x : Deliberated). x.configuration) (w ∙ goes_on_done b p ns c budget lent go_on_done) in
        record { handed_out = z; stands_for = ap state_of z ∙ stands_back (layout b) o.state (rw z at known) }

    known_there : Known (layout b) o.state
    known_there = rw go_on_stands.stands_for at known

    pub go_on_again : OnAccepted b r.configuration
    go_on_again = rw go_on_stands.handed_out (accepted_again b (passed b p ns c go_on_done).card _ known_there)

    pub accepted_numbers : go_on_answer b p (numbers_in r.remaining) r.configuration ≡ Ok tt
    accepted_numbers =
        let pass = passed b p ns c go_on_done in
        let numbers = (tells_law b p ns c budget lent go_on_done r w).accepted in
        let good = passed_good b r.configuration go_on_again in
        nothing_refused b p (numbers_in r.remaining) r.configuration pass.card pass.program_good_lem numbers good

  pub go_on_struck : Unbelieved c → Unbelieved r.configuration
  go_on_struck u = go (go_on_answer b p ns c) refl
    where
      go : (a : Answer) → go_on_answer b p ns c ≡ a → Unbelieved r.configuration
      go (Ok _) e = none_believed b p ns c budget lent e r w u
      go (Err q) e = rw ((refusal_law b p ns c budget lent r w).hands_back q (go_on_answer_lem b p ns c budget lent r w ∙ e)).0 u
