-- The turned screen of deliberations: those with turns between them are one.
use mathlib.Core.Path.{◌≡◌, refl, ap, ◌∙◌, sym, subst}
use mathlib.Core.List.{List, [], ◌∷◌}
use Prim.Native.Nat.{ℕ, ◌+◌, ◌≤◌}
use native.Mathlib.Omega.{arith}
use Rattle.paper.specs.Language.{𝐁}
use Rattle.meaning.specs.declared.Refusal.{Refusal}
use Rattle.meaning.specs.Answers.{Answer}
use Rattle.std.specs.Prelude.{Ok, Err}
use Rattle.meaning.specs.declared.Configuration.{Configuration}
use Rattle.meaning.specs.Card.{Bytes, layout, agent, conditions}
use Rattle.meaning.specs.Configurations.{state_of}
use Rattle.meaning.proofs.Calls.{configuration_good_lem}
use Rattle.meaning.proofs.Tables.{done≢refused}
use Rattle.demands.specs.CallContracts.{Shaped}
use Rattle.demands.specs.TurnedScreen.{held, TurnDone, sum}
use Rattle.demands.proofs.Known.{known_agent}
use Rattle.demands.proofs.Saving.{Kept, Sized, sized, handed_out}
use Rattle.demands.proofs.Keeping.{kept_after}
use Rattle.demands.proofs.Turning.{turn_done, same_held}
use Rattle.deliberation.specs.declared.Deliberated.{Deliberated}
use Rattle.deliberation.specs.Entries.{entries_of, go_on_answer, whole}
use Rattle.deliberation.specs.Deliberate.{Outcome, deliberate, deliberated, refused, goes_on}
use Rattle.deliberation.specs.Theorems.{numbers_in, counted, GoesOn}
use Rattle.deliberation.proofs.Run.{deliberation_stops}
use Rattle.deliberation.proofs.Call.{outcome, goes_on_done, goes_on_refused, passed, numbers_back, done_keeps}
use Rattle.every_call.specs.TurnedDeliberation.{TurnedCalls, last_call, call_turned, call_then, EachCall, AsOneCall, TurnedTogether, TurnedDeliberation}
use Rattle.every_call.specs.TurnedDeliberation as Turned
use Rattle.every_call.proofs.Deliberating.{go_on_stands, go_on_again, accepted_numbers}

-- ---- a call

module _ (b p : Bytes) (ns : List ℕ) (c : Configuration) (j : ℕ) (lent : Bytes) (r : Deliberated) (w : GoesOn b p ns c j lent r) where
  is_done : go_on_answer b p ns c ≡ Ok tt → r ≡ deliberated (outcome b p ns c j)
  is_done on = w ∙ goes_on_done b p ns c j lent on

  is_refused : (q : Refusal) → go_on_answer b p ns c ≡ Err q → r ≡ refused q c lent
  is_refused q e = w ∙ goes_on_refused b p ns c j lent q e

  done_answer : go_on_answer b p ns c ≡ Ok tt → r.answer ≡ Ok tt
  done_answer on = ap (λ (x : Deliberated). x.answer) (is_done on)

  -- what a caller goes on from
  kept_done : go_on_answer b p ns c ≡ Ok tt → Turned.kept ns r ≡ (outcome b p ns c j).remaining
  kept_done on = rw (is_done on) (numbers_back (outcome b p ns c j).remaining)

  -- is accepted
  kept_accepted : go_on_answer b p ns c ≡ Ok tt → go_on_answer b p (Turned.kept ns r) r.configuration ≡ Ok tt
  kept_accepted on =
      let numbers : numbers_in r.remaining ≡ (outcome b p ns c j).remaining = ap (λ (x : Deliberated). numbers_in x.remaining) (is_done on) ∙ numbers_back (outcome b p ns c j).remaining in
      subst (λ ms. go_on_answer b p ms r.configuration ≡ Ok tt) (numbers ∙ sym (kept_done on)) (accepted_numbers b p ns c j lent r w (done_answer on))

  kept_refused : (q : Refusal) → go_on_answer b p ns c ≡ Err q → Turned.kept ns r ≡ ns
  kept_refused q e = rw (is_refused q e) refl

  -- the configuration is one that a turn gives back
  call_sized : Sized b c → Sized b r.configuration
  call_sized h = go (go_on_answer b p ns c) refl
    where
      go : (a : Answer) → go_on_answer b p ns c ≡ a → Sized b r.configuration
      go (Ok _) on =
          let pass = passed b p ns c on in
          let there = h.keeps (configuration_good_lem b c pass.card pass.configuration_good_lem) in
          let (s, (e, k)) = done_keeps b p ns c j lent on r w (Kept (layout b)) (λ s k d q t l. kept_after (known_agent b pass.card) s q t l) there in
          rw e (handed_out b s k)
      go (Err q) e = rw (is_refused q e) h

-- ---- a deliberation that is stopped, and goes on from what it reached

joined : (o o' : Outcome) (first second one : Deliberated) → first ≡ deliberated o → second ≡ deliberated o' → one ≡ deliberated (counted o.count o')
    → AsOneCall second (first.count + second.count) one
joined o o' first second one e f g =
    rw (e, f, g) (record { answer = refl; configuration = refl; ending = refl; count = refl; numbers = refl; bytes = λ h. refl })

module _ (b p : Bytes) (ns : List ℕ) (c : Configuration) (j k : ℕ) (least : 1 ≤ k) (lent lent' lent'' : Bytes) (first second one : Deliberated) (w : GoesOn b p ns c j lent first)
    (w' : GoesOn b p (Turned.kept ns first) first.configuration k lent' second) (v : GoesOn b p ns c (j + k) lent'' one) where
  abbrev o : Outcome
  o = outcome b p ns c j

  -- with budget k from what the first call left
  abbrev next : Outcome
  next = deliberate (agent b) (conditions 𝐁 (layout b) b) (entries_of p) k o.remaining o.state

  second_done : go_on_answer b p ns c ≡ Ok tt → second ≡ deliberated next
  second_done on =
      let d = done_answer b p ns c j lent first w on in
      let left = kept_done b p ns c j lent first w on in
      let accepted = kept_accepted b p ns c j lent first w on in
      let there : state_of first.configuration ≡ o.state = (go_on_stands b p ns c j lent first w d).stands_for in
      w' ∙ goes_on_done b p (Turned.kept ns first) first.configuration k lent' accepted
      ∙ ap (λ ms. deliberated (deliberate (agent b) (conditions 𝐁 (layout b) b) (entries_of p) k ms (state_of first.configuration))) left
      ∙ ap (λ s. deliberated (deliberate (agent b) (conditions 𝐁 (layout b) b) (entries_of p) k o.remaining s)) there

  stopped_done : go_on_answer b p ns c ≡ Ok tt → AsOneCall second (first.count + second.count) one
  stopped_done on =
      joined o next first second one (is_done b p ns c j lent first w on) (second_done on)
      (is_done b p ns c (j + k) lent'' one v on
      ∙ ap (λ (x : Outcome). deliberated x) (deliberation_stops (agent b) (conditions 𝐁 (layout b) b) (entries_of p) j k ns (state_of c) least))

  stopped_refused : (q : Refusal) → go_on_answer b p ns c ≡ Err q → AsOneCall second (first.count + second.count) one
  stopped_refused q e =
      let f = is_refused b p ns c j lent first w q e in
      let g : second ≡ refused q c lent' = w' ∙ ap (λ ms. goes_on b p ms first.configuration k lent') (kept_refused b p ns c j lent first w q e)
      ∙ ap (λ (x : Deliberated). goes_on b p ns x.configuration k lent') f ∙ goes_on_refused b p ns c k lent' q e in
      rw (f, g, is_refused b p ns c (j + k) lent'' one v q e)
      (record { answer = refl; configuration = refl; ending = refl; count = refl; numbers = refl; bytes = λ h. absurd (done≢refused (sym h)) })

  stopped : AsOneCall second (first.count + second.count) one
  stopped = go (go_on_answer b p ns c) refl
    where
      go : (a : Answer) → go_on_answer b p ns c ≡ a → AsOneCall second (first.count + second.count) one
      go (Ok _) h = stopped_done h
      go (Err q) h = stopped_refused q h

-- ---- calls with turns between them

-- one call more before calls that are as one
one_before : (first last second one : Deliberated) (n : ℕ) → AsOneCall last n second → AsOneCall second (first.count + second.count) one
    → AsOneCall last (first.count + n) one
one_before first last second one n x y = record {
  answer = x.answer ∙ y.answer;
  configuration = x.configuration ∙ y.configuration;
  ending = x.ending ∙ y.ending;
  count = ap (λ m. first.count + m) x.count ∙ y.count;
  numbers = x.numbers ∙ y.numbers;
  bytes = λ h. x.bytes (y.answer ∙ h) ∙ y.bytes h;
}

module _ (b p : Bytes) where
  as_one : {ns ks : List ℕ} {c : Configuration} {j n : ℕ} {last : Deliberated} → Sized b c → (calls : TurnedCalls b p ns c j ks last n)
      → (lent : Bytes) (one : Deliberated) → GoesOn b p ns c (j + sum ks) lent one → AsOneCall last n one
  as_one keeps (last_call {ns} {c} {j} lent' r w) lent one v = go (go_on_answer b p ns c) refl
    where
      z : j + 0 ≡ j
      z = omega arith

      alike : GoesOn b p ns c j lent one
      alike = v ∙ ap (λ m. goes_on b p ns c m lent) z

      go : (a : Answer) → go_on_answer b p ns c ≡ a → AsOneCall r r.count one
      go (Ok _) h =
          rw (is_done b p ns c j lent' r w h, is_done b p ns c j lent one alike h)
          (record { answer = refl; configuration = refl; ending = refl; count = refl; numbers = refl; bytes = λ h. refl })
      go (Err q) h =
          rw (is_refused b p ns c j lent' r w q h, is_refused b p ns c j lent one alike q h)
          (record { answer = refl; configuration = refl; ending = refl; count = refl; numbers = refl; bytes = λ h. absurd (done≢refused (sym h)) })
  as_one keeps (call_turned {ns} {ks} {c} {j} {k} {n} {last} lent' r w t least rest) lent one v =
      let reached = call_sized b p ns c j lent' r w keeps in
      let same = same_held b r.configuration t reached in
      let ms = Turned.kept ns r in
      let second = goes_on b p ms (held t) (k + sum ks) lent in
      one_before r last second one n (as_one (subst (Sized b) (sym same) reached) rest lent second refl)
      (stopped b p ns c j (k + sum ks) (omega arith) lent' lent lent r second one w (ap (λ x. goes_on b p ms x (k + sum ks) lent) same) v)
  as_one keeps (call_then {ns} {ks} {c} {j} {k} {n} {last} lent' r w least rest) lent one v =
      let ms = Turned.kept ns r in
      let second = goes_on b p ms r.configuration (k + sum ks) lent in
      one_before r last second one n (as_one (call_sized b p ns c j lent' r w keeps) rest lent second refl)
      (stopped b p ns c j (k + sum ks) (omega arith) lent' lent lent r second one w refl v)

  each_done : {ns ks : List ℕ} {c : Configuration} {j n : ℕ} {last : Deliberated} → Sized b c → go_on_answer b p ns c ≡ Ok tt
      → (calls : TurnedCalls b p ns c j ks last n) → EachCall (λ lent r. r.answer ≡ Ok tt) TurnDone calls
  each_done keeps on (last_call {ns} {c} {j} lent r w) = done_answer b p ns c j lent r w on
  each_done keeps on (call_turned {ns} {c = c} {j = j} lent r w t least rest) =
      let d = done_answer b p ns c j lent r w on in
      let reached = call_sized b p ns c j lent r w keeps in
      let same = sym (same_held b r.configuration t reached) in
      let again = kept_accepted b p ns c j lent r w on in (
        d,
        (
          turn_done b r.configuration t (go_on_again b p ns c j lent r w d) reached,
          each_done (subst (Sized b) same reached) (subst (λ x. go_on_answer b p (Turned.kept ns r) x ≡ Ok tt) same again) rest,
        ),
      )
  each_done keeps on (call_then {ns} {c = c} {j = j} lent r w least rest) =
      (done_answer b p ns c j lent r w on, each_done (call_sized b p ns c j lent r w keeps) (kept_accepted b p ns c j lent r w on) rest)

  each_refused : {ns ks : List ℕ} {c : Configuration} {j n : ℕ} {last : Deliberated} (ns₀ : List ℕ) (c₀ : Configuration) (q : Refusal) → Sized b c₀
      → go_on_answer b p ns₀ c₀ ≡ Err q → ns ≡ ns₀ → c ≡ c₀ → (calls : TurnedCalls b p ns c j ks last n)
      → EachCall (λ lent r. r ≡ refused q c₀ lent) (λ d t. held t ≡ d) calls
  each_refused ns₀ c₀ q keeps e f g (last_call {ns} {c} {j} lent r w) =
      w ∙ ap (λ ms. goes_on b p ms c j lent) f ∙ ap (λ x. goes_on b p ns₀ x j lent) g ∙ goes_on_refused b p ns₀ c₀ j lent q e
  each_refused ns₀ c₀ q keeps e f g (call_turned {ns} {c = c} {j = j} lent r w t least rest) =
      let there : r ≡ refused q c₀ lent = w ∙ ap (λ ms. goes_on b p ms c j lent) f ∙ ap (λ x. goes_on b p ns₀ x j lent) g ∙ goes_on_refused b p ns₀ c₀ j lent q e in
      let back : r.configuration ≡ c₀ = ap (λ (x : Deliberated). x.configuration) there in
      let same = same_held b r.configuration t (subst (Sized b) (sym back) keeps) in
      let left : Turned.kept ns r ≡ ns₀ = ap (Turned.kept ns) there ∙ f in
      (there, (same, each_refused ns₀ c₀ q keeps e left (same ∙ back) rest))
  each_refused ns₀ c₀ q keeps e f g (call_then {ns} {c = c} {j = j} lent r w least rest) =
      let there : r ≡ refused q c₀ lent = w ∙ ap (λ ms. goes_on b p ms c j lent) f ∙ ap (λ x. goes_on b p ns₀ x j lent) g ∙ goes_on_refused b p ns₀ c₀ j lent q e in
      (there, each_refused ns₀ c₀ q keeps e (ap (Turned.kept ns) there ∙ f) (ap (λ (x : Deliberated). x.configuration) there) rest)

any_turns : (b p : Bytes) (ns : List ℕ) (c : Configuration) → Shaped c → (j : ℕ) (ks : List ℕ) (last : Deliberated) (n : ℕ)
    → (calls : TurnedCalls b p ns c j ks last n) (lent : Bytes) (one : Deliberated) → GoesOn b p ns c (j + sum ks) lent one
    → TurnedTogether calls lent one
any_turns b p ns c shaped j ks last n calls lent one v =
    let keeps = sized b c shaped in
    record {
      as_one_call = as_one b p keeps calls lent one v;
      all_done = λ on. (each_done b p keeps on calls, done_answer b p ns c (j + sum ks) lent one v on);
      refused_alike = λ q e. (each_refused b p ns c q keeps e refl refl calls, is_refused b p ns c (j + sum ks) lent one v q e);
    }

pub turned_deliberation : TurnedDeliberation
turned_deliberation = record {
  one_turn = λ b p c shaped j k least lent lent' lent'' first w t second w' one v.
      let z : j + k ≡ j + sum (k ∷ []) = omega arith in
      any_turns b p (whole p) c shaped j (k ∷ []) second _ (call_turned lent first w t least (last_call lent' second w')) lent'' one
      (v ∙ ap (λ m. goes_on b p (whole p) c m lent'') z);
  any_turns = any_turns;
}
