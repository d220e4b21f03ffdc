-- Demand 2: take refuses a code with 10 exactly if it is none of the list's.
use mathlib.Core.Path.{◌∙◌, sym}
use mathlib.Core.Logic.{◌↔◌}
use mathlib.Core.List.{List, Memᴰ}
use Prim.Native.Nat.{ℕ}
use Rattle.meaning.specs.declared.Configuration.{Configuration}
use Rattle.meaning.specs.declared.Reply.{Reply}
use Rattle.meaning.specs.Card.{Bytes}
use Rattle.meaning.proofs.Tables.{done≢refused}
use Rattle.demands.specs.Demands.{OnAccepted, AllMoves, IsClosed}
use Rattle.demands.proofs.Choosing.{closed_exactly}
use Rattle.demands.proofs.Ways.{Taking, refused, is_closed, plan_full, done}

module _ (b : Bytes) (c : Configuration) (on : OnAccepted b c) (ns : List ℕ) (moves : AllMoves b c ns) (n : ℕ) where
  in_list : (r : Reply) → Taking b c n r → (IsClosed r.answer → ⊥) → Memᴰ n ns
  in_list r (refused h) f = absurd (done≢refused (sym on ∙ h))
  in_list r (is_closed h e w l) f = absurd (f w)
  in_list r (plan_full h k c' m l) f = rw m.coded at (moves.none_missing k c' m.transition)
  in_list r (done h k c' m l) f = rw m.coded at (moves.none_missing k c' m.transition)

  pub offered : (r : Reply) → Taking b c n r → Memᴰ n ns ↔ (IsClosed r.answer → ⊥)
  offered r t =
      (λ i e. (let (k, d, m) = moves.none_added n i in (closed_exactly b c on n r t).0 e k m.0 (record { coded = d; transition = m.1 })), in_list r t)
