use mathlib.Core.Path.{◌≡◌, sym, ap, ◌∙◌}
use Prim.Native.Nat.{◌+◌, ◌-◌, ◌*◌, ◌/◌, ◌%◌}
use native.Mathlib.Omega.{arith}
use borrow.Author.Rules.{rules}
use lib.Dec.{eqb}
use lib.Bits.{bit_and, bit_xor}
use lib.ListN.{length, get_or}
use mathlib.Core.Bool.{true, ◌&&◌}
use Rattle.paper.specs.Atoms.{◌∖◌}
use Rattle.paper.specs.Theorems.{AreBytes}
use Rattle.paper.proofs.Sets.{at-∖, length-∖}
use Rattle.sets.specs.Sets.{is_empty, low_bits, below}
use Rattle.sets.proofs.Loops.{found_turn, found_all}
use Rattle.sets.proofs.Below.{at_below, drop_behind}
use Rattle.sets.proofs.KnownAtoms.{known, asked_from, above}
use Rattle.sets.proofs.known.Goals as goal

pub returns-then-i-ge32 : goal.returns-then-i-ge32
returns-then-i-ge32 c =
    let a = c.args in
    let p = c.requires in
    let X = a.s ∖ below 32 a.atoms in
    let long : length X ≡ length a.s = length-∖ a.s (below 32 a.atoms) in
    let bytes : AreBytes a.s = λ i. search rules in
    found_all (λ x. eqb x 0) X 0 true 32 (omega arith) (asked_from 32 a.atoms a.s (omega arith) bytes 32 (omega arith) (omega (arith, c.if-i-ge32.true)))
    ∙ known 32 a.atoms a.s (omega arith) p bytes

pub returns-else-i-ge32 : goal.returns-else-i-ge32
returns-else-i-ge32 c =
    let a = c.args in
    let k = a.atoms / 8 in
    let x = get_or a.s k 0 in
    let X = a.s ∖ below 32 a.atoms in
    let long : length X ≡ length a.s = length-∖ a.s (below 32 a.atoms) in
    let bytes : AreBytes a.s = λ i. search rules in
    let own : a.atoms - 8 * k ≡ a.atoms % 8 = omega arith in
    let low = at_below 32 a.atoms k (omega arith) ∙ ap low_bits own in
    let found = found_turn (λ x. eqb x 0) X 0 true k 0 (omega arith) (asked_from 32 a.atoms a.s (omega arith) bytes k (omega arith) (omega arith)) in
    ap (λ b. b && c.zeros_from.result) (above x (a.atoms % 8) (omega arith))
    ∙ ap (λ z. eqb (bit_xor x (bit_and x (low_bits (a.atoms % 8)))) 0 && z) (c.zeros_from.ensures ∙ ap is_empty (sym (drop_behind 32 a.atoms a.s (k + 1) (omega arith) (omega arith))))
    ∙ rw (at-∖ a.s (below 32 a.atoms) k, low) at found
    ∙ known 32 a.atoms a.s (omega arith) c.requires bytes
