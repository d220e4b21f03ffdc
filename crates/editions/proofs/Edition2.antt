-- Edition 2: its sizes, the longest card, the order of 1, 2 and 1, and the edition of a saved place.
use mathlib.Core.Path.{◌≡◌, ap, ◌∙◌}
use mathlib.Core.Logic.{⊎_elim}
use mathlib.Core.Bool.{Bool, true, false, ◌&&◌, and-false}
use mathlib.Core.List.{◌++◌}
use Prim.Native.Nat.{ℕ, ◌+◌, ◌*◌, ◌%◌, ◌≤◌, ◌<◌}
use native.Mathlib.Nat.{mul-le-mul, mod-eq_of_lt}
use native.Mathlib.Omega.{arith}
use borrow.Author.Tests.{le-leb, lt-leb, ne_eqb}
use lib.ListN.{length, take, drop, length-append}
use Rattle.runs.specs.Order.{State}
use Rattle.meaning.specs.declared.Refusal.{Refusal}
use Rattle.meaning.specs.Answers.{Answer}
use Rattle.std.specs.Prelude.{Ok, Err}
use Rattle.meaning.specs.declared.Layout.{Layout}
use Rattle.meaning.specs.Sizes.{set_bytes, most_atoms, goals_at, header_bytes, del_at, specification_bytes, place_goals_at, plan_at}
use Rattle.meaning.specs.Card.{Bytes, number_at, layout}
use Rattle.meaning.specs.Place.{place_header, place}
use Rattle.meaning.specs.Refusals.{first_given, marked, has_edition, card_mark_good, card_long_enough, card_table, card_answer, place_mark_good, place_long_enough, place_table}
use Rattle.meaning.specs.Theorems.{Holds}
use Rattle.meaning.proofs.Accepted.{accepted, counts, offsets}
use Rattle.meaning.proofs.Widening.{set_most, set_second, length_held}
use Rattle.editions.specs.Edition2.{Edition2Sizes, Longest, CardOrder, PlaceOrder, SavedIn, Edition2}
use Rattle.editions.proofs.Rows.{edition1_sizes}
use Rattle.editions.proofs.Orders.{new, new_wrong}
use Rattle.editions.proofs.Cards.{of_either, is_new}
use Rattle.editions.proofs.Places.{place_new}

pub edition2_sizes : (l : Layout) → l.edition ≡ 2 → Edition2Sizes l
edition2_sizes l e =
    let s : set_bytes l ≡ 32 = set_second l.edition e in
    record {
      set = s;
      atoms = ap most_atoms s;
      goals = ap goals_at s;
      header = ap header_bytes s;
      specification = ap specification_bytes s;
      del = ap del_at s;
      place_goals = ap place_goals_at s;
      plan = ap plan_at s;
    }

-- ---- the longest card

-- with sets of n bytes, by the sections' ends
ends : (b : Bytes) (n : ℕ) → card_answer b ≡ Ok tt → set_bytes (layout b) ≤ n → length b ≤ 32 + 2 * n + 512 + 1024 + (4 + 2 * n) * 256 + 2048 + 3072 + 8192
ends b n d h =
    let a = accepted b d in
    let c = counts (layout b) a.counts in
    let o = offsets (layout b) (length b) a.offsets in
    let s = set_bytes (layout b) in
    let k = (layout b).specifications.count in
    let m : specification_bytes s * k ≤ (4 + 2 * n) * 256 = mul-le-mul (omega arith) c.specifications in
    let o1 = o.nodes in
    let o2 = o.specifications in
    let o3 : (layout b).selections.offset ≡ (layout b).specifications.offset + specification_bytes s * k = o.selections in
    let o4 = o.revisions in
    let o5 = o.pool in
    let o6 = o.ends in
    let c1 = c.actions in
    let c2 = c.nodes in
    let c3 = c.selections in
    let c4 = c.revisions in
    let c5 = c.pool in
    omega arith

longest : (b : Bytes) → card_answer b ≡ Ok tt → Longest b
longest b d = record {
  either = ends b 32 d (set_most (layout b).edition);
  edition1 = λ e. ends b 16 d (let s = (edition1_sizes (layout b) e).set in omega arith);
}

-- ---- the order of 1, 2 and 1

new_under : (four mark long : Bool) (rest : Answer) → four ≡ false → new four mark long rest ≡ Err Refusal.Short
new_under four mark long rest e = ap (λ f. new f mark long rest) e

new_short : (four mark long : Bool) (rest : Answer) → four ≡ true → mark ≡ true → long ≡ false → new four mark long rest ≡ Err Refusal.Short
new_short four mark long rest e f g = λ i. new (e i) (f i) (g i) rest

card_order : (b : Bytes) → CardOrder b
unfolding has_edition card_long_enough
card_order b =
    let rest = first_given (drop 3 card_table) b in
    record {
      under_four = λ h. is_new b ∙ new_under (has_edition b) (card_mark_good b) (card_long_enough b) rest (lt-leb 4 (length b) h);
      wrong = λ h m. is_new b ∙ new_wrong (has_edition b) (card_mark_good b) (card_long_enough b) rest (le-leb 4 (length b) h) m;
      short = λ h m s. is_new b ∙ new_short (has_edition b) (card_mark_good b) (card_long_enough b) rest (le-leb 4 (length b) h) m (lt-leb (header_bytes (set_bytes (layout b))) (length b) s);
    }

other_mark : (l : Layout) (p : Bytes) → (number_at p 2 ≡ l.edition → ⊥) → place_mark_good l p ≡ false
other_mark l p h = ap (λ t. marked 0x50 p && t) (ne_eqb (number_at p 2) l.edition h) ∙ and-false (marked 0x50 p)

place_order : (l : Layout) (p : Bytes) → PlaceOrder l p
unfolding has_edition
place_order l p =
    let rest = first_given (drop 3 (place_table l)) p in
    let wrong : 4 ≤ length p → place_mark_good l p ≡ false → first_given (place_table l) p ≡ Err Refusal.Mark
    = λ h m. place_new l p ∙ new_wrong (has_edition p) (place_mark_good l p) (place_long_enough l p) rest (le-leb 4 (length p) h) m in
    record {
      under_four = λ h. place_new l p ∙ new_under (has_edition p) (place_mark_good l p) (place_long_enough l p) rest (lt-leb 4 (length p) h);
      wrong = wrong;
      other_edition = λ h o. wrong h (other_mark l p o);
      short = λ h m s. place_new l p ∙ new_short (has_edition p) (place_mark_good l p) (place_long_enough l p) rest (le-leb 4 (length p) h) m (lt-leb (plan_at (set_bytes l)) (length p) s);
    }

-- ---- a saved place

saved_edition : (l : Layout) (s : State) → l.edition < 256 → number_at (place l s) 2 ≡ l.edition
unfolding place place_header
saved_edition l s h = let e : l.edition % 256 ≡ l.edition = mod-eq_of_lt h in omega arith

saved_total : (l : Layout) (s : State) → Holds l s.mental.σ → Holds l s.mental.γ → length (place l s) ≡ plan_at (set_bytes l) + length s.mental.π
unfolding place place_header
saved_total l s h g =
    let σ = take (set_bytes l) s.mental.σ in
    let γ = take (set_bytes l) s.mental.γ in
    let a = length_held l s.mental.σ h in
    let b = length_held l s.mental.γ g in
    let c : length (σ ++ (γ ++ s.mental.π)) ≡ length σ + length (γ ++ s.mental.π) = length-append σ (γ ++ s.mental.π) in
    let d : length (γ ++ s.mental.π) ≡ length γ + length s.mental.π = length-append γ s.mental.π in
    omega arith

saved_in : (b : Bytes) (s : State) → card_answer b ≡ Ok tt → SavedIn (layout b) s
unfolding layout
saved_in b s d =
    let e : (layout b).edition < 256 = ⊎_elim (λ one. omega (arith, one)) (λ two. omega (arith, two.1)) (of_either b (accepted b d).marked) in
    record { edition = saved_edition (layout b) s e; total = saved_total (layout b) s }

pub edition2 : Edition2
edition2 = record {
  sizes = edition2_sizes;
  longest = longest;
  card_order = card_order;
  place_order = place_order;
  saved_in = saved_in;
}
