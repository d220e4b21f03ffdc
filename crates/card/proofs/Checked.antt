-- What is checked of a card, by the answer of its rows.
use mathlib.Core.Path.{◌≡◌, sym, ap, ◌∙◌, subst}
use mathlib.Core.Bool.{Bool, true, false, not}
use lib.ListN.{length}
use Rattle.meaning.specs.declared.Refusal.{Refusal}
use Rattle.meaning.specs.Answers.{Checked}
use Rattle.std.specs.Prelude.{Result, Ok, Err}
use Rattle.std.specs.Result.{IsErrAnd}
use Rattle.meaning.specs.declared.Layout.{Layout}
use Rattle.meaning.specs.Card.{Bytes, layout}
use Rattle.meaning.specs.Refusals.{has_edition, card_mark_good, card_long_enough, counts_good, offsets_good, weights_good, nodes_good, containing, rules_good, actions_good, pool, sets_good, card_table, card_answer}
use Rattle.meaning.specs.Calls.{checks}
use Rattle.meaning.proofs.Tables.{given, not_given, done≢refused}
use Rattle.meaning.proofs.Calls.{checks_good, checks_refused}
use Rattle.layout.specs.GoodLayout.{GoodLayout}
use Rattle.layout.proofs.GoodLayout.{good_layout}
use Rattle.layout.specs.declared.card.Card.{Card}
use Rattle.card.specs.GoodCard.{GoodCard}
use Rattle.card.specs.Accepted.{Accepted}
use Rattle.card.proofs.GoodCard.{good_card}
use Rattle.card.specs.Rows.{rows_from, answer_of, HeaderRead}
use Rattle.card.proofs.Rows.{handed_on, no_row}

pub good≢refused : {l : Layout} {r : Refusal} → ◌≡◌ {A = Checked} (Ok l) (Err r) → ⊥
good≢refused e = done≢refused (ap answer_of e)

pub good_inj : {l k : Layout} → ◌≡◌ {A = Checked} (Ok l) (Ok k) → l ≡ k
good_inj e = cc

module _ (b : Bytes) where
  -- the rows of its header, one after the other
  pub short_refused : has_edition b ≡ false → card_answer b ≡ Err Refusal.Short
  unfolding card_answer card_table
  short_refused h = given _ _ b (ap not h)

  pub mark_refused : has_edition b ≡ true → card_mark_good b ≡ false → card_answer b ≡ Err Refusal.Mark
  unfolding card_answer card_table
  mark_refused h m = not_given _ _ b (ap not h) ∙ given _ _ b (ap not m)

  pub header_refused : has_edition b ≡ true → card_mark_good b ≡ true → card_long_enough b ≡ false → card_answer b ≡ Err Refusal.Short
  unfolding card_answer card_table
  header_refused h m n = not_given _ _ b (ap not h) ∙ not_given _ _ b (ap not m) ∙ given _ _ b (ap not n)

  pub header_passed : has_edition b ≡ true → card_mark_good b ≡ true → card_long_enough b ≡ true → card_answer b ≡ rows_from 3 card_table b
  unfolding card_answer card_table rows_from
  header_passed h m n = not_given _ _ b (ap not h) ∙ not_given _ _ b (ap not m) ∙ not_given _ _ b (ap not n)

  -- a header that is refused
  pub no_header : (v : Result Card Refusal) (e : Refusal) → IsErrAnd v (λ y. y ≡ e) → card_answer b ≡ Err e → Accepted b v
  no_header v e up h = subst (Accepted b) (sym (handed_on v e up)) (checks_refused b e h)

  -- the rows behind its header, one after the other
  module _ (l : Layout) (read : HeaderRead b (Ok l)) where
    at_layout : (test : Layout → Bool) (t : Bool) → test l ≡ t → not (test (layout b)) ≡ not t
    at_layout test t h = ap not (ap test (sym read.0) ∙ h)

    pub no_counts : counts_good l ≡ false → checks b ≡ Err Refusal.Count
    unfolding rows_from card_table
    no_counts h = checks_refused b _ (read.2 ∙ given _ _ b (at_layout counts_good false h))

    module _ (counts : counts_good l ≡ true) where
      from_offsets : card_answer b ≡ rows_from 4 card_table b
      unfolding rows_from card_table
      from_offsets = read.2 ∙ not_given _ _ b (at_layout counts_good true counts)

      pub no_offsets : offsets_good l (length b) ≡ false → checks b ≡ Err Refusal.Offsets
      unfolding rows_from card_table
      no_offsets h = checks_refused b _ (from_offsets ∙ given _ _ b (at_layout (λ l. offsets_good l (length b)) false h))

      module _ (offsets : offsets_good l (length b) ≡ true) where
        pub well_laid : GoodLayout l b
        well_laid = good_layout l b read.0 counts offsets

        from_weights : card_answer b ≡ rows_from 5 card_table b
        unfolding rows_from card_table
        from_weights = from_offsets ∙ not_given _ _ b (at_layout (λ l. offsets_good l (length b)) true offsets)

        pub no_weights : weights_good l b ≡ false → checks b ≡ Err Refusal.Weight
        unfolding rows_from card_table
        no_weights h = checks_refused b _ (from_weights ∙ given _ _ b (at_layout (λ l. weights_good l b) false h))

        module _ (weights : weights_good l b ≡ true) where
          from_nodes : card_answer b ≡ rows_from 6 card_table b
          unfolding rows_from card_table
          from_nodes = from_weights ∙ not_given _ _ b (at_layout (λ l. weights_good l b) true weights)

          pub no_nodes : nodes_good l b ≡ false → checks b ≡ Err Refusal.Node
          unfolding rows_from card_table
          no_nodes h = checks_refused b _ (from_nodes ∙ given _ _ b (at_layout (λ l. nodes_good l b) false h))

          module _ (nodes : nodes_good l b ≡ true) where
            from_rules : card_answer b ≡ rows_from 7 card_table b
            unfolding rows_from card_table
            from_rules = from_nodes ∙ not_given _ _ b (at_layout (λ l. nodes_good l b) true nodes)

            pub no_rules : rules_good (containing 1 l b) (containing 2 l b) l b ≡ false → checks b ≡ Err Refusal.Rule
            unfolding rows_from card_table
            no_rules h = checks_refused b _ (from_rules ∙ given _ _ b (at_layout (λ l. rules_good (containing 1 l b) (containing 2 l b) l b) false h))

            module _ (rules : rules_good (containing 1 l b) (containing 2 l b) l b ≡ true) where
              from_pool : card_answer b ≡ rows_from 8 card_table b
              unfolding rows_from card_table
              from_pool = from_rules ∙ not_given _ _ b (at_layout (λ l. rules_good (containing 1 l b) (containing 2 l b) l b) true rules)

              pub no_pool : actions_good l.actions (pool l b) ≡ false → checks b ≡ Err Refusal.ActionByte
              unfolding rows_from card_table
              no_pool h = checks_refused b _ (from_pool ∙ given _ _ b (at_layout (λ l. actions_good l.actions (pool l b)) false h))

              module _ (pool_bytes : actions_good l.actions (pool l b) ≡ true) where
                from_sets : card_answer b ≡ rows_from 9 card_table b
                unfolding rows_from card_table
                from_sets = from_pool ∙ not_given _ _ b (at_layout (λ l. actions_good l.actions (pool l b)) true pool_bytes)

                pub no_sets : sets_good l b ≡ false → checks b ≡ Err Refusal.Atom
                unfolding rows_from card_table
                no_sets h = checks_refused b _ (from_sets ∙ given _ _ b (at_layout (λ l. sets_good l b) false h))

                module _ (sets : sets_good l b ≡ true) where
                  accepted_all : card_answer b ≡ Ok tt
                  unfolding rows_from card_table
                  accepted_all = from_sets ∙ not_given _ _ b (at_layout (λ l. sets_good l b) true sets) ∙ no_row b

                  pub no_refusal : (checks b ≡ Ok l) × GoodCard l b
                  no_refusal = (checks_good b accepted_all ∙ ap {B = Checked} (λ l. Ok l) (sym read.0), good_card l b accepted_all read.0)
