-- A place judged: the rows of its table, one after the other.
use mathlib.Core.Path.{◌≡◌, refl, ap, ◌∙◌, sym}
use mathlib.Core.Bool.{true, false, not}
use lib.ListN.{drop}
use Rattle.std.specs.Prelude.{Err}
use Rattle.meaning.specs.declared.Refusal.{Refusal}
use Rattle.meaning.specs.declared.Layout.{Layout}
use Rattle.meaning.specs.Answers.{Answer}
use Rattle.meaning.specs.Sizes.{set_bytes, place_goals_at, plan_at}
use Rattle.meaning.specs.Card.{Bytes, set_at}
use Rattle.meaning.specs.Refusals.{has_edition, place_mark_good, place_long_enough, place_counts_good, place_offsets_good, actions_good, both_good, first_given, place_table}
use Rattle.meaning.proofs.Tables.{given, not_given}
use Rattle.card.specs.Rows.{row_answer, rows_from}
use Rattle.card.proofs.Rows.{last_row, no_row}

module _ (l : Layout) (p : Bytes) where
  -- the place's answer
  abbrev told : Answer
  told = first_given (place_table l) p

  pub no_edition : has_edition p ≡ false → told ≡ Err Refusal.Short
  unfolding place_table
  no_edition h = given _ _ p (ap not h)

  module _ (edition : has_edition p ≡ true) where
    from_mark : told ≡ rows_from 1 (place_table l) p
    unfolding rows_from place_table
    from_mark = not_given _ _ p (ap not edition)

    pub no_mark : place_mark_good l p ≡ false → told ≡ Err Refusal.Mark
    unfolding rows_from place_table
    no_mark h = from_mark ∙ given _ _ p (ap not h)

    module _ (mark : place_mark_good l p ≡ true) where
      from_header : told ≡ rows_from 2 (place_table l) p
      unfolding rows_from place_table
      from_header = from_mark ∙ not_given _ _ p (ap not mark)

      pub no_header : place_long_enough l p ≡ false → told ≡ Err Refusal.Short
      unfolding rows_from place_table
      no_header h = from_header ∙ given _ _ p (ap not h)

      module _ (header : place_long_enough l p ≡ true) where
        from_counts : told ≡ rows_from 3 (place_table l) p
        unfolding rows_from place_table
        from_counts = from_header ∙ not_given _ _ p (ap not header)

        pub no_counts : place_counts_good p ≡ false → told ≡ Err Refusal.Count
        unfolding rows_from place_table
        no_counts h = from_counts ∙ given _ _ p (ap not h)

        module _ (counts : place_counts_good p ≡ true) where
          from_offsets : told ≡ rows_from 4 (place_table l) p
          unfolding rows_from place_table
          from_offsets = from_counts ∙ not_given _ _ p (ap not counts)

          pub no_offsets : place_offsets_good l p ≡ false → told ≡ Err Refusal.Offsets
          unfolding rows_from place_table
          no_offsets h = from_offsets ∙ given _ _ p (ap not h)

          module _ (offsets : place_offsets_good l p ≡ true) where
            from_plan : told ≡ rows_from 5 (place_table l) p
            unfolding rows_from place_table
            from_plan = from_offsets ∙ not_given _ _ p (ap not offsets)

            pub no_plan : actions_good l.actions (drop (plan_at (set_bytes l)) p) ≡ false → told ≡ Err Refusal.ActionByte
            unfolding rows_from place_table
            no_plan h = from_plan ∙ given _ _ p (ap not h)

            module _ (plan : actions_good l.actions (drop (plan_at (set_bytes l)) p) ≡ true) where
              from_sets : told ≡ rows_from 6 (place_table l) p
              unfolding rows_from place_table
              from_sets = from_plan ∙ not_given _ _ p (ap not plan)

              pub last_asked : (a : Answer) → a ≡ row_answer (both_good l.atoms (set_at l p 12) (set_at l p (place_goals_at (set_bytes l)))) Refusal.Atom
                  → a ≡ told
              unfolding rows_from place_table
              last_asked a e = last_row _ _ p (both_good l.atoms (set_at l p 12) (set_at l p (place_goals_at (set_bytes l)))) refl a e (no_row p) ∙ sym from_sets
