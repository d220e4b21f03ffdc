-- Whoever unfolds `computing` unfolds every definition, so that what a call answers on given bytes is computed.
use Rattle.paper.specs.Atoms.{bit, ◌∈◌, ◌∪◌, ◌∖◌}
use Rattle.paper.specs.Transitions.{◌⊨◌, σ', γ'}
use Rattle.paper.specs.Next.{can_select, selected, can_act, acted, can_revise, revised, outcome, next, enabled}
use Rattle.runs.specs.Order.{kind, code, numbers, of_kind, in_turn, guide, enabled_codes}
use Rattle.runs.specs.Order as Order
use Rattle.runs.specs.Step.{finished_with, after, fits, step}
use Rattle.runs.specs.Run.{run}
use Rattle.runs.specs.Weight.{weigh, verdict}
use Rattle.meaning.specs.Sizes.{edition_set}
use Rattle.meaning.specs.Card.{part, widened, layout, weights, weight, node_at, specification_at, selection_at, revision_at, nodes, trees, conditions, plan, specification_of, selection_of, revision_of, agent_of, agent_for, agent, initial_plan, start}
use Rattle.meaning.specs.Configurations.{padded, state_of, configuration_of, empty}
use Rattle.meaning.specs.Place.{place_header, place, placed}
use Rattle.meaning.specs.Refusals.{number_of, answer_number, carried, answer_carried, first_given, has_edition, card_long_enough, card_mark_good, counts_good, offsets_good, weights_good, nodes_good, containing, specification_good, selection_good, revision_good, rules_good, actions_good, set_good, sets_good, card_table, card_answer, place_table, place_answer, configuration_good, configuration_table, configuration_answer}
use Rattle.meaning.specs.Why.{settlers, why}
use Rattle.meaning.specs.Looking.{conditions_judged, size, goals_open}
use Rattle.meaning.specs.Calls.{checks, writes, leaves, loads, grades, lists, list_leaves, choice, takes, runs, coming, nexts, saves, save_leaves, restores}

unfoldable pub computing : Unit {0}
unfolding bit ◌∈◌ ◌∪◌ ◌∖◌ ◌⊨◌ σ' γ' can_select selected can_act acted can_revise revised outcome next enabled kind Order.number code numbers of_kind in_turn guide enabled_codes finished_with after fits step run weigh verdict edition_set part widened layout weights weight node_at specification_at selection_at revision_at nodes trees conditions plan specification_of selection_of revision_of agent_of agent_for agent initial_plan start padded state_of configuration_of empty place_header place placed number_of answer_number carried answer_carried first_given has_edition card_long_enough card_mark_good counts_good offsets_good weights_good nodes_good containing specification_good selection_good revision_good rules_good actions_good set_good sets_good card_table card_answer place_table place_answer configuration_good configuration_table configuration_answer settlers why checks loads grades writes leaves conditions_judged size goals_open lists list_leaves choice takes runs coming nexts saves save_leaves restores
computing = tt
