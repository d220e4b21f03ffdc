-- each row of the table in its order
use Rattle.card.specs.Accepted.{Accepted, AcceptedCard}
use Rattle.card.proofs.Rows.{row_passed, row_kept_out}
use Rattle.card.proofs.Checked.{no_header, no_counts, no_offsets, well_laid, no_weights, no_nodes, no_rules, no_pool, no_sets, no_refusal}
use mathlib.Core.Path.{refl}
use Rattle.card.proofs.check.accept.Goals as goal

pub returns-in_err-layout : goal.returns-in_err-layout
returns-in_err-layout c = no_header c.args.bytes.now c.from_residual.result _ c.from_residual.ensures.1 c.in_err-layout.ensures

pub returns-in_err-row : goal.returns-in_err-row
returns-in_err-row c =
    row_kept_out (Accepted c.args.bytes.now) c.from_residual-in_err-row.result _ c.from_residual-in_err-row.ensures.1 _ _ _ c.counts_good.ensures c.in_err-row.ensures
    (no_counts c.args.bytes.now c.in_ok-layout.layout c.in_ok-layout.ensures)

pub returns-in_err-row-2 : goal.returns-in_err-row-2
returns-in_err-row-2 c =
    let counts = row_passed _ _ _ c.counts_good.ensures c.in_ok-row.ensures in
    row_kept_out (Accepted c.args.bytes.now) c.from_residual-in_err-row-2.result _ c.from_residual-in_err-row-2.ensures.1 _ _ _ c.offsets_good.ensures c.in_err-row-2.ensures
    (no_offsets c.args.bytes.now c.in_ok-layout.layout c.in_ok-layout.ensures counts)

pub invariant_of-card : goal.invariant_of-card
invariant_of-card c =
    let counts = row_passed _ _ _ c.counts_good.ensures c.in_ok-row.ensures in
    let offsets = row_passed _ _ _ c.offsets_good.ensures c.in_ok-row-2.ensures in
    record { good = well_laid c.args.bytes.now c.in_ok-layout.layout c.in_ok-layout.ensures counts offsets }

pub returns-in_err-row-3 : goal.returns-in_err-row-3
returns-in_err-row-3 c =
    let counts = row_passed _ _ _ c.counts_good.ensures c.in_ok-row.ensures in
    let offsets = row_passed _ _ _ c.offsets_good.ensures c.in_ok-row-2.ensures in
    row_kept_out (Accepted c.args.bytes.now) c.from_residual-in_err-row-3.result _ c.from_residual-in_err-row-3.ensures.1 _ _ _ c.weights_good.ensures c.in_err-row-3.ensures
    (no_weights c.args.bytes.now c.in_ok-layout.layout c.in_ok-layout.ensures counts offsets)

pub returns-in_err-row-4 : goal.returns-in_err-row-4
returns-in_err-row-4 c =
    let counts = row_passed _ _ _ c.counts_good.ensures c.in_ok-row.ensures in
    let offsets = row_passed _ _ _ c.offsets_good.ensures c.in_ok-row-2.ensures in
    let weights = row_passed _ _ _ c.weights_good.ensures c.in_ok-row-3.ensures in
    row_kept_out (Accepted c.args.bytes.now) c.from_residual-in_err-row-4.result _ c.from_residual-in_err-row-4.ensures.1 _ _ _ c.nodes_good.ensures c.in_err-row-4.ensures
    (no_nodes c.args.bytes.now c.in_ok-layout.layout c.in_ok-layout.ensures counts offsets weights)

pub rules_good-requires : goal.rules_good-requires
rules_good-requires c =
    (row_passed _ _ _ c.nodes_good.ensures c.in_ok-row-4.ensures, c.in_ok-layout.ensures.1.initial)

pub returns-in_err-row-5 : goal.returns-in_err-row-5
returns-in_err-row-5 c =
    let counts = row_passed _ _ _ c.counts_good.ensures c.in_ok-row.ensures in
    let offsets = row_passed _ _ _ c.offsets_good.ensures c.in_ok-row-2.ensures in
    let weights = row_passed _ _ _ c.weights_good.ensures c.in_ok-row-3.ensures in
    let nodes = row_passed _ _ _ c.nodes_good.ensures c.in_ok-row-4.ensures in
    row_kept_out (Accepted c.args.bytes.now) c.from_residual-in_err-row-5.result _ c.from_residual-in_err-row-5.ensures.1 _ _ _ c.rules_good.ensures c.in_err-row-5.ensures
    (no_rules c.args.bytes.now c.in_ok-layout.layout c.in_ok-layout.ensures counts offsets weights nodes)

pub returns-in_err-row-6 : goal.returns-in_err-row-6
returns-in_err-row-6 c =
    let counts = row_passed _ _ _ c.counts_good.ensures c.in_ok-row.ensures in
    let offsets = row_passed _ _ _ c.offsets_good.ensures c.in_ok-row-2.ensures in
    let weights = row_passed _ _ _ c.weights_good.ensures c.in_ok-row-3.ensures in
    let nodes = row_passed _ _ _ c.nodes_good.ensures c.in_ok-row-4.ensures in
    let rules = row_passed _ _ _ c.rules_good.ensures c.in_ok-row-5.ensures in
    row_kept_out (Accepted c.args.bytes.now) c.from_residual-in_err-row-6.result _ c.from_residual-in_err-row-6.ensures.1 _ _ _ c.pool_good.ensures c.in_err-row-6.ensures
    (no_pool c.args.bytes.now c.in_ok-layout.layout c.in_ok-layout.ensures counts offsets weights nodes rules)

pub returns-in_err-row-7 : goal.returns-in_err-row-7
returns-in_err-row-7 c =
    let counts = row_passed _ _ _ c.counts_good.ensures c.in_ok-row.ensures in
    let offsets = row_passed _ _ _ c.offsets_good.ensures c.in_ok-row-2.ensures in
    let weights = row_passed _ _ _ c.weights_good.ensures c.in_ok-row-3.ensures in
    let nodes = row_passed _ _ _ c.nodes_good.ensures c.in_ok-row-4.ensures in
    let rules = row_passed _ _ _ c.rules_good.ensures c.in_ok-row-5.ensures in
    let pool = row_passed _ _ _ c.pool_good.ensures c.in_ok-row-6.ensures in
    row_kept_out (Accepted c.args.bytes.now) c.from_residual-in_err-row-7.result _ c.from_residual-in_err-row-7.ensures.1 _ _ _ c.sets_good.ensures c.in_err-row-7.ensures
    (no_sets c.args.bytes.now c.in_ok-layout.layout c.in_ok-layout.ensures counts offsets weights nodes rules pool)

pub returns : goal.returns
returns c =
    let counts = row_passed _ _ _ c.counts_good.ensures c.in_ok-row.ensures in
    let offsets = row_passed _ _ _ c.offsets_good.ensures c.in_ok-row-2.ensures in
    let weights = row_passed _ _ _ c.weights_good.ensures c.in_ok-row-3.ensures in
    let nodes = row_passed _ _ _ c.nodes_good.ensures c.in_ok-row-4.ensures in
    let rules = row_passed _ _ _ c.rules_good.ensures c.in_ok-row-5.ensures in
    let pool = row_passed _ _ _ c.pool_good.ensures c.in_ok-row-6.ensures in
    let sets = row_passed _ _ _ c.sets_good.ensures c.in_ok-row-7.ensures in
    let r = no_refusal c.args.bytes.now c.in_ok-layout.layout c.in_ok-layout.ensures counts offsets weights nodes rules pool sets in
    let told : AcceptedCard c.args.bytes.now (record { bytes = c.args.bytes; layout = c.in_ok-layout.layout; good = c.card-1.given.0 }) = record { same = refl; checked = r.0; good = r.1 } in told
