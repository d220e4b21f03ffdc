use Rattle.door.proofs.Written.{handed_written}
use Rattle.printer.specs.Answers.{NodePrinted}
use Rattle.printer.proofs.Answers.{judged_refused, few_nodes, shallow, whole_length, room_answer, room_fits, refused_leaves, done_leaves}
use mathlib.Core.Path.{◌∙◌}
use Rattle.printer.proofs.print.print_node.Goals as goal

pub returns-in_err-judge_measures : goal.returns-in_err-judge_measures
returns-in_err-judge_measures c =
    let a = c.args in
    let m = c.measure-m in
    handed_written (λ w. NodePrinted a.card.now.layout a.card.now.bytes.now a.node a.out.now w.answer w.count a.out.now) _ _ c.from_residual.ensures.1
    (refused_leaves a.card.now.layout a.card.now.bytes.now a.node a.out.now _ (judged_refused a.card.now.layout a.card.now.bytes.now a.node a.out.now _ _ _ m.ensures _ c.in_err-judge_measures.ensures))

pub returns-in_err-judge_room : goal.returns-in_err-judge_room
returns-in_err-judge_room c =
    let a = c.args in
    let p = c.requires in
    let m = c.measure-m in
    let d = c.in_ok-judge_measures.ensures in
    handed_written (λ w. NodePrinted a.card.now.layout a.card.now.bytes.now a.node a.out.now w.answer w.count a.out.now) _ _ c.from_residual-in_err-judge_room.ensures.1
    (refused_leaves a.card.now.layout a.card.now.bytes.now a.node a.out.now _ (c.in_err-judge_room.ensures ∙ room_answer a.card.now.layout a.card.now.bytes.now a.node a.out.now _ _ _ m.ensures p.0 p.1 d))

pub write_text-requires : goal.write_text-requires
write_text-requires c =
    let a = c.args in
    let p = c.requires in
    let m = c.measure-m in
    let d = c.in_ok-judge_measures.ensures in record {
      good_card = p;
      node_bound = (few_nodes a.card.now.layout a.card.now.bytes.now a.node a.out.now _ _ _ m.ensures p.0 p.1 d, shallow a.card.now.layout a.card.now.bytes.now a.node a.out.now _ _ _ m.ensures p.0 p.1 d);
      node_in_bounds = room_fits a.card.now.layout a.card.now.bytes.now a.node a.out.now _ _ _ m.ensures p.0 p.1 d c.in_ok-judge_room.ensures;
    }

pub returns : goal.returns
returns c =
    let a = c.args in
    let p = c.requires in
    let m = c.measure-m in
    let d = c.in_ok-judge_measures.ensures in
    done_leaves a.card.now.layout a.card.now.bytes.now a.node a.out.now (c.in_ok-judge_room.ensures ∙ room_answer a.card.now.layout a.card.now.bytes.now a.node a.out.now _ _ _ m.ensures p.0 p.1 d) _ _
    (whole_length a.card.now.layout a.card.now.bytes.now a.node a.out.now _ _ _ m.ensures p.0 p.1 d) c.write_text.ensures
