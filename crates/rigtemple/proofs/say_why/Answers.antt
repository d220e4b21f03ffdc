use Rattle.rigtemple.proofs.say_why.Goals as goal

pub say_next-requires : goal.say_next-requires
say_next-requires c =
    let a = c.args in
    record { beliefs = a.beliefs.now; goals = a.goals.now; judged = record { ready = c.in-Ok.ensures.ready; marked = c.judge_nodes.ensures.0 } }
