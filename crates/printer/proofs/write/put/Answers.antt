use Rattle.printer.proofs.Stacks.{put_one, put_two, put_three}
use Rattle.printer.proofs.write.put.Goals as goal

pub returns-in-One-clause-result_after : goal.returns-in-One-clause-result_after
returns-in-One-clause-result_after c = let a = c.args in let p = c.requires in (put_one a.stack.now a.top a.p p.0 p.1 _ c.in-One.is).1

pub returns-in-Two-clause-result_after : goal.returns-in-Two-clause-result_after
returns-in-Two-clause-result_after c = let a = c.args in let p = c.requires in (put_two a.stack.now a.top a.p p.0 p.1 _ _ c.in-Two.is).1

pub returns-in-Three-clause-result_after : goal.returns-in-Three-clause-result_after
returns-in-Three-clause-result_after c = let a = c.args in let p = c.requires in (put_three a.stack.now a.top a.p p.0 p.1 _ _ _ c.in-Three.is).1
