use native.Mathlib.Omega.{arith}
use Rattle.print_text.proofs.show.Goals as goal

pub write_lines-requires : goal.write_lines-requires
write_lines-requires c =
    let good = c.in-Ok.ensures.good in
    let inside = good.initial.inside in
    let pool = good.layout.pool in
    record { start = omega (arith, inside, pool); length = omega (arith, inside, pool) }
