use mathlib.Core.Path.{subst}
use Rattle.notation.proofs.Texts.{Scanned}
use Rattle.notation.specs.Reading.{no_text}
use Rattle.scan.specs.Scans.{found}
use Rattle.door.specs.InPlace.{written_by}
use Rattle.reader.proofs.Laws.{reads_text, scan_tells}
use Rattle.reader.proofs.read.read_any.Goals as goal

pub returns-in-Err : goal.returns-in-Err
returns-in-Err c =
    let v = c.scan_text in
    let a = c.args in
    let t = a.text.now in
    no_text (subst (λ x. Scanned t (found x)) c.in-Err.is (scan_tells t v.result v.ensures))

pub returns-in-Ok : goal.returns-in-Ok
returns-in-Ok c =
    let w = c.read_text in
    let v = c.scan_text in
    let a = c.args in
    let t = a.text.now in
    let derived = subst (λ x. Scanned t (found x)) c.in-Ok.is (scan_tells t v.result v.ensures) in
    reads_text t a.out.now (written_by w.result) w.new.out derived w.ensures
