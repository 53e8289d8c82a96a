-- Three numbers are a window's, which ran or was refused. Assumes nothing.
use native.Mathlib.Omega.{arith}
use Rattle.bench_window.proofs.AnswerLaws.{ran, was_refused}
use Rattle.bench_window.proofs.answer.answer_line.Goals as goal

pub returns-in-Ok : goal.returns-in-Ok
returns-in-Ok c =
    let s = c.in-Some in
    ran _ s.current s.voltage s.temperature (record { sfits = omega arith }) (record { sfits = omega arith }) (record { sfits = omega arith }) _ s.is _ _ c.in-Ok.ensures c.registers_output.ensures

pub returns-in-Err : goal.returns-in-Err
returns-in-Err c =
    let s = c.in-Some in
    let answered =
    was_refused _ s.current s.voltage s.temperature (record { sfits = omega arith }) (record { sfits = omega arith }) (record { sfits = omega arith }) _ s.is _ c.in-Err.ensures in
    cc
