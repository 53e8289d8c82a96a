-- A read that is refused shows its number. Assumes nothing.
use Rattle.bench_window.proofs.ShownLaws.{refusal_shown}
use Rattle.bench_window.proofs.shown.registers_output.Goals as goal

pub returns-in-Err : goal.returns-in-Err
returns-in-Err c = let shown = refusal_shown _ _ c.in-Err.ensures.number in cc
