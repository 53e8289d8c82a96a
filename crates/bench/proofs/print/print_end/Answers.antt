-- What the filter put at the start of the buffer is written. Assumes nothing.
use native.Mathlib.Omega.{arith}
use Rattle.bench.proofs.WrittenLaws.{appends_is, failed_is, last_put}
use Rattle.bench.proofs.print.print_end.Goals as goal

pub returns : goal.returns
returns g c =
    let f = c.finish-made in
    failed_is c.write.result (appends_is _ _ _ _ (last_put _ _ f.result _ f.ensures.place f.ensures.bytes (omega arith) f.ensures.within.0)) c.write.ensures
