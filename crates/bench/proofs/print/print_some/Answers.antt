-- What the filter made at the start of the buffer is written. Assumes nothing.
use Rattle.bench.proofs.WrittenLaws.{appends_is, failed_is, pass_made}
use Rattle.bench.proofs.print.print_some.Goals as goal

pub returns-clause-written : goal.returns-clause-written
returns-clause-written g c =
    failed_is c.write-written.result (appends_is _ _ _ _ (pass_made _ _ _ _ _ c.filter_part-used.ensures)) c.write-written.ensures
