-- The claim is a law. Assumes nothing.
use Rattle.drive.proofs.OlderFormsLaws.{newest_reads}
use Rattle.drive.proofs.newest_reads.Goals as goal

pub returns : goal.returns
returns c = newest_reads
