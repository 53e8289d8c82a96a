-- The claim is a law. Assumes nothing.
use Rattle.drive.proofs.OlderFormsLaws.{form_2_reads}
use Rattle.drive.proofs.form_2_reads.Goals as goal

pub returns : goal.returns
returns c = form_2_reads
