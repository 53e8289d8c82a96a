-- The claim is a law. Assumes nothing.
use Rattle.drive.proofs.OlderFormsLaws.{form_1_reads}
use Rattle.drive.proofs.form_1_reads.Goals as goal

pub returns : goal.returns
returns c = form_1_reads
