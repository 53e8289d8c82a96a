-- The claim is a law. Assumes nothing.
use Rattle.drive.proofs.UpdateLaws.{converted}
use Rattle.drive.proofs.converted.Goals as goal

pub returns : goal.returns
returns c = converted
