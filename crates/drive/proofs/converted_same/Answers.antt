-- The claim is a law. Assumes nothing.
use Rattle.drive.proofs.UpdateLaws.{converted_same}
use Rattle.drive.proofs.converted_same.Goals as goal

pub returns : goal.returns
returns c = converted_same
