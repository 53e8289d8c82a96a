-- The claim is a law. Assumes nothing.
use Rattle.drive.proofs.UpdateLaws.{from_update}
use Rattle.drive.proofs.from_update.Goals as goal

pub returns : goal.returns
returns c = from_update
