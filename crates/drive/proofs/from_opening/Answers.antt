-- The claim is a law. Assumes nothing.
use Rattle.drive.proofs.HistoryLaws.{from_opening}
use Rattle.drive.proofs.from_opening.Goals as goal

pub returns : goal.returns
returns c = from_opening
