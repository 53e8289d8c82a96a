-- The claim is a law. Assumes nothing.
use Rattle.drive.proofs.HistoryLaws.{from_saved}
use Rattle.drive.proofs.from_saved.Goals as goal

pub returns : goal.returns
returns c = from_saved
