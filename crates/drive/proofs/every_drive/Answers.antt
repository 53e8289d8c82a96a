-- The claim is a law. Assumes nothing.
use Rattle.drive.proofs.DriveLaws.{every_drive}
use Rattle.drive.proofs.every_drive.Goals as goal

pub returns : goal.returns
returns c = every_drive
