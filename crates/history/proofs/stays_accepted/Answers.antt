-- The claim is `stays_accepted` of the laws on what stays accepted. Assumes nothing.
use Rattle.history.proofs.StayLaws.{stays_accepted}
use Rattle.history.proofs.stays_accepted.Goals as goal

pub returns : goal.returns
returns c = stays_accepted
