-- The claim is `shows` of the laws on what a preview shows. Assumes nothing.
use Rattle.preview.proofs.ShowsLaws.{shows}
use Rattle.preview.proofs.claim.shows.Goals as goal

pub returns : goal.returns
returns c = shows
