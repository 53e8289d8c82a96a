-- The claim is `rests_of_one` of the laws on rests. Assumes nothing.
use Rattle.history.proofs.RestsLaws.{rests_of_one}
use Rattle.history.proofs.rests_of_one.Goals as goal

pub returns : goal.returns
returns c = rests_of_one
