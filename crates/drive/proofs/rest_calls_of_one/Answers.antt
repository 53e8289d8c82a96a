-- The claim is `rest_calls_of_one` of the laws on rests. Assumes nothing.
use Rattle.drive.proofs.RestsLaws.{rest_calls_of_one}
use Rattle.drive.proofs.rest_calls_of_one.Goals as goal

pub returns : goal.returns
returns c = rest_calls_of_one
