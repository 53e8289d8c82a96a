-- The claim is `demand_3` of the laws on lists. Assumes nothing.
use Rattle.history.proofs.ListLaws.{demand_3}
use Rattle.history.proofs.demand_3.Goals as goal

pub returns : goal.returns
returns c = demand_3
