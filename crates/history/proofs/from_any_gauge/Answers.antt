-- The claim is `from_any_gauge` of the laws on lists. Assumes nothing.
use Rattle.history.proofs.ListLaws.{from_any_gauge}
use Rattle.history.proofs.from_any_gauge.Goals as goal

pub returns : goal.returns
returns c = from_any_gauge
