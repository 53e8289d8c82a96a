-- The sum, what it reaches, and each part moved by that. Assumes nothing.
use Rattle.std.proofs.Common.{rules}
use Rattle.gauge.specs.Window.{window}
use Rattle.reached.specs.ChargeAfter.{charge_after, reached_in}
use Rattle.reached.specs.Reached.{charge_reached, reached_by}
use Rattle.gauge.proofs.state.Gauge.stepped.Goals as goal

pub returns : goal.returns
unfolding window charge_after reached_in reached_by charge_reached
returns c = search rules
