-- What acceptance gives of the capacities: LMD is above 0. Assumes nothing.
use mathlib.Core.Bool.{true}
use mathlib.Core.Path.{◌≡◌}
use Prim.Native.Nat.{◌<◌}
use Rattle.gauge.specs.Accepted.{accepted}
use Rattle.gauge.specs.declared.state.Gauge.{Gauge}
use Rattle.gauge.proofs.AcceptedLaws.{sound}

pub capacity_learned : (g : Gauge) → accepted g ≡ true → 0 < g.charge.lmd
capacity_learned g a = (sound g a).charge.learned
