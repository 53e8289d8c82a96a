-- The widths of a gauge value's fields, which are those of its saved fields: what every value of the type `Gauge` has in the code; and the gauge
-- values that calls take. Definitions only; assumes nothing.
use Rattle.std.specs.Prelude.{true, ◌≡◌, ◌<◌, ◌^◌}
use Rattle.charge.specs.Fits.{ChargeFits}
use Rattle.configuration.specs.Fits.{SettingsFit}
use Rattle.counters.specs.Fits.{CountersFit}
use Rattle.host.specs.Fits.{HostFits}
use Rattle.sample.specs.Fits.{SampleFits}
use Rattle.gauge.specs.Accepted.{accepted}
use Rattle.gauge.specs.declared.state.Gauge.{Gauge}

pub record Fits (g : Gauge) : Type 0 where
  pub settings : SettingsFit g.settings
  pub charge : ChargeFits g.charge
  pub sample : SampleFits g.sample
  -- "SI, .. 2 each"
  pub standby : g.standby < 256 ^ 2
  pub host : HostFits g.host
  pub counters : CountersFit g.counters

-- a gauge value of these widths which 14 does not refuse
pub record Taken (g : Gauge) : Type 0 where
  pub fits : Fits g
  pub accepted : accepted g ≡ true
