-- "Saved gauge" of paper 01: what makes a gauge value accepted; one that breaks a condition is refused with 14.
-- IAV = |c| and "other flag bits 0" hold by the gauge's form, as do the widths. Definitions only; assumes nothing.
use Rattle.std.specs.Prelude.{Bool, ◌&&◌}
use Rattle.charge.specs.Charge.{charge_accepted}
use Rattle.configuration.specs.Settings.{settings_accepted}
use Rattle.configuration.specs.Terms.{terms_of}
use Rattle.counters.specs.Counters.{counters_accepted}
use Rattle.sample.specs.Sample.{sample_accepted}
use Rattle.standby.specs.Standby.{standby_accepted}
use Rattle.gauge.specs.declared.state.Gauge.{Gauge}

-- what is asked of the settings, of the charge, of SI, of the sample and of the counters
unfoldable pub accepted : Gauge → Bool
accepted g =
    settings_accepted g.settings
    && (charge_accepted g.charge
    && (standby_accepted (terms_of g.settings).s0 g.standby
    && (sample_accepted (terms_of g.settings).dmf g.sample
    && counters_accepted g.counters)))
