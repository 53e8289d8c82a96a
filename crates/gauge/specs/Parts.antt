-- A gauge by its parts. Definitions only; assumes nothing.
use Rattle.std.specs.Prelude.{ℕ}
use Rattle.charge.specs.declared.charge.Charge.{Charge}
use Rattle.configuration.specs.declared.settings.Settings.{Settings}
use Rattle.counters.specs.declared.counters.Counters.{Counters}
use Rattle.flags.specs.declared.flags.Flags.{Flags}
use Rattle.host.specs.declared.host.Host.{Host}
use Rattle.sample.specs.declared.sample.Sample.{Sample}
use Rattle.gauge.specs.declared.state.Gauge.{Gauge}

abbrev pub gauge_of : Settings → Charge → Sample → ℕ → Flags → Host → Counters → Gauge
gauge_of settings charge sample standby flags host counters =
    record {
      settings = settings;
      charge = charge;
      sample = sample;
      standby = standby;
      flags = flags;
      host = host;
      counters = counters;
    }
