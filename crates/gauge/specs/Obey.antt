-- "Opening and host bytes" of paper 01: what a command makes of each part of the gauge. Definitions only; assumes nothing.
use Rattle.charge.specs.Obeyed.{charge_obeyed}
use Rattle.command.specs.declared.command.Command.{Command}
use Rattle.command.specs.Command.{Decision}
use Rattle.std.specs.Prelude.{Ok, Err}
use Rattle.configuration.specs.Terms.{terms_of}
use Rattle.counters.specs.Counters.{counters_obeyed}
use Rattle.flags.specs.Flags.{flags_obeyed}
use Rattle.host.specs.Host.{host_obeyed}
use Rattle.sample.specs.Sample.{sample_obeyed}
use Rattle.standby.specs.Standby.{standby_obeyed}
use Rattle.gauge.specs.declared.state.Gauge.{Gauge}

unfoldable pub obeyed : Command → Gauge → Gauge
obeyed command g =
    record {
      settings = g.settings;
      charge = charge_obeyed command (terms_of g.settings) g.host.ar g.charge;
      sample = sample_obeyed command g.sample;
      standby = standby_obeyed command (terms_of g.settings).s0 g.standby;
      flags = flags_obeyed command g.flags;
      host = host_obeyed command (terms_of g.settings) g.host;
      counters = counters_obeyed command g.counters;
    }

-- a refused key leaves the gauge
unfoldable pub decided : Decision → Gauge → Gauge
decided (Ok command) g = obeyed command g
decided (Err refusal) g = g
