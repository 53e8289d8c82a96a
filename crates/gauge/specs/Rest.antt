-- "A rest of n windows" of paper 01. Definitions only; assumes nothing.
use Rattle.std.specs.Prelude.{ℕ}
use Rattle.charge.specs.Rest.{rested}
use Rattle.configuration.specs.Terms.{terms_of}
use Rattle.counters.specs.Counters.{counters_rested}
use Rattle.grains.specs.Leak.{leak_rate}
use Rattle.sample.specs.Sample.{sample_rested}
use Rattle.gauge.specs.declared.state.Gauge.{Gauge}

-- "TEMP = t, c and IAV 0, CHGS cleared, h loses the leak .. VOLT and all else stay"; its windows are counted
-- (A4 of paper 02)
unfoldable pub rest : ℕ → ℕ → Gauge → Gauge
rest n t g =
    record {
      settings = g.settings;
      charge = rested n (leak_rate (terms_of g.settings).sd t) g.charge;
      sample = sample_rested t g.sample;
      standby = g.standby;
      flags = g.flags;
      host = g.host;
      counters = counters_rested n g.counters;
    }
