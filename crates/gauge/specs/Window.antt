-- "A window" of paper 01: its five steps, from one gauge to the next. What it reaches is decided from the charge. Definitions only; assumes nothing.
use Rattle.std.specs.Prelude.{ℕ, ℤ}
use Rattle.configuration.specs.Terms.{terms_of}
use Rattle.counters.specs.Counters.{counters_moved}
use Rattle.flags.specs.Flags.{cleared_if}
use Rattle.host.specs.Host.{full_if}
use Rattle.reached.specs.ChargeAfter.{charge_after, reached_in}
use Rattle.reached.specs.Reached.{flags_ended}
use Rattle.sample.specs.Current.{discharge_current}
use Rattle.standby.specs.Standby.{averaged}
use Rattle.sample.specs.Range.{current, temperature, voltage}
use Rattle.sample.specs.declared.current.Current.{Current}
use Rattle.sample.specs.declared.sample.Sample.{Sample}
use Rattle.gauge.specs.declared.state.Gauge.{Gauge}

-- the numbers of a window as handed in
abbrev pub measured : ℤ → ℤ → ℤ → Sample
measured a v t = record { current = current a; voltage = voltage v; temperature = temperature t }

unfoldable pub window : Current → ℕ → ℕ → Gauge → Gauge
window c v t g =
    record {
      settings = g.settings;
      -- Steps 1 to 4
      charge = charge_after (terms_of g.settings) c v t g.charge;
      -- Step 1: "VOLT = v, TEMP = t, IAV (the sheet's average current) = |c|, CHGS set if c > 0, else clear"
      sample = record { current = c; voltage = v; temperature = t };
      -- Step 5
      standby = averaged (terms_of g.settings).s0 g.standby (discharge_current c);
      -- Steps 2 and 4
      flags = flags_ended (reached_in (terms_of g.settings) c v t g.charge).ending (cleared_if c.charging g.flags);
      -- Step 3
      host = full_if (reached_in (terms_of g.settings) c v t g.charge).full g.host;
      -- "since the last window with c not 0" (A4 of paper 02); cycles by "LMD being that before the window" (A5)
      counters = counters_moved g.charge.lmd c g.counters;
    }
