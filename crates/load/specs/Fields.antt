-- Each saved field and the gauge: the value that a gauge has in it, and the gauge of given values. A form has a field by its name, so that a field is
-- told here, once. Definitions only; assumes nothing.
use Rattle.std.specs.Prelude.{List, ℕ}
use Rattle.charge.specs.declared.charge.Charge.{Charge}
use Rattle.configuration.specs.Settings.{opened_settings}
use Rattle.counters.specs.declared.counters.Counters.{Counters}
use Rattle.flags.specs.Byte.{flags_byte, flags_of, vdq_of}
use Rattle.form.specs.Form.{Ar, Configuration, Current, CycleDrain, Cyct, Dcr, Flags, FormNumber, Held, Lmd, Mode, Rests, Standby, Temperature, Voltage}
use Rattle.form.specs.Form.{Bytes, Number, newest}
use Rattle.form.specs.Signed.{current_of, signed_pair}
use Rattle.gauge.specs.declared.state.Gauge.{Gauge}
use Rattle.host.specs.declared.host.Host.{Host}
use Rattle.sample.specs.declared.sample.Sample.{Sample}

-- ---- the values of a gauge

-- FLAGS of a gauge: CHGS is the direction of c, VDQ belongs to the run
abbrev pub flags_of_gauge : Gauge → ℕ
flags_of_gauge g = flags_byte g.sample.current.charging g.charge.run.vdq g.flags

-- "saving writes the newest form"
unfoldable pub number_in : Gauge → Number → ℕ
number_in g FormNumber = newest.number
number_in g Held = g.charge.held
number_in g Dcr = g.charge.run.dcr
number_in g Lmd = g.charge.lmd
number_in g Standby = g.standby
number_in g Current = signed_pair g.sample.current
number_in g Voltage = g.sample.voltage
number_in g Temperature = g.sample.temperature
number_in g Ar = g.host.ar
number_in g Mode = g.host.mode
number_in g Flags = flags_of_gauge g
number_in g Rests = g.counters.rests
number_in g Cyct = g.counters.cycles.cyct
number_in g CycleDrain = g.counters.cycles.drain

unfoldable pub bytes_in : Gauge → Bytes → List ℕ
bytes_in g Configuration = g.settings.bytes

-- ---- the gauge of given values, part by part

unfoldable pub charge_from : (Number → ℕ) → Charge
charge_from number =
    record { held = number Held; lmd = number Lmd; run = record { vdq = vdq_of (number Flags); dcr = number Dcr } }

unfoldable pub sample_from : (Number → ℕ) → Sample
sample_from number = record { current = current_of (number Current); voltage = number Voltage; temperature = number Temperature }

unfoldable pub host_from : (Number → ℕ) → Host
host_from number = record { mode = number Mode; ar = number Ar }

unfoldable pub counters_from : (Number → ℕ) → Counters
counters_from number = record { rests = number Rests; cycles = record { cyct = number Cyct; drain = number CycleDrain } }

unfoldable pub gauge_from : (Number → ℕ) → (Bytes → List ℕ) → Gauge
gauge_from number bytes =
    record {
      settings = opened_settings (bytes Configuration);
      charge = charge_from number;
      sample = sample_from number;
      standby = number Standby;
      flags = flags_of (number Flags);
      host = host_from number;
      counters = counters_from number;
    }
