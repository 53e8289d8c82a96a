-- A gauge that calls take, by its parts and from them: what acceptance asks bounds the widths of SI and of the sample. Assumes nothing.
use Prim.Native.Nat.{◌*◌}
use native.Mathlib.Omega.{arith}
use borrow.Author.Tests.{leb-true}
use Rattle.charge.specs.Fits.{ChargeFits}
use Rattle.charge.proofs.ChargeKept.{ChargeTaken}
use Rattle.configuration.specs.Configuration.{dmf, s0}
use Rattle.configuration.specs.Fits.{SettingsFit}
use Rattle.counters.specs.Fits.{CountersFit}
use Rattle.host.specs.Fits.{HostFits}
use Rattle.sample.specs.Limits.{least_temperature, least_voltage, most_temperature, most_voltage}
use Rattle.sample.proofs.SampleKept.{current_fits, value_fits}
use Rattle.standby.specs.Standby.{standby_accepted}
use Rattle.gauge.specs.Fits.{Taken}
use Rattle.gauge.specs.declared.state.Gauge.{Gauge}
use Rattle.gauge.proofs.AcceptedLaws.{Sound, sound, sound_accepted}

module _ (g : Gauge) where
  pub taken_charge : Taken g → ChargeTaken g.charge
  taken_charge k = record { fits = k.fits.charge; sound = (sound g k.accepted).charge }

  pub gauge_taken : Sound g → SettingsFit g.settings → ChargeFits g.charge → HostFits g.host → CountersFit g.counters → Taken g
  unfolding standby_accepted
  gauge_taken s settings charge host counters =
      let i = settings.bytes 3 in
      let n = leb-true g.standby (32 * s0 g.settings) s.standby in
      record {
        fits = record {
          settings = settings;
          charge = charge;
          sample = record {
            magnitude = current_fits (dmf g.settings) g.sample.current s.sample.current;
            voltage = value_fits least_voltage most_voltage g.sample.voltage (omega arith) s.sample.voltage;
            temperature = value_fits least_temperature most_temperature g.sample.temperature (omega arith) s.sample.temperature;
          };
          standby = omega arith;
          host = host;
          counters = counters;
        };
        accepted = sound_accepted g s;
      }
